use mathlib.Core.Path.{sym}
use native.Mathlib.Omega.{arith}
use lib.Seq.{length-take-le}
use borrow.Author.Rules.{rules}
use Rattle.command.proofs.reading.run_small.Goals as goal

pub slice_bounds-run_sized-end : goal.slice_bounds-run_sized-end
slice_bounds-run_sized-end c = sym (length-take-le _ _ (omega (arith, c.requires.small)))

pub slice_bounds-run_sized-end-2 : goal.slice_bounds-run_sized-end-2
slice_bounds-run_sized-end-2 c = sym (length-take-le _ _ (omega (arith, c.requires.small)))

pub slice_bounds-run_sized-end-3 : goal.slice_bounds-run_sized-end-3
slice_bounds-run_sized-end-3 c = sym (length-take-le _ _ (omega (arith, c.requires.small)))

pub slice_bounds-run_sized-end-4 : goal.slice_bounds-run_sized-end-4
slice_bounds-run_sized-end-4 c = sym (length-take-le _ _ (omega (arith, c.requires.small)))

pub slice_bounds-run_sized-end-5 : goal.slice_bounds-run_sized-end-5
slice_bounds-run_sized-end-5 c = sym (length-take-le _ _ (omega (arith, c.requires.small)))

pub run_sized-requires : goal.run_sized-requires
run_sized-requires c =
    record {
      counts_taken = search rules;
      content_lengths = record {
        ends = length-take-le _ _ (omega (arith, c.requires.small));
        domain = record {
          rays = length-take-le _ _ (omega (arith, c.requires.small));
          weights = length-take-le _ _ (omega (arith, c.requires.small));
          scales = length-take-le _ _ (omega (arith, c.requires.small));
          positions = length-take-le _ _ (omega (arith, c.requires.small));
        };
      };
    }
