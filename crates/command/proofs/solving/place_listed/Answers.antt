use mathlib.Core.Path.{sym}
use native.Mathlib.Omega.{arith}
use lib.Seq.{length-take-le}
use borrow.Author.Rules.{rules}
use Rattle.command.proofs.solving.place_listed.Goals as goal

pub slice_bounds-place-end : goal.slice_bounds-place-end
slice_bounds-place-end c = rw c.shape-s.ensures (sym (length-take-le _ _ (omega (arith, c.requires.content_sound.small))))

pub slice_bounds-place-end-3 : goal.slice_bounds-place-end-3
slice_bounds-place-end-3 c = rw c.shape-s.ensures (sym (length-take-le _ _ (omega (arith, c.requires.content_sound.small))))

pub slice_bounds-place-end-4 : goal.slice_bounds-place-end-4
slice_bounds-place-end-4 c = rw c.shape-s.ensures (sym (length-take-le _ _ (omega (arith, c.requires.content_sound.small))))

pub place-requires : goal.place-requires
place-requires c = record {
  buffers_sized = record {
    marks = rw c.shape-s.ensures (length-take-le _ _ (omega (arith, c.requires.content_sound.small)));
    work = search rules;
    cameras = rw c.shape-s.ensures (length-take-le _ _ (omega (arith, c.requires.content_sound.small)));
    points = rw c.shape-s.ensures (length-take-le _ _ (omega (arith, c.requires.content_sound.small)));
  };
  content_sound = search rules;
  listed = search rules;
}
