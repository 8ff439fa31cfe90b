use mathlib.Core.Path.{sym, ◌∙◌}
use Rattle.recover.specs.Calls.{placed_tests}
use Rattle.network.proofs.Verdicts.{halts-in, handed-out, passes-in}
use Rattle.network.proofs.Sound.{counted, kept-by-counts, kept-by-lengths, left-by-rows}
use Rattle.recover.proofs.Entries.{lengths-measured, placed-checked, sites-sound, turned-away, let-in}
use Rattle.recover.proofs.entry.enter.Goals as goal

pub returns-in_err-check_counts : goal.returns-in_err-check_counts
unfolding placed_tests
returns-in_err-check_counts c =
    let k = rw c.shape.ensures at c.check_counts.ensures in
    record {
      value = handed-out c.from_residual.ensures.1 (turned-away _ (search (halts-in, c.in_err-check_counts.was)));
      marks_after = search (kept-by-counts, c.in_err-check_counts.was);
    }

pub check_all_lengths-requires : goal.check_all_lengths-requires
check_all_lengths-requires c = let k = rw c.shape.ensures at c.check_counts.ensures in search (counted, c.in_ok-check_counts.was)

pub returns-in_err-check_all_lengths : goal.returns-in_err-check_all_lengths
unfolding placed_tests
returns-in_err-check_all_lengths c =
    let k = rw c.shape.ensures at c.check_counts.ensures in
    record {
      value = handed-out c.from_residual-in_err-check_all_lengths.ensures.1 (turned-away _ (search (passes-in, halts-in, c.in_ok-check_counts.was, c.in_err-check_all_lengths.was)));
      marks_after = search (kept-by-lengths, c.in_ok-check_counts.was, c.in_err-check_all_lengths.was);
    }

pub check_placed_rows-requires : goal.check_placed_rows-requires
unfolding placed_tests
check_placed_rows-requires c =
    let k = rw c.shape.ensures at c.check_counts.ensures in
    let p = lengths-measured _ _ _ _ _ _ _ _ c.check_all_lengths.ensures c.in_ok-check_all_lengths.was c.marked_buffer-cameras.ensures in
    record { shape_sound = search (counted, c.in_ok-check_counts.was); network_lengths = p.0; marks_len = p.1 }

pub returns-in_err-check_placed_rows : goal.returns-in_err-check_placed_rows
unfolding placed_tests
returns-in_err-check_placed_rows c =
    let k = rw c.shape.ensures at c.check_counts.ensures in
    record {
      value = handed-out c.from_residual-in_err-check_placed_rows.ensures.1 (turned-away _ (sym c.in_err-check_placed_rows.was ∙ search (placed-checked, c.in_ok-check_counts.was, c.in_ok-check_all_lengths.was, c.check_placed_rows.ensures.value)));
      marks_after = search (left-by-rows, c.in_ok-check_counts.was, c.in_ok-check_all_lengths.was, c.check_placed_rows.ensures.marks_after);
    }

pub new-requires : goal.new-requires
new-requires c =
    let k = rw c.shape.ensures at c.check_counts.ensures in
    let v = placed-checked _ _ _ _ _ _ _ _ _ _ k c.in_ok-check_counts.was c.check_all_lengths.ensures c.in_ok-check_all_lengths.was c.marked_buffer-cameras.ensures c.check_placed_rows.ensures.value in
    rw c.marked_buffer-cameras.ensures (sites-sound _ (sym v ∙ c.in_ok-check_placed_rows.was)).0

pub returns : goal.returns
unfolding placed_tests
returns c =
    let k = rw c.shape.ensures at c.check_counts.ensures in
    record {
      value = let-in _ (sym (search (placed-checked, c.in_ok-check_counts.was, c.in_ok-check_all_lengths.was, c.check_placed_rows.ensures.value)) ∙ c.in_ok-check_placed_rows.was) (c.new.ensures ∙ rw c.marked_buffer-cameras.ensures);
      marks_after = search (left-by-rows, c.in_ok-check_counts.was, c.in_ok-check_all_lengths.was, c.check_placed_rows.ensures.marks_after);
    }
