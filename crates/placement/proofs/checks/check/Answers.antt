use Rattle.network.proofs.Verdicts.{halts-in, handed-out, passes-in}
use Rattle.placement.proofs.Placing.{lengths-measured, submission-checked}
use Rattle.network.proofs.Sound.{counted, kept-by-counts, kept-by-lengths, left-by-rows}
use Rattle.placement.specs.Routes.{submission_tests}
use Rattle.placement.proofs.checks.check.Goals as goal

pub returns-in_err-check_counts : goal.returns-in_err-check_counts
unfolding submission_tests
returns-in_err-check_counts c =
    let k = rw c.shape.ensures at c.check_counts.ensures in
    record {
      value = handed-out c.from_residual.ensures.1 (search (halts-in, c.in_err-check_counts.was));
      marks_after = search (kept-by-counts, c.in_err-check_counts.was);
    }

pub check_all_lengths-requires : goal.check_all_lengths-requires
check_all_lengths-requires c = let k = rw c.shape.ensures at c.check_counts.ensures in search (counted, c.in_ok-check_counts.was)

pub returns-in_err-check_all_lengths : goal.returns-in_err-check_all_lengths
unfolding submission_tests
returns-in_err-check_all_lengths c =
    let k = rw c.shape.ensures at c.check_counts.ensures in
    record {
      value = handed-out c.from_residual-in_err-check_all_lengths.ensures.1 (search (passes-in, halts-in, c.in_ok-check_counts.was, c.in_err-check_all_lengths.was));
      marks_after = search (kept-by-lengths, c.in_ok-check_counts.was, c.in_err-check_all_lengths.was);
    }

pub check_rows-requires : goal.check_rows-requires
check_rows-requires c =
    let k = rw c.shape.ensures at c.check_counts.ensures in
    let L = lengths-measured _ _ _ _ _ _ _ _ c.check_all_lengths.ensures c.in_ok-check_all_lengths.was in
    record { shape_sound = search (counted, c.in_ok-check_counts.was); network_lengths = L.0; marks_len = L.1 }

pub returns : goal.returns
unfolding submission_tests
returns c =
    let k = rw c.shape.ensures at c.check_counts.ensures in
    record {
      value = search (submission-checked, c.in_ok-check_counts.was, c.in_ok-check_all_lengths.was, c.check_rows.ensures.value);
      marks_after = search (left-by-rows, c.in_ok-check_counts.was, c.in_ok-check_all_lengths.was, c.check_rows.ensures.marks_after);
    }
