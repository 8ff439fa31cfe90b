use Rattle.network.proofs.Verdicts.{halts-in, handed-out, passes-in}
use Rattle.network.proofs.Sound.{counted, measured, content-fits}
use Rattle.image.proofs.Passing.{lengths-is}
use Rattle.image.specs.Tests.{write_tests}
use Rattle.image.proofs.writing.check_write.Goals as goal

pub returns-in_err-check_counts : goal.returns-in_err-check_counts
unfolding write_tests
returns-in_err-check_counts c =
    let n = rw c.shape.ensures at c.check_counts.ensures in
    handed-out c.from_residual.ensures.1 (search (halts-in, c.in_err-check_counts.was))

pub content_fits-requires : goal.content_fits-requires
unfolding write_tests
content_fits-requires c = let n = rw c.shape.ensures at c.check_counts.ensures in search (counted, c.in_ok-check_counts.was)

pub returns-in_err-check_lengths : goal.returns-in_err-check_lengths
unfolding write_tests
returns-in_err-check_lengths c =
    let n = rw c.shape.ensures at c.check_counts.ensures in
    handed-out c.from_residual-in_err-check_lengths.ensures.1 (search (passes-in, halts-in, lengths-is, c.in_ok-check_counts.was, c.in_err-check_lengths.was))

pub check_rows_and_room-requires : goal.check_rows_and_room-requires
unfolding write_tests
check_rows_and_room-requires c =
    let n = rw c.shape.ensures at c.check_counts.ensures in
    record {
      shape_sound = search (counted, c.in_ok-check_counts.was);
      content_lengths = search (content-fits, measured, c.in_ok-check_lengths.was);
    }

pub returns : goal.returns
unfolding write_tests
returns c =
    let n = rw c.shape.ensures at c.check_counts.ensures in
    search (passes-in, lengths-is, c.in_ok-check_counts.was, c.in_ok-check_lengths.was)
