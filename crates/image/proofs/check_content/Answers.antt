use Rattle.network.proofs.Verdicts.{halts-in, handed-out, passes-in}
use Rattle.network.proofs.Sound.{counted}
use Rattle.image.proofs.Passing.{lengths-is}
use Rattle.image.proofs.check_content.Goals as goal

pub returns-in_err-check_counts : goal.returns-in_err-check_counts
returns-in_err-check_counts c =
    let n = rw c.shape-s.ensures at c.check_counts.ensures in
    handed-out c.from_residual.ensures.1 (search (halts-in, c.in_err-check_counts.was))

pub content_fits-requires : goal.content_fits-requires
content_fits-requires c = let n = rw c.shape-s.ensures at c.check_counts.ensures in search (counted, c.in_ok-check_counts.was)

pub returns-in_err-check_lengths : goal.returns-in_err-check_lengths
returns-in_err-check_lengths c =
    let n = rw c.shape-s.ensures at c.check_counts.ensures in
    handed-out c.from_residual-in_err-check_lengths.ensures.1 (search (passes-in, halts-in, lengths-is, c.in_ok-check_counts.was, c.in_err-check_lengths.was))

pub new-requires : goal.new-requires
new-requires c = rw c.shape-s.ensures c.requires

pub returns : goal.returns
returns c =
    let n = rw c.shape-s.ensures at c.check_counts.ensures in
    let i = rw (c.new.ensures, c.shape-s.ensures) at c.check_rows.ensures in
    search (passes-in, lengths-is, c.in_ok-check_counts.was, c.in_ok-check_lengths.was)
