use Rattle.network.proofs.Verdicts.{halts-in, handed-out, passes-in, last, test-at-is}
use Rattle.network.specs.Refusals.{graph_row_tests, weight_tests}
use Rattle.network.proofs.check_graph_rows.Goals as goal

pub returns-in_err-check_ends : goal.returns-in_err-check_ends
unfolding graph_row_tests
returns-in_err-check_ends c = handed-out c.from_residual.ensures.1 (search (halts-in, c.in_err-check_ends.was))

pub returns : goal.returns
unfolding graph_row_tests weight_tests
returns c =
    let bad = rw c.requires.ends_len.1 at c.find_bad_weight.ensures in
    search (passes-in, last, test-at-is, c.in_ok-check_ends.was)
