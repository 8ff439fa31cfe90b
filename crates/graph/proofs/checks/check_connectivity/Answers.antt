use Rattle.network.proofs.Verdicts.{halts-in, handed-out, passes-in}
use Rattle.network.proofs.Sound.{counted}
use Rattle.graph.specs.Outcome.{connectivity_tests}
use Rattle.graph.proofs.Outcomes.{lengths-tested, connectivity-measured}
use Rattle.graph.proofs.checks.check_connectivity.Goals as goal

pub returns-in_err-check_counts : goal.returns-in_err-check_counts
unfolding connectivity_tests
returns-in_err-check_counts c = handed-out c.from_residual.ensures.1 (search (halts-in, c.in_err-check_counts.was))

pub connectivity_fits-requires : goal.connectivity_fits-requires
unfolding connectivity_tests
connectivity_fits-requires c = search (counted, c.in_ok-check_counts.was)

pub returns-in_err-check_lengths : goal.returns-in_err-check_lengths
unfolding connectivity_tests
returns-in_err-check_lengths c =
    handed-out c.from_residual-in_err-check_lengths.ensures.1 (search (passes-in, halts-in, lengths-tested, c.in_ok-check_counts.was, c.in_err-check_lengths.was))

pub check_graph_rows-requires : goal.check_graph_rows-requires
unfolding connectivity_tests
check_graph_rows-requires c =
    let p = connectivity-measured _ _ _ _ c.connectivity_fits.ensures c.check_lengths.ensures c.in_ok-check_lengths.was c.check_counts.ensures c.in_ok-check_counts.was in
    record { shape_sound = p.0; ends_len = p.1 }

pub returns : goal.returns
unfolding connectivity_tests
returns c = search (passes-in, lengths-tested, c.in_ok-check_counts.was, c.in_ok-check_lengths.was)
