use Rattle.network.proofs.Verdicts.{halts-in, handed-out, passes-in}
use Rattle.network.proofs.Sound.{counted}
use Rattle.graph.specs.Outcome.{listing_tests}
use Rattle.graph.proofs.Outcomes.{lengths-tested, listing-measured}
use Rattle.graph.proofs.checks.check_listing.Goals as goal

pub returns-in_err-check_counts : goal.returns-in_err-check_counts
unfolding listing_tests
returns-in_err-check_counts c = handed-out c.from_residual.ensures.1 (search (halts-in, c.in_err-check_counts.was))

pub listing_fits-requires : goal.listing_fits-requires
unfolding listing_tests
listing_fits-requires c = search (counted, c.in_ok-check_counts.was)

pub returns-in_err-check_lengths : goal.returns-in_err-check_lengths
unfolding listing_tests
returns-in_err-check_lengths c =
    handed-out c.from_residual-in_err-check_lengths.ensures.1 (search (passes-in, halts-in, lengths-tested, c.in_ok-check_counts.was, c.in_err-check_lengths.was))

pub check_graph_rows-requires : goal.check_graph_rows-requires
unfolding listing_tests
check_graph_rows-requires c =
    let p = listing-measured _ _ _ _ _ c.listing_fits.ensures c.check_lengths.ensures c.in_ok-check_lengths.was c.check_counts.ensures c.in_ok-check_counts.was in
    record { shape_sound = p.0; ends_len = p.1 }

pub returns : goal.returns
unfolding listing_tests
returns c = search (passes-in, lengths-tested, c.in_ok-check_counts.was, c.in_ok-check_lengths.was)
