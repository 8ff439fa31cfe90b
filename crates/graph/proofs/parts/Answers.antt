use Rattle.network.proofs.Verdicts.{given}
use Rattle.graph.proofs.Outcomes.{listing-sound, listing-refused, listing-passed}
use Rattle.graph.proofs.parts.Goals as goal

pub new-requires : goal.new-requires
new-requires c = (listing-sound c.check_listing.ensures c.in_ok-check_listing.was).0

pub list_parts-requires : goal.list_parts-requires
list_parts-requires c = rw c.new.ensures (listing-sound c.check_listing.ensures c.in_ok-check_listing.was).1

pub returns-in_err-check_listing : goal.returns-in_err-check_listing
returns-in_err-check_listing c = rw (given c.from_residual.ensures.1) (listing-refused c.check_listing.ensures c.in_err-check_listing.was)

pub returns : goal.returns
returns c =
    let e = c.list_parts.ensures in
    let l = rw c.new.ensures at e.labelled in
    let n = rw c.new.ensures at e.nodes_after in
    listing-passed c.check_listing.ensures c.in_ok-check_listing.was l e.value n
