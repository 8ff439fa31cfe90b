use Rattle.network.proofs.Verdicts.{given}
use Rattle.graph.proofs.Outcomes.{connectivity-sound, connectivity-refused, connectivity-passed, answer-decided}
use Rattle.graph.proofs.is_connected.Goals as goal

pub new-requires : goal.new-requires
new-requires c = (connectivity-sound c.check_connectivity.ensures c.in_ok-check_connectivity.was).0

pub decide-requires : goal.decide-requires
decide-requires c = rw c.new.ensures (connectivity-sound c.check_connectivity.ensures c.in_ok-check_connectivity.was).1

pub returns-in_err-check_connectivity : goal.returns-in_err-check_connectivity
returns-in_err-check_connectivity c = rw (given c.from_residual.ensures.1) (connectivity-refused c.check_connectivity.ensures c.in_err-check_connectivity.was)

pub returns : goal.returns
returns c =
    let d = rw c.new.ensures at c.decide.ensures.decided in
    let n = rw c.new.ensures at c.decide.ensures.nodes_after in
    connectivity-passed c.check_connectivity.ensures c.in_ok-check_connectivity.was (answer-decided _ d) n
