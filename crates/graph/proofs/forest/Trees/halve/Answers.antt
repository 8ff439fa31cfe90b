use Rattle.std.proofs.Common.{◌≡◌, slice_set}
use Rattle.graph.specs.inner.Forest.{Halved}
use Rattle.graph.proofs.Forests.{moved_up}
use Rattle.graph.proofs.forest.Trees.halve.Goals as goal
use Rattle.graph.proofs.forest.Trees.halve.Goals.{After-parent-next}

moved : (c : After-parent-next) → Halved c.args.self.now c.args.node c.parent-next.result (slice_set c.self.inside.parents.now c.args.node c.parent-next.result)
moved c =
    let v : c.self.inside.parents.now ≡ c.args.self.now = c.self.view_is in
    rw v (moved_up c.parent-next.ensures.forest c.requires.node_in_bounds c.requires.up_value.0 c.requires.up_value.1 c.parent-next.ensures.value.0)

pub invariant_of-self : goal.invariant_of-self
invariant_of-self c = (moved c).same.forest

pub returns-clause-halved : goal.returns-clause-halved
returns-clause-halved c = moved c
