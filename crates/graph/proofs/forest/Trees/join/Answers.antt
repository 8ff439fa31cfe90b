use Rattle.std.proofs.Common.{◌≡◌, ◌∙◌, sym, slice_set}
use Rattle.graph.specs.inner.Forest.{Merged}
use Rattle.graph.proofs.Forests.{merge_none, joined-left, joined-right}
use Rattle.graph.proofs.forest.Trees.join.Goals as goal
use Rattle.graph.proofs.forest.Trees.join.Goals.{Then-u-v, Else-u-v}

pub returns-then-parent-clause-merged : goal.returns-then-parent-clause-merged
returns-then-parent-clause-merged c =
    merge_none _ c.parent.ensures.forest _ _ (sym c.parent.ensures.value.0 ∙ c.if-parent.true ∙ c.parent-2.ensures.value.0)

left : (c : Then-u-v) → Merged c.args.self.now (slice_set c.self.inside.parents.now c.root-v.result c.root-u.result) c.args.a c.args.b
left c =
    let v : c.self.inside.parents.now ≡ c.root-v.new.self = c.self.view_is in
    rw v (joined-left c.root-u.ensures.climbed c.root-v.ensures.climbed c.if-u-v.true c.requires.1 c.root-u.ensures.len c.root-v.ensures.len)

right : (c : Else-u-v) → Merged c.args.self.now (slice_set c.self.inside.parents.now c.root-u.result c.root-v.result) c.args.a c.args.b
right c =
    let v : c.self.inside.parents.now ≡ c.root-v.new.self = c.self.view_is in
    rw v (joined-right c.root-u.ensures.climbed c.root-v.ensures.climbed c.if-u-v.false c.requires.0 c.root-u.ensures.len c.root-v.ensures.len)

pub invariant_of-self : goal.invariant_of-self
invariant_of-self c = (left c).forest

pub invariant_of-self-else-u-v : goal.invariant_of-self-else-u-v
invariant_of-self-else-u-v c = (right c).forest

pub returns-then-u-v-clause-merged : goal.returns-then-u-v-clause-merged
returns-then-u-v-clause-merged c = left c

pub returns-else-u-v-clause-merged : goal.returns-else-u-v-clause-merged
returns-else-u-v-clause-merged c = right c
