use Rattle.iterative.proofs.Solving.{settled}
use Rattle.iterative.proofs.ends.residual.Goals as goal

pub returns : goal.returns
returns c =
    settled _ _ _ _ _ _ _ _ _ _ c.shape-s.ensures.value c.anchor.ensures c.requires.s_in_bounds c.positions_at.ensures c.applied_at-at.ensures
    c.right_at.ensures c.apply.ensures c.subtract.ensures
