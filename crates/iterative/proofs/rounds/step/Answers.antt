use Rattle.network.proofs.Verdicts.{given}
use Rattle.iterative.proofs.Rounding.{step-failed, step-done}
use Rattle.iterative.proofs.rounds.step.Goals as goal

pub returns-in_err-refused_at : goal.returns-in_err-refused_at
returns-in_err-refused_at c =
    rw (given c.from_residual.ensures.1)
    (step-failed _ _ c.requires.fields_fit _ _ _ _ _ c.search_at.ensures c.applied_at.ensures c.sum-curvature.ensures c.find_bad_curvature-bad.ensures
    c.refused_at.ensures c.in_err-refused_at.was)

pub returns : goal.returns
returns c =
    step-done _ _ c.requires.fields_fit _ _ _ _ _ c.search_at.ensures c.applied_at.ensures c.sum-curvature.ensures c.find_bad_curvature-bad.ensures
    _ _ _ _ c.refused_at.ensures c.in_ok-refused_at.was c.move_along-t.ensures c.go_on.ensures
