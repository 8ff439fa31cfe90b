use Rattle.network.proofs.Verdicts.{given}
use Rattle.iterative.proofs.Rounding.{redirect-failed, redirect-running}
use Rattle.iterative.proofs.rounds.redirect.Goals as goal

pub returns-in_err-refused_at : goal.returns-in_err-refused_at
returns-in_err-refused_at c =
    rw (given c.from_residual.ensures.1)
    (redirect-failed _ _ c.requires _ _ _ _ _ c.residual_at-from.ensures c.preconditioned_at-at.ensures c.precondition-new.ensures
    _ c.find_bad_product.ensures c.refused_at.ensures c.in_err-refused_at.was)

pub returns : goal.returns
returns c =
    redirect-running _ _ c.requires _ _ _ _ _ c.residual_at-from.ensures c.preconditioned_at-at.ensures c.precondition-new.ensures _ _ _ _
    c.find_bad_product.ensures c.refused_at.ensures c.in_ok-refused_at.was c.search_at.ensures c.quotient-beta.ensures c.update_search.ensures
