use borrow.Author.Rules.{rules}
use Rattle.iterative.proofs.Rounding.{moved-done}
use Rattle.iterative.proofs.rounds.move_along.Goals as goal

pub returns : goal.returns
returns c =
    moved-done _ _ c.requires.fields_fit _ _ _ _ _ _ _ _ _ _ _ _ _ c.quotient-alpha.ensures c.positions_at.ensures c.search_at.ensures
    c.residual_at.ensures c.applied_at.ensures (c.step_field.ensures _ (λ x y r e. search (rules, e))) (c.step_field-sums.ensures _ (λ x y r e. search (rules, e))) c.stay_active.ensures c.requires.bound_value
