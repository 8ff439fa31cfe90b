use Rattle.iterative.proofs.Rounding.{bound-after, rounded}
use native.Mathlib.Omega.{arith}
use borrow.Author.Rules.{rules}
use Rattle.iterative.proofs.rounds.round.Goals as goal

pub step-requires : goal.step-requires
step-requires c =
    let e = bound-after _ _ c.shape-s.ensures.value _ _ _ _ _ c.search_at.ensures c.applied_at.ensures c.apply.ensures _ _ c.frame.ensures.value
    c.requires.bound_value in
    record { fields_fit = record { shape = c.frame.ensures.sound; room = rw c.frame.ensures.value (omega arith) }; bound_value = e; count_bound = search rules }

pub returns : goal.returns
returns c =
    rounded _ _ c.shape-s.ensures.value _ _ _ _ _ c.search_at.ensures c.applied_at.ensures c.apply.ensures _ _ _ _ c.frame.ensures.value
    c.requires.s_in_bounds c.step.ensures
