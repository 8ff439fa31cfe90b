use borrow.Author.Rules.{rules}
use mathlib.Core.Path.{refl}
use Rattle.iterative.specs.Problem.{field_dot}
use Rattle.iterative.proofs.Entries.{stepped-made}
use Rattle.iterative.proofs.fields.step_field.Goals as goal

pub returns : goal.returns
unfolding field_dot
returns g c op k =
    let S = c.fill_summed.ensures _ (λ x i v h e p. stepped-made _ _ _ _ i v h op _ _ _ _ c.requires.room.apart e (search (rules, k, p))) in
    record { field = S.filled; dot = S.own refl }
