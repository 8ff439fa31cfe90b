use borrow.Author.Rules.{rules}
use native.Mathlib.Omega.{arith}
use Rattle.iterative.specs.Problem.{field_dot}
use Rattle.iterative.proofs.Entries.{preconditioned-made}
use Rattle.iterative.proofs.fields.precondition.Goals as goal

pub returns : goal.returns
unfolding field_dot
returns c =
    let S = c.fill_summed.ensures _ (λ x i v h e p. preconditioned-made c.args.frame.shape.cameras _ _ _ i v h c.args.from c.args.into (omega (arith, c.requires.shape.cameras, c.requires.first)) c.requires.apart e (search (rules, p))) in
    record { field = S.filled; dot = S.prior c.requires.apart }
