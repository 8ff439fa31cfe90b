use Rattle.network.proofs.Verdicts.{given, test-at-passed}
use Rattle.network.specs.declared.Cause.TheVariants.{Diagonal}
use mathlib.Core.Path.{sym, ◌∙◌}
use Rattle.iterative.proofs.Solving.{none-bad, solved-bad}
use Rattle.iterative.proofs.solve_iterative.Goals as goal

pub run-requires : goal.run-requires
run-requires c =
    let p = rw (c.frame.ensures.value, c.new-t.ensures) at c.find_bad_diagonal.ensures in
    record {
      s_in_bounds = rw c.new-t.ensures c.requires;
      cameras_value = rw c.new-t.ensures (none-bad _ _ _ p (test-at-passed Diagonal _ (sym c.refused_at.ensures ∙ c.in_ok-refused_at.was)));
    }

pub returns-in_err-refused_at : goal.returns-in_err-refused_at
returns-in_err-refused_at c =
    let p = rw (c.frame.ensures.value, c.new-t.ensures) at c.find_bad_diagonal.ensures in
    rw (given c.from_residual.ensures.1) (solved-bad _ _ _ _ p c.refused_at.ensures c.in_err-refused_at.was)

pub returns : goal.returns
returns c = rw c.new-t.ensures at c.run.ensures
