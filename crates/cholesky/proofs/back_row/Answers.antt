use Rattle.field.specs.Vec.{is_finite}
use Rattle.cholesky.proofs.Substitution.{back-row-done, back-row-stopped}
use Rattle.cholesky.proofs.back_row.Goals as goal

pub returns-then-all_finite : goal.returns-then-all_finite
unfolding is_finite
returns-then-all_finite c = search back-row-done

pub returns : goal.returns
unfolding is_finite
returns c = search back-row-stopped
