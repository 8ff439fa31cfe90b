use Rattle.cholesky.proofs.Panels.{solved-done, solved-stopped}
use Rattle.cholesky.proofs.panel_row.Goals as goal

pub returns-then-finite4 : goal.returns-then-finite4
returns-then-finite4 c = search solved-done

pub returns : goal.returns
returns c = search solved-stopped
