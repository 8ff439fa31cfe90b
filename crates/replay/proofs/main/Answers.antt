use Rattle.std.proofs.Common.{sym}
use Rattle.std.proofs.Common.{ℕ}
use lib.ListN.{length-replicate}
use Rattle.replay.proofs.main.Goals as goal

pub slice_bounds-read_and_run-end : goal.slice_bounds-read_and_run-end
slice_bounds-read_and_run-end c = sym (length-replicate {0} {A = ℕ} 524288 0)
