use Rattle.std.proofs.Common.{◌≡◌, length}
use Rattle.graph.specs.Joined.{JoinedBelow}
use Rattle.graph.specs.Outcome.{node_count}
use Rattle.graph.specs.inner.Forest.{Spans}
use Rattle.graph.proofs.rows.join_rows.Given as goal

abbrev pub invariant-loop-row : goal.invariant-loop-row
invariant-loop-row l = record { spans : Spans (JoinedBelow l.g l.row) l.trees; len : length l.trees ≡ node_count l.g }
