use Rattle.dense.proofs.Indices.{row_below, row-anchor, row-above}
use Rattle.dense.proofs.rows.DenseSystem.row.Goals as goal

pub returns-then-camera-self : goal.returns-then-camera-self
returns-then-camera-self c = search row-anchor

pub returns-then-camera-self-2 : goal.returns-then-camera-self-2
returns-then-camera-self-2 c = search row_below

pub returns : goal.returns
returns c = search row-above
