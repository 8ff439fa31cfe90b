use Rattle.std.proofs.Common.{◌≡◌, cond, ltb, lt-ltb, le-ltb, ◌∙◌}
use Rattle.image.proofs.Domain.{strays-is}
use Rattle.image.proofs.rows.ImageRows.strays.Goals as goal
use Rattle.image.proofs.rows.ImageRows.strays.Goals.{then-r-s, else-r-s}

pub returns : goal.returns
returns c = let o = rw c.shape-s.ensures at others in rw c.shape-s.ensures (search strays-is)
  where
    others : c.if-r-s.others ≡ cond (ltb c.args.r c.shape-s.result.bearings) c.shape-s.result.points c.shape-s.result.cameras
    others = elim c.if-r-s.branch [ then-r-s w ↦ w.others-is ∙ rw (lt-ltb _ _ w.if-r-s.true) | else-r-s w ↦ w.others-is ∙ rw (le-ltb _ _ w.if-r-s.false) ]
