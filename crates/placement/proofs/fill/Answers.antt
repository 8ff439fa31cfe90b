use Rattle.placement.proofs.Placing.{cameras-filled}
use Rattle.placement.proofs.fill.Goals as goal

pub positions_at-requires : goal.positions_at-requires
positions_at-requires c = rw c.shape-s.ensures c.requires.rows_sound.links.ends.shape

pub returns : goal.returns
returns c =
    let at = rw c.shape-s.ensures at c.positions_at.ensures in
    let copied = rw c.shape-s.ensures at c.copy3.ensures in
    let filled = rw (c.new.ensures, ← c.net.view_is) at c.recover_points.ensures in
    record { cameras_after = cameras-filled _ _ _ _ _ at c.requires.cameras_len.0 copied; placed_after = rw (← c.net.view_is) filled }
