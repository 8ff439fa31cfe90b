use Rattle.iterative.proofs.Opening.{put-started}
use Rattle.iterative.proofs.ends.put_start.Goals as goal

pub returns : goal.returns
returns c =
    put-started _ _ _ _ _ _ _ _ _ _ _ _ _ _ _ _ c.requires.0 c.positions_at.ensures c.right_at.ensures
    c.residual_at.ensures c.preconditioned_at.ensures c.search_at.ensures c.zero.ensures c.put3.ensures
    c.put3-2.ensures c.put3-3.ensures c.put3-4.ensures c.put3-5.ensures
