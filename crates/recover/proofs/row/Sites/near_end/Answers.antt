use Rattle.recover.proofs.Rows.{near-is}
use Rattle.recover.proofs.row.Sites.near_end.Goals as goal

pub returns : goal.returns
returns c =
    let q = rw (c.ends.ensures, c.links.ensures.value) at c.camera.ensures in
    rw (← c.self.view_is) (search near-is)
