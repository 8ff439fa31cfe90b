use Rattle.recover.proofs.Rows.{far-bearing, far-direction}
use Rattle.recover.proofs.row.Sites.far_end.Goals as goal

pub returns-then-r-shape : goal.returns-then-r-shape
returns-then-r-shape c =
    let h = rw (c.shape.ensures.value, c.ends-ends.ensures, c.links.ensures.value) at c.if-r-shape.true in
    let q = rw (c.ends-ends.ensures, c.links.ensures.value) at c.point.ensures in
    rw (← c.self.view_is) (search far-bearing)

pub returns : goal.returns
returns c =
    let h = rw (c.shape.ensures.value, c.ends-ends.ensures, c.links.ensures.value) at c.if-r-shape.false in
    let q = rw (c.ends-ends.ensures, c.links.ensures.value) at c.target.ensures in
    rw (← c.self.view_is) (search far-direction)
