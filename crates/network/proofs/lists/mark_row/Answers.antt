use Rattle.network.proofs.Marking.{marks-fail, row-again, row_first, row-marked, row_other, row-past}
use Rattle.network.proofs.lists.mark_row.Goals as goal

pub returns-then-b-row : goal.returns-then-b-row
returns-then-b-row c =
    let past = rw (c.shape-b.ensures.value, c.row-row.ensures) at c.if-b-row.true in
    record { value = search row-past; marked_after = search marks-fail }

pub returns-then-point-p : goal.returns-then-point-p
returns-then-point-p c =
    let below = rw (c.shape-b.ensures.value, c.row-row.ensures) at c.if-b-row.false in
    let other = rw (c.point.ensures, c.row-row.ensures) at c.if-point-p.true in
    record { value = search row_other; marked_after = search marks-fail }

pub returns-then-marks-row-ne0 : goal.returns-then-marks-row-ne0
returns-then-marks-row-ne0 c =
    let below = rw (c.shape-b.ensures.value, c.row-row.ensures) at c.if-b-row.false in
    let own = rw (c.point.ensures, c.row-row.ensures) at c.if-point-p.false in
    let again = rw c.row-row.ensures at c.if-marks-row-ne0.true in
    record { value = search row-again; marked_after = search marks-fail }

pub returns : goal.returns
returns c =
    let below = rw (c.shape-b.ensures.value, c.row-row.ensures) at c.if-b-row.false in
    let own = rw (c.point.ensures, c.row-row.ensures) at c.if-point-p.false in
    let first = rw c.row-row.ensures at c.if-marks-row-ne0.false in
    record { value = search row_first; marked_after = rw c.row-row.ensures (search row-marked) }
