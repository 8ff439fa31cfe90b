use native.Mathlib.Nat.{le_of_lt}
use Rattle.sqrt.proofs.Bracket.{down, up, settled, settled-last}
use Rattle.sqrt.proofs.settle.Goals as goal
use Rattle.sqrt.proofs.settle.Goals.{then-d-high, else-d-high+then-high-d}

-- With `le_of_lt` each goal is proved of too strict a test too, so that a wrong test is refused where it is wrong.
pub returns-else-high-d : goal.returns-else-high-d
returns-else-high-d c = search (settled, le_of_lt)

pub loop-turn-preserved : goal.loop-turn-preserved
loop-turn-preserved c = elim c.if-d-high.branch [
  | then-d-high w ↦ rw (w.lo-is, w.hi-is) (search (down, le_of_lt, c.next-q.ensures.middle))
  | else-d-high+then-high-d w ↦ rw (w.lo-is, w.hi-is) (search (up, c.next-q.ensures.middle))
]

pub returns : goal.returns
returns c = search settled-last
