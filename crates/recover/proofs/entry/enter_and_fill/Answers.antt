use mathlib.Core.Path.{refl}
use Rattle.network.proofs.Verdicts.{given}
use Rattle.recover.proofs.Entries.{left-filled, left-refused, room-is}
use Rattle.recover.proofs.entry.enter_and_fill.Goals as goal

pub returns-in_err-i : goal.returns-in_err-i
returns-in_err-i g c = λ f h. rw (given c.from_residual.ensures.1) (left-refused _ c.enter.ensures.value c.enter.ensures.marks_after _ _ c.in_err-i.was)

pub fill-requires : goal.fill-requires
fill-requires g c = let n = room-is _ c.enter.ensures.value c.in_ok-i.was refl in c.requires _ _ n

pub returns : goal.returns
returns g c = λ f h. left-filled _ c.enter.ensures.value c.enter.ensures.marks_after f _ c.in_ok-i.was (h _ _ _ c.fill.ensures)
