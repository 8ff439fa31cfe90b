use Rattle.network.proofs.Verdicts.{given}
use Rattle.system.proofs.Forming.{rows-sound}
use Rattle.placement.proofs.Placing.{checked-points, placed-accepted, placed-refused, ran-room}
use borrow.Author.Rules.{rules}
use Rattle.placement.proofs.place.Goals as goal

pub fill-requires : goal.fill-requires
fill-requires c = record { rows_sound = rows-sound _ c.requires.checked.sound; points_len = (search checked-points, search ran-room); cameras_len = search rules }

pub returns-in_err-report : goal.returns-in_err-report
returns-in_err-report c = rw (given c.from_residual.ensures.1) (search (placed-refused, c.in_err-report.was))

pub returns : goal.returns
returns c =
    placed-accepted _ _ _ _ _ _ _ _ c.requires.checked c.run.ensures _ _ _
    c.in_ok-report.was c.fill.ensures.cameras_after c.fill.ensures.placed_after
