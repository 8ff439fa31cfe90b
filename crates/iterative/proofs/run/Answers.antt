use Rattle.network.proofs.Verdicts.{given}
use Rattle.iterative.proofs.Solving.{iterated-room, iterated-sums, solved-failed, solved-run, started-room, started-sums}
use Rattle.iterative.proofs.run.Goals as goal

pub iterate-requires : goal.iterate-requires
iterate-requires c =
    let S = rw c.frame.ensures.value at c.start-opening.ensures in
    let room = c.requires.s_in_bounds in
    record { s_in_bounds = started-room _ _ _ _ _ room S; sums_value = started-sums _ _ _ _ _ room S; count_value = S.count }

pub conclude-requires : goal.conclude-requires
conclude-requires c =
    let S = rw c.frame.ensures.value at c.start-opening.ensures in
    let I = c.iterate.ensures in
    let room = c.requires.s_in_bounds in
    record { s_in_bounds = iterated-room _ _ _ _ _ _ I (started-room _ _ _ _ _ room S); sums_value = iterated-sums _ _ _ _ _ _ _ I (started-sums _ _ _ _ _ room S) }

pub returns-in_err-end : goal.returns-in_err-end
returns-in_err-end c =
    rw (given c.from_residual.ensures.1)
    (solved-failed _ _ _ _ _ _ c.requires.s_in_bounds (rw c.frame.ensures.value at c.start-opening.ensures) _ _ c.requires.cameras_value c.iterate.ensures c.in_err-end.was)

pub returns : goal.returns
returns c =
    solved-run _ _ _ _ _ _ c.requires.s_in_bounds (rw c.frame.ensures.value at c.start-opening.ensures) _ _ c.requires.cameras_value c.iterate.ensures _ _ _ c.in_ok-end.was
    c.conclude.ensures
