use Rattle.network.proofs.Verdicts.{given}
use Rattle.placement.proofs.Placing.{clear_room, legal-route, solve-placed, solve-rejected, submission-sound}
use Rattle.placement.proofs.solve.Goals as goal

pub returns-in_err-check : goal.returns-in_err-check
returns-in_err-check c =
    rw (given c.from_residual.ensures.1) (search (solve-rejected, c.in_err-check.was, c.check.ensures.value, c.check.ensures.marks_after))

pub of-requires : goal.of-requires
of-requires c = legal-route _ _ (submission-sound _ _ c.check.ensures.value c.in_ok-check.was).checked.legal

pub place-answer-requires : goal.place-answer-requires
place-answer-requires c =
    let S = submission-sound _ _ c.check.ensures.value c.in_ok-check.was in
    record { checked = rw c.of.ensures S.checked; cameras_len = (S.cameras, S.points) }

pub work_needed-requires : goal.work_needed-requires
work_needed-requires c = rw c.shape.ensures (submission-sound _ _ c.check.ensures.value c.in_ok-check.was).checked.sound.links.ends.shape

pub clear-requires-clause-in_bounds : goal.clear-requires-clause-in_bounds
clear-requires-clause-in_bounds c =
    let S = submission-sound _ _ c.check.ensures.value c.in_ok-check.was in
    let placed = rw c.of.ensures at c.place-answer.ensures in
    let needed = rw c.shape.ensures at c.work_needed.ensures in
    clear_room _ _ _ _ _ _ _ _ _ _ _ S.checked placed needed

pub returns : goal.returns
returns c =
    let k = c.check.ensures in
    let placed = rw c.of.ensures at c.place-answer.ensures in
    let needed = rw c.shape.ensures at c.work_needed.ensures in
    solve-placed _ _ _ _ _ _ _ k.value k.marks_after _ _ _ _ _ _ c.in_ok-check.was placed needed c.clear.ensures
