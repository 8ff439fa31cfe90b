use native.Mathlib.Omega.{arith}
use Rattle.network.proofs.Sections.{first-of-two, second-of-two, none_of_two, found_below}
use Rattle.network.proofs.domain.find_outside.Goals as goal

pub returns-in-Some : goal.returns-in-Some
returns-in-Some c = search first-of-two

pub overflow_add-result-2 : goal.overflow_add-result-2
overflow_add-result-2 c =
    let h = found_below _ _ c.find_bad_vector.ensures c.in_ok-p.was in
    let sound = rw (← c.c.view_is) at c.requires.shape_sound in
    omega (arith, h, sound.points, sound.bearings, sound.directions)

pub returns-in_err-p : goal.returns-in_err-p
returns-in_err-p c =
    let bad = rw (← c.c.view_is) at c.find_bad_row.ensures in
    rw (c.from_residual.ensures, ← c.c.view_is) (search (none_of_two, c.in_err-p.was))

pub returns : goal.returns
returns c =
    let bad = rw (← c.c.view_is) at c.find_bad_row.ensures in
    rw (← c.c.view_is) (search (second-of-two, c.in_ok-p.was))
