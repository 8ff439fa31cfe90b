use native.Mathlib.Omega.{arith}
use Rattle.network.proofs.Sections.{before-third, third, none-of-three, found_below}
use Rattle.network.proofs.domain.find_placed_outside.Goals as goal

pub returns-in-Some : goal.returns-in-Some
returns-in-Some c = search before-third

pub overflow_add-result-2 : goal.overflow_add-result-2
overflow_add-result-2 c =
    let h = found_below _ _ c.find_bad_vector.ensures c.in_ok-i.was in
    let sound = rw (← c.shape-s.ensures) at c.requires.shape_sound in
    omega (arith, sound.cameras, sound.points)

pub overflow_add-result-3 : goal.overflow_add-result-3
overflow_add-result-3 c =
    let h = found_below _ _ c.find_bad_vector.ensures c.in_ok-i.was in
    let sound = rw (← c.shape-s.ensures) at c.requires.shape_sound in
    omega (arith, sound.cameras, sound.points, sound.bearings, sound.directions)

pub returns-in_err-i : goal.returns-in_err-i
returns-in_err-i c =
    let cameras = rw c.shape-s.ensures at c.find_bad_vector.ensures in
    rw c.from_residual.ensures (search (none-of-three, c.in_err-i.was, cameras))

pub returns : goal.returns
returns c =
    let cameras = rw c.shape-s.ensures at c.find_bad_vector.ensures in
    rw c.shape-s.ensures (search (third, c.in_ok-i.was, cameras))
