use Rattle.image.proofs.Domain.{finite-there, infinite-none, nan-none}
use Rattle.image.proofs.rows.finite_at.Goals as goal

pub returns-in-Finite : goal.returns-in-Finite
returns-in-Finite c = search finite-there

pub returns-in-Infinite : goal.returns-in-Infinite
returns-in-Infinite c = search infinite-none

pub returns-in-NotANumber : goal.returns-in-NotANumber
returns-in-NotANumber c = search nan-none
