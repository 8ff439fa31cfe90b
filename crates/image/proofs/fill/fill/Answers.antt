use Rattle.image.proofs.Fills.{readable-list, all-filled}
use native.Mathlib.Omega.{arith}
use Rattle.image.proofs.fill.fill.Goals as goal

pub fill_doubles-requires : goal.fill_doubles-requires
fill_doubles-requires c = record { group_nonzero = omega arith; readable = search readable-list }

pub fill_doubles-requires-2 : goal.fill_doubles-requires-2
fill_doubles-requires-2 c = record { group_nonzero = omega arith; readable = search readable-list }

pub fill_doubles-requires-3 : goal.fill_doubles-requires-3
fill_doubles-requires-3 c = record { group_nonzero = omega arith; readable = search readable-list }

pub fill_doubles-requires-4 : goal.fill_doubles-requires-4
fill_doubles-requires-4 c = record { group_nonzero = omega arith; readable = search readable-list }

pub returns : goal.returns
returns c = search all-filled
