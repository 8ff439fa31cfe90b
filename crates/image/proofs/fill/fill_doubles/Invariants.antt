use Rattle.std.proofs.Common.{◌≡◌, ℕ, ◌<◌, get_or}
use lib.Ieee.{nan}
use Rattle.layout.specs.Bytes.{double_at}
use Rattle.image.specs.Reading.{spread}
use Rattle.image.proofs.fill.fill_doubles.Given as goal

abbrev pub invariant-loop-k : goal.invariant-loop-k
invariant-loop-k l = (j : ℕ) → j < l.k → get_or l.out j nan ≡ double_at l.bytes (spread l.start l.stride 8 l.group j)
