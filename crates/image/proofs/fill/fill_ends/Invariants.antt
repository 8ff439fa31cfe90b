use Rattle.std.proofs.Common.{◌≡◌, ℕ, ◌<◌, get_or}
use Rattle.layout.specs.Bytes.{u32_at}
use Rattle.image.specs.Reading.{spread}
use Rattle.image.proofs.fill.fill_ends.Given as goal

abbrev pub invariant-loop-k : goal.invariant-loop-k
invariant-loop-k l = (j : ℕ) → j < l.k → get_or l.ends j 0 ≡ u32_at l.bytes (spread l.at 48 4 2 j)
