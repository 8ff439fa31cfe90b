-- What the steps of `read_all` ensure.
use Rattle.std.specs.Prelude.{ℕ, ◌≤◌, ◌≡◌, List, ◌++◌, length, take, drop, Result, Ok, Err}

-- What one read leaves of a buffer, by its answer: the k bytes that it gave stand at the front, and the rest is as it was; a failure changes nothing.
-- `chunk` has what was read.
abbrev pub Stored : {E : Type 0} → Result ℕ E → (chunk old new : List ℕ) → Type 0
Stored (Ok k) chunk old new = (k ≤ length chunk) × (k ≤ length old) × (new ≡ take k chunk ++ drop k old)
Stored (Err _) chunk old new = new ≡ old
