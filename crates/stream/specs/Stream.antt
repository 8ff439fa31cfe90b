-- What is promised of reading into a lent buffer. Of a call on standard input std promises only that it answers an error, or how many bytes it
-- moved: so `ReadInto` does not say which bytes came, or what the input was like. That an error, and nothing else, is a failure is said of one read
-- (`told` of `store`, specs/inner), and in the words of std's own clause of a reader whose bytes are known (`bytes` of `read_once`).
use Rattle.std.specs.Prelude.{ℕ, ◌+◌, ◌≤◌, ◌≡◌, List, length, take, drop, Result, Ok, Err}

-- of a buffer that held `old`, all but k bytes from place p on is as it was
pub record Overwritten (p k : ℕ) (old new : List ℕ) : Type 0 where
  pub within : p + k ≤ length old
  pub size : length new ≡ length old
  pub front : take p new ≡ take p old
  pub rest : drop (p + k) new ≡ drop (p + k) old

-- `read_all` put n bytes at the front; or it failed, and of the bytes nothing is promised
unfoldable pub ReadInto : {E : Type 0} → Result ℕ E → (old new : List ℕ) → Type 0
ReadInto (Ok n) old new = Overwritten 0 n old new
ReadInto (Err _) old new = length new ≡ length old
