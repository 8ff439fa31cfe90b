-- The round trips (document 00, demand 2): 'A network image that is written reads back the same, and a read one writes back to its own bytes.'
-- Proved in proofs/Theorems.
use Rattle.std.specs.Prelude.{Ok, Result}
use Rattle.network.specs.declared.Refusal.{Refusal}
use Rattle.std.specs.Prelude.{ℕ, ◌≡◌, List, ◌++◌, length, take, drop}
use Rattle.network.specs.declared.Shape.{Shape}
use Rattle.network.specs.Refusals.{verdict, length_tests}
use Rattle.network.specs.Network.{Content}
use Rattle.image.specs.Tests.{content_fits, room_tests}
use Rattle.image.specs.Calls.{counts_if, written_if, after, Lists, content_with, Stored, Reads, Writes}

-- A network that is written reads back the same: the answer is c's counts, and the lists are c's. Only lists of other lengths are refused, as 3.
pub record ReadsBack (c : Content) (lent : Lists) (r : Result Shape Refusal) (left : Lists) : Type 0 where
  pub answer : r ≡ counts_if (verdict (length_tests (content_fits (content_with c.shape lent)))) c.shape
  pub stored : Stored (verdict (length_tests (content_fits (content_with c.shape lent)))) lent c left

-- `write` answered k bytes and left `out`; `read` is given the first k bytes of it
pub record WriteThenRead : Type 0 where
  pub holds : (c : Content) (held out : List ℕ) (k : ℕ) (lent left : Lists) (r : Result Shape Refusal) →
      Writes c held (Ok k) out → Reads (take k out) lent r left → ReadsBack c lent r left

-- An image that is read writes back to its own bytes: the answer is l's length, and l stands at the front. Only too few bytes are refused, as 23.
pub record WritesBack (l held : List ℕ) (r : Result ℕ Refusal) (out : List ℕ) : Type 0 where
  pub answer : r ≡ written_if (verdict (room_tests (length held) (length l))) (length l)
  pub bytes : out ≡ after (verdict (room_tests (length held) (length l))) held (l ++ drop (length l) held)

-- `read` answered the counts s and left the lists `left`; `write` is given both
pub record ReadThenWrite : Type 0 where
  pub holds : (l : List ℕ) (lent left : Lists) (s : Shape) (held out : List ℕ) (r : Result ℕ Refusal) →
      Reads l lent (Ok s) left → Writes (content_with s left) held r out → WritesBack l held r out
