-- What the public calls answer and leave (document 01, 'Refused calls': a refusal leaves every buffer untouched).
use Rattle.std.specs.Prelude.{Err, Ok, Result}
use Rattle.network.specs.declared.Refusal.{Refusal}
use Rattle.std.specs.Prelude.{ℕ, ◌≡◌, List, ◌++◌, length, drop, Float}
use Rattle.network.specs.Refusals.{Verdict}
use Rattle.network.specs.declared.Shape.{Shape}
use Rattle.network.specs.Refusals.{verdict}
use Rattle.layout.specs.Bytes.{AreBytes, AreDoubles}
use Rattle.network.specs.Network.{Content, content}
use Rattle.layout.specs.Image.{image}
use Rattle.image.specs.Reading.{shape_at, content_of}
use Rattle.image.specs.Tests.{content_fits, counts_tests, read_tests, write_tests}

-- the refusal, or else the counts
unfoldable pub counts_if : Verdict → Shape → Result Shape Refusal
counts_if (Err r) s = Err r
counts_if (Ok tt) s = Ok s

-- the refusal, or else how many bytes were written
unfoldable pub written_if : Verdict → ℕ → Result ℕ Refusal
written_if (Err r) k = Err r
written_if (Ok tt) k = Ok k

-- a lent buffer after a call: what it held where the call was refused, else the new list
unfoldable pub after {ℓ} : {A : Type ℓ} → Verdict → List A → List A → List A
after (Err r) held new = held
after (Ok tt) held new = new

-- ---- the counts

unfoldable pub counts_of : List ℕ → Result Shape Refusal
counts_of l = counts_if (verdict (counts_tests l)) (shape_at 36 l)

-- ---- the reader

-- the lists of a network that a reader is lent, and those that it leaves
pub record Lists : Type 0 where
  pub ends : List ℕ
  pub rays : List Float
  pub weights : List Float
  pub scales : List Float
  pub positions : List Float

abbrev pub lists : List ℕ → List Float → List Float → List Float → List Float → Lists
lists ends rays weights scales positions = record {
  ends = ends;
  rays = rays;
  weights = weights;
  scales = scales;
  positions = positions;
}

-- a network of shape s with these lists
abbrev pub content_with : Shape → Lists → Content
content_with s L = content s L.ends L.rays L.weights L.scales L.positions

-- of the image l, read into lent lists
unfoldable pub read_verdict : List ℕ → Lists → Verdict
read_verdict l lent = verdict (read_tests l (content_fits (content_with (shape_at 36 l) lent)))

-- a call with the verdict v, which stores the content c, was lent `lent` and left `left`
pub record Stored (v : Verdict) (lent : Lists) (c : Content) (left : Lists) : Type 0 where
  pub ends : left.ends ≡ after v lent.ends c.ends
  pub rays : left.rays ≡ after v lent.rays c.rays
  pub weights : left.weights ≡ after v lent.weights c.weights
  pub scales : left.scales ≡ after v lent.scales c.scales
  pub positions : left.positions ≡ after v lent.positions c.positions

-- the image l, read into `lent`, gives the answer r and leaves `left`
pub record Reads (l : List ℕ) (lent : Lists) (r : Result Shape Refusal) (left : Lists) : Type 0 where
  pub answer : r ≡ counts_if (read_verdict l lent) (shape_at 36 l)
  pub stored : Stored (read_verdict l lent) lent (content_of l) left
  -- (true of what is lent, a slice of u8)
  pub bytes : AreBytes l

-- ---- the writer

-- the lists of a content hold doubles, as every slice of f64 does
pub record HoldsDoubles (c : Content) : Type 0 where
  pub rays : AreDoubles c.rays
  pub weights : AreDoubles c.weights
  pub scales : AreDoubles c.scales
  pub positions : AreDoubles c.positions

-- of the content c, written to the bytes `held`
unfoldable pub write_verdict : Content → List ℕ → Verdict
write_verdict c held = verdict (write_tests c (length held))

-- the content c, written to `held`, gives the answer r and leaves `left`: the image at the front, the bytes after it as they were
pub record Writes (c : Content) (held : List ℕ) (r : Result ℕ Refusal) (left : List ℕ) : Type 0 where
  pub answer : r ≡ written_if (write_verdict c held) (length (image c))
  pub out : left ≡ after (write_verdict c held) held (image c ++ drop (length (image c)) held)
  -- (true of what is lent, slices of f64)
  pub doubles : HoldsDoubles c
