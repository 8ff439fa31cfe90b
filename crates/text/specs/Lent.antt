-- How a text stands in a lent buffer of bytes. The contracts of the entry points `put_placed` and `put_refused` cite it.
use Rattle.std.specs.Prelude.{◌≡◌, List, [], cond, ℕ, ◌+◌, ◌*◌, ◌/◌, ◌≤◌, leb, length, Float}
use Rattle.field.specs.Buffer.{write, vectors_in}
use Rattle.network.specs.declared.Shape.{Shape}
use Rattle.placement.specs.declared.Report.{Report}
use Rattle.text.specs.Text.{placed_text}

-- The text stands in the buffer from place p on, every other byte is as it was, and r is the place after the text.
pub record Written (before after : List ℕ) (p : ℕ) (text : List ℕ) (r : ℕ) : Type 0 where
  pub bytes : after ≡ write before p text
  pub next : r ≡ p + length text

-- the same, and the text takes at most k bytes
pub record Put (before after : List ℕ) (p : ℕ) (text : List ℕ) (k r : ℕ) : Type 0 where
  pub written : Written before after p text r
  pub within : r ≤ p + k

-- the bytes that a buffer must have: 256, which the lines above those of the vectors or a refusal do not exceed, and 74 for the line of each vector
abbrev pub room : (vectors : ℕ) → ℕ
room vectors = 256 + 74 * vectors

-- the text, where the buffer has that room for it; else nothing
abbrev pub fitting : (vectors : ℕ) → (out text : List ℕ) → List ℕ
fitting vectors out text = cond (leb (room vectors) (length out)) text []

-- that text stands at the front of the buffer, and r is its length: 0, and the buffer as it was, where there is no room
abbrev pub PutIfRoom : (before after : List ℕ) → (vectors : ℕ) → (text : List ℕ) → (r : ℕ) → Type 0
PutIfRoom before after vectors text r = Put before after 0 (fitting vectors before text) (length before) r

-- What `put_placed` promises: c has the numbers of the line of the counts, p those of the report, and cs and ps hold the vectors' numbers.
abbrev pub PutPlaced : (c : Shape) (parts : ℕ) (p : Report) (cs ps : List Float) → (before after : List ℕ) → (r : ℕ) → Type 0
PutPlaced c parts p cs ps before after r =
    PutIfRoom before after (length cs / 3 + length ps / 3)
    (placed_text c.cameras c.points c.bearings c.directions parts p.anchor p.route p.rounds p.few
    (vectors_in cs) (vectors_in ps))
    r
