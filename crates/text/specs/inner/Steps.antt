-- What the steps of `put_placed` and `put_refused` promise each other. No entry point's contract cites it.
use Rattle.std.specs.Prelude.{◌≡◌, List, ◌++◌, ℕ, ◌+◌, ◌*◌, ◌/◌, ◌≤◌, length, Float}
use Rattle.field.specs.Buffer.{write}
use Rattle.network.specs.declared.Shape.{Shape}
use Rattle.placement.specs.declared.Report.{Report}
use Rattle.text.specs.declared.Writer.{Writer}
use Rattle.text.specs.Text.{counts_line, parts_line, report_line, few_line}

-- the buffer takes k more bytes
abbrev pub HasRoom : Writer → ℕ → Type 0
HasRoom v k = v.at + k ≤ length v.out.now

-- w is the writer v, over the same buffer, after the text, which takes at most k bytes
pub record Wrote (v w : Writer) (text : List ℕ) (k : ℕ) : Type 0 where
  pub same : w.out.ghost_name ≡ v.out.ghost_name
  pub long : length w.out.now ≡ length v.out.now
  pub bytes : w.out.now ≡ write v.out.now v.at text
  pub next : w.at ≡ v.at + length text
  pub within : w.at ≤ v.at + k

-- the line of the counts, and that of the report
abbrev pub counts_of : Shape → List ℕ
counts_of c = counts_line c.cameras c.points c.bearings c.directions

abbrev pub report_of : Report → List ℕ
report_of p = report_line p.anchor p.route p.rounds

-- the lines above those of the vectors
abbrev pub head_of : Shape → ℕ → Report → List ℕ
head_of c parts p = counts_of c ++ parts_line parts ++ report_of p ++ few_line p.few

-- the bytes that the lines of the vectors whose numbers a buffer holds take at most
abbrev pub line_room : List Float → ℕ
line_room l = 74 * (length l / 3)
