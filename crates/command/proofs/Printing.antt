-- Laws of what is printed. Assumes nothing.
use Rattle.std.proofs.Common.{Err, Ok, Result}
use Prim.Native.Nat.{ℕ, ◌+◌, ◌/◌, ◌≤◌}
use mathlib.Core.Path.{◌≡◌, refl}
use mathlib.Core.List.{List}
use native.Mathlib.Omega.{arith}
use lib.ListN.{length}
use lib.Ieee.{Float}
use borrow.Author.Tests.{le-leb}
use Rattle.field.specs.declared.Vec3.{Vec3}
use Rattle.field.specs.Buffer.{flat, vector, vectors_in}
use Rattle.field.proofs.Buffers.{vector-lawful, length-flat, load-flat}
use Rattle.network.specs.declared.Refusal.{Refusal}
use Rattle.network.specs.declared.Shape.{Shape}
use Rattle.placement.specs.declared.Report.{Report}
use Rattle.text.specs.Lent.{Put, room, PutIfRoom}
use Rattle.command.specs.declared.Printed.{Printed}
use Rattle.command.specs.declared.Reported.{Reported}
use Rattle.std.specs.Result.{IsErrAnd}
use Rattle.network.proofs.Verdicts.{given}
use Rattle.text.specs.Text.{refused_text}
use Rattle.command.specs.Command.{placed_lines, Prints}
use Rattle.command.specs.inner.Steps.{RefusedAs, AnsweredAs, Steps, printed}

-- a buffer with the room for a text holds it
put-fits : (v : ℕ) {out out' text : List ℕ} {r : ℕ} → length out ≡ 65536 → v ≤ 744 → PutIfRoom out out' v text r → Put out out' 0 text 65536 r
put-fits v {out} e h p = rw e at (rw (le-leb (room v) (length out) (omega arith)) at p)

pub refusal-printed : (x : Refusal) (out out' : List ℕ) {r : ℕ} → PutIfRoom out out' 0 (refused_text x) r → length out ≡ 65536 →
    Prints (RefusedAs x) (record { answer = Err x; length = r }) out out'
refusal-printed x out out' p e = record { text = refused_text x; put = put-fits 0 e (omega arith) p; holds = record { answered = refl; printed = refl } }

pub report-printed : (s : Shape) (k : ℕ) (p : Report) (cs ps : List Float) (out out' : List ℕ) {r : ℕ} →
    PutIfRoom out out' (length cs / 3 + length ps / 3) (placed_lines s k p (vectors_in cs) (vectors_in ps)) r → length out ≡ 65536 → (length cs ≤ 192) × (length ps ≤ 2040) →
    Prints (AnsweredAs s k (Ok p) cs ps) (printed (record { report = p; length = r })) out out'
report-printed s k p cs ps out out' q e h = record {
  text = placed_lines s k p (vectors_in cs) (vectors_in ps);
  put = put-fits (length cs / 3 + length ps / 3) e (omega arith) q;
  holds = record { answered = refl; printed = refl };
}

-- the vectors of their numbers
pub vectors-flat : (f : List Vec3) → vectors_in (flat vector f) ≡ f
unfolding vectors_in
vectors-flat f =
    let e : length (flat vector f) / 3 ≡ length f = omega (arith, length-flat vector vector-lawful f) in
    rw e (load-flat vector vector-lawful f (length f) refl)

-- what holds of the answer and the text may be said otherwise
pub prints-as : {P Q : Result Report Refusal → List ℕ → Type 0} {r : Printed} {out out' : List ℕ} → ((a : Result Report Refusal) (t : List ℕ) → P a t → Q a t) → Prints P r out out' → Prints Q r out out'
prints-as f p = record { text = p.text; put = p.put; holds = f _ _ p.holds }

-- ---- a step of the run

-- what it printed, or what is printed of its refusal
module _ {P : Result Report Refusal → List ℕ → Type 0} {x : Result Reported Refusal} {out out' : List ℕ} (h : Steps P x out out') where
  pub step-printed : (p : Reported) → x ≡ Ok p → Prints P (printed p) out out'
  unfolding Steps
  step-printed p e = rw e at h

  pub step-refused : (q : Refusal) {r : Printed} {end : List ℕ} → x ≡ Err q → Prints (RefusedAs q) r out' end → Prints P r out end
  unfolding Steps
  step-refused q {r} {end} e p =
      let k = rw e at h in
      let i : Prints P r out' end = prints-as (λ a t i. rw (i.answered, i.printed) k.0) p in
      rw k.1 at i

-- a step that hands a refusal out
pub handed : (P : Result Report Refusal → List ℕ → Type 0) (x : Result Reported Refusal) (q : Refusal) (out : List ℕ) → IsErrAnd x (λ e. e ≡ q) → P (Err q) (refused_text q) → Steps P x out out
unfolding Steps
handed P x q out g h = rw (given g) (h, refl)

-- what holds of the answer and the text may be said otherwise
pub steps-as : {P Q : Result Report Refusal → List ℕ → Type 0} (x : Result Reported Refusal) (out out' : List ℕ) → ((a : Result Report Refusal) (t : List ℕ) → P a t → Q a t) → Steps P x out out' → Steps Q x out out'
unfolding Steps
steps-as (Err q) out out' f h = (f _ _ h.0, h.1)
steps-as (Ok p) out out' f h = prints-as f h
