-- The bytes of the input fix the answer and the text. Assumes nothing.
use Rattle.std.proofs.Common.{Err, Ok, Result}
use Rattle.network.specs.declared.Refusal.{Refusal}
use Rattle.placement.specs.declared.Report.{Report}
use mathlib.Core.Path.{◌≡◌, refl, sym, ap, ap₂, ◌∙◌}
use mathlib.Core.List.{List}
use Prim.Native.Nat.{ℕ, ◌+◌}
use lib.ListN.{length}
use Rattle.field.specs.Buffer.{write}
use Rattle.network.specs.Refusals.{Verdict}
use Rattle.network.specs.Refusals.{verdict}
use Rattle.graph.specs.Distinct.{distinct}
use Rattle.graph.proofs.Unique.{labelled-unique}
use Rattle.network.specs.Network.{Content}
use Rattle.command.specs.declared.Printed.{Printed}
use Rattle.command.specs.Command.{graph_of, network_of, ending, lines, program_tests, ImageSolved, Outcome, OutcomeUnique, Prints, RunUnique}

solved-unique : (c : Content) (a b : Result Report Refusal) (t u : List ℕ) → ImageSolved c a t → ImageSolved c b u → (a ≡ b) × (t ≡ u)
solved-unique c a b t u s r =
    let e = labelled-unique (graph_of c) s.labels r.labels s.labelled r.labelled in
    (s.answered ∙ sym r.answered, s.printed ∙ ap (λ l. lines (network_of c) (distinct l) (ending (network_of c))) e ∙ sym r.printed)

by-verdict : (l : List ℕ) (a b : Result Report Refusal) (t u : List ℕ) → Outcome l a t → Outcome l b u → (v : Verdict) → verdict (program_tests l) ≡ v → (a ≡ b) × (t ≡ u)
by-verdict l a b t u s r (Err x) e =
    let p = s.refused x e in
    let q = r.refused x e in
    (p.0 ∙ sym q.0, p.1 ∙ sym q.1)
by-verdict l a b t u s r (Ok tt) e = solved-unique _ a b t u (s.passed e) (r.passed e)

pub outcome-unique : OutcomeUnique
outcome-unique = record { holds = λ l a b t u s r. by-verdict l a b t u s r (verdict (program_tests l)) refl }

prints-unique : (l b : List ℕ) (r s : Printed) (x y : List ℕ) → Prints (Outcome l) r b x → Prints (Outcome l) s b y → (r ≡ s) × (x ≡ y)
prints-unique l b r s x y p q =
    let u = outcome-unique.holds l r.answer s.answer p.text q.text p.holds q.holds in
    let n : r.length ≡ s.length = p.put.written.next ∙ ap (λ t. 0 + length t) u.1 ∙ sym q.put.written.next in (
      ap₂ (λ (a : Result Report Refusal) (k : ℕ). record { answer = a; length = k }) u.0 n,
      p.put.written.bytes ∙ ap (write b 0) u.1 ∙ sym q.put.written.bytes,
    )

pub run-unique : RunUnique
run-unique = record { holds = prints-unique }
