-- The marks: what they hold before, between and after the places of the lists. Assumes nothing.
use Prim.Native.Nat.{ℕ, ◌+◌, ◌≤◌, ◌<◌}
use mathlib.Core.Path.{◌≡◌, refl, sym, ap, ◌∙◌}
use mathlib.Core.List.{List}
use mathlib.Core.Bool.{Bool, true, false, not, true≢false}
use native.Mathlib.Omega.{arith}
use lib.ListN.{get_or, length, replicate, set}
use borrow.Author.Tests.{le-leb, lt-leb, eq-eqb, ne_eqb}
use Rattle.field.specs.Count.{field}
use Rattle.field.proofs.Counting.{get_or-field, field-same, length-field, set-field}
use Rattle.network.specs.Lists.{named}
use Rattle.network.specs.Network.{second_end}
use Rattle.network.specs.inner.Marks.{Marked, unfit}
use Rattle.network.proofs.PointLists.{named_here, named_other, named-zero}

module _ {b : ℕ} {listed marks : List ℕ} where
  -- where a place was not fit, nothing more is said
  pub marks-fail : {fit : Bool} {k : ℕ} (j : ℕ) → Marked b listed fit k marks → Marked b listed false j marks
  marks-fail j M = record { size = M.size; counts = λ q. absurd (true≢false (sym q)) }

  pub marks-at : {fit x : Bool} {k j : ℕ} → Marked b listed fit k marks → fit ≡ x → k ≡ j → Marked b listed x j marks
  marks-at M e f = rw (← e, ← f) M

-- before the first place
pub marks-none : (b : ℕ) (listed marks : List ℕ) {n : ℕ} → n ≡ b → marks ≡ replicate n 0 → Marked b listed true 0 marks
marks-none b listed marks h e =
    let g : marks ≡ field b (λ r. named listed r 0) = e ∙ ap (λ m. replicate m 0) h ∙ sym (field-same b _ 0 (λ r. named-zero listed r)) in
    record { size = ap length g ∙ length-field b _; counts = λ q. g }

-- ---- the row at place k, under point p

module _ (b : ℕ) (ends listed marks : List ℕ) (p k : ℕ) (M : Marked b listed true k marks) where
  mark-is : get_or listed k 0 < b → get_or marks (get_or listed k 0) 0 ≡ named listed (get_or listed k 0) k
  mark-is l = rw (M.counts refl) (get_or-field b _ (get_or listed k 0) 0 l)

  pub row-past : b ≤ get_or listed k 0 → false ≡ not (unfit b ends listed p k)
  unfolding unfit
  row-past h = rw (le-leb _ _ h)

  pub row_other : get_or listed k 0 < b → (second_end ends (get_or listed k 0) ≡ p → ⊥) → false ≡ not (unfit b ends listed p k)
  unfolding unfit
  row_other l h = rw (lt-leb _ _ l, ne_eqb _ _ h)

  pub row-again : get_or listed k 0 < b → second_end ends (get_or listed k 0) ≡ p → (get_or marks (get_or listed k 0) 0 ≡ 0 → ⊥) → false ≡ not (unfit b ends listed p k)
  unfolding unfit
  row-again l h n = rw (lt-leb _ _ l, eq-eqb _ _ h, ne_eqb _ _ (λ z. n (mark-is l ∙ z)))

  pub row_first : get_or listed k 0 < b → second_end ends (get_or listed k 0) ≡ p → get_or marks (get_or listed k 0) 0 ≡ 0 → true ≡ not (unfit b ends listed p k)
  unfolding unfit
  row_first l h z = rw (lt-leb _ _ l, eq-eqb _ _ h, eq-eqb _ _ (sym (mark-is l) ∙ z))

  pub row-marked : get_or listed k 0 < b → get_or marks (get_or listed k 0) 0 ≡ 0 → Marked b listed true (k + 1) (set marks (get_or listed k 0) 1)
  row-marked l z =
      let row = get_or listed k 0 in
      let one : named listed row (k + 1) ≡ 1 = let n = named_here listed k in let m = mark-is l in omega arith in
      let f = set-field b (λ r. named listed r k) (λ r. named listed r (k + 1)) row l (λ j i q. sym (named_other listed j k q)) in
      let g : set marks row 1 ≡ field b (λ r. named listed r (k + 1)) = rw (M.counts refl) (rw one at f) in
      record { size = ap length g ∙ length-field b _; counts = λ q. g }
