-- Laws of an image's head: what each test says, and what the pairs say where 21 passes. Assumes nothing.
use Rattle.network.specs.declared.Cause.TheVariants.{Head, Pairs}
use Rattle.std.proofs.Common.{None, Ok, Option, Some}
use Prim.Native.Nat.{ℕ, zero, suc, ◌+◌, ◌-◌, ◌≤◌, ◌<◌}
use mathlib.Core.Path.{◌≡◌, refl, sym, ap, ap₂, ◌∙◌}
use mathlib.Core.List.{List}
use mathlib.Core.Bool.{Bool, true, false, cond, not}
use native.Mathlib.Omega.{arith}
use native.Mathlib.Numerals.{sub-one}
use lib.ListN.{length, get_or}
use lib.Dec.{eqb}
use borrow.Author.Tests.{lt-ltb, le-ltb, eq-eqb, ne_eqb, eqb-true, ltb-false, not-false}
use Rattle.std.specs.Option.{option_or}
use Rattle.field.specs.Count.{lowest}
use Rattle.field.proofs.Counting.{none_of, lowest-zero, lowest-found}
use Rattle.double.proofs.Truth.{neither}
use Rattle.network.specs.Refusals.{Verdict}
use Rattle.network.specs.Refusals.{test, test_at}
use Rattle.network.proofs.Verdicts.{test-passed, test-at-passed}
use Rattle.network.specs.Network.{shape}
use Rattle.layout.specs.Bytes.{u16_at, u32_at}
use Rattle.layout.specs.Image.{head_size, sizes}
use Rattle.image.specs.Reading.{offset_at, length_at, start_of, shape_at}
use Rattle.image.specs.Tests.{bad_head, bad_offset, bad_pair, bad_length}

neither-place : (p q : Option ℕ) → option_or p q ≡ None → (p ≡ None) × (q ≡ None)
neither-place (Some i) q e = absurd (let z : ◌≡◌ {A = ℕ} 0 1 = cc in omega arith)
neither-place None q e = (refl, e)

ends-right : (i x y : ℕ) → cond (eqb x y) None (Some i) ≡ None → x ≡ y
ends-right i x y e = go (eqb x y) refl e
  where
    go : (b : Bool) → eqb x y ≡ b → cond b None (Some i) ≡ None → x ≡ y
    go true h f = eqb-true x y h
    go false h f = absurd (let z : ◌≡◌ {A = ℕ} 0 1 = cc in omega arith)

-- ---- 20

module _ (version k : ℕ) (l : List ℕ) where
  pub head-short : length l < head_size k → true ≡ bad_head version k l
  unfolding bad_head
  head-short h = rw (lt-ltb _ _ h)

  pub head-version : head_size k ≤ length l → {x : ℕ} → x ≡ u16_at l 0 → (x ≡ version → ⊥) → true ≡ bad_head version k l
  unfolding bad_head
  head-version h e n = rw (le-ltb _ _ h, ne_eqb (u16_at l 0) version (λ q. n (e ∙ q)))

  pub head-count : head_size k ≤ length l → {x y : ℕ} → x ≡ u16_at l 0 → x ≡ version → y ≡ u16_at l 2 → not (eqb y k) ≡ bad_head version k l
  unfolding bad_head
  head-count h e q f = rw (le-ltb _ _ h, eq-eqb (u16_at l 0) version (sym e ∙ q), f)

-- ---- 21

pub start_first : (k : ℕ) (l : List ℕ) (i : ℕ) → i ≡ 0 → head_size k ≡ start_of k l i
unfolding start_of
start_first k l i e = rw e

pub start-next : (k : ℕ) (l : List ℕ) (i : ℕ) {x y : ℕ} → (i ≡ 0 → ⊥) → x ≡ offset_at l (i - 1) → y ≡ length_at l (i - 1) → x + y ≡ start_of k l i
unfolding start_of
start-next k l zero n e f = absurd (n refl)
start-next k l (suc i) n e f = ap₂ ◌+◌ e f ∙ rw (sub-one (suc i))

pub offset-off : (k : ℕ) (l : List ℕ) (i : ℕ) {x y : ℕ} → x ≡ offset_at l i → y ≡ start_of k l i → not (eqb x y) ≡ bad_offset k l i
unfolding bad_offset
offset-off k l i e f = rw (e, f)

module _ (k : ℕ) (l : List ℕ) {x : Option ℕ} (e : x ≡ lowest (bad_offset k l) k) where
  pub pair-offset : (i : ℕ) → x ≡ Some i → Some i ≡ bad_pair k l
  unfolding bad_pair
  pair-offset i h = rw (sym e ∙ h)

  pub pair_end : (y : ℕ) → x ≡ None → y ≡ start_of k l k → y ≡ length l → None ≡ bad_pair k l
  unfolding bad_pair
  pair_end y h f g = rw (sym e ∙ h, eq-eqb (start_of k l k) (length l) (sym f ∙ g))

  pub pair-last : (y : ℕ) → x ≡ None → y ≡ start_of k l k → (y ≡ length l → ⊥) → Some (k - 1) ≡ bad_pair k l
  unfolding bad_pair
  pair-last y h f g = rw (sym e ∙ h, ne_eqb (start_of k l k) (length l) (λ q. g (f ∙ q)))

-- ---- 22

pub length-is : (sizes l : List ℕ) (i : ℕ) {x : ℕ} → x ≡ length_at l i → not (eqb x (get_or sizes i 0)) ≡ bad_length sizes l i
unfolding bad_length
length-is sizes l i e = rw e

-- ---- where 21 passes

module _ (k : ℕ) (l : List ℕ) (e : bad_pair k l ≡ None) where
  pub offsets-right : (i : ℕ) → i < k → offset_at l i ≡ start_of k l i
  unfolding bad_offset bad_pair
  offsets-right i h = eqb-true _ _ (not-false _ (none_of (bad_offset k l) k (neither-place _ _ e).0 i h))

  pub last-ends : start_of k l k ≡ length l
  unfolding bad_pair
  last-ends = ends-right (k - 1) _ _ (neither-place (lowest (bad_offset k l) k) _ e).1

  pub start-step : (i : ℕ) → i < k → start_of k l (suc i) ≡ start_of k l i + length_at l i
  unfolding start_of
  start-step i h = ap (λ t. t + length_at l i) (offsets-right i h)

  -- no section starts, or ends, past the end
  pub starts-within : (j i : ℕ) → i + j ≡ k → start_of k l i ≤ length l
  starts-within zero i q = let z : i ≡ k = omega arith in rw z (omega (arith, last-ends))
  starts-within (suc j) i q = omega (arith, start-step i (omega arith), starts-within j (suc i) (omega arith))

pub four-pairs : (l : List ℕ) → bad_pair 4 l ≡ None → length l ≡ 36 + (length_at l 0 + (length_at l 1 + (length_at l 2 + length_at l 3)))
four-pairs l e =
    let step = start-step 4 l e in
    omega (arith, start_first 4 l 0 refl, step 0 (omega arith), step 1 (omega arith), step 2 (omega arith), step 3 (omega arith), last-ends 4 l e)

pub shape_is : (p : ℕ) (l : List ℕ) {n m b e : ℕ} → n ≡ u32_at l p → m ≡ u32_at l (p + 4) → b ≡ u32_at l (p + 8) → e ≡ u32_at l (p + 12) → shape n m b e ≡ shape_at p l
shape_is p l h k q r = rw (h, k, q, r)

pub counts-there : (l : List ℕ) → bad_pair 4 l ≡ None → {x : ℕ} → x ≡ length_at l 0 → x ≡ 16 → 52 ≤ length l
counts-there l e f h = omega (arith, four-pairs l e)

pub section-first : (l : List ℕ) {x : ℕ} → x ≡ length_at l 0 → (x ≡ 16 → ⊥) → Some 0 ≡ lowest (bad_length (sizes (shape_at 36 l)) l) 4
unfolding bad_length
section-first l {x} e n =
    let p = bad_length (sizes (shape_at 36 l)) l in
    sym (lowest-found p 0 4 (lowest-zero p) (ap not (ne_eqb (length_at l 0) 16 (λ q. n (e ∙ q)))) (omega arith))

pub head-long : (version k : ℕ) (l : List ℕ) → bad_head version k l ≡ false → (head_size k ≤ length l) × (u16_at l 0 ≡ version) × (u16_at l 2 ≡ k)
unfolding bad_head
head-long version k l e =
    let a = neither _ _ e in
    let b = neither _ _ a.1 in
    (ltb-false _ _ a.0, eqb-true _ _ (not-false _ b.0), eqb-true _ _ (not-false _ b.1))

-- a function that made test 20, or 21, and goes on
pub head_passed : (version k n : ℕ) (l : List ℕ) {x : Verdict} {b : Bool} → x ≡ test Head b → x ≡ Ok tt → b ≡ bad_head version k l → head_size k ≡ n → n ≤ length l
head_passed version k n l e h q f = omega (arith, (head-long version k l (sym q ∙ test-passed Head _ (sym e ∙ h))).0)

pub pairs-passed : (k : ℕ) (l : List ℕ) {x : Verdict} {p : Option ℕ} → x ≡ test_at Pairs p → x ≡ Ok tt → p ≡ bad_pair k l → bad_pair k l ≡ None
pairs-passed k l e h q = sym q ∙ test-at-passed Pairs _ (sym e ∙ h)
