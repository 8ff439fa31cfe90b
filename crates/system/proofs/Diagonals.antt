-- No diagonal of a network that passes 1 to 7 is below zero: specs/Diagonals. Assumes nothing.
use mathlib.Core.Path.{◌≡◌, refl}
use mathlib.Core.List.{List, [], ◌∷◌}
use mathlib.Core.Logic.{dite}
use mathlib.Core.Bool.{Bool, true, false, cond, not, ◌||◌}
use Prim.Native.Nat.{ℕ, zero, suc, ◌+◌, ◌<◌, ◌≤◌}
use native.Mathlib.Decide.{dec_lt}
use native.Mathlib.Omega.{arith}
use borrow.Author.Tests.{ltb-true, ltb-false}
use lib.Dec.{T}
use lib.ListN.{get_or, set, get_or-eq_default}
use lib.Ieee.{Float, binary64, add, mul, lt, le, fits, of_bits}
use lib.Ieee.Fits.{mul-fits}
use lib.Ieee.Scale.{finite}
use Rattle.double.specs.Sums.{nonneg}
use Rattle.double.proofs.Order.{nonneg-of-finite, nonneg-total, le-term-total, not-le}
use Rattle.double.proofs.Below.{not-lt-of-nonneg, not-below-mul, not-below-add, not-below-sub, not-above-one, nonneg-mul-positive, above_zero}
use Rattle.field.specs.Vec.{null}
use Rattle.field.specs.Count.{field}
use Rattle.field.proofs.Counting.{upto-invariant, get_or-field, length-field}
use Rattle.network.specs.declared.Shape.{Shape}
use Rattle.network.specs.Network.{Network, rows, first_end, second_end, is_bearing, links_of, span_of, row_at, weight_of, scale_of}
use Rattle.network.specs.inner.Sound.{NetworkSound}
use Rattle.network.proofs.Sound.{tests-sound, listed-under, weight-domain, scale-domain, row-domain, span-in}
use Rattle.system.specs.declared.CameraTerm.{CameraTerm}
use Rattle.system.specs.System.{Sums, tiny, ridge, effective_in, effective, weight_sum, point_weight, no_term, reduced_weight, sees, departs, arrives, term_at, add_bearing, add_direction}
use Rattle.system.specs.System.{assemble_row, assemble_rows, terms_by, terms, diagonal_of, sums_from, sums_of}
use Rattle.system.specs.Diagonals.{DiagonalsAboveZero}

-- ---- what every row keeps, every term has

module _ (P : CameraTerm → Type 0) where
  set_keeps : (ts : List CameraTerm) (a c : ℕ) (t : CameraTerm) → P t → P (term_at ts c) → P (term_at (set ts a t) c)
  set_keeps [] a c t p h = h
  set_keeps (x ∷ ts) zero zero t p h = p
  set_keeps (x ∷ ts) zero (suc c) t p h = h
  set_keeps (x ∷ ts) (suc a) zero t p h = h
  set_keeps (x ∷ ts) (suc a) (suc c) t p h = set_keeps ts a c t p h

  field-keeps : (n c : ℕ) → P no_term → P (term_at (field n (λ c. no_term)) c)
  field-keeps n c p =
      dite
      (dec_lt c n)
      (λ (l : c < n). rw (get_or-field n (λ (c : ℕ). no_term) c no_term l) p)
      (λ (l : c < n → ⊥). rw (get_or-eq_default (field n (λ (c : ℕ). no_term)) no_term {n = c} (rw length-field (omega arith))) p)

-- a property of terms that each bearing and each direction, at either end, keeps
pub record Kept (s : Shape) (ends : List ℕ) (S : Sums) (P : CameraTerm → Type 0) : Type 0 where
  pub start : P no_term
  pub seen : (r : ℕ) (t : CameraTerm) → r < s.bearings → P t →
      P (sees (S.weights.row r) (S.weights.point (second_end ends r)) (S.mean (second_end ends r)) (S.pull r) t)
  pub departed : (r : ℕ) (t : CameraTerm) → s.bearings ≤ r → r < rows s → P t → P (departs (S.weights.row r) (S.pull r) t)
  pub arrived : (r : ℕ) (t : CameraTerm) → s.bearings ≤ r → r < rows s → P t → P (arrives (S.weights.row r) (S.pull r) t)

module _ (s : Shape) (ends : List ℕ) (S : Sums) (P : CameraTerm → Type 0) (K : Kept s ends S P) where
  -- at every camera
  abbrev All : List CameraTerm → Type 0
  All ts = (c : ℕ) → P (term_at ts c)

  row_keeps : (r : ℕ) (ts : List CameraTerm) → r < rows s → All ts → All (assemble_row s ends r S ts)
  unfolding assemble_row add_bearing add_direction
  row_keeps r ts l h = go (is_bearing s r) refl
    where
      a : ℕ
      a = first_end ends r

      left : List CameraTerm
      left = set ts a (departs (S.weights.row r) (S.pull r) (term_at ts a))

      go : (b : Bool) → is_bearing s r ≡ b → All (cond b (add_bearing ends r S ts) (add_direction ends r S ts))
      go true e c = set_keeps P ts a c (sees _ _ _ _ _) (K.seen r (term_at ts a) (ltb-true _ _ e) (h a)) (h c)
      go false e c =
          let b = ltb-false _ _ e in
          let us : All left = λ d. set_keeps P ts a d _ (K.departed r (term_at ts a) b l (h a)) (h d) in
          set_keeps P left (second_end ends r) c _ (K.arrived r (term_at left (second_end ends r)) b l (us (second_end ends r))) (us c)

  pub terms-keep : (c : ℕ) → P (term_at (terms_by s ends S) c)
  unfolding assemble_rows
  terms-keep = upto-invariant (λ _ ts. All ts) (λ r. assemble_row s ends r S) (rows s) _ (λ r ts l h. row_keeps r ts l h) (λ c. field-keeps P s.cameras c K.start)

-- ---- the weights

module _ (net : Network) (N : NetworkSound net) where
  row-nonneg : (r : ℕ) → r < rows net.shape → nonneg (effective net r) ≡ true
  unfolding effective_in
  row-nonneg r l =
      let d = row-domain _ _ _ r (N.row r l) in
      let w = weight-domain net.weights r d.0 in
      let k = scale-domain net.scales r d.1 in
      nonneg-mul-positive binary64 (mul binary64 (weight_of net r) (scale_of net r)) (scale_of net r)
      (nonneg-mul-positive binary64 (weight_of net r) (scale_of net r) (nonneg-of-finite binary64 (weight_of net r) w.0 w.1) k.0 k.1) k.0 k.1

  row_fits : (r : ℕ) → T (fits binary64 (effective net r))
  unfolding effective_in
  row_fits r = mul-fits binary64 _ _

  module _ (r : ℕ) (l : r < net.shape.bearings) where
    abbrev p : ℕ
    p = second_end net.ends r

    -- the bearings that the point lists
    listed-row : (i : ℕ) → i < (span_of net.offsets p).size → row_at net.listed (span_of net.offsets p) i < rows net.shape
    listed-row i h =
        let k : p < net.shape.points = N.links.ends.point r l in
        let b = span-in net.shape.points net.shape.bearings net.offsets p N.links.offsets k in
        let c = N.links.listed.bearing (get_or net.offsets p 0 + i) (omega arith) in
        omega arith

    -- a bearing's effective weight is at most its point's weight, a number not below zero
    point-nonneg : nonneg (point_weight net p) ≡ true
    unfolding weight_sum of_bits sums_from
    point-nonneg = nonneg-total binary64 _ null (span_of net.offsets p).size refl (λ i h. row-nonneg _ (listed-row i h))

    row_within : le (effective net r) (point_weight net p) ≡ true
    unfolding weight_sum of_bits fits sums_from
    row_within =
        let u = listed-under (links_of net) N.links r l in
        let h = le-term-total binary64 (λ i. effective net (row_at net.listed (span_of net.offsets p) i)) null (span_of net.offsets p).size refl tt (λ i h. row-nonneg _ (listed-row i h)) (λ i h. row_fits _) u.0 u.1 in
        rw u.2 at h

    reduced : lt (reduced_weight (effective net r) (point_weight net p)) null ≡ false
    unfolding of_bits
    reduced =
        let e = effective net r in
        let w = point_weight net p in
        let n = row-nonneg r (omega arith) in
        not-below-mul binary64 e _ (not-lt-of-nonneg binary64 e n) (not-below-sub binary64 _ _ (not-above-one binary64 e w n point-nonneg row_within))

  -- ---- the diagonals

  abbrev NotBelow : CameraTerm → Type 0
  NotBelow t = lt t.diagonal null ≡ false

  plus-row : (r : ℕ) (d : Float) → r < rows net.shape → lt d null ≡ false → lt (add binary64 d (effective net r)) null ≡ false
  plus-row r d l h = not-below-add binary64 d (effective net r) h (not-lt-of-nonneg binary64 (effective net r) (row-nonneg r l))

  plus-bearing : (r : ℕ) (d : Float) (b : Bool) → r < net.shape.bearings → lt d null ≡ false →
      lt (cond b d (add binary64 d (reduced_weight (effective net r) (point_weight net (second_end net.ends r))))) null ≡ false
  plus-bearing r d true l h = h
  plus-bearing r d false l h = not-below-add binary64 d _ h (reduced r l)

  not-below : (c : ℕ) → NotBelow (term_at (terms net) c)
  unfolding sees departs arrives sums_from lt of_bits
  not-below =
      terms-keep net.shape net.ends (sums_of net) NotBelow
      (record {
        start = refl;
        seen = λ r t l h. plus-bearing r t.diagonal (lt (point_weight net (second_end net.ends r)) tiny) l h;
        departed = λ r t b l h. plus-row r t.diagonal l h;
        arrived = λ r t b l h. plus-row r t.diagonal l h;
      })

  ridged : (c : ℕ) → finite (diagonal_of (terms net) c) ≡ true → lt null (diagonal_of (terms net) c) ≡ true
  unfolding diagonal_of lt fits of_bits
  ridged c h = above_zero binary64 (term_at (terms net) c).diagonal ridge (not-below c) refl tt h

-- ---- the statement

module _ (d : Float) (h : finite d ≡ true → lt null d ≡ true) where
  is-above : (not (finite d) || lt null d) ≡ true
  is-above = go (finite d) refl
    where
      go : (b : Bool) → finite d ≡ b → (not b || lt null d) ≡ true
      go true e = h e
      go false e = refl

  is-nine : (not (finite d) || le d null) ≡ not (finite d)
  is-nine = go (finite d) refl
    where
      go : (b : Bool) → finite d ≡ b → (not b || le d null) ≡ not b
      go true e = not-le d null (h e)
      go false e = refl

pub diagonals-above-zero : DiagonalsAboveZero
diagonals-above-zero = record {
  above = λ net e c l. is-above (diagonal_of (terms net) c) (ridged net (tests-sound net e) c);
  test = λ net e c l. is-nine (diagonal_of (terms net) c) (ridged net (tests-sound net e) c);
}
