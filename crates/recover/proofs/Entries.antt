-- Entry points: what the tests show that a call passes, and what it leaves. Assumes nothing.
use Rattle.std.proofs.Common.{Err, Ok, Result}
use Rattle.std.specs.Result.{result_and}
use Prim.Native.Nat.{ℕ, ◌*◌}
use native.Mathlib.Omega.{arith}
use mathlib.Core.Path.{◌≡◌, refl, sym, ap, ◌∙◌}
use mathlib.Core.List.{List, [], ◌∷◌}
use mathlib.Core.Bool.{Bool, true, ◌&&◌}
use lib.ListN.{length}
use lib.Ieee.{Float}
use borrow.Author.Tests.{eqb-true}
use Rattle.double.proofs.Truth.{both_true}
use Rattle.field.specs.declared.Vec3.{Vec3}
use Rattle.field.specs.Buffer.{vectors_in}
use Rattle.network.specs.declared.Shape.{Shape}
use Rattle.network.specs.Refusals.{Verdict}
use Rattle.network.specs.declared.Refusal.{Refusal}
use Rattle.network.specs.Network.{Network, rows}
use Rattle.network.specs.Refusals.{verdict, count_tests, length_tests, network_fits, network_row_tests, marks_after, section, bad_vector}
use Rattle.network.specs.inner.Sound.{NetworkLengths}
use Rattle.network.proofs.Verdicts.{stage-passed, passes-in}
use Rattle.network.proofs.Sound.{counts-sound, lengths-fit, vectors-fit, network-fits, network-sound}
use Rattle.recover.specs.Part.{marked}
use Rattle.recover.specs.Calls.{PlacedNetwork, placed, chosen, cameras_of, buffers_fit, lent_fits, placed_tests, placed_verdict, early_verdict, Filled}
use Rattle.recover.specs.inner.Reads.{Sites, SitesSound, sites, entered}
use Rattle.recover.proofs.Cameras.{length_marked}

-- ---- what 3 shows

buffers-fit : (s : Shape) (marks : ℕ) (current trial : List Float) (room : ℕ) → buffers_fit s marks current trial room ≡ true →
    (marks ≡ s.bearings) × (length current ≡ 3 * s.cameras) × (length trial ≡ 3 * s.cameras) × (room ≡ rows s)
unfolding buffers_fit
buffers-fit s marks current trial room e =
    let g = both_true _ _ e in
    let h = both_true _ _ g.1 in
    let k = both_true _ _ h.1 in
    (eqb-true _ _ g.0, vectors-fit _ _ h.0, vectors-fit _ _ k.0, eqb-true _ _ k.1)

module _ (net : Network) (marks : ℕ) (current trial : List Float) (room : ℕ) (v : Verdict) where
  abbrev s : Shape
  s = net.shape

  -- of the network, of the marks, and of the marked cameras l
  pub lengths-measured : (mark : Bool) (l : List Float) →
      v ≡ verdict (length_tests (network_fits net && buffers_fit s marks current trial room)) → v ≡ Ok tt → l ≡ marked current trial mark →
      NetworkLengths net × ((marks ≡ s.bearings) × (length l ≡ 3 * s.cameras))
  lengths-measured mark l e p q =
      let f = both_true (network_fits net) _ (lengths-fit _ (sym e ∙ p)) in
      let g = buffers-fit s marks current trial room f.1 in
      (network-fits net f.0, (g.0, ap length q ∙ length_marked current trial mark _ g.1 g.2))

  -- ---- one after another

  pub placed-checked : (mark : Bool) (l : List Float) (x y : Verdict) →
      x ≡ verdict (count_tests s) → x ≡ Ok tt → v ≡ verdict (length_tests (network_fits net && buffers_fit s marks current trial room)) → v ≡ Ok tt →
      l ≡ marked current trial mark → y ≡ verdict (network_row_tests net (section s.cameras (bad_vector l) ∷ [])) → y ≡ placed_verdict (placed net marks current trial mark room)
  unfolding placed_tests
  placed-checked mark l x y e p f q h k = passes-in (count_tests s) _ e p (passes-in (length_tests _) _ f q (k ∙ rw h))

-- ---- what a passed call goes on with, and what it leaves

module _ (i : PlacedNetwork) where
  -- of the marked cameras, and of the output's length
  pub sites-sound : placed_verdict i ≡ Ok tt → SitesSound (sites i.net (chosen i)) × (i.room ≡ rows i.net.shape)
  unfolding placed_tests
  sites-sound p =
      let net = i.net in
      let s = net.shape in
      let a = stage-passed (count_tests s) _ p in
      let b = stage-passed (length_tests (lent_fits i)) _ a.1 in
      let f = both_true (network_fits net) _ (lengths-fit _ b.0) in
      let g = buffers-fit s i.marks i.current i.trial i.room f.1 in (
        record {
          sound = (network-sound net (section s.cameras (bad_vector (chosen i)) ∷ []) (counts-sound s a.0) f.0 b.1).0;
          cameras = length_marked i.current i.trial i.mark _ g.1 g.2;
        },
        g.3,
      )

-- as it is refused, and as it goes on
pub turned-away : (i : PlacedNetwork) {r : Refusal} → Err r ≡ placed_verdict i → ◌≡◌ {A = Result Sites Refusal} (Err r) (entered i)
unfolding entered
turned-away i h = rw (← h)

pub let-in : (i : PlacedNetwork) {y : Sites} → placed_verdict i ≡ Ok tt → y ≡ sites i.net (chosen i) → Ok y ≡ entered i
unfolding entered
let-in i p e = rw (p, e)

-- and back: what the tests said
told-apart : {y : Sites} {r : Refusal} → ◌≡◌ {A = Result Sites Refusal} (Ok y) (Err r) → ⊥
told-apart e = let z : ◌≡◌ {A = ℕ} 0 1 = cc in omega arith

refused-and : (v : Verdict) (y : Sites) {r : Refusal} → result_and v (Ok y) ≡ Err r → v ≡ Err r
refused-and (Err r) y e = cc
refused-and (Ok u) y e = absurd (told-apart e)

passed-and : (v : Verdict) (y : Sites) {z : Sites} → result_and v (Ok y) ≡ Ok z → (v ≡ Ok tt) × (z ≡ y)
passed-and (Err r) y e = absurd (told-apart (sym e))
passed-and (Ok u) y e = (refl, cc)

module _ (i : PlacedNetwork) {x : Result Sites Refusal} (e : x ≡ entered i) where
  refused-is : {r : Refusal} → x ≡ Err r → placed_verdict i ≡ Err r
  unfolding entered
  refused-is h = refused-and (placed_verdict i) _ (sym e ∙ h)

  passed-is : {y : Sites} → x ≡ Ok y → (placed_verdict i ≡ Ok tt) × (y ≡ sites i.net (chosen i))
  unfolding entered
  passed-is h = passed-and (placed_verdict i) _ (sym e ∙ h)

  -- the output has a number for each row
  pub room-is : {y : Sites} {k : ℕ} → x ≡ Ok y → k ≡ i.room → k ≡ rows y.net.shape
  room-is h o = let p = passed-is h in rw p.1 (o ∙ (sites-sound i p.0).1)

  module _ {marks marks' : List ℕ} (k : marks' ≡ marks_after (early_verdict i) i.net.shape.bearings marks) where
    pub left-refused : {r : Refusal} (xs out : List Float) → x ≡ Err r → Filled i xs (Err r) marks marks' out out
    left-refused xs out h = let p = refused-is h in record { answer = sym p; output = rw p; marks_out = k }

    pub left-filled : {y : Sites} (f : Network → List Vec3 → List Float) (out : List Float) {out' : List Float} → x ≡ Ok y → out' ≡ f y.net (vectors_in y.cameras) →
        Filled i (f i.net (cameras_of i)) (Ok tt) marks marks' out out'
    left-filled f out h o = let p = passed-is h in record { answer = sym p.0; output = rw p.0 (rw p.1 at o); marks_out = k }
