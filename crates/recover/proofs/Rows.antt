-- What the functions of one row answer, from what their calls answer. Assumes nothing.
use Prim.Native.Nat.{ℕ, ◌+◌, ◌*◌, ◌≤◌, ◌<◌}
use mathlib.Core.Path.{◌≡◌, sym, ap, ◌∙◌}
use mathlib.Core.List.{List}
use mathlib.Core.Bool.{Bool, true, false}
use native.Mathlib.Nat.{zero-add, one-mul}
use native.Mathlib.Omega.{arith}
use lib.ListN.{length, get_or, set}
use lib.Ieee.{Float, nan, binary64, div, lt}
use borrow.Author.Tests.{lt-ltb, le-ltb, ne_eqb}
use Rattle.field.specs.declared.Vec3.{Vec3}
use Rattle.field.specs.Vec.{at, minus, dot}
use Rattle.field.specs.Count.{field}
use Rattle.field.specs.Buffer.{get, store, number, vector}
use Rattle.field.proofs.Counting.{length-field}
use Rattle.field.proofs.Buffers.{number-lawful, store-whole, flat-number}
use Rattle.double.specs.Double.{greater}
use Rattle.network.specs.declared.Shape.{Shape}
use Rattle.network.specs.Network.{first_end, second_end}
use Rattle.system.specs.System.{tiny}
use Rattle.system.proofs.Sums.{numbers_more}
use Rattle.recover.specs.declared.Scale.{Scale}
use Rattle.recover.specs.declared.Scale.TheVariants.{Kept, Renewed}
use Rattle.recover.specs.Recover.{near_end, far_end, baseline_in, dot_in, direction_kept, least, renewal, answer_in, scale_number, new_scale_in}

-- ---- the baseline and the dot

pub near-is : (ends : List ℕ) (cs : List Vec3) (r c : ℕ) (v : Vec3) → c ≡ first_end ends r → v ≡ at cs c → v ≡ near_end ends cs r
unfolding near_end
near-is ends cs r c v e f = f ∙ rw e

module _ (s : Shape) (ends : List ℕ) (points : List Float) (cs : List Vec3) (r : ℕ) where
  pub far-bearing : (q : ℕ) (v : Vec3) → r < s.bearings → q ≡ second_end ends r → v ≡ get vector points (3 * q) → v ≡ far_end s ends points cs r
  unfolding far_end
  far-bearing q v h e f = rw (lt-ltb _ _ h) (f ∙ rw e)

  pub far-direction : (q : ℕ) (v : Vec3) → s.bearings ≤ r → q ≡ second_end ends r → v ≡ at cs q → v ≡ far_end s ends points cs r
  unfolding far_end
  far-direction q v h e f = rw (le-ltb _ _ h) (f ∙ rw e)

  pub baseline-is : (a u v : Vec3) → a ≡ near_end ends cs r → u ≡ far_end s ends points cs r → v ≡ minus u a → v ≡ baseline_in s ends points cs r
  unfolding baseline_in
  baseline-is a u v e f g = g ∙ rw (e, f)

  module _ (rays : List Float) where
    pub dot-is : (v d : Vec3) (x : Float) → v ≡ get vector rays (3 * r) → d ≡ baseline_in s ends points cs r → x ≡ dot v d → x ≡ dot_in s ends rays points cs r
    unfolding dot_in
    dot-is v d x e f g = g ∙ rw (e, f)

    -- one more dot is stored, and all of them are
    pub dots-more : (l w : List Float) (x : Float) → let g = dot_in s ends rays points cs in w ≡ store number l 0 (field r g) → x ≡ g r → set w r x ≡ store number l 0 (field (r + 1) g)
    dots-more l w x e h =
        ap (λ (k : ℕ). set w k x) (sym (zero-add r)) ∙ numbers_more l 0 r (dot_in s ends rays points cs) w x e h

    pub dots-ended : (l w : List Float) (n : ℕ) → let g = dot_in s ends rays points cs in w ≡ store number l 0 (field r g) → r ≤ n → n ≤ r → length l ≡ n → w ≡ field n g
    dots-ended l w n e a b h =
        let g = dot_in s ends rays points cs in
        let q : r ≡ n = omega arith in
        (rw q at e) ∙ store-whole number number-lawful l (field n g) (rw (length-field n g, one-mul) h) ∙ flat-number (field n g)

    -- ---- the scale answer

    pub answer-kept : (keeps : Bool) → keeps ≡ true → Kept ≡ answer_in keeps s ends rays points cs r
    unfolding answer_in
    answer-kept keeps t = rw t

    pub answer-new : (keeps : Bool) (v d : Vec3) (a : Scale) →
        keeps ≡ false → v ≡ get vector rays (3 * r) → d ≡ baseline_in s ends points cs r → a ≡ renewal v d → a ≡ answer_in keeps s ends rays points cs r
    unfolding answer_in
    answer-new keeps v d a t e f g = rw t (g ∙ rw (e, f))

    -- it is stored
    pub row-stored : (scales : List Float) (keeps : Bool) (a : Scale) (l w : List Float) →
        a ≡ answer_in keeps s ends rays points cs r → w ≡ set l r (scale_number (get_or scales r nan) a) → w ≡ set l r (new_scale_in keeps s ends rays scales points cs r)
    unfolding new_scale_in
    row-stored scales keeps a l w e f = f ∙ rw e

module _ (v d : Vec3) (q : Float) where
  pub renewal-kept : q ≡ dot d d → lt q tiny ≡ true → Kept ≡ renewal v d
  unfolding renewal
  renewal-kept e t = rw (← e, t)

  pub renewal-new : (p x : Float) → q ≡ dot d d → lt q tiny ≡ false → p ≡ dot v d → x ≡ greater (div binary64 p q) least → Renewed x ≡ renewal v d
  unfolding renewal
  renewal-new p x e t f g = rw (← e, t, g, f)

-- ---- what is stored for an answer

pub put-kept : (l : List Float) (r : ℕ) (old : Float) (a : Scale) → a ≡ Kept → set l r old ≡ set l r (scale_number old a)
put-kept l r old a e = rw e

pub put-new : (l : List Float) (r : ℕ) (old x : Float) (a : Scale) → a ≡ Renewed x → set l r x ≡ set l r (scale_number old a)
put-new l r old x a e = rw e

-- ---- whether a direction's weight keeps its scale

pub direction-first : (b : ℕ) (w : Float) → b ≡ 0 → lt w tiny ≡ direction_kept b w
unfolding direction_kept
direction-first b w e = rw e

pub direction-later : (b : ℕ) (w : Float) → (b ≡ 0 → ⊥) → false ≡ direction_kept b w
unfolding direction_kept
direction-later b w h = rw (ne_eqb b 0 h)
