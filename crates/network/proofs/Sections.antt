-- Laws of places that are counted through sections. Assumes nothing.
use Rattle.std.proofs.Common.{None, Option, Some}
use mathlib.Core.Path.{◌≡◌, refl, sym, ap, ap₂, ◌∙◌}
use mathlib.Core.List.{List, [], ◌∷◌, ◌++◌}
use mathlib.Core.Bool.{Bool, false}
use Prim.Native.Nat.{ℕ, ◌+◌, ◌<◌}
use native.Mathlib.Omega.{arith}
use Rattle.std.specs.Option.{option_or}
use Rattle.field.specs.Count.{lowest, shift}
use Rattle.field.proofs.Counting.{none_of, found}
use Rattle.network.specs.Refusals.{Section, section, running}

-- a place that is found is below the count
pub found_below : (p : ℕ → Bool) (n : ℕ) {x : Option ℕ} {i : ℕ} → x ≡ lowest p n → x ≡ Some i → i < n
found_below p n {i = i} e h = (found p n i (sym e ∙ h)).1

-- the first section has a bad place, or is passed
pub running-here : (n : ℕ) (p : ℕ → Bool) (ss : List Section) {x : Option ℕ} {i : ℕ} → x ≡ lowest p n → x ≡ Some i → Some i ≡ running (section n p ∷ ss)
unfolding running
running-here n p ss e h = sym (ap (λ t. option_or t (shift n (running ss))) (sym e ∙ h))

pub running-later : (n : ℕ) (p : ℕ → Bool) (ss : List Section) {x y : Option ℕ} → x ≡ lowest p n → x ≡ None → y ≡ running ss → shift n y ≡ running (section n p ∷ ss)
unfolding running
running-later n p ss e h k = ap (shift n) k ∙ sym (ap (λ t. option_or t (shift n (running ss))) (sym e ∙ h))

-- a place behind sections that follow one another
abbrev past : List Section → Option ℕ → Option ℕ
past [] p = p
past (s ∷ ss) p = shift s.count (past ss p)

shift-else : (n : ℕ) (x y : Option ℕ) → shift n (option_or x y) ≡ option_or (shift n x) (shift n y)
shift-else n (Some i) y = refl
shift-else n None y = refl

else-assoc : (x y z : Option ℕ) → option_or x (option_or y z) ≡ option_or (option_or x y) z
else-assoc (Some i) y z = refl
else-assoc None y z = refl

running_more : (ss ts : List Section) → running (ss ++ ts) ≡ option_or (running ss) (past ss (running ts))
unfolding running
running_more [] ts = refl
running_more (s ∷ ss) ts =
    ap (λ (p : Option ℕ). option_or (lowest s.bad s.count) (shift s.count p)) (running_more ss ts)
    ∙ ap (option_or (lowest s.bad s.count)) (shift-else s.count (running ss) (past ss (running ts)))
    ∙ else-assoc (lowest s.bad s.count) (shift s.count (running ss)) (shift s.count (past ss (running ts)))

pub running_none : None ≡ running []
unfolding running
running_none = refl

-- no place is bad: none of the first section, and none of the others
split : (n : ℕ) (x y : Option ℕ) → option_or x (shift n y) ≡ None → (x ≡ None) × (y ≡ None)
split n (Some i) y e = absurd (let z : ◌≡◌ {A = ℕ} 0 1 = cc in omega arith)
split n None (Some i) e = absurd (let z : ◌≡◌ {A = ℕ} 0 1 = cc in omega arith)
split n None None e = (refl, refl)

pub running-passed : (n : ℕ) (p : ℕ → Bool) (ss : List Section) → running (section n p ∷ ss) ≡ None → ((k : ℕ) → k < n → p k ≡ false) × (running ss ≡ None)
unfolding running
running-passed n p ss e = let h = split n _ _ e in (none_of p n h.0, h.1)

-- ---- functions that count through: the places x, y, .. that they got of the sections

module _ (m n : ℕ) (p q : ℕ → Bool) (x : Option ℕ) (e : x ≡ lowest p m) where
  pub first-of-two : (i : ℕ) → x ≡ Some i → Some i ≡ running (section m p ∷ section n q ∷ [])
  first-of-two i h = running-here m p _ e h

  pub second-of-two : (y : Option ℕ) (i : ℕ) → x ≡ None → y ≡ lowest q n → y ≡ Some i → Some (m + i) ≡ running (section m p ∷ section n q ∷ [])
  second-of-two y i h f k = running-later m p _ e h (running-here n q _ f k)

  pub none_of_two : (y : Option ℕ) → x ≡ None → y ≡ lowest q n → y ≡ None → None ≡ running (section m p ∷ section n q ∷ [])
  none_of_two y h f k = running-later m p _ e h (running-later n q _ f k running_none)

-- two sections, and then a third
module _ (m n l : ℕ) (p q t : ℕ → Bool) (x : Option ℕ) (e : x ≡ running (section m p ∷ section n q ∷ [])) where
  pub before-third : (i : ℕ) → x ≡ Some i → Some i ≡ running (section m p ∷ section n q ∷ section l t ∷ [])
  before-third i h = sym (running_more (section m p ∷ section n q ∷ []) (section l t ∷ []) ∙ ap (λ (y : Option ℕ). option_or y (shift m (shift n (running (section l t ∷ []))))) (sym e ∙ h))

  pub third : (y : Option ℕ) (i : ℕ) → x ≡ None → y ≡ lowest t l → y ≡ Some i → Some (m + (n + i)) ≡ running (section m p ∷ section n q ∷ section l t ∷ [])
  third y i h f k = sym (running_more (section m p ∷ section n q ∷ []) (section l t ∷ []) ∙ ap₂ (λ (y z : Option ℕ). option_or y (shift m (shift n z))) (sym e ∙ h) (sym (running-here l t [] f k)))

  pub none-of-three : (y : Option ℕ) → x ≡ None → y ≡ lowest t l → y ≡ None → None ≡ running (section m p ∷ section n q ∷ section l t ∷ [])
  none-of-three y h f k = sym (running_more (section m p ∷ section n q ∷ []) (section l t ∷ [])
      ∙ ap₂ (λ (y z : Option ℕ). option_or y (shift m (shift n z))) (sym e ∙ h) (sym (running-later l t [] f k running_none)))
