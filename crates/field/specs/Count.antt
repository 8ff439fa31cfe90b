-- Counting: steps taken in order, lists made place by place, the lowest place with a property, and how many have one.
-- (Document 01, 'Arithmetic of the step': 'sums start at +0.0 and go in row order'; 'Refused calls': 'each at its lowest place'.)
use Rattle.std.specs.Int.{from_bool}
use Rattle.std.specs.Option.{option_map, option_or}
use Rattle.std.specs.Prelude.{None, Option, Some}
use Rattle.std.specs.Prelude.{ℕ, zero, suc, ◌+◌, List, [], ◌∷◌, ◌++◌, Bool, cond}

-- s after f at 0, 1, .. k - 1, in that order
unfoldable pub upto {ℓ} : {S : Type ℓ} → (ℕ → S → S) → ℕ → S → S
upto f zero s = s
upto f (suc k) s = f k (upto f k s)

-- g 0, g 1, .. g (k - 1)
unfoldable pub field {ℓ} : {A : Type ℓ} → ℕ → (ℕ → A) → List A
field zero g = []
field (suc k) g = field k g ++ (g k ∷ [])

-- the lowest of 0, .. k - 1 with the property p
unfoldable pub lowest : (ℕ → Bool) → ℕ → Option ℕ
lowest p zero = None
lowest p (suc k) = option_or (lowest p k) (cond (p k) (Some k) None)

-- a place of a range, where the range starts at n
abbrev pub shift : ℕ → Option ℕ → Option ℕ
shift n = option_map (λ i. n + i)

-- g 0 + g 1 + .. + g (k - 1), in whole numbers
unfoldable pub sum_below : (ℕ → ℕ) → ℕ → ℕ
sum_below g zero = 0
sum_below g (suc k) = sum_below g k + g k

-- how many of 0, .. k - 1 have the property p
unfoldable pub count_below : (ℕ → Bool) → ℕ → ℕ
count_below p k = sum_below (λ i. from_bool (p i)) k
