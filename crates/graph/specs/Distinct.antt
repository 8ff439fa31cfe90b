-- How many different numbers a list holds (document 01: 'and counts labels').
use Rattle.std.specs.Prelude.{ℕ, suc, List, [], ◌∷◌, Bool, false, cond, ◌||◌, eqb}

-- the list holds x
unfoldable pub occurs : ℕ → List ℕ → Bool
occurs x [] = false
occurs x (y ∷ l) = eqb x y || occurs x l

-- a number counts where the rest of the list does not hold it
unfoldable pub distinct : List ℕ → ℕ
distinct [] = 0
distinct (x ∷ l) = cond (occurs x l) (distinct l) (suc (distinct l))
