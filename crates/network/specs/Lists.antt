-- Refusal 6 (document 01, 'Size and domain': 'Point lists (m+1 offsets from 0 to B, never falling, and B row numbers) name every bearing once,
-- under its own point'; R-6: 'any order under a point').
use Rattle.std.specs.Option.{is_none}
use Rattle.std.specs.Prelude.{ℕ, ◌+◌, ◌-◌, List, Bool, not, ◌&&◌, ◌||◌, get_or, eqb, ltb, leb}
use Rattle.field.specs.Count.{lowest, count_below}
use Rattle.network.specs.Network.{second_end}

-- none of 0, .. n - 1 has the property
unfoldable pub none : (ℕ → Bool) → ℕ → Bool
none p n = is_none (lowest p n)

-- offset p + 1 is below offset p
unfoldable pub falls : List ℕ → ℕ → Bool
falls offsets p = ltb (get_or offsets (p + 1) 0) (get_or offsets p 0)

-- m + 1 offsets from 0 to B, never falling
unfoldable pub offsets_rise : ℕ → ℕ → List ℕ → Bool
offsets_rise m b offsets = eqb (get_or offsets 0 0) 0 && (eqb (get_or offsets m 0) b && none (falls offsets) m)

-- the i-th row that point p lists, from place `start` on, is no bearing, or one of another point
unfoldable pub misplaced : ℕ → List ℕ → List ℕ → ℕ → ℕ → ℕ → Bool
misplaced b ends listed p start i =
    let row = get_or listed (start + i) 0 in
    leb b row || not (eqb (second_end ends row) p)

-- point p's list, from offset p up to offset p + 1, has such a row
unfoldable pub has_misplaced : ℕ → List ℕ → List ℕ → List ℕ → ℕ → Bool
has_misplaced b ends offsets listed p =
    not (none (misplaced b ends listed p (get_or offsets p 0)) (get_or offsets (p + 1) 0 - get_or offsets p 0))

-- how many of the first n places of the lists name row r
unfoldable pub named : List ℕ → ℕ → ℕ → ℕ
named listed r n = count_below (λ k. eqb (get_or listed k 0) r) n

-- of B bearings, row r is missing or repeated: not named exactly once in the B places of all the lists
unfoldable pub miscounted : ℕ → List ℕ → ℕ → Bool
miscounted b listed r = not (eqb (named listed r b) 1)

-- every bearing is named exactly once, under its own point
unfoldable pub lists_hold : ℕ → ℕ → List ℕ → List ℕ → List ℕ → Bool
lists_hold m b ends offsets listed =
    offsets_rise m b offsets && (none (has_misplaced b ends offsets listed) m && none (miscounted b listed) b)
