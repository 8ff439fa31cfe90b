-- How 6 is tested: place by place, with the rows named so far marked.
use Rattle.std.specs.Prelude.{ℕ, ◌+◌, ◌-◌, ◌≡◌, Bool, true, not, ◌||◌, List, eqb, leb, length, get_or}
use Rattle.field.specs.Count.{field}
use Rattle.network.specs.Network.{second_end}
use Rattle.network.specs.Lists.{named, none}

-- the row at place k of the lists, which stands under point p, is no bearing of p's, or has been named before
unfoldable pub unfit : ℕ → List ℕ → List ℕ → ℕ → ℕ → Bool
unfit b ends listed p k =
    let row = get_or listed k 0 in
    leb b row || (not (eqb (second_end ends row) p) || not (eqb (named listed row k) 0))

-- point p's list has such a row
unfoldable pub has_unfit : ℕ → List ℕ → List ℕ → List ℕ → ℕ → Bool
has_unfit b ends offsets listed p =
    not (none (λ i. unfit b ends listed p (get_or offsets p 0 + i)) (get_or offsets (p + 1) 0 - get_or offsets p 0))

-- What stands in the marks of b rows: b numbers, and where the first k places were fit, of each row how often these name it. That is 0 or 1, since
-- a row named before is not fit.
pub record Marked (b : ℕ) (listed : List ℕ) (fit : Bool) (k : ℕ) (marks : List ℕ) : Type 0 where
  pub size : length marks ≡ b
  pub counts : fit ≡ true → marks ≡ field b (λ r. named listed r k)
