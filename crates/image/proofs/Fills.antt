-- Lists of numbers and doubles, filled from the front with what stands in an image. Assumes nothing.
use Prim.Native.Nat.{ℕ, ◌+◌, ◌*◌, ◌≤◌, ◌<◌}
use mathlib.Core.Path.{◌≡◌, sym, subst, ◌∙◌}
use mathlib.Core.List.{List}
use native.Mathlib.Omega.{arith}
use lib.ListN.{length, get_or}
use lib.Seq.{ext_get_or}
use lib.Ieee.{Float}
use Rattle.field.specs.Count.{field}
use Rattle.field.proofs.Counting.{length-field, get_or-field}
use Rattle.network.specs.declared.Shape.{Shape}
use Rattle.network.specs.Network.{rows}
use Rattle.network.specs.inner.Sound.{ContentLengths}
use Rattle.image.specs.Reading.{wholes_from, doubles_from}
use Rattle.image.specs.inner.Sound.{Readable, ContentFilled}

-- n numbers, the first k of which are g 0, g 1, .., and k is n or more
pub all-stored : {A : Type 0} (d : A) (g : ℕ → A) (l : List A) (n k : ℕ) → ((j : ℕ) → j < k → get_or l j d ≡ g j) → length l ≡ n → n ≤ k → l ≡ field n g
all-stored d g l n k h e i = ext_get_or d l (field n g) (e ∙ sym (length-field n g)) (λ j q. h j (omega arith) ∙ sym (get_or-field n g j d (omega arith)))

pub readable-list : (start stride group n k : ℕ) (l : List ℕ) → Readable start stride group n l → k ≡ n → Readable start stride group k l
readable-list start stride group n k l R e = subst (λ t. Readable start stride group t l) (sym e) R

-- ---- all five

pub all-filled : (at : ℕ) (s : Shape) (l es : List ℕ) (rs ws ss ps : List Float) {es' : List ℕ} {rs' ws' ss' ps' : List Float} → ContentLengths s es rs ws ss ps →
    es' ≡ wholes_from at 48 2 (length es) l → rs' ≡ doubles_from (at + 8) 48 3 (length rs) l → ws' ≡ doubles_from (at + 32) 48 1 (length ws) l →
    ss' ≡ doubles_from (at + 40) 48 1 (length ss) l → ps' ≡ doubles_from (at + 48 * rows s) 24 3 (length ps) l → ContentFilled at s l es' rs' ws' ss' ps'
all-filled at s l es rs ws ss ps L e r w c p = record {
  ends = rw L.ends at e;
  rays = rw L.domain.rays at r;
  weights = rw L.domain.weights at w;
  scales = rw L.domain.scales at c;
  positions = rw L.domain.positions at p;
}
