-- The weights that stand in the buffer, and the network's. Assumes nothing.
use mathlib.Core.Path.{ap, sym, ◌∙◌, ◌≡◌}
use mathlib.Core.List.{List}
use Prim.Native.Nat.{ℕ, ◌*◌, ◌+◌, ◌<◌}
use native.Mathlib.Omega.{arith}
use lib.ListN.{drop, get_or}
use lib.Seq.{get_or-drop}
use lib.Ieee.{Float, nan}
use Rattle.field.specs.Buffer.{get, vector}
use Rattle.field.specs.declared.Vec3.{Vec3}
use Rattle.network.specs.Network.{Links, first_end}
use Rattle.network.specs.inner.Sound.{LinksSound}
use Rattle.network.specs.declared.Shape.{Shape}
use Rattle.system.specs.System.{Weights}
use Rattle.system.specs.Work.{effective_at, weights_at}
use Rattle.system.specs.declared.CameraTerm.{CameraTerm}
use Rattle.system.specs.inner.Formed.{Segments, weights_in}
use Rattle.system.proofs.Forming.{held_at}
use Rattle.operator.proofs.OperatorLaws.{reduced-same}
use Rattle.operator.specs.Operator.{reduced_by}
use Rattle.operator.specs.inner.Applied.{Seen}

-- where weights w stand in the buffer, what is applied is their operator
pub reduced-held : (L : Links) (w : Weights) (t : List CameraTerm) (l : List Float) → LinksSound L → Segments L.shape w t l → (a : ℕ) (x : List Vec3) →
    reduced_by L (weights_in L.shape l) a x ≡ reduced_by L w a x
reduced-held L w t l S G a x =
    reduced-same L S a (weights_in L.shape l) w
    (λ r h. held_at l _ _ r w.row G.rows h) (λ p h. held_at l _ _ p w.point G.points h) x

pub seen_done : (s : Shape) (ends listed : List ℕ) (l : List Float) (from k r c : ℕ) (e : Float) (x : Vec3) →
    r ≡ get_or listed k 0 → c ≡ first_end ends r → c < s.cameras → e ≡ (weights_in s l).row r → x ≡ get vector l (from + 3 * c) →
    Seen s ends l from (get_or listed k 0) (record { camera = c; weight = e; at = x })
seen_done s ends listed l from k r c e x er ec h ee ex = record { camera = rw (← er) ec; below = h; weight = rw (← er) ee; at = rw (← er, ← ec) ex }

-- ---- the weights, in a buffer whose numbers from the point weights on are the same

pub weights-kept : (s : Shape) (l w : List Float) → drop (weights_at s) w ≡ drop (weights_at s) l → weights_in s w ≡ weights_in s l
weights-kept s l w e =
    let n = weights_at s in
    let at : (k : ℕ) → get_or w (n + k) nan ≡ get_or l (n + k) nan = λ k. sym (get_or-drop n w k nan) ∙ ap (λ (t : List Float). get_or t k nan) e ∙ get_or-drop n l k nan in
    let row : (r : ℕ) → get_or w (effective_at s + r) nan ≡ get_or l (effective_at s + r) nan = λ r.
    let q : effective_at s + r ≡ n + (4 * s.points + r) = omega arith in
    rw q (at (4 * s.points + r)) in
    λ i. record { row = λ r. row r i; point = λ p. at p i }
