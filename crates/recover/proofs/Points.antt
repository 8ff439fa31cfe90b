-- Points: what is read of the work buffer, the sum over a point's list, and that it holds the network's own weights. Assumes nothing.
use Prim.Native.Nat.{ℕ, ◌+◌, ◌*◌, ◌≤◌, ◌<◌}
use mathlib.Core.Path.{◌≡◌, sym, ap, ◌∙◌}
use mathlib.Core.List.{List}
use mathlib.Core.Bool.{true, false}
use native.Mathlib.Nat.{zero-add}
use native.Mathlib.Numerals.{add-one}
use native.Mathlib.Omega.{arith}
use lib.ListN.{length, get_or}
use lib.Ieee.{Float, nan, lt}
use Rattle.field.specs.declared.Vec3.{Vec3}
use Rattle.field.specs.Vec.{at, origin, plus, scale, over}
use Rattle.field.specs.Count.{field}
use Rattle.field.specs.Buffer.{part, get, put, load, store, flat, vector}
use Rattle.field.proofs.Counting.{length-field, get_or-field, field-ext, upto-ext}
use Rattle.field.proofs.Buffers.{get_or-part, at_load, vector-lawful, map_more, store-whole}
use Rattle.network.specs.declared.Shape.{Shape}
use Rattle.network.specs.declared.Span.{Span}
use Rattle.network.specs.Network.{Network, network, links, links_of, rows, first_end, span, span_of, row_of}
use Rattle.network.specs.inner.Sound.{LinksSound}
use Rattle.system.specs.declared.CameraTerm.{CameraTerm}
use Rattle.system.specs.System.{Weights, tiny, pull, pull_in, pull_sum, weights_of}
use Rattle.system.specs.inner.Formed.{Segments, weights_in}
use Rattle.recover.specs.Recover.{sighting, point_by, points_by, points_of}

-- ---- one sighting

pub camera-at : (l : List Float) (a p n c : ℕ) (v : Vec3) → a ≡ p → c < n → v ≡ get vector l (a + 3 * c) → v ≡ at (load vector l p n) c
camera-at l a p n c v e h f = f ∙ rw (e, at_load vector l p n c origin h)

pub camera-weighted : (ends : List ℕ) (cs : List Vec3) (r c : ℕ) (u v : Vec3) (e x : Float) →
    c ≡ first_end ends r → u ≡ at cs c → e ≡ x → v ≡ scale u e → v ≡ scale (at cs (first_end ends r)) x
camera-weighted ends cs r c u v e x ec eu ee ev = ev ∙ rw (eu, ee, ec)

pub sighted : (e : ℕ → Float) (o : ℕ → Vec3) (ends : List ℕ) (cs : List Vec3) (r : ℕ) (u x v : Vec3) →
    u ≡ scale (at cs (first_end ends r)) (e r) → x ≡ o r → v ≡ plus u x → v ≡ sighting e o ends cs r
unfolding sighting
sighted e o ends cs r u x v eu ex ev = ev ∙ rw (eu, ex)

-- ---- one point

module _ (s : Shape) (ends : List ℕ) (rays weights scales points : List Float) (offsets listed : List ℕ) (w : Weights) (cs : List Vec3) (p : ℕ) where
  abbrev net : Network
  net = network s ends rays weights scales points offsets listed

  pub point-kept : (x : Float) (v : Vec3) → x ≡ w.point p → lt x tiny ≡ true → v ≡ get vector points (3 * p) → v ≡ point_by net w cs p
  unfolding point_by
  point-kept x v e t f = rw (← e, t) f

  pub point-new : (x : Float) (k : Span) (u v : Vec3) →
      x ≡ w.point p → lt x tiny ≡ false → k ≡ span_of offsets p → u ≡ pull_sum (sighting w.row (pull_in rays weights scales) ends cs) listed k → v ≡ over u x →
      v ≡ point_by net w cs p
  unfolding point_by
  point-new x k u v e t ek eu ev = rw (← e, t) (ev ∙ rw (eu, ek))

-- ---- all points, stored from the front

module _ (l : List Float) (g : ℕ → Vec3) where
  pub points-more : (p : ℕ) (w w' : List Float) (v : Vec3) → w ≡ store vector l 0 (field p g) → v ≡ g p → w' ≡ put vector w (3 * p) v → w' ≡ store vector l 0 (field (p + 1) g)
  points-more p w w' v e h f = f ∙ ap (λ (k : ℕ). put vector w k v) (sym (zero-add (3 * p))) ∙ rw add-one (map_more vector vector-lawful l 0 p g w v e h)

  pub points-ended : (p n : ℕ) (w : List Float) → w ≡ store vector l 0 (field p g) → p ≤ n → n ≤ p → length l ≡ 3 * n → w ≡ flat vector (field n g)
  points-ended p n w e a b h =
      let q : p ≡ n = omega arith in
      (rw q at e) ∙ store-whole vector vector-lawful l (field n g) (rw (length-field n g) h)

-- ---- a buffer that holds the network's segments holds its weights

-- an element of a part that is a field
read-field : (l : List Float) (p n : ℕ) (g : ℕ → Float) (i : ℕ) → part l p n ≡ field n g → i < n → get_or l (p + i) nan ≡ g i
read-field l p n g i e h = sym (get_or-part l p n i nan h) ∙ ap (λ (t : List Float). get_or t i nan) e ∙ get_or-field n g i nan h

module _ (net : Network) (t : List CameraTerm) (l : List Float) (cs : List Vec3) (L : LinksSound (links_of net)) (S : Segments net.shape (weights_of net) t l) where
  abbrev held : Weights
  held = weights_in net.shape l

  abbrev own : Weights
  own = weights_of net

  -- the sum reads the effective weights of bearings alone
  sum-held : (p : ℕ) → p < net.shape.points →
      pull_sum (sighting held.row (pull net) net.ends cs) net.listed (span net p) ≡ pull_sum (sighting own.row (pull net) net.ends cs) net.listed (span net p)
  unfolding pull_sum sighting
  sum-held p h = upto-ext _ _ (span net p).size origin (λ i v k.
      let place : (span net p).first + i < net.shape.bearings = omega (arith, L.offsets.rises p h, L.offsets.within (p + 1) (omega arith)) in
      let row : row_of net p i < rows net.shape = omega (arith, L.listed.bearing _ place) in
      let e : held.row (row_of net p i) ≡ own.row (row_of net p i) = read-field l _ _ own.row (row_of net p i) S.rows row in
      rw e)

  -- the points by the weights that the buffer holds are the network's
  pub points-held : points_by net held cs ≡ points_of net cs
  unfolding point_by
  points-held = field-ext net.shape.points (point_by net held cs) (point_by net own cs) (λ p h.
      let e : held.point p ≡ own.point p = read-field l _ _ own.point p S.points h in
      rw (e, sum-held p h))

-- what `recover_points` leaves, where the buffer holds the network's segments
pub points-recovered : (s : Shape) (ends : List ℕ) (rays weights scales points : List Float) (offsets listed : List ℕ) (t : List CameraTerm) (l : List Float)
    (cs : List Vec3) (out : List Float) →
    let net = network s ends rays weights scales points offsets listed in
    LinksSound (links s ends offsets listed) → Segments s (weights_of net) t l → out ≡ flat vector (points_by net (weights_in s l) cs) → out ≡ flat vector (points_of net cs)
points-recovered s ends rays weights scales points offsets listed t l cs out L S e =
    e ∙ ap (flat vector) (points-held (network s ends rays weights scales points offsets listed) t l cs L S)
