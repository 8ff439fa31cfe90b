-- The reduced camera system, matrix-free (document 01, 'Iterative'; the Rust's `ReducedOperator`): the points are eliminated on the way.
use Rattle.std.specs.Prelude.{List, cond, ℕ, ◌+◌, eqb, set, Float}
use Rattle.std.specs.Float.Ieee.{lt}
use Rattle.field.specs.Count.{field, upto}
use Rattle.field.specs.Vec.{at, minus, origin, over, plus, scale}
use Rattle.field.specs.declared.Vec3.{Vec3}
use Rattle.network.specs.Network.{Links, Network, first_end, links_of, row_at, second_end, span_of}
use Rattle.network.specs.declared.Span.{Span}
use Rattle.system.specs.System.{Weights, ridge, tiny, weights_of}

-- ---- a change of the field y by what the weights w and the field x say

abbrev pub Change : Type 0
Change = Weights → List Vec3 → List Vec3 → List Vec3

-- k changes, one after another
unfoldable pub times : (ℕ → Change) → ℕ → Change
times f k w x y = upto (λ i. f i w x) k y

-- camera i's vector v × 1e-6, and zero at the anchor a
abbrev pub ridge_at : ℕ → ℕ → Vec3 → Vec3
ridge_at a i v = cond (eqb i a) origin (scale v ridge)

-- for each of n cameras of the field x
unfoldable pub ridge_entry : ℕ → List Vec3 → ℕ → Vec3
ridge_entry a x i = ridge_at a i (at x i)

abbrev pub ridged : ℕ → ℕ → List Vec3 → List Vec3
ridged n a x = field n (ridge_entry a x)

-- y with v added to (or subtracted from) camera c's entry, unless c is the anchor a
unfoldable pub changed : (Vec3 → Vec3 → Vec3) → ℕ → ℕ → Vec3 → List Vec3 → List Vec3
changed op a c v y = cond (eqb c a) y (set y c (op (at y c) v))

abbrev pub gains : ℕ → ℕ → Vec3 → List Vec3 → List Vec3
gains a c v y = changed plus a c v y

abbrev pub loses : ℕ → ℕ → Vec3 → List Vec3 → List Vec3
loses a c v y = changed minus a c v y

-- ---- points

-- a bearing r on a point whose cameras have the mean u: its camera gains (camera - u) × e
unfoldable pub bearing_step : List ℕ → ℕ → Vec3 → ℕ → Change
bearing_step ends a u r w x y = let c = first_end ends r in gains a c (scale (minus (at x c) u) (w.row r)) y

module _ (ends listed : List ℕ) (k : Span) where
  -- the bearings at the places k of the lists: the sum of their cameras, by effective weight
  abbrev pub mean_step : Weights → List Vec3 → ℕ → Vec3 → Vec3
  mean_step w x i v = let r = row_at listed k i in plus v (scale (at x (first_end ends r)) (w.row r))

  -- and what they do about the mean u
  abbrev pub list_step : ℕ → Vec3 → ℕ → Change
  list_step a u i = bearing_step ends a u (row_at listed k i)

-- The bearings that a point of weight t lists, about the mean of their cameras.
unfoldable pub span_pass : List ℕ → List ℕ → ℕ → Span → Float → Change
span_pass ends listed a k t w x y =
    let u = over (upto (mean_step ends listed k w x) k.size origin) t in
    times (list_step ends listed k a u) k.size w x y

-- point p, skipped where its weight is below 1e-12
unfoldable pub point_step : Links → ℕ → ℕ → Change
point_step L a p w x y = cond (lt (w.point p) tiny) y (span_pass L.ends L.listed a (span_of L.offsets p) (w.point p) w x y)

-- ---- directions

-- direction d, after b bearings: its source loses (target - source) × e, and then its target gains it
unfoldable pub direction_step : ℕ → List ℕ → ℕ → ℕ → Change
direction_step b ends a d w x y =
    let r = b + d in
    let s = first_end ends r in
    let t = second_end ends r in
    let v = scale (minus (at x t) (at x s)) (w.row r) in
    gains a t v (loses a s v y)

-- ---- the operator

-- camera × 1e-6, then point by point, then direction by direction; the anchor's entry stays zero
unfoldable pub reduced_by : Links → Weights → ℕ → List Vec3 → List Vec3
reduced_by L w a x =
    let s = L.shape in
    times (direction_step s.bearings L.ends a) s.directions w x (times (point_step L a) s.points w x (ridged s.cameras a x))

-- the network's own
abbrev pub reduced : Network → ℕ → List Vec3 → List Vec3
reduced net a x = reduced_by (links_of net) (weights_of net) a x
