-- The system of the linear step (document 01, 'Arithmetic of the step'), of the network alone.
-- Sums start at +0.0 and go in list or row order; each operation rounds once.
use Rattle.std.specs.Prelude.{None, Option, Some}
use Rattle.std.specs.Prelude.{ℕ, ◌*◌, List, Bool, cond, ◌&&◌, get_or, set, Float}
use Rattle.std.specs.Float.{nan, binary64}
use Rattle.std.specs.Float.Ieee.{add, sub, mul, div, lt, of_bits}
use Rattle.field.specs.declared.Vec3.{Vec3}
use Rattle.field.specs.Vec.{null, origin, plus, minus, scale, over}
use Rattle.field.specs.Count.{upto, field, lowest}
use Rattle.field.specs.Buffer.{get, vector}
use Rattle.double.specs.Sums.{total}
use Rattle.network.specs.declared.Shape.{Shape}
use Rattle.network.specs.declared.Span.{Span}
use Rattle.network.specs.Network.{Links, Network, network, links_of, rows, first_end, second_end, is_bearing, span_of, row_at}
use Rattle.network.specs.Lists.{none}
use Rattle.system.specs.declared.CameraTerm.{CameraTerm}

-- 1e-12
abbrev pub tiny : Float
tiny = of_bits binary64 0x3d719799812dea11

-- 1e-6, added to each diagonal (the Rust's `RIDGE`)
abbrev pub ridge : Float
ridge = of_bits binary64 0x3eb0c6f7a0b5ed8d

-- 1, 2 and -1
abbrev pub one : Float
one = of_bits binary64 0x3ff0000000000000

abbrev pub two : Float
two = of_bits binary64 0x4000000000000000

abbrev pub minus_one : Float
minus_one = of_bits binary64 0xbff0000000000000

-- ---- rows

-- What the rows tie together and what they carry: their links, rays, weights and scales.
pub record RowNumbers : Type 0 where
  pub links : Links
  pub rays : List Float
  pub weights : List Float
  pub scales : List Float

abbrev pub row_numbers : Links → List Float → List Float → List Float → RowNumbers
row_numbers L rays weights scales = record { links = L; rays = rays; weights = weights; scales = scales }

-- the network of these rows and of the points as they were
abbrev pub network_of : RowNumbers → List Float → Network
network_of R points = network R.links.shape R.links.ends R.rays R.weights R.scales points R.links.offsets R.links.listed

-- and back: a network's rows
abbrev pub rows_of : Network → RowNumbers
rows_of net = row_numbers (links_of net) net.rays net.weights net.scales

-- (weight × scale) × scale
abbrev pub effective_of : Float → Float → Float
effective_of w s = mul binary64 (mul binary64 w s) s

-- the effective weight of row r, and its pull, ray × (weight × scale)
unfoldable pub effective_in : List Float → List Float → ℕ → Float
effective_in weights scales r = effective_of (get_or weights r nan) (get_or scales r nan)

unfoldable pub pull_in : List Float → List Float → List Float → ℕ → Vec3
pull_in rays weights scales r = scale (get vector rays (3 * r)) (mul binary64 (get_or weights r nan) (get_or scales r nan))

abbrev pub effective : Network → ℕ → Float
effective net r = effective_in net.weights net.scales r

abbrev pub pull : Network → ℕ → Vec3
pull net r = pull_in net.rays net.weights net.scales r

-- ---- points

-- the sum of the effective weights e over the rows that stand at the places k of the lists
unfoldable pub weight_sum : (ℕ → Float) → List ℕ → Span → Float
weight_sum e listed k = total binary64 (λ i. e (row_at listed k i)) null k.size

-- the sum of the pulls
abbrev pub pull_step : (ℕ → Vec3) → List ℕ → Span → ℕ → Vec3 → Vec3
pull_step o listed k i v = plus v (o (row_at listed k i))

unfoldable pub pull_sum : (ℕ → Vec3) → List ℕ → Span → Vec3
pull_sum o listed k = upto (pull_step o listed k) k.size origin

-- the pulls' sum over the weights' sum where that is above 1e-12, else zero
unfoldable pub mean_of : Float → Vec3 → Vec3
mean_of w v = cond (lt tiny w) (over v w) origin

-- each row's effective weight e, and each point's weight W
pub record Weights : Type 0 where
  pub row : ℕ → Float
  pub point : ℕ → Float

-- and each row's pull and each point's mean offset
pub record Sums : Type 0 where
  pub weights : Weights
  pub pull : ℕ → Vec3
  pub mean : ℕ → Vec3

-- Point weight: the sum over the point's list. Mean offset: the sum of the pulls over it, divided by the point weight.
abbrev pub point_weight_in : List Float → List Float → List ℕ → List ℕ → ℕ → Float
point_weight_in weights scales offsets listed p = weight_sum (effective_in weights scales) listed (span_of offsets p)

unfoldable pub sums_from : List Float → List Float → List Float → List ℕ → List ℕ → Sums
sums_from rays weights scales offsets listed = record {
  weights = record { row = effective_in weights scales; point = point_weight_in weights scales offsets listed };
  pull = pull_in rays weights scales;
  mean = λ p. mean_of (point_weight_in weights scales offsets listed p) (pull_sum (pull_in rays weights scales) listed (span_of offsets p));
}

-- the rows' own, and the network's
abbrev pub row_sums : RowNumbers → Sums
row_sums R = sums_from R.rays R.weights R.scales R.links.offsets R.links.listed

abbrev pub sums_of : Network → Sums
sums_of net = sums_from net.rays net.weights net.scales net.offsets net.listed

abbrev pub weights_of : Network → Weights
weights_of net = (sums_of net).weights

abbrev pub point_weight : Network → ℕ → Float
point_weight net p = (weights_of net).point p

abbrev pub mean_offset : Network → ℕ → Vec3
mean_offset net p = (sums_of net).mean p

-- ---- cameras

abbrev pub no_term : CameraTerm
no_term = record { diagonal = null; right = origin; degree = null; count = null }

-- What a bearing of effective weight e adds to its camera's diagonal, on a point of weight w: e × (1 - e / w).
abbrev pub reduced_weight : Float → Float → Float
reduced_weight e w = mul binary64 e (sub binary64 one (div binary64 e w))

-- A bearing of effective weight e with the pull o, on a point of weight w and mean offset v: it adds e to the degree always,
-- and nothing else where w is below 1e-12. A row that enters the diagonal counts 1 (document 02, R-11).
unfoldable pub sees : Float → Float → Vec3 → Vec3 → CameraTerm → CameraTerm
sees e w v o t = record {
  diagonal = cond (lt w tiny) t.diagonal (add binary64 t.diagonal (reduced_weight e w));
  right = cond (lt w tiny) t.right (plus t.right (minus (scale v e) o));
  degree = add binary64 t.degree e;
  count = cond (lt w tiny) t.count (add binary64 t.count one);
}

-- A direction of effective weight e, at an end whose right side becomes v.
abbrev pub joins : Float → Vec3 → CameraTerm → CameraTerm
joins e v t = record {
  diagonal = add binary64 t.diagonal e;
  right = v;
  degree = add binary64 t.degree e;
  count = add binary64 t.count one;
}

-- With the pull o, at its source and at its target.
unfoldable pub departs : Float → Vec3 → CameraTerm → CameraTerm
departs e o t = joins e (minus t.right o) t

unfoldable pub arrives : Float → Vec3 → CameraTerm → CameraTerm
arrives e o t = joins e (plus t.right o) t

abbrev pub term_at : List CameraTerm → ℕ → CameraTerm
term_at ts c = get_or ts c no_term

-- what sums add to the terms
abbrev pub Addition : Type 0
Addition = Sums → List CameraTerm → List CameraTerm

-- bearing r, to its camera's term
unfoldable pub add_bearing : List ℕ → ℕ → Addition
add_bearing ends r S ts =
    let c = first_end ends r in
    let p = second_end ends r in
    set ts c (sees (S.weights.row r) (S.weights.point p) (S.mean p) (S.pull r) (term_at ts c))

-- direction r, to its source's term, and then to its target's
unfoldable pub add_direction : List ℕ → ℕ → Addition
add_direction ends r S ts =
    let a = first_end ends r in
    let b = second_end ends r in
    let us = set ts a (departs (S.weights.row r) (S.pull r) (term_at ts a)) in
    set us b (arrives (S.weights.row r) (S.pull r) (term_at us b))

unfoldable pub assemble_row : Shape → List ℕ → ℕ → Addition
assemble_row s ends r S ts = cond (is_bearing s r) (add_bearing ends r S ts) (add_direction ends r S ts)

-- the first k rows, in row order
unfoldable pub assemble_rows : Shape → List ℕ → ℕ → Addition
assemble_rows s ends k S ts = upto (λ r. assemble_row s ends r S) k ts

-- the terms of all cameras
abbrev pub terms_by : Shape → List ℕ → Sums → List CameraTerm
terms_by s ends S = assemble_rows s ends (rows s) S (field s.cameras (λ c. no_term))

abbrev pub terms : Network → List CameraTerm
terms net = terms_by net.shape net.ends (sums_of net)

-- camera i's diagonal with the ridge
unfoldable pub diagonal_of : List CameraTerm → ℕ → Float
diagonal_of ts i = add binary64 (term_at ts i).diagonal ridge

-- ---- the anchor

abbrev pub degree_at : List CameraTerm → ℕ → Float
degree_at ts c = (term_at ts c).degree

-- camera c's degree is above -1, and none of the n cameras has a greater one
unfoldable pub greatest : List CameraTerm → ℕ → ℕ → Bool
greatest ts n c = lt minus_one (degree_at ts c) && none (λ k. lt (degree_at ts c) (degree_at ts k)) n

abbrev pub or_zero : Option ℕ → ℕ
or_zero (Some c) = c
or_zero None = 0

-- the greatest degree, the first on a tie, 0 if none exceeds -1
unfoldable pub anchor_of : List CameraTerm → ℕ → ℕ
anchor_of ts n = or_zero (lowest (greatest ts n) n)

abbrev pub anchor : Network → ℕ
anchor net = anchor_of (terms net) net.shape.cameras
