-- What the method answers on small networks, by computing. Assumes nothing.
use Rattle.network.specs.declared.Cause.TheVariants.{Diagonal}
use Rattle.network.specs.declared.Refusal.TheVariants.{At}
use Rattle.network.specs.Refusals.{test_at}
use mathlib.Core.Path.{◌≡◌, refl}
use mathlib.Core.List.{List, [], ◌∷◌, ◌++◌}
use mathlib.Core.Bool.{false}
use Prim.Native.Nat.{ℕ}
use lib.ListN.{replicate}
use lib.Ieee.{binary64, of_bits}
use Rattle.sqrt.specs.Root.{root}
use Rattle.field.specs.Buffer.{flat, store, vector, write}
use Rattle.field.specs.declared.Vec3.{Vec3}
use Rattle.field.specs.Count.{lowest}
use Rattle.field.specs.Vec.{X, Y, null, origin}
use Rattle.network.specs.declared.Shape.{Shape}
use Rattle.system.specs.System.{one, diagonal_of}
use Rattle.system.specs.declared.CameraTerm.{CameraTerm}
use Rattle.iterative.specs.Problem.{times, dot_step, field_dot, first_not_finite, most_rounds, not_finite_after}
use Rattle.iterative.specs.Method.{State, accepted, refused, bound_of, allowed_of, starts_active, stays_active, sum_test, bad_curvature, bad_product, bad_residual, quotient, stepped, search_step}
use Rattle.iterative.specs.Method.{preconditioned_entry, stepped_entry, search_entry, difference_entry, square_sum, start, bad_diagonal, moved, redirected, round, rounds, residual_of, solution}
use Rattle.operator.specs.Operator.{changed, times as repeated, ridge_entry, bearing_step, span_pass, point_step, direction_step, reduced_by}
use Rattle.iterative.specs.Opening.{filled, segments_of}
use Rattle.iterative.specs.Reduced.{right_entry, problem, problem_by}
use Rattle.system.proofs.Computing.{assembly}
use Rattle.system.specs.Edges.{directed, half, pair, single}

-- to unfold this is to unfold what a solution is computed with
unfoldable pub computing : Unit {0}
unfolding assembly root test_at sum_test
    times dot_step field_dot most_rounds bound_of allowed_of starts_active stays_active bad_curvature bad_product bad_residual quotient stepped search_step
    preconditioned_entry stepped_entry search_entry difference_entry square_sum start bad_diagonal moved redirected round rounds residual_of solution
    changed repeated ridge_entry bearing_step span_pass point_step direction_step reduced_by diagonal_of right_entry problem_by
computing = tt

-- a state in which every component is done
abbrev pub done : List Vec3 → List Vec3 → List Vec3 → Vec3 → ℕ → State
done positions residual search old count = record {
  positions = positions;
  residual = residual;
  search = search;
  round = record { old = old; active = record { x = false; y = false; z = false }; count = count };
}

-- the whole case: anchor 0, camera 0 at zero, no round
pub whole-anchor : (problem (single one half)).anchor ≡ 0
unfolding computing single
whole-anchor = refl

pub whole-solution : solution (problem (single one half)) ≡ accepted (done (origin ∷ []) (origin ∷ []) (origin ∷ []) origin 0)
unfolding computing single
whole-solution = refl

-- weight 1e300, scale 1e10: 9 at camera 1
pub overflowing-fails : solution (problem pair) ≡ refused (At Diagonal 1)
unfolding computing directed
overflowing-fails = refl

-- one round: camera 1 at 1 / (1 + 1e-6)
abbrev pub beside : Vec3
beside = record { x = of_bits binary64 0x3feffffde7212f19; y = null; z = null }

pub tied-solution : solution (problem (directed one one)) ≡ accepted (done (origin ∷ beside ∷ []) (origin ∷ origin ∷ []) (origin ∷ beside ∷ []) beside 1)
unfolding computing directed
tied-solution = refl

-- the pass of two cameras after its first, in a buffer of ones: in each of its fields stands camera 0's vector, and ones for camera 1
abbrev across : Vec3
across = record { x = one; y = null; z = null }

abbrev ones : Vec3
ones = record { x = one; y = one; z = one }

abbrev two : Shape
two = record { cameras = 2; points = 0; bearings = 0; directions = 1 }

abbrev tied : CameraTerm
tied = record { diagonal = one; right = across; degree = one; count = one }

pub first-of-two : filled (segments_of two 1 (tied ∷ tied ∷ [])) 1 (replicate 48 one)
    ≡ replicate 12 one
    ++ flat vector (origin ∷ ones ∷ across ∷ ones ∷ across ∷ ones ∷ beside ∷ ones ∷ beside ∷ ones ∷ [])
    ++ replicate 6 one
unfolding computing filled store write flat
first-of-two = refl

-- the most rounds
pub most-rounds : (most_rounds 1 ≡ 64) × (most_rounds 9 ≡ 64) × (most_rounds 10 ≡ 72) × (most_rounds 501 ≡ 4000) × (most_rounds 502 ≡ 4000)
unfolding most_rounds
most-rounds = (refl, refl, refl, refl, refl)

-- the first camera at which the sum of squares of x is not finite, with 1e200 at camera 1, and at camera 1 and 2; n in y; where camera 1 is the anchor, that of camera 2
abbrev huge : Vec3
huge = record { x = of_bits binary64 0x6974e718d7d7625a; y = one; z = null }

pub cameras-named : let once = across ∷ huge ∷ across ∷ [] in let twice = across ∷ huge ∷ huge ∷ [] in
    (first_not_finite 3 0 once once X ≡ 1) × (first_not_finite 3 0 twice twice X ≡ 1) × (first_not_finite 3 0 once once Y ≡ 3)
    × (first_not_finite 3 1 twice twice X ≡ 2) × (first_not_finite 3 1 once once X ≡ 3)
unfolding computing first_not_finite not_finite_after lowest
cameras-named = (refl, refl, refl, refl, refl)
