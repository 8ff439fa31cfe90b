-- The written method (document 01, 'Iterative'): conjugate gradients, preconditioned by the diagonal, for x, y and z at once, with the operations
-- and the order of `solve_reduced_pcg`. A component that is done stands still while the others go on.
--
-- Golub and Van Loan, Matrix Computations, 'Preconditioned conjugate gradients', for A x = b with the preconditioner M, a diagonal:
--     r = b, z = M⁻¹ r, p = z, ρ = r·z                                            `start`
--     w = A p, α = ρ / p·w, x = x + α p, r = r - α w                              `moved`
--     z = M⁻¹ r, β = (r·z) / ρ, p = z + β p, ρ = r·z, while r·r is above a bound  `redirected`
-- Here x is `positions`, b `right`, r `residual`, z `preconditioned`, p `search`, w `applied`, ρ `old` and then `new`, and p·w is the curvature.
use Rattle.std.specs.Prelude.{Err, None, Ok, Option, Some}
use Rattle.std.specs.Prelude.{List, Bool, cond, false, not, true, ◌&&◌, ◌||◌, suc, zero, ℕ, ◌+◌, eqb, Float}
use Rattle.std.specs.Float.Ieee.{add, div, le, lt, mul, of_bits, sub}
use Rattle.std.specs.Float.{binary64}
use Rattle.std.specs.Float.Ieee.Scale.{finite}
use Rattle.field.specs.Count.{field, lowest, upto}
use Rattle.field.specs.Vec.{Axis, X, Y, Z, at, each, minus, null, on, origin, over}
use Rattle.field.specs.declared.Vec3.{Vec3}
use Rattle.double.specs.Double.{greater, magnitude}
use Rattle.sqrt.specs.Root.{root}
use Rattle.system.specs.System.{tiny}
use Rattle.iterative.specs.Problem.{Problem, field_dot, first_not_finite, most_rounds}
use Rattle.network.specs.declared.CameraSum.{CameraSum}
use Rattle.network.specs.declared.CameraSum.TheVariants.{Curvature, Product, Residual}
use Rattle.network.specs.declared.Cause.TheVariants.{Diagonal}
use Rattle.network.specs.declared.Refusal.{Refusal}
use Rattle.network.specs.declared.Refusal.TheVariants.{Sum}
use Rattle.network.specs.Refusals.{Verdict, test_at}
use Rattle.iterative.specs.declared.Active.{Active}
use Rattle.iterative.specs.declared.Round.{Round}

-- ---- constants: 1e-10 and 2^-52 (1e-12 is `tiny`)

abbrev pub relative : Float
relative = of_bits binary64 0x3ddb7cdfd9d7bdbb

abbrev pub epsilon : Float
epsilon = of_bits binary64 0x3cb0000000000000

-- ---- components

-- component 0, 1, 2 is x, y, z
abbrev pub axis : ℕ → Axis
axis zero = X
axis (suc zero) = Y
axis (suc (suc i)) = Z

-- the lowest component with a property
abbrev pub component : (Axis → Bool) → Option ℕ
component p = lowest (λ i. p (axis i)) 3

abbrev pub flag : Axis → Active → Bool
flag X a = a.x
flag Y a = a.y
flag Z a = a.z

abbrev pub flags : (Axis → Bool) → Active
flags g = record { x = g X; y = g Y; z = g Z }

abbrev pub any : Active → Bool
any a = a.x || (a.y || a.z)

-- ---- bounds and tests, one component k at a time

abbrev pub squared : Float → Float
squared x = mul binary64 x x

-- the bound that ends a component: max(1e-12 × 1e-12, (1e-10 × 1e-10) × its right-side square sum). `max` passes over NaN.
unfoldable pub bound_of : Vec3 → Vec3
bound_of sums = each (λ k. greater (squared tiny) (mul binary64 (squared relative) (on k sums)))

-- the final residual that is allowed: (1e-10 × root of its right-side square sum + 1e-12), squared as one product with itself
unfoldable pub allowed_of : Vec3 → Vec3
allowed_of sums = each (λ k. squared (add binary64 (mul binary64 relative (root binary64 (on k sums))) tiny))

-- at the start: the right-side square sum exceeds the bound (a NaN does not)
unfoldable pub starts_active : Vec3 → Vec3 → Active
starts_active bound sums = flags (λ k. lt (on k bound) (on k sums))

-- after a step: active still, unless the residual's square sum is down to the bound (a NaN is not)
unfoldable pub stays_active : Vec3 → Active → Vec3 → Active
stays_active bound active sums = flags (λ k. flag k active && not (le (on k sums) (on k bound)))

-- 11: curvature not finite, or at most 2^-52 × size of old product
unfoldable pub bad_curvature : Active → Vec3 → Vec3 → Axis → Bool
bad_curvature active old curvature k =
    flag k active
    && (not (finite (on k curvature)) || le (on k curvature) (mul binary64 epsilon (magnitude (on k old))))

-- 12: new product not finite, or old product at or below 0
unfoldable pub bad_product : Active → Vec3 → Vec3 → Axis → Bool
bad_product active old new k = flag k active && (not (finite (on k new)) || le (on k old) null)

-- 13: final residual not finite or above the allowed
unfoldable pub bad_residual : Vec3 → Vec3 → Axis → Bool
bad_residual allowed residual k = not (finite (on k residual)) || lt (on k allowed) (on k residual)

-- ---- operations on the three numbers of a camera

unfoldable pub quotient : Vec3 → Vec3 → Vec3
quotient u v = each (λ k. div binary64 (on k u) (on k v))

-- v + alpha × w, or v - alpha × w, in an active component; one that is done stands still
unfoldable pub stepped : (Float → Float → Float) → Active → Vec3 → Vec3 → Vec3 → Vec3
stepped op active alpha v w = each (λ k. cond (flag k active) (op (on k v) (mul binary64 (on k alpha) (on k w))) (on k v))

-- z + beta × p in an active component; +0.0 in one that is done
unfoldable pub search_step : Active → Vec3 → Vec3 → Vec3 → Vec3
search_step active beta z p = each (λ k. cond (flag k active) (add binary64 (on k z) (mul binary64 (on k beta) (on k p))) null)

-- ---- operations on fields of n cameras, whose anchor is a: camera i's vector of each, and the field

-- zero at every camera
abbrev pub zero_entry : ℕ → Vec3
zero_entry i = origin

abbrev pub zeros : ℕ → List Vec3
zeros n = field n zero_entry

-- r over the diagonal d; zero at the anchor
unfoldable pub preconditioned_entry : ℕ → (ℕ → Float) → List Vec3 → ℕ → Vec3
preconditioned_entry a d r i = cond (eqb i a) origin (over (at r i) (d i))

abbrev pub preconditioned : ℕ → ℕ → (ℕ → Float) → List Vec3 → List Vec3
preconditioned n a d r = field n (preconditioned_entry a d r)

-- f stepped along g; the anchor stands still
unfoldable pub stepped_entry : ℕ → (Float → Float → Float) → Active → Vec3 → List Vec3 → List Vec3 → ℕ → Vec3
stepped_entry a op active alpha f g i = cond (eqb i a) (at f i) (stepped op active alpha (at f i) (at g i))

abbrev pub stepped_field : ℕ → ℕ → (Float → Float → Float) → Active → Vec3 → List Vec3 → List Vec3 → List Vec3
stepped_field n a op active alpha f g = field n (stepped_entry a op active alpha f g)

-- the next search vector, of z and p; at the anchor too
unfoldable pub search_entry : Active → Vec3 → List Vec3 → List Vec3 → ℕ → Vec3
search_entry active beta z p i = search_step active beta (at z i) (at p i)

abbrev pub search_field : ℕ → Active → Vec3 → List Vec3 → List Vec3 → List Vec3
search_field n active beta z p = field n (search_entry active beta z p)

unfoldable pub difference_entry : List Vec3 → List Vec3 → ℕ → Vec3
difference_entry f g i = minus (at f i) (at g i)

abbrev pub difference : ℕ → List Vec3 → List Vec3 → List Vec3
difference n f g = field n (difference_entry f g)

-- 9: camera i's diagonal is not finite. (That of a network, where it is finite, is above 0: system's specs/Diagonals.)
unfoldable pub bad_diagonal : ℕ → (ℕ → Float) → ℕ → Bool
bad_diagonal a d i = not (eqb i a) && not (finite (d i))

-- ---- tests that refuse

-- 11 to 13: refused for a sum at a component, where there is one, with that component's camera. Whether it refuses goes by the component alone, so
-- which calls are refused does not depend on the camera.
unfoldable pub sum_test : CameraSum → Option ℕ → (Axis → ℕ) → Verdict
sum_test s (Some i) camera = Err (Sum s i (camera (axis i)))
sum_test s None camera = Ok tt

-- x, unless a test refuses: then what f makes of the refusal
abbrev pub unless : {A : Type 0} → (Refusal → A) → Verdict → A → A
unless f (Err r) x = f r
unless f (Ok u) x = x

-- ---- what the method carries from round to round

pub record State : Type 0 where
  pub positions : List Vec3
  pub residual : List Vec3
  pub search : List Vec3
  pub round : Round

-- after a round: a component is active still, or none is, or the method failed
pub data Run : Type 0 where
  running : State → Run
  ended : State → Run
  failed : Refusal → Run

-- how the whole method ends
pub data Ending : Type 0 where
  accepted : State → Ending
  refused : Refusal → Ending

module _ (P : Problem) where
  -- the sum over all cameras but the anchor
  abbrev pub inner : List Vec3 → List Vec3 → Vec3
  inner f g = field_dot P.cameras P.anchor f g

  -- the first camera at which a component of that sum is not finite, or n
  abbrev pub inner_camera : List Vec3 → List Vec3 → Axis → ℕ
  inner_camera f g = first_not_finite P.cameras P.anchor f g

  abbrev pub precondition : List Vec3 → List Vec3
  precondition r = preconditioned P.cameras P.anchor P.diagonal r

  unfoldable pub square_sum : Vec3
  square_sum = inner P.right P.right

  abbrev pub bound : Vec3
  bound = bound_of square_sum

  abbrev pub allowed : Vec3
  allowed = allowed_of square_sum

  -- ---- the start: positions zero, so that the residual is the right side

  unfoldable pub start : State
  start =
      let z = precondition P.right in
      record {
        positions = zeros P.cameras;
        residual = P.right;
        search = z;
        round = record { old = inner P.right z; active = starts_active bound square_sum; count = 0 };
      }

  abbrev pub opened : Verdict → Run
  opened v = unless failed v (cond (any start.round.active) (running start) (ended start))

  -- ---- one round

  -- positions and residual after the step along the search vector, whose image under the system is `applied`
  unfoldable pub moved : State → List Vec3 → Vec3 → State
  moved s applied curvature =
      let n = P.cameras in
      let a = P.anchor in
      let r = s.round in
      let alpha = quotient r.old curvature in
      let residual = stepped_field n a (sub binary64) r.active alpha s.residual applied in
      record {
        positions = stepped_field n a (add binary64) r.active alpha s.positions s.search;
        residual = residual;
        search = s.search;
        round = record { old = r.old; active = stays_active bound r.active (inner residual residual); count = r.count + 1 };
      }

  -- the next search vector, and the new products of all three components
  unfoldable pub redirected : State → List Vec3 → Vec3 → State
  redirected s z new =
      let r = s.round in
      record {
        positions = s.positions;
        residual = s.residual;
        search = search_field P.cameras r.active (quotient new r.old) z s.search;
        round = record { old = new; active = r.active; count = r.count };
      }

  abbrev pub redirect : State → Run
  redirect s =
      let z = precondition s.residual in
      let new = inner s.residual z in
      unless failed (sum_test Product (component (bad_product s.round.active s.round.old new)) (inner_camera s.residual z)) (running (redirected s z new))

  -- on with a new search vector where a component is still active
  abbrev pub continued : Bool → State → Run
  continued true s = redirect s
  continued false s = ended s

  abbrev pub step : State → List Vec3 → Run
  step s applied =
      let curvature = inner s.search applied in
      let t = moved s applied curvature in
      unless failed (sum_test Curvature (component (bad_curvature s.round.active s.round.old curvature)) (inner_camera s.search applied)) (continued (any t.round.active) t)

  unfoldable pub round : State → Run
  round s = step s (P.operator s.search)

  -- ---- the rounds

  abbrev pub next : Run → Run
  next (running s) = round s
  next (ended s) = ended s
  next (failed r) = failed r

  -- the run after k rounds at most
  unfoldable pub rounds : ℕ → Run
  rounds k = upto (λ (_ : ℕ). next) k (opened (test_at Diagonal (lowest (bad_diagonal P.anchor P.diagonal) P.cameras)))

  -- ---- the end: the system applied anew to the positions, and the right side subtracted

  abbrev pub residual_field : List Vec3 → List Vec3
  residual_field f = difference P.cameras (P.operator f) P.right

  -- for each component the sum of its squares
  unfoldable pub residual_of : List Vec3 → Vec3
  residual_of f = inner (residual_field f) (residual_field f)

  abbrev pub tested : State → Ending
  tested s =
      let d = residual_field s.positions in
      unless refused (sum_test Residual (component (bad_residual allowed (residual_of s.positions))) (inner_camera d d)) (accepted s)

  abbrev pub closed : Run → Ending
  closed (running s) = tested s
  closed (ended s) = tested s
  closed (failed r) = refused r

  -- the whole method: accepted with the positions and the count, or refused
  unfoldable pub solution : Ending
  solution = closed (rounds (most_rounds P.cameras))
