-- What an accepted placement means, clause by clause in demand 3's words: what is true of cameras that pass the residual rule, whichever method
-- they came from, and which method and round count they have. `accepted-network` of proofs/Acceptance: the iterative solve accepts nothing else.
use Rattle.std.specs.Prelude.{ℕ, ◌<◌, ◌≤◌, ◌≡◌, List, true, length}
use Rattle.std.specs.Float.Ieee.{le}
use Rattle.std.specs.Float.Ieee.Scale.{finite}
use Rattle.field.specs.declared.Vec3.{Vec3}
use Rattle.field.specs.Vec.{Axis, at, on, origin}
use Rattle.iterative.specs.Problem.{Problem, most_rounds}
use Rattle.iterative.specs.Method.{State, accepted, solution, residual_of, allowed}

-- cameras that pass the residual rule of the system P
pub record Fits (P : Problem) (cameras : List Vec3) : Type 0 where
  -- there are n cameras, and the anchor is one of them
  pub placed : length cameras ≡ P.cameras
  pub held : P.anchor < P.cameras
  -- every camera coordinate is finite
  pub coordinates : (k : Axis) (i : ℕ) → i < P.cameras → finite (on k (at cameras i)) ≡ true
  -- the anchor is three positive zeros
  pub anchor : at cameras P.anchor ≡ origin
  -- the residual of each of x, y and z, worked out afresh from the system and the cameras, is finite
  pub residual : (k : Axis) → finite (on k (residual_of P cameras)) ≡ true
  -- and at most (1e-10 × root of its right-side square sum + 1e-12) squared in double arithmetic
  pub within : (k : Axis) → le (on k (residual_of P cameras)) (on k (allowed P)) ≡ true

-- the cameras, bit for bit, and the round count are those that the written method ends with
pub record ByMethod (P : Problem) (cameras : List Vec3) (count : ℕ) : Type 0 where
  pub state : State
  pub method : solution P ≡ accepted state
  pub positions : cameras ≡ state.positions
  pub rounds : count ≡ state.round.count
  -- a count that never passes 8(n - 1) clamped to 64 .. 4000
  pub most : count ≤ most_rounds P.cameras

-- the cameras and the round count that the iterative solve returns for the system P
pub record Accepted (P : Problem) (cameras : List Vec3) (count : ℕ) : Type 0 where
  pub fits : Fits P cameras
  pub method : ByMethod P cameras count
