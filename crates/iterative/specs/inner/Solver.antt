-- What the functions of the solve require of the lent buffer, what they make of it, and what they keep.
use Rattle.std.specs.Prelude.{Err, Ok, Option, Result}
use Rattle.std.specs.Borrow.{Bor}
use Rattle.std.specs.Prelude.{◌≡◌, ◌<◌, List, [], ◌∷◌, cond, ℕ, ◌+◌, ◌*◌, ◌≤◌, eqb, drop, length, Float}
use Rattle.std.specs.Float.Ieee.{add}
use Rattle.std.specs.Float.{binary64}
use Rattle.field.specs.Buffer.{get, load, put as put_at, store, vector}
use Rattle.field.specs.Count.{field, upto}
use Rattle.field.specs.Vec.{Axis, origin, over, plus}
use Rattle.field.specs.declared.Vec3.{Vec3}
use Rattle.network.specs.Network.{Links}
use Rattle.network.specs.inner.Sound.{ShapeSound}
use Rattle.network.specs.declared.Shape.{Shape}
use Rattle.system.specs.Work.{applied_at, residual_at, right_at, search_at, term, term_place, weights_at}
use Rattle.system.specs.System.{ridge, diagonal_of}
use Rattle.system.specs.inner.Formed.{positions_in, weights_in}
use Rattle.operator.specs.Operator.{reduced_by}
use Rattle.iterative.specs.Method.{Ending, Run, State, accepted, allowed, any, bad_residual, bound_of, closed, component, continued, ended}
use Rattle.iterative.specs.Method.{failed, flag, inner_camera, moved, next, preconditioned, redirect, refused, residual_field, residual_of, round, running, solution}
use Rattle.iterative.specs.Method.{starts_active, step, stepped_field, sum_test}
use Rattle.iterative.specs.Opening.{Opened, Segment, start_segments}
use Rattle.iterative.specs.Problem.{Problem, dot_step, field_dot, first_not_finite, most_rounds, times}
use Rattle.iterative.specs.declared.Active.{Active}
use Rattle.iterative.specs.declared.Frame.{Frame}
use Rattle.iterative.specs.declared.dot.Dot.{Dot}
use Rattle.network.specs.Refusals.{Verdict}
use Rattle.network.specs.declared.CameraSum.TheVariants.{Residual}
use Rattle.network.specs.declared.Refusal.{Refusal}
use Rattle.iterative.specs.declared.Round.{Round}
use Rattle.std.specs.declared.ops.ControlFlow.{ControlFlow}
use Rattle.std.specs.declared.ops.ControlFlow.TheVariants.{Break, Continue}

-- ---- components

-- what `post` lets a function return of x and y is op x y
abbrev pub Computes : (Float → Float → Float → Type 0) → (Float → Float → Float) → Type 0
Computes post op = (x y r : Float) → post x y r → r ≡ op x y

-- the lowest component whose flag is set
abbrev pub lowest_flag : Active → Option ℕ
lowest_flag a = component (λ k. flag k a)

-- ---- what is required

-- the buffer reaches past the six fields of n vectors
pub record FieldsFit (s : Shape) (size : ℕ) : Type 0 where
  pub shape : ShapeSound s
  pub room : weights_at s ≤ size

-- the system's links and its anchor
pub record ReducedSystem : Type 0 where
  pub links : Links
  pub anchor : ℕ

abbrev pub reduced_system : Links → ℕ → ReducedSystem
reduced_system L a = record { links = L; anchor = a }

-- its shape and its anchor
abbrev pub frame_of : ReducedSystem → Frame
frame_of t = record { shape = t.links.shape; anchor = t.anchor }

-- ---- what stands in a buffer

-- camera i's diagonal with the ridge
abbrev pub diagonal_in : List Float → ℕ → Float
diagonal_in l i = add binary64 (get term l (term_place i)).diagonal ridge

-- a sum of products of two fields, and the first camera at which component k of it is not finite
abbrev pub dot_in : Dot → List Float → Vec3
dot_in d l = field_dot d.cameras d.anchor (load vector l d.first d.cameras) (load vector l d.second d.cameras)

abbrev pub dot_camera_in : Dot → List Float → Axis → ℕ
dot_camera_in d l = first_not_finite d.cameras d.anchor (load vector l d.first d.cameras) (load vector l d.second d.cameras)

-- both fields stand in a buffer
abbrev pub DotFits : Dot → ℕ → Type 0
DotFits d size = (d.first + 3 * d.cameras ≤ size) × (d.second + 3 * d.cameras ≤ size)

-- the square sums of the right side, and their bounds
abbrev pub right_sums : Frame → List Float → Vec3
right_sums f l =
    let s = f.shape in
    field_dot s.cameras f.anchor (load vector l (right_at s) s.cameras) (load vector l (right_at s) s.cameras)

-- the system: its terms and its right side, with an operator
abbrev pub problem_with : Shape → ℕ → List Float → (List Vec3 → List Vec3) → Problem
problem_with s a l op = record {
  cameras = s.cameras;
  anchor = a;
  diagonal = diagonal_of (load term l 0 s.cameras);
  right = load vector l (right_at s) s.cameras;
  operator = op;
}

-- with the operator whose links are L and whose weights stand there too
abbrev pub problem_in : Links → ℕ → List Float → Problem
problem_in L a l = problem_with L.shape a l (reduced_by L (weights_in L.shape l) a)

-- the fields that a round changes, with the round's record
abbrev pub state_in : Shape → List Float → Round → State
state_in s l r = record {
  positions = positions_in s l;
  residual = load vector l (residual_at s) s.cameras;
  search = load vector l (search_at s) s.cameras;
  round = r;
}

-- how a round ends
abbrev pub Step : Type 0
Step = ControlFlow Round Round

-- a round's answer, with the fields as it leaves them
abbrev pub run_in : Shape → List Float → Result Step Refusal → Run
run_in s l (Err r) = failed r
run_in s l (Ok (Continue r)) = running (state_in s l r)
run_in s l (Ok (Break r)) = ended (state_in s l r)

-- ---- what is kept

-- all but the six fields of n vectors
pub record Outside (s : Shape) (l l' : List Float) : Type 0 where
  pub terms : load term l' 0 s.cameras ≡ load term l 0 s.cameras
  pub rest : drop (weights_at s) l' ≡ drop (weights_at s) l
  pub size : length l' ≡ length l

-- and the right side
pub record SystemKept (s : Shape) (l l' : List Float) : Type 0 where
  pub outside : Outside s l l'
  pub right : load vector l' (right_at s) s.cameras ≡ load vector l (right_at s) s.cameras

-- ---- passes that fill a field with what a function makes of the buffer and a camera's number

-- it may be called at each of n cameras, on a buffer of that size
abbrev pub MayMake : (Bor (List Float) → ℕ → Type 0) → ℕ → ℕ → Type 0
MayMake pre n size = (x : Bor (List Float)) (i : ℕ) → i < n → length x.now ≡ size → pre x i

-- it makes g's vector i, once the i before it are stored in the buffer l from `into` on
abbrev pub Makes : (Bor (List Float) → ℕ → Vec3 → Type 0) → (ℕ → Vec3) → ℕ → ℕ → List Float → Type 0
Makes post g n into l = (x : Bor (List Float)) (i : ℕ) (v : Vec3) → i < n → x.now ≡ store vector l into (field i g) → post x i v → v ≡ g i

-- g's first i vectors are stored in m, which was l, from `into` on; t is the sum so far of the dot of g with itself, or with the field at `with` before it
pub record Summed (g : ℕ → Vec3) (n a with into : ℕ) (l : List Float) (i : ℕ) (m : List Float) (t : Vec3) : Type 0 where
  pub filled : m ≡ store vector l into (field i g)
  pub own : with ≡ into → t ≡ upto (dot_step a (field n g) (field n g)) i origin
  pub prior : with + 3 * n ≤ into → t ≡ upto (dot_step a (load vector l with n) (field n g)) i origin

-- ---- one turn of the pass at the start, at camera i

-- camera i's right side and preconditioned residual at the start, of its term: zero at the anchor
abbrev pub right_in : ℕ → List Float → ℕ → Vec3
right_in a l i = cond (eqb i a) origin (get term l (term_place i)).right

abbrev pub preconditioned_in : ℕ → List Float → ℕ → Vec3
preconditioned_in a l i = cond (eqb i a) origin (over (get term l (term_place i)).right (diagonal_in l i))

-- camera i's vector put in each segment
abbrev pub put_each : List Segment → ℕ → List Float → List Float
put_each [] i l = l
put_each (g ∷ gs) i l = put_each gs i (put_at vector l (g.place + 3 * i) (g.entry i))

-- these put in the start's segments, and their products added to the sums v and w
pub record TurnOpened (f : Frame) (i : ℕ) (v w : Vec3) (l l' : List Float) (v' w' : Vec3) : Type 0 where
  pub put : l' ≡ put_each (start_segments f.shape (right_in f.anchor l) (preconditioned_in f.anchor l)) i l
  pub sums : v' ≡ cond (eqb i f.anchor) v (plus v (times (right_in f.anchor l i) (right_in f.anchor l i)))
  pub old : w' ≡ cond (eqb i f.anchor) w (plus w (times (right_in f.anchor l i) (preconditioned_in f.anchor l i)))

-- ---- passes that fill a field and sum a dot: l is the buffer before, l' after, r the dot

-- the field at `from` preconditioned, at `into`; its dot with what it was made of
abbrev pub made_in : Frame → ℕ → List Float → List Vec3
made_in f from l = let n = f.shape.cameras in preconditioned n f.anchor (diagonal_of (load term l 0 n)) (load vector l from n)

pub record Preconditioned (f : Frame) (from into : ℕ) (l l' : List Float) (r : Vec3) : Type 0 where
  pub field : l' ≡ store vector l into (made_in f from l)
  pub dot : r ≡ field_dot f.shape.cameras f.anchor (load vector l from f.shape.cameras) (made_in f from l)

-- the field at `into` stepped along the one at `along`; its dot with itself
abbrev pub stepped_in : Frame → (Float → Float → Float) → Active → Vec3 → ℕ → ℕ → List Float → List Vec3
stepped_in f op active alpha into along l =
    let n = f.shape.cameras in
    stepped_field n f.anchor op active alpha (load vector l into n) (load vector l along n)

pub record FieldStepped (f : Frame) (op : Float → Float → Float) (active : Active) (alpha : Vec3) (into along : ℕ) (l l' : List Float)
    (r : Vec3) : Type 0 where
  pub field : l' ≡ store vector l into (stepped_in f op active alpha into along l)
  pub dot : r ≡ field_dot f.shape.cameras f.anchor (stepped_in f op active alpha into along l) (stepped_in f op active alpha into along l)

-- ---- what a round does to the buffer l, of which it makes l': the method's, whatever the operator is

-- the run x, of the problem with any operator
pub record Ran (s : Shape) (x : (List Vec3 → List Vec3) → Run) (l l' : List Float) (t : Result Step Refusal) : Type 0 where
  pub run : (op : List Vec3 → List Vec3) → run_in s l' t ≡ x op
  pub kept : SystemKept s l l'

-- a new search vector
abbrev pub redirected_by : Frame → List Float → Round → (List Vec3 → List Vec3) → Run
redirected_by f l r op = redirect (problem_with f.shape f.anchor l op) (state_in f.shape l r)

-- on, where a component is active
abbrev pub continued_by : Frame → List Float → Round → (List Vec3 → List Vec3) → Run
continued_by f l r op = continued (problem_with f.shape f.anchor l op) (any r.active) (state_in f.shape l r)

-- the round once the system has been applied to the search vector
abbrev pub stepped_by : Frame → List Float → Round → (List Vec3 → List Vec3) → Run
stepped_by f l r op =
    let s = f.shape in
    step (problem_with s f.anchor l op) (state_in s l r) (load vector l (applied_at s) s.cameras)

-- the step along the search vector
pub record MovedAlong (f : Frame) (r : Round) (curvature : Vec3) (l l' : List Float) (t : Round) : Type 0 where
  pub state : (op : List Vec3 → List Vec3) → state_in f.shape l' t ≡ moved (problem_with f.shape f.anchor l op) (state_in f.shape l r)
      (load vector l (applied_at f.shape) f.shape.cameras) curvature
  pub kept : SystemKept f.shape l l'

-- a whole round of a problem
pub record Rounded (s : Shape) (P : Problem) (r : Round) (l l' : List Float) (t : Result Step Refusal) : Type 0 where
  pub run : run_in s l' t ≡ round P (state_in s l r)
  pub kept : SystemKept s l l'

-- k rounds at most that follow a run
unfoldable pub rounds_from : Problem → ℕ → Run → Run
rounds_from P k x = upto (λ (_ : ℕ). next P) k x

pub record Iterated (s : Shape) (P : Problem) (x : Run) (l l' : List Float) (t : Result Step Refusal) : Type 0 where
  pub run : run_in s l' t ≡ rounds_from P (most_rounds s.cameras) x
  pub kept : SystemKept s l l'

-- ---- the start

-- a start, with an active component or none
abbrev pub begun : State → Run
begun s = cond (any s.round.active) (running s) (ended s)

-- the start is made: the pass over all cameras, whose sums are v and the first old products, the flags, and no round
pub record Started (f : Frame) (l l' : List Float) (v : Vec3) (r : Round) : Type 0 where
  pub opened : Opened f.shape f.anchor f.shape.cameras l l' v r.old
  pub active : r.active ≡ starts_active (bound_of v) v
  pub count : r.count ≡ 0

-- ---- the end

-- the positions and the system are kept
pub record PositionsKept (s : Shape) (l l' : List Float) : Type 0 where
  pub kept : SystemKept s l l'
  pub positions : positions_in s l' ≡ positions_in s l

-- the residual worked out afresh: d is the sum of its squares
pub record Settled (s : Shape) (P : Problem) (l l' : List Float) (d : Dot) : Type 0 where
  pub fits : DotFits d (length l')
  pub sum : dot_in d l' ≡ residual_of P (positions_in s l)
  pub camera : dot_camera_in d l' ≡ inner_camera P (residual_field P (positions_in s l)) (residual_field P (positions_in s l))
  pub kept : PositionsKept s l l'

-- the final test
pub record Tested (s : Shape) (P : Problem) (l l' : List Float) (v : Verdict) : Type 0 where
  pub value : v ≡ sum_test Residual (component (bad_residual (allowed P) (residual_of P (positions_in s l))))
      (inner_camera P (residual_field P (positions_in s l)) (residual_field P (positions_in s l)))
  pub kept : PositionsKept s l l'

-- the answer for each way in which the method can end
abbrev pub answer_of : Ending → Result ℕ Refusal
answer_of (accepted s) = Ok s.round.count
answer_of (refused r) = Err r

pub record Concluded (s : Shape) (P : Problem) (x : Run) (l l' : List Float) (o : Result ℕ Refusal) : Type 0 where
  pub answer : o ≡ answer_of (closed P x)
  pub kept : PositionsKept s l l'

-- ---- the whole solve

-- The answer is the method's; where it is accepted, the positions are too; and all but the six fields is kept.
pub record IterativeSolved (s : Shape) (P : Problem) (l l' : List Float) (o : Result ℕ Refusal) : Type 0 where
  pub answer : o ≡ answer_of (solution P)
  pub positions : (t : State) → solution P ≡ accepted t → positions_in s l' ≡ t.positions
  pub outside : Outside s l l'
