-- The pass over the cameras with which the solve starts (document 02, R-4): 'residual, preconditioned vector and search vector shall be formed in
-- one pass'. The right side, the positions and the first sums are formed in it too.
use Rattle.std.specs.Prelude.{◌≡◌, List, [], ◌∷◌, ℕ, ◌+◌, ◌*◌, ◌<◌, ◌≤◌, length, Float}
use Rattle.field.specs.Buffer.{get, load, store, vector}
use Rattle.field.specs.Count.{field}
use Rattle.field.specs.declared.Vec3.{Vec3}
use Rattle.network.specs.declared.Shape.{Shape}
use Rattle.system.specs.System.{diagonal_of}
use Rattle.system.specs.Work.{positions_at, preconditioned_at, residual_at, right_at, search_at, term, weights_at}
use Rattle.system.specs.declared.CameraTerm.{CameraTerm}
use Rattle.iterative.specs.Method.{preconditioned, preconditioned_entry, zero_entry}
use Rattle.iterative.specs.Problem.{field_dot}
use Rattle.iterative.specs.Reduced.{right_entry, right_of}

-- a field of vectors in the work buffer: its place, and camera i's vector
pub record Segment : Type 0 where
  pub place : ℕ
  pub entry : ℕ → Vec3

abbrev pub segment : ℕ → (ℕ → Vec3) → Segment
segment p g = record { place = p; entry = g }

-- the buffer l with the first k cameras' vectors in each segment, and all its other numbers as they were
unfoldable pub filled : List Segment → ℕ → List Float → List Float
filled [] k l = l
filled (g ∷ gs) k l = filled gs k (store vector l g.place (field k g.entry))

-- the start's segments, of the right side b and the preconditioned residual z: the residual is b, the search vector z
abbrev pub start_segments : Shape → (ℕ → Vec3) → (ℕ → Vec3) → List Segment
start_segments s b z =
    segment (positions_at s) zero_entry
    ∷ segment (right_at s) b
    ∷ segment (residual_at s) b
    ∷ segment (preconditioned_at s) z
    ∷ segment (search_at s) z
    ∷ []

-- those of the camera terms ts, with the anchor a
abbrev pub segments_of : Shape → ℕ → List CameraTerm → List Segment
segments_of s a ts = start_segments s (right_entry a ts) (preconditioned_entry a (diagonal_of ts) (right_of s.cameras a ts))

-- as fields: the residual, which is the right side, and the search vector, which is the preconditioned residual
abbrev pub start_residual : Shape → ℕ → List CameraTerm → List Vec3
start_residual s a ts = right_of s.cameras a ts

abbrev pub start_search : Shape → ℕ → List CameraTerm → List Vec3
start_search s a ts = preconditioned s.cameras a (diagonal_of ts) (start_residual s a ts)

-- The pass after its first k cameras: l is the buffer before it and m now; v and w are the square sums of the right side and the products of
-- residual and preconditioned residual, over these cameras but the anchor. This is the loop's invariant, and at k = n the pass's contract.
pub record Opened (s : Shape) (a k : ℕ) (l m : List Float) (v w : Vec3) : Type 0 where
  pub buffer : m ≡ filled (segments_of s a (load term l 0 s.cameras)) k l
  pub sums : v ≡ field_dot k a (start_residual s a (load term l 0 s.cameras)) (start_residual s a (load term l 0 s.cameras))
  pub old : w ≡ field_dot k a (start_residual s a (load term l 0 s.cameras)) (start_search s a (load term l 0 s.cameras))

-- ---- 'after its first k cameras, has formed all three for these and left the others' numbers as they were'

-- P of each segment
abbrev pub Each : (Segment → Type 0) → List Segment → Type 0
Each P [] = Unit {0}
Each P (g ∷ gs) = P g × Each P gs

-- of n cameras the first k have their vector in every segment, and the others' numbers are as they were
pub record CamerasFormed (gs : List Segment) (n k : ℕ) (l m : List Float) : Type 0 where
  pub formed : Each (λ g. (i : ℕ) → i < k → get vector m (g.place + 3 * i) ≡ g.entry i) gs
  pub others : Each (λ g. (i : ℕ) → k ≤ i → i < n → get vector m (g.place + 3 * i) ≡ get vector l (g.place + 3 * i)) gs

-- in every work buffer with room for the fields (`start-formed` of proofs/Opening)
abbrev pub StartFormed : Type 0
StartFormed = (s : Shape) (a k : ℕ) (l m : List Float) (v w : Vec3) → weights_at s ≤ length l → k ≤ s.cameras → Opened s a k l m v w →
    CamerasFormed (segments_of s a (load term l 0 s.cameras)) s.cameras k l m
