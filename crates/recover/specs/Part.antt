-- 'Reading a camera gives three numbers as a part of whichever of the two buffers is current, or an empty part if it lacks any of them'
-- (document 01).
use Rattle.std.specs.Prelude.{ℕ, ◌+◌, ◌*◌, List, [], Bool, cond, length, leb, Float}
use Rattle.field.specs.Buffer.{part}

-- the buffer that the mark names: the trial one where it is set
unfoldable pub marked : List Float → List Float → Bool → List Float
marked current trial mark = cond mark trial current

unfoldable pub camera_part : List Float → ℕ → List Float
camera_part l i = cond (leb (3 * i + 3) (length l)) (part l (3 * i) 3) []
