-- Refusal 10 cannot be met by a solve (document 02, R-8): 1 to 7 here are the solve's own, which tests its buffers' lengths in 3 too, and the
-- diagonals are those that its iterative part is given. system's specs/Diagonals says the same of the network alone. Proved in proofs/Diagonals.
use Rattle.std.specs.Prelude.{Ok}
use Rattle.std.specs.Prelude.{ℕ, ◌<◌, ◌≡◌, true, not, ◌||◌}
use Rattle.std.specs.Float.Ieee.{lt}
use Rattle.std.specs.Float.Ieee.Scale.{finite}
use Rattle.field.specs.Vec.{null}
use Rattle.iterative.specs.Reduced.{problem}
use Rattle.placement.specs.Routes.{Submission, submission_verdict}

-- every camera's diagonal + 1e-6 is not finite, which is 9, or above 0
pub record SolvesAboveZero : Type 0 where
  pub above : (i : Submission) → submission_verdict i ≡ Ok tt → (c : ℕ) → c < i.net.shape.cameras →
      (not (finite ((problem i.net).diagonal c)) || lt null ((problem i.net).diagonal c)) ≡ true
