-- Refusal 10 cannot be met (document 02, R-8).
--
-- For support: 10 was 'iterative: a camera's diagonal + 1e-6 is finite and not above 0'. No network gets there. If 1 to 7 refuse nothing, then for
-- every camera the diagonal + 1e-6 is above 0, or it has overflowed to an infinity or a NaN, which is 9. This holds whatever the weights and scales
-- are, and whatever overflows on the way. Proved: `diagonals-above-zero` of proofs/Diagonals.
use Rattle.std.specs.Prelude.{Ok}
use Rattle.std.specs.Prelude.{ℕ, ◌<◌, ◌≡◌, true, not, ◌||◌}
use Rattle.std.specs.Float.Ieee.{lt, le}
use Rattle.std.specs.Float.Ieee.Scale.{finite}
use Rattle.field.specs.Vec.{null}
use Rattle.network.specs.Network.{Network}
use Rattle.network.specs.Refusals.{verdict, network_tests}
use Rattle.system.specs.System.{terms, diagonal_of}

-- for every network that passes 1 to 7, and every camera c
pub record DiagonalsAboveZero : Type 0 where
  -- the diagonal + 1e-6 is not finite, or above 0
  pub above : (net : Network) → verdict (network_tests net) ≡ Ok tt → (c : ℕ) → c < net.shape.cameras →
      (not (finite (diagonal_of (terms net) c)) || lt null (diagonal_of (terms net) c)) ≡ true
  -- so the Rust's one test, `!diagonal.is_finite() || diagonal <= 0.0`, is the test of 9 alone
  pub test : (net : Network) → verdict (network_tests net) ≡ Ok tt → (c : ℕ) → c < net.shape.cameras →
      (not (finite (diagonal_of (terms net) c)) || le (diagonal_of (terms net) c) null) ≡ not (finite (diagonal_of (terms net) c))
