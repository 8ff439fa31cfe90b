-- The work buffer (document 01: 'T = 23n + 4m + B + E + d² + 3d doubles', 24n with R-11's count): its segments lie one after another, each from
-- where the one before it ends.
use Rattle.std.specs.Prelude.{Err, Ok, Result}
use Rattle.network.specs.declared.Refusal.{Refusal}
use Rattle.std.specs.Prelude.{ℕ, ◌+◌, ◌*◌, [], ◌∷◌, get_or}
use Rattle.std.specs.Float.{nan}
use Rattle.field.specs.Buffer.{Cell}
use Rattle.network.specs.Refusals.{Verdict}
use Rattle.network.specs.declared.Shape.{Shape}
use Rattle.network.specs.Network.{rows}
use Rattle.network.specs.Refusals.{verdict, count_tests, dense_rows}
use Rattle.system.specs.declared.CameraTerm.{CameraTerm}

-- a camera's term as six doubles
abbrev pub term : Cell CameraTerm
term = record {
  width = 6;
  numbers = λ t. t.diagonal ∷ t.right.x ∷ t.right.y ∷ t.right.z ∷ t.degree ∷ t.count ∷ [];
  value = λ l. record {
    diagonal = get_or l 0 nan;
    right = record { x = get_or l 1 nan; y = get_or l 2 nan; z = get_or l 3 nan };
    degree = get_or l 4 nan;
    count = get_or l 5 nan;
  };
}

-- n camera terms from place 0 on, then six fields of n vectors
abbrev pub term_place : ℕ → ℕ
term_place c = 6 * c

abbrev pub positions_at : Shape → ℕ
positions_at s = term_place s.cameras

abbrev pub right_at : Shape → ℕ
right_at s = positions_at s + 3 * s.cameras

abbrev pub residual_at : Shape → ℕ
residual_at s = right_at s + 3 * s.cameras

abbrev pub preconditioned_at : Shape → ℕ
preconditioned_at s = residual_at s + 3 * s.cameras

abbrev pub search_at : Shape → ℕ
search_at s = preconditioned_at s + 3 * s.cameras

abbrev pub applied_at : Shape → ℕ
applied_at s = search_at s + 3 * s.cameras

-- m point weights, m mean offsets, the B + E effective weights
abbrev pub weights_at : Shape → ℕ
weights_at s = applied_at s + 3 * s.cameras

abbrev pub means_at : Shape → ℕ
means_at s = weights_at s + s.points

abbrev pub effective_at : Shape → ℕ
effective_at s = means_at s + 3 * s.points

-- the dense matrix of d rows, its right side, and the end
abbrev pub matrix_at : Shape → ℕ
matrix_at s = effective_at s + rows s

abbrev pub dense_right_at : Shape → ℕ → ℕ
dense_right_at s d = matrix_at s + d * d

abbrev pub work_end : Shape → ℕ → ℕ
work_end s d = dense_right_at s d + 3 * d

-- T: the end of the last segment (`work-length-is` of proofs/Segments)
unfoldable pub work_length : Shape → ℕ → ℕ → ℕ
work_length s route limit =
    let d = dense_rows s.cameras route limit in
    24 * s.cameras + 4 * s.points + s.bearings + s.directions + d * d + 3 * d

-- the length of the work buffer that a solve needs, where 1 and 2 pass
abbrev pub length_if : Verdict → ℕ → Result ℕ Refusal
length_if (Err r) t = Err r
length_if (Ok tt) t = Ok t

unfoldable pub length_of : Shape → ℕ → ℕ → Result ℕ Refusal
length_of s route limit = length_if (verdict (count_tests s)) (work_length s route limit)
