-- The reduced camera system as the method is given it.
use Rattle.std.specs.Prelude.{List, cond, ℕ, eqb}
use Rattle.field.specs.Count.{field}
use Rattle.field.specs.Vec.{origin}
use Rattle.field.specs.declared.Vec3.{Vec3}
use Rattle.network.specs.Network.{Links, Network, links_of}
use Rattle.system.specs.System.{Weights, anchor, diagonal_of, term_at, terms, weights_of}
use Rattle.system.specs.declared.CameraTerm.{CameraTerm}
use Rattle.operator.specs.Operator.{reduced_by}
use Rattle.iterative.specs.Problem.{Problem}

-- the right side of n cameras, zero at the anchor a
unfoldable pub right_entry : ℕ → List CameraTerm → ℕ → Vec3
right_entry a ts i = cond (eqb i a) origin (term_at ts i).right

abbrev pub right_of : ℕ → ℕ → List CameraTerm → List Vec3
right_of n a ts = field n (right_entry a ts)

-- the system of links L, weights w, camera terms ts and the anchor a
unfoldable pub problem_by : Links → Weights → List CameraTerm → ℕ → Problem
problem_by L w ts a =
    let n = L.shape.cameras in
    record {
      cameras = n;
      anchor = a;
      diagonal = diagonal_of ts;
      right = right_of n a ts;
      operator = reduced_by L w a;
    }

-- the system that the network forms
abbrev pub problem : Network → Problem
problem net = problem_by (links_of net) (weights_of net) (terms net) (anchor net)
