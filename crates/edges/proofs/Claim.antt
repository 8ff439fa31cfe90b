-- Every row of the table holds: by computing, or by what the crates below computed. Assumes nothing.
use Rattle.std.proofs.Common.{Ok}
use mathlib.Core.Path.{◌≡◌, refl, ap, ◌∙◌}
use mathlib.Core.List.{[], ◌∷◌}
use lib.Ieee.{Float, to_bits}
use Rattle.sqrt.specs.Root.{root}
use Rattle.field.specs.Vec.{origin}
use Rattle.field.specs.Buffer.{flat, vector}
use Rattle.network.proofs.Computing.{refusals}
use Rattle.graph.proofs.Edges.{two-parts, two-labels}
use Rattle.system.specs.Work.{work_length}
use Rattle.system.specs.Edges.{single, directed, triple}
use Rattle.system.proofs.Computing.{counts}
use Rattle.system.proofs.Edges.{faint-mean, faint-right}
use Rattle.recover.specs.Recover.{points_of}
use Rattle.recover.proofs.Edges.{scale-edges, point-seen, point-unseen, point-faint}
use Rattle.iterative.proofs.Examples.{computing, most-rounds}
use Rattle.dense.proofs.Edges.{pair-stops, triple-stops}
use Rattle.placement.specs.Routes.{Placement, placed, report, submission, by_dense, routed_by, routed, buffers_fit, submission_tests, placement}
use Rattle.placement.specs.Solved.{answer_of, cameras_after, points_after}
use Rattle.edges.specs.Edges.{Edges, Solves}

-- to unfold this is to unfold what a solve is computed with, but for its dense part
unfoldable solving : Unit {0}
unfolding computing counts refusals placement routed routed_by submission_tests buffers_fit work_length
solving = tt

-- one camera: the solve's end and the recovered point make the row
solves : (w s x y z : Float) → placement (submission (single w s) 1 3 48 29 3 3) ≡ placed 2 0 (origin ∷ []) →
    report (single w s) 2 0 ≡ record { anchor = 0; route = 2; rounds = 0; few = 1 } →
    points_of (single w s) (origin ∷ []) ≡ record { x = x; y = y; z = z } ∷ [] → Solves w s x y z
unfolding flat
solves w s x y z e f q = record {
  answer = ap (answer_of (single w s)) e ∙ ap Ok f;
  camera = λ old. ap (λ (p : Placement). cameras_after p old) e;
  point = λ old. ap (λ (p : Placement). points_after (single w s) p old) e ∙ ap (flat vector) q;
}

pub edges : Edges
unfolding solving single directed triple root to_bits
edges = record {
  whole-case = solves _ _ _ _ _ refl refl point-seen;
  weightless = solves _ _ _ _ _ refl refl point-unseen;
  faint-mean = faint-mean;
  faint-right = faint-right;
  faint-case = solves _ _ _ _ _ refl refl point-faint;
  diagonal-overflows = refl;
  pivot-overflows = ap (by_dense 1) pair-stops;
  entry-overflows = ap (by_dense 1) triple-stops;
  scales = scale-edges;
  not-connected = two-parts;
  labels = two-labels;
  root-of-least = refl;
  root-of-two = refl;
  most-rounds = most-rounds;
  over-limit = refl;
  lists-ascending = refl;
  lists-descending = refl;
  row-repeated = refl;
  row-elsewhere = refl;
}
