-- Laws of the number of parts. Assumes nothing.
use Rattle.std.specs.Result.{result_unwrap_or}
use Rattle.std.proofs.Common.{Ok, Result}
use Prim.Native.Nat.{ℕ, ◌+◌}
use mathlib.Core.Path.{◌≡◌, ap₂}
use mathlib.Core.Bool.{◌&&◌}
use mathlib.Core.List.{List}
use native.Mathlib.Omega.{arith}
use lib.ListN.{length}
use lib.Ieee.{Float}
use borrow.Author.Tests.{le-leb, eq-eqb}
use Rattle.network.specs.declared.Refusal.{Refusal}
use Rattle.network.specs.declared.Shape.{Shape}
use Rattle.network.specs.Network.{graph}
use Rattle.network.specs.Refusals.{verdict, count_tests, length_tests}
use Rattle.network.proofs.Verdicts.{both-passed}
use Rattle.graph.specs.Distinct.{distinct}
use Rattle.graph.specs.Outcome.{connectivity_fits, listing_fits, listing_tests, Labelled, ListingCall}
use Rattle.command.specs.inner.Steps.{GraphPassed, PartCount}
use Rattle.command.proofs.Passing.{fits}

module _ (s : Shape) (es : List ℕ) (ws : List Float) (nodes nodes' labels labels' : List ℕ) (answer : Result ℕ Refusal) (call : ListingCall (graph s es ws) answer nodes nodes' labels labels')
    (P : GraphPassed (graph s es ws)) (room : length nodes ≡ 744) (count : length labels ≡ s.cameras) where
  parts-passed : verdict (listing_tests (graph s es ws) (length nodes) (length labels)) ≡ Ok tt
  unfolding listing_tests listing_fits connectivity_fits
  parts-passed =
      both-passed (count_tests s) _ P.counts
      (both-passed (length_tests _) _ (fits (ap₂ ◌&&◌ (ap₂ ◌&&◌ P.fit (le-leb (s.cameras + s.points) (length nodes) (omega (arith, P.small.cameras, P.small.points)))) (eq-eqb _ _ count))) P.rows)

  listed : (answer ≡ Ok (distinct labels')) × Labelled (graph s es ws) labels'
  listed = (rw parts-passed at call.parts, rw parts-passed at call.labels_out)

  -- the answer's number, which no refusal takes the place of
  pub parts-counted : (k : ℕ) → k ≡ result_unwrap_or answer 0 → PartCount (graph s es ws) k
  parts-counted k e = record { labels = labels'; labelled = listed.1; counted = rw listed.0 at e }
