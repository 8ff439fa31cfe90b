-- A content that passes the reader's tests passes those of the point lists and of the parts. Assumes nothing.
use Rattle.network.specs.declared.Cause.TheVariants.{Domain, OutOfRange}
use Rattle.std.proofs.Common.{None, Ok}
use Prim.Native.Nat.{ℕ, ◌+◌, ◌*◌, ◌≤◌}
use mathlib.Core.Path.{◌≡◌, refl, sym, ap₂, ◌∙◌}
use mathlib.Core.Bool.{Bool, true, ◌&&◌}
use mathlib.Core.List.{List, [], ◌++◌}
use native.Mathlib.Omega.{arith}
use lib.ListN.{length}
use lib.Ieee.{Float}
use borrow.Author.Tests.{le-leb, lt-leb, eq-eqb}
use Rattle.double.proofs.Truth.{both_true}
use Rattle.field.specs.Count.{lowest}
use Rattle.field.proofs.Counting.{lowest-none}
use Rattle.network.specs.declared.Shape.{Shape}
use Rattle.network.specs.Refusals.{Verdict}
use Rattle.network.specs.Network.{content, graph, rows}
use Rattle.network.specs.Refusals.{test, verdict, ends_fit, rays_fit, vectors_fit, content_fits, length_tests, end_tests, weight_tests, bad_weight, graph_row_tests}
use Rattle.network.specs.inner.Sound.{ContentLengths, EndsSound}
use Rattle.network.proofs.Verdicts.{verdict-one, passed-test-at, both-passed, passes-in}
use Rattle.network.proofs.Sound.{counts-sound, content-fits, ends-sound, row-domain, domain-sound}
use Rattle.lists.specs.PointLists.{lengths_fit, past_points, point_lists_tests, PointListsCall}
use Rattle.command.specs.inner.Steps.{ContentSound, Listed, GraphPassed}

pub fits : {fit : Bool} → fit ≡ true → verdict (length_tests fit) ≡ Ok tt
unfolding length_tests test
fits e = rw e (verdict-one (Ok tt))

-- tests that pass leave the verdict to those after them
pub skipped : (us vs : List Verdict) → verdict us ≡ Ok tt → verdict (us ++ vs) ≡ verdict vs
skipped us vs h = sym (passes-in us vs refl h refl)

pub lengths-fit : (s : Shape) (es : List ℕ) (rs ws ss ps : List Float) → ContentLengths s es rs ws ss ps → content_fits s es rs ws ss ps ≡ true
unfolding content_fits ends_fit rays_fit vectors_fit
lengths-fit s es rs ws ss ps l =
    ap₂ ◌&&◌
    (ap₂ ◌&&◌ (eq-eqb _ _ l.ends) (eq-eqb _ _ l.domain.weights))
    (ap₂ ◌&&◌ (ap₂ ◌&&◌ (eq-eqb _ _ l.domain.rays) (eq-eqb _ _ l.domain.scales)) (eq-eqb _ _ l.domain.positions))

module _ (s : Shape) (es : List ℕ) (rs ws ss ps : List Float) (C : ContentSound (content s es rs ws ss ps)) where
  -- ---- the parts

  ends-fit : ends_fit (rows s) es ws ≡ true
  unfolding content_fits
  ends-fit = (both_true _ _ C.fit).0

  weights-passed : verdict (weight_tests s ws) ≡ Ok tt
  unfolding weight_tests
  weights-passed =
      let d = domain-sound s rs ws ss ps [] C.domain in
      verdict-one _ ∙ passed-test-at Domain (lowest-none (bad_weight ws) (rows s) (λ k h. (row-domain ws ss rs k (d.0 k h)).0))

  pub graph-passed : GraphPassed (graph s es ws)
  unfolding graph_row_tests
  graph-passed = record { small = C.small; counts = C.counts; fit = ends-fit; rows = both-passed (end_tests s es) _ C.ends weights-passed }

  -- ---- the point lists

  pub ends-passed : EndsSound s es
  ends-passed = ends-sound s es (counts-sound s C.counts) (content-fits s es rs ws ss ps C.fit).ends C.ends

module _ (s : Shape) (es : List ℕ) (E : EndsSound s es) where
  past-none : lowest (past_points s.points es) s.bearings ≡ None
  unfolding past_points
  past-none = lowest-none _ _ (λ k h. lt-leb _ _ (E.point k h))

  module _ (offsets listed offsets' listed' : List ℕ) (answer : Verdict) (call : PointListsCall s.points s.bearings es offsets listed answer offsets' listed')
      (sizes : (length offsets ≡ s.points + 1) × (length listed ≡ s.bearings)) where
    list-passed : verdict (point_lists_tests s.points s.bearings es (length offsets) (length listed)) ≡ Ok tt
    unfolding point_lists_tests lengths_fit
    list-passed =
        let size = E.size in
        let room : 2 * s.bearings ≤ length es = omega arith in
        both-passed (length_tests _) _
        (fits (ap₂ ◌&&◌ (le-leb _ _ room) (ap₂ ◌&&◌ (eq-eqb _ _ sizes.0) (eq-eqb _ _ sizes.1))))
        (verdict-one _ ∙ passed-test-at OutOfRange past-none)

    pub lists-built : Listed s es offsets' listed'
    lists-built = let a : answer ≡ (Ok tt) = call.answered ∙ list-passed in record { starts = rw a at call.offsets_out; rows = rw a at call.listed_out }
