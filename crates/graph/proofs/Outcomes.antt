-- What the functions behind an entry point ensure, taken together. Assumes nothing.
use Rattle.std.proofs.Common.{Err, Ok, Result}
use Prim.Native.Nat.{ℕ, ◌*◌, ◌≤◌}
use mathlib.Core.Path.{◌≡◌, refl, sym, ap, ◌∙◌}
use mathlib.Core.Logic.{inl, inr}
use mathlib.Core.List.{List, ◌++◌}
use mathlib.Core.Bool.{Bool, true, false}
use native.Mathlib.Omega.{arith}
use lib.ListN.{length, take, drop, replicate}
use lib.Ieee.{Float}
use lib.Seq.{drop_at, length-take-le}
use borrow.Author.Tests.{leb-true, eqb-true}
use Rattle.double.proofs.Truth.{both_true}
use Rattle.field.specs.Count.{field}
use Rattle.field.proofs.Counting.{length-field, get_or-field}
use Rattle.network.specs.declared.Shape.{Shape}
use Rattle.network.specs.Network.{Graph, graph, rows}
use Rattle.network.specs.declared.Refusal.{Refusal}
use Rattle.network.specs.Refusals.{Verdict}
use Rattle.network.specs.Refusals.{verdict, count_tests, ends_fit, length_tests}
use Rattle.network.specs.inner.Sound.{ShapeSound, GraphSound}
use Rattle.network.proofs.Verdicts.{stage-passed}
use Rattle.network.proofs.Sound.{counts-sound, counted, lengths-fit, measured, ends-fit, graph-sound}
use Rattle.graph.specs.Joined.{Joined, Connected}
use Rattle.graph.specs.Distinct.{distinct}
use Rattle.graph.specs.Outcome.{node_count, connectivity_fits, connectivity_tests, listing_fits, listing_tests, nodes_after, Decided, Labelled, ConnectivityCall, ListingCall}
use Rattle.graph.specs.inner.Forest.{root_of, RootsZero, Spans, Decides}
use Rattle.graph.proofs.Spanning.{symmetric, connects, roots-zero, lowest-root}

-- ---- what the trees tell of the graph

pub decided : {g : Graph} {p : List ℕ} {r : Bool} → Spans (Joined g) p → length p ≡ node_count g → Decides r (RootsZero p g.shape.cameras) → Decides r (Connected g)
decided {g} {p} s h d = record {
  yes = λ e. connects (Joined g) (symmetric g (rows g.shape)) p s g.shape.cameras (omega arith) (d.yes e);
  no = λ e c. d.no e (roots-zero (Joined g) (symmetric g (rows g.shape)) p s g.shape.cameras c);
}

pub labelled : {g : Graph} {p labels : List ℕ} {n : ℕ} → Spans (Joined g) p → length p ≡ node_count g → n ≡ g.shape.cameras → labels ≡ field n (root_of p) → Labelled g labels
labelled {g} {p} {labels} {n} s h i e =
    rw e
    (record {
      count = length-field n (root_of p) ∙ i;
      label = λ c l.
          rw (get_or-field n (root_of p) c 0 (omega arith))
          (lowest-root (Joined g) (symmetric g (rows g.shape)) p s g.shape.cameras (omega arith) c l);
    })

pub answer-decided : (g : Graph) {r : Bool} → Decides r (Connected g) → Decided g (Ok tt) (Ok r)
answer-decided g {r = true} d = inl (refl, d.yes refl)
answer-decided g {r = false} d = inr (refl, d.no refl)

-- the first k numbers are changed, and then cleared
pub zeroed : (k : ℕ) (old front : List ℕ) {new : List ℕ} → new ≡ replicate k 0 ++ drop k (front ++ drop k old) → length front ≡ length (take k old) → k ≤ length old →
    new ≡ replicate k 0 ++ drop k old
zeroed k old front e h l = e ∙ ap (λ t. replicate k 0 ++ t) (drop_at front (drop k old) k (h ∙ length-take-le k old l))

-- ---- a call that refuses nothing

pub connectivity-fits : (g : Graph) (nodes : ℕ) → connectivity_fits g nodes ≡ true → (ends_fit (rows g.shape) g.ends g.weights ≡ true) × (node_count g ≤ nodes)
unfolding connectivity_fits
connectivity-fits g nodes e = let h = both_true _ _ e in (h.0, leb-true _ _ h.1)

pub listing-fits : (g : Graph) (nodes labels : ℕ) → listing_fits g nodes labels ≡ true → (connectivity_fits g nodes ≡ true) × (labels ≡ g.shape.cameras)
unfolding listing_fits
listing-fits g nodes labels e = let h = both_true (connectivity_fits g nodes) _ e in (h.0, eqb-true _ _ h.1)

-- ---- the stage of the lengths, where `fit` was computed

pub lengths-tested : {x : Verdict} {fit f : Bool} → x ≡ verdict (length_tests fit) → fit ≡ f → x ≡ verdict (length_tests f)
lengths-tested e h = e ∙ ap (λ t. verdict (length_tests t)) h

-- what 1 to 3 have shown: counts in range, and a length for each row
module _ (s : Shape) (ends : List ℕ) (weights : List Float) (nodes : ℕ) {w x : Verdict} {fit : Bool} where
  pub connectivity-measured : fit ≡ connectivity_fits (graph s ends weights) nodes → x ≡ verdict (length_tests fit) → x ≡ Ok tt →
      w ≡ verdict (count_tests s) → w ≡ Ok tt → ShapeSound s × ((length ends ≡ 2 * rows s) × (length weights ≡ rows s))
  connectivity-measured f e h d k = (counted d k, ends-fit _ _ _ (connectivity-fits (graph s ends weights) nodes (measured e h f)).0)

  pub listing-measured : (labels : ℕ) → fit ≡ listing_fits (graph s ends weights) nodes labels → x ≡ verdict (length_tests fit) → x ≡ Ok tt →
      w ≡ verdict (count_tests s) → w ≡ Ok tt → ShapeSound s × ((length ends ≡ 2 * rows s) × (length weights ≡ rows s))
  listing-measured labels f e h d k =
      let l = listing-fits (graph s ends weights) nodes labels (measured e h f) in
      (counted d k, ends-fit _ _ _ (connectivity-fits (graph s ends weights) nodes l.0).0)

-- ---- a whole call: what its tests have shown, and what it answers and leaves

pub connectivity-sound : {g : Graph} {nodes : ℕ} {v : Verdict} → v ≡ verdict (connectivity_tests g nodes) → v ≡ Ok tt → GraphSound g × (node_count g ≤ nodes)
unfolding connectivity_tests
connectivity-sound {g} {nodes} e h =
    let a = stage-passed (count_tests g.shape) _ (sym e ∙ h) in
    let b = stage-passed (length_tests (connectivity_fits g nodes)) _ a.1 in
    let f = connectivity-fits g nodes (lengths-fit _ b.0) in
    (graph-sound g (counts-sound _ a.0) f.0 b.1, f.1)

pub listing-sound : {g : Graph} {nodes labels : ℕ} {v : Verdict} → v ≡ verdict (listing_tests g nodes labels) → v ≡ Ok tt →
    GraphSound g × ((node_count g ≤ nodes) × (labels ≡ g.shape.cameras))
unfolding listing_tests
listing-sound {g} {nodes} {labels} e h =
    let a = stage-passed (count_tests g.shape) _ (sym e ∙ h) in
    let b = stage-passed (length_tests (listing_fits g nodes labels)) _ a.1 in
    let k = listing-fits g nodes labels (lengths-fit _ b.0) in
    let f = connectivity-fits g nodes k.0 in
    (graph-sound g (counts-sound _ a.0) f.0 b.1, (f.1, k.1))

module _ {g : Graph} {nodes : List ℕ} {v : Verdict} (e : v ≡ verdict (connectivity_tests g (length nodes))) where
  pub connectivity-refused : {r : Refusal} → v ≡ Err r → ConnectivityCall g (Err r) nodes nodes
  connectivity-refused h = let w = sym e ∙ h in record { decided = rw w refl; nodes_out = rw w refl }

  pub connectivity-passed : {a : Result Bool Refusal} {nodes' : List ℕ} → v ≡ Ok tt → Decided g (Ok tt) a → nodes' ≡ nodes_after g (Ok tt) nodes →
      ConnectivityCall g a nodes nodes'
  connectivity-passed h d z = let w = sym e ∙ h in record { decided = rw w d; nodes_out = rw w z }

module _ {g : Graph} {nodes labels : List ℕ} {v : Verdict} (e : v ≡ verdict (listing_tests g (length nodes) (length labels))) where
  pub listing-refused : {r : Refusal} → v ≡ Err r → ListingCall g (Err r) nodes nodes labels labels
  listing-refused h = let w = sym e ∙ h in record { parts = rw w refl; labels_out = rw w refl; nodes_out = rw w refl }

  pub listing-passed : {count : ℕ} {nodes' labels' : List ℕ} → v ≡ Ok tt → Labelled g labels' → count ≡ distinct labels' → nodes' ≡ nodes_after g (Ok tt) nodes →
      ListingCall g (Ok count) nodes nodes' labels labels'
  listing-passed h l c z = let w = sym e ∙ h in record { parts = rw w (ap Ok c); labels_out = rw w l; nodes_out = rw w z }
