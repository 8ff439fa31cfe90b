-- The input of a graph call fixes its answer and what it leaves in every buffer. Assumes nothing.
use Rattle.std.proofs.Common.{Bool, Err, Ok, Result}
use Rattle.network.specs.declared.Refusal.{Refusal}
use Prim.Native.Nat.{ℕ, ◌<◌}
use mathlib.Core.Path.{◌≡◌, sym, ap, ◌∙◌}
use mathlib.Core.Logic.{⊎_elim}
use mathlib.Core.List.{List}
use native.Mathlib.Omega.{arith}
use lib.ListN.{length}
use lib.Seq.{ext_get_or}
use Rattle.network.specs.Network.{Graph}
use Rattle.network.specs.Refusals.{Verdict}
use Rattle.network.specs.Refusals.{verdict}
use Rattle.graph.specs.Joined.{Joined}
use Rattle.graph.specs.Outcome.{Decided, Labelled, LabelsAfter, parts_of, connectivity_tests, listing_tests, ConnectivityCall, ListingCall}
use Rattle.graph.proofs.Walks.{lowest-one}

pub labelled-unique : (g : Graph) (k l : List ℕ) → Labelled g k → Labelled g l → k ≡ l
labelled-unique g k l s t =
    ext_get_or 0 k l (s.count ∙ sym t.count)
    (λ c h.
    let i : c < g.shape.cameras = omega (arith, s.count) in
    lowest-one (Joined g) g.shape.cameras c _ _ (s.label c i) (t.label c i))

decided-unique : (g : Graph) (v : Verdict) (a b : Result Bool Refusal) → Decided g v a → Decided g v b → a ≡ b
decided-unique g (Err r) a b s t = s ∙ sym t
decided-unique g (Ok tt) a b s t =
    ⊎_elim
    (λ x. ⊎_elim (λ y. x.0 ∙ sym y.0) (λ y. absurd (y.1 x.1)) t)
    (λ x. ⊎_elim (λ y. absurd (x.1 y.1)) (λ y. x.0 ∙ sym y.0) t)
    s

labels-unique : (g : Graph) (v : Verdict) (labels k l : List ℕ) → LabelsAfter g v labels k → LabelsAfter g v labels l → k ≡ l
labels-unique g (Err r) labels k l s t = s ∙ sym t
labels-unique g (Ok tt) labels k l s t = labelled-unique g k l s t

pub connectivity-unique : (g : Graph) (nodes : List ℕ) (a b : Result Bool Refusal) (k l : List ℕ) → ConnectivityCall g a nodes k → ConnectivityCall g b nodes l →
    (a ≡ b) × (k ≡ l)
connectivity-unique g nodes a b k l s t =
    (decided-unique g (verdict (connectivity_tests g (length nodes))) a b s.decided t.decided, s.nodes_out ∙ sym t.nodes_out)

pub listing-unique : (g : Graph) (nodes labels : List ℕ) (a b : Result ℕ Refusal) (k l i j : List ℕ) → ListingCall g a nodes k labels i → ListingCall g b nodes l labels j →
    (a ≡ b) × (k ≡ l) × (i ≡ j)
listing-unique g nodes labels a b k l i j s t =
    let v = verdict (listing_tests g (length nodes) (length labels)) in
    let e = labels-unique g v labels i j s.labels_out t.labels_out in
    (s.parts ∙ ap (parts_of v) e ∙ sym t.parts, s.nodes_out ∙ sym t.nodes_out, e)
