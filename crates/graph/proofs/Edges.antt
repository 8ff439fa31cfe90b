-- Document 01, 'Values at the edges': n=3, direction 0-1 weight 1, 1-2 weight 0: not connected, labels 0 0 2. Assumes nothing.
use Rattle.std.proofs.Common.{Ok, false}
use Prim.Native.Nat.{ℕ, zero, suc, ◌≤◌, ◌<◌}
use mathlib.Core.Path.{◌≡◌, refl, sym}
use mathlib.Core.Logic.{⊎_elim, inr}
use mathlib.Core.List.{List, [], ◌∷◌}
use mathlib.Core.Bool.{true, true≢false}
use native.Mathlib.Omega.{arith}
use lib.ListN.{get_or}
use lib.Ieee.{of_bits, lt, nan}
use Rattle.field.specs.Vec.{null}
use Rattle.network.specs.Network.{first_end}
use Rattle.network.proofs.Computing.{refusals}
use Rattle.graph.specs.Walk.{Walk, stay, step}
use Rattle.graph.specs.Joined.{second_node, SamePair, Joined, Connected, Label}
use Rattle.graph.specs.Distinct.{occurs, distinct}
use Rattle.graph.specs.Outcome.{connectivity_fits, connectivity_tests, listing_fits, listing_tests, ConnectivityCall, ListingCall}
use Rattle.graph.specs.Edges.{two_parts}
use Rattle.graph.specs.inner.Forest.{Forest, climb, root_of, RootsZero, Spans}
use Rattle.graph.proofs.Spanning.{symmetric, roots-zero, lowest-root}

-- the labels 0 0 2 are a parent list of its parts
abbrev pub labels : List ℕ
labels = 0 ∷ 0 ∷ 2 ∷ []

forest : Forest labels
forest = record { falls = go }
  where
    go : (x : ℕ) → get_or labels x 0 ≤ x
    go zero = omega arith
    go (suc zero) = omega arith
    go (suc (suc zero)) = omega arith
    go (suc (suc (suc x))) = omega arith

first-row : Joined two_parts 1 0
unfolding lt of_bits
first-row = record { row = 0; below = omega arith; positive = refl; nodes = inr (refl, refl) }

walks : (x : ℕ) → x < 3 → Walk (Joined two_parts) x (root_of labels x)
unfolding root_of climb
walks zero h = stay
walks (suc zero) h = step first-row stay
walks (suc (suc zero)) h = stay
walks (suc (suc (suc x))) h = absurd (omega arith)

same : (r a b : ℕ) → r < 2 → lt null (get_or two_parts.weights r nan) ≡ true →
    SamePair (first_end two_parts.ends r) (second_node two_parts.shape two_parts.ends r) a b → root_of labels a ≡ root_of labels b
unfolding root_of climb lt of_bits
same zero a b h w n = ⊎_elim (λ e. rw (e.0, e.1)) (λ e. rw (e.0, e.1)) n
same (suc zero) a b h w n = absurd (true≢false (sym w))
same (suc (suc r)) a b h w n = absurd (omega arith)

spans : Spans (Joined two_parts) labels
spans = record { forest = forest; walk = walks; same = λ a b j. same j.row a b j.below j.positive j.nodes }

apart : Connected two_parts → ⊥
unfolding root_of climb RootsZero
apart c = let z : ◌≡◌ {A = ℕ} 2 0 = roots-zero (Joined two_parts) (symmetric two_parts 2) labels spans 3 c 2 (omega arith) in omega arith

label : (c : ℕ) → c < 3 → Label two_parts c (root_of labels c)
label c h = lowest-root (Joined two_parts) (symmetric two_parts 2) labels spans 3 (omega arith) c h

label_of : (c : ℕ) → c < 3 → Label two_parts c (get_or labels c 0)
unfolding root_of climb
label_of zero h = label zero h
label_of (suc zero) h = label (suc zero) h
label_of (suc (suc zero)) h = label (suc (suc zero)) h
label_of (suc (suc (suc c))) h = absurd (omega arith)

pub two-parts : (a b c : ℕ) → ConnectivityCall two_parts (Ok false) (a ∷ b ∷ c ∷ []) (0 ∷ 0 ∷ 0 ∷ [])
unfolding refusals connectivity_tests connectivity_fits
two-parts a b c = record { decided = inr (refl, apart); nodes_out = refl }

pub two-labels : (a b c x y z : ℕ) → ListingCall two_parts (Ok 2) (a ∷ b ∷ c ∷ []) (0 ∷ 0 ∷ 0 ∷ []) (x ∷ y ∷ z ∷ []) labels
unfolding refusals listing_tests listing_fits connectivity_fits distinct occurs
two-labels a b c x y z = record { parts = refl; labels_out = record { count = refl; label = label_of }; nodes_out = refl }
