-- What the graph calls answer, and what they leave in the buffers that they are lent (document 01: 'The graph call needs n+m node numbers',
-- 'the listing fills n labels', 'a graph call that passes its checks, ends with the needed part of its work buffer all zero and any surplus
-- untouched'). The input alone fixes the answer and every buffer at exit: `connectivity-unique` and `listing-unique` of proofs/Unique.antt.
use Rattle.std.specs.Prelude.{Err, Ok, Result, false, true}
use Rattle.network.specs.declared.Refusal.{Refusal}
use Rattle.std.specs.Prelude.{ℕ, ◌+◌, ◌<◌, ◌≡◌, ◌⊎◌, List, ◌++◌, Bool, ◌&&◌, eqb, leb, length, get_or, drop, replicate}
use Rattle.network.specs.Network.{Graph, rows}
use Rattle.network.specs.Refusals.{Verdict}
use Rattle.network.specs.Refusals.{verdict, count_tests, ends_fit, length_tests, graph_row_tests}
use Rattle.graph.specs.Joined.{Connected, Label}
use Rattle.graph.specs.Distinct.{distinct}

-- n + m
abbrev pub node_count : Graph → ℕ
node_count g = g.shape.cameras + g.shape.points

-- ---- the tests of each call, in stages: 1 and 2, then 3, then 4, 5 and the weight part of 7. Of the buffers only the lengths count.

-- 3: the rows' ends and weights, and room for the nodes
unfoldable pub connectivity_fits : Graph → ℕ → Bool
connectivity_fits g nodes = ends_fit (rows g.shape) g.ends g.weights && leb (node_count g) nodes

unfoldable pub connectivity_tests : Graph → (nodes : ℕ) → List Verdict
connectivity_tests g nodes = count_tests g.shape ++ (length_tests (connectivity_fits g nodes) ++ graph_row_tests g)

-- 3 of the listing: just n labels besides
unfoldable pub listing_fits : Graph → ℕ → ℕ → Bool
listing_fits g nodes labels = connectivity_fits g nodes && eqb labels g.shape.cameras

unfoldable pub listing_tests : Graph → (nodes labels : ℕ) → List Verdict
listing_tests g nodes labels = count_tests g.shape ++ (length_tests (listing_fits g nodes labels) ++ graph_row_tests g)

-- ---- what a call answers and leaves, by the verdict of its tests

-- the node numbers: as they were, or n + m zeros and the surplus as it was
abbrev pub nodes_after : Graph → Verdict → List ℕ → List ℕ
nodes_after g (Err r) nodes = nodes
nodes_after g (Ok tt) nodes = replicate (node_count g) 0 ++ drop (node_count g) nodes

-- the yes or no: the refusal, or whether every camera is reached from camera 0
abbrev pub Decided : Graph → Verdict → Result Bool Refusal → Type 0
Decided g (Err r) answer = answer ≡ Err r
Decided g (Ok tt) answer =
    ((answer ≡ Ok true) × Connected g) ⊎ ((answer ≡ Ok false) × ¬ Connected g)

-- n labels, each its camera's. There is one such list: `labelled-unique` of proofs/Unique.antt.
pub record Labelled (g : Graph) (labels : List ℕ) : Type 0 where
  pub count : length labels ≡ g.shape.cameras
  pub label : (c : ℕ) → c < g.shape.cameras → Label g c (get_or labels c 0)

-- the labels: as they were, or each camera's
abbrev pub LabelsAfter : Graph → Verdict → List ℕ → List ℕ → Type 0
LabelsAfter g (Err r) labels labels' = labels' ≡ labels
LabelsAfter g (Ok tt) labels labels' = Labelled g labels'

-- the listing's answer: the refusal, or how many different labels there are
abbrev pub parts_of : Verdict → List ℕ → Result ℕ Refusal
parts_of (Err r) labels = Err r
parts_of (Ok tt) labels = Ok (distinct labels)

-- ---- the two calls. A primed list is what a buffer holds at exit.

pub record ConnectivityCall (g : Graph) (answer : Result Bool Refusal) (nodes nodes' : List ℕ) : Type 0 where
  pub decided : Decided g (verdict (connectivity_tests g (length nodes))) answer
  pub nodes_out : nodes' ≡ nodes_after g (verdict (connectivity_tests g (length nodes))) nodes

pub record ListingCall (g : Graph) (answer : Result ℕ Refusal) (nodes nodes' labels labels' : List ℕ) : Type 0 where
  pub parts : answer ≡ parts_of (verdict (listing_tests g (length nodes) (length labels))) labels'
  pub labels_out : LabelsAfter g (verdict (listing_tests g (length nodes) (length labels))) labels labels'
  pub nodes_out : nodes' ≡ nodes_after g (verdict (listing_tests g (length nodes) (length labels))) nodes
