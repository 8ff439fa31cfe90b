-- What a call knows whose tests refuse nothing, stage by stage. Assumes nothing.
use Rattle.network.specs.declared.Cause.TheVariants.{Cameras, Domain, Lengths, Loop, OutOfRange, PointLists, Route, Sizes}
use Rattle.std.proofs.Common.{Err, None, Ok}
use mathlib.Core.Path.{◌≡◌, refl, sym, ap, ap₂, ◌∙◌}
use mathlib.Core.List.{List, [], ◌∷◌, ◌++◌}
use mathlib.Core.Bool.{Bool, true, false, cond, not, ◌&&◌, ◌||◌, true≢false}
use Prim.Native.Nat.{ℕ, ◌+◌, ◌-◌, ◌*◌, ◌≤◌, ◌<◌}
use native.Mathlib.Nat.{mul-le-mul}
use native.Mathlib.Omega.{arith}
use lib.ListN.{length, get_or}
use lib.Dec.{eqb, ltb}
use lib.Ieee.{Float, nan, lt}
use lib.Ieee.Scale.{finite}
use borrow.Author.Tests.{ltb-false, leb-false, eqb-true, eqb-false, not-false, lt-ltb, le-ltb, le-leb, eq-eqb}
use Rattle.std.proofs.Math.Bool.{or_assoc}
use Rattle.double.proofs.Truth.{both_true, neither}
use Rattle.field.specs.declared.Vec3.{Vec3}
use Rattle.field.specs.Vec.{Axis, X, Y, Z, on, null, is_finite}
use Rattle.field.specs.Buffer.{get, vector}
use Rattle.field.proofs.Counting.{none_of}
use Rattle.network.specs.declared.Shape.{Shape}
use Rattle.network.specs.Refusals.{Verdict}
use Rattle.network.specs.declared.Refusal.{Refusal}
use Rattle.network.specs.Network.{Graph, Links, Network, links, rows, first_end, second_end, span_of, row_at}
use Rattle.network.specs.Refusals.{verdict, Section, running, bad_weight, bad_scale, bad_vector, bad_row, bad_cameras, bad_counts, count_tests, ends_fit, rays_fit, vectors_fit, lists_fit}
use Rattle.network.specs.Refusals.{content_fits, network_fits, length_tests, strays, loops, end_tests, list_tests, weight_tests, row_sections, domain_tests, bad_route, route_tests, dense_rows}
use Rattle.network.specs.Refusals.{early_tests, link_tests, graph_row_tests, network_row_tests, network_tests, marks_after}
use Rattle.network.specs.inner.Sound.{ShapeSound, ContentLengths, NetworkLengths, EndsSound, OffsetsSound, ListedSound, LinksSound, GraphSound, NetworkSound}
use Rattle.network.proofs.Verdicts.{first-passed, stage-passed, verdict-one, test-passed, test-at-passed, passed-test, marks-halt, marks-pass}
use Rattle.network.proofs.Sections.{running-passed}
use Rattle.network.proofs.PointLists.{locate, named_some, lists-parts, is-bearing, own-point, once}

-- what a test of one list says
only : (v : Verdict) → verdict (v ∷ []) ≡ Ok tt → v ≡ Ok tt
only v e = sym (verdict-one v) ∙ e

-- ---- 1 and 2

pub counts-sound : (s : Shape) → verdict (count_tests s) ≡ Ok tt → ShapeSound s
unfolding count_tests bad_cameras bad_counts
counts-sound s e =
    let h = first-passed _ _ e in
    let a = neither _ _ (test-passed Cameras _ h.0) in
    let b = neither (ltb 65536 s.points) _ (test-passed Sizes _ (only _ h.1)) in
    let d = neither (ltb 262144 s.bearings) (ltb 65536 s.directions) b.1 in
    let some : s.cameras ≡ 0 → ⊥ = eqb-false _ _ a.0 in
    record { some = omega (arith, some); cameras = ltb-false _ _ a.1; points = ltb-false _ _ b.0; bearings = ltb-false _ _ d.0; directions = ltb-false _ _ d.1 }

-- a function that made the tests and goes on
pub counted : {s : Shape} {x : Verdict} → x ≡ verdict (count_tests s) → x ≡ Ok tt → ShapeSound s
counted {s} e h = counts-sound s (sym e ∙ h)

-- ---- 3

pub lengths-fit : (fit : Bool) → verdict (length_tests fit) ≡ Ok tt → fit ≡ true
unfolding length_tests
lengths-fit fit e = not-false _ (test-passed Lengths _ (only _ e))

pub fit-lengths : {fit : Bool} → fit ≡ true → verdict (length_tests fit) ≡ Ok tt
unfolding length_tests
fit-lengths e = verdict-one _ ∙ passed-test Lengths (ap not e)

pub measured : {fit f : Bool} {x : Verdict} → x ≡ verdict (length_tests fit) → x ≡ Ok tt → fit ≡ f → f ≡ true
measured e h k = sym k ∙ lengths-fit _ (sym e ∙ h)

pub ends-fit : (r : ℕ) (ends : List ℕ) (weights : List Float) → ends_fit r ends weights ≡ true → (length ends ≡ 2 * r) × (length weights ≡ r)
unfolding ends_fit
ends-fit r ends weights e = let h = both_true _ _ e in (eqb-true _ _ h.0, eqb-true _ _ h.1)

rays-fit : (r : ℕ) (rays scales : List Float) → rays_fit r rays scales ≡ true → (length rays ≡ 3 * r) × (length scales ≡ r)
unfolding rays_fit
rays-fit r rays scales e = let h = both_true _ _ e in (eqb-true _ _ h.0, eqb-true _ _ h.1)

pub vectors-fit : (n : ℕ) (l : List Float) → vectors_fit n l ≡ true → length l ≡ 3 * n
unfolding vectors_fit
vectors-fit n l e = eqb-true _ _ e

lists-fit : (m b : ℕ) (offsets listed : List ℕ) → lists_fit m b offsets listed ≡ true → (length offsets ≡ m + 1) × (length listed ≡ b)
unfolding lists_fit
lists-fit m b offsets listed e = let h = both_true _ _ e in (eqb-true _ _ h.0, eqb-true _ _ h.1)

pub content-fits : (s : Shape) (ends : List ℕ) (rays weights scales positions : List Float) → content_fits s ends rays weights scales positions ≡ true →
    ContentLengths s ends rays weights scales positions
unfolding content_fits
content-fits s ends rays weights scales positions e =
    let h = both_true (ends_fit (rows s) ends weights) _ e in
    let k = both_true (rays_fit (rows s) rays scales) _ h.1 in
    let g = ends-fit _ _ _ h.0 in
    let r = rays-fit _ _ _ k.0 in
    record { ends = g.0; domain = record { rays = r.0; weights = g.1; scales = r.1; positions = vectors-fit _ _ k.1 } }

pub network-fits : (net : Network) → network_fits net ≡ true → NetworkLengths net
unfolding network_fits
network-fits net e =
    let h = both_true (content_fits net.shape net.ends net.rays net.weights net.scales net.positions) _ e in
    let p = lists-fit _ _ _ _ h.1 in
    record { content = content-fits _ _ _ _ _ _ h.0; offsets = p.0; listed = p.1 }

-- ---- 4 and 5

row-tied : (n m b : ℕ) (ends : List ℕ) (r : ℕ) → strays n m b ends r ≡ false → (get_or ends (2 * r) 0 < n) × (get_or ends (2 * r + 1) 0 < cond (ltb r b) m n)
unfolding strays
row-tied n m b ends r e = let h = neither _ _ e in (leb-false _ _ h.0, leb-false _ _ h.1)

row_apart : (b : ℕ) (ends : List ℕ) (r : ℕ) → loops b ends r ≡ false → b ≤ r → get_or ends (2 * r) 0 ≡ get_or ends (2 * r + 1) 0 → ⊥
unfolding loops
row_apart b ends r e h k = true≢false (sym (ap₂ ◌&&◌ (le-leb b r h) (eq-eqb _ _ k)) ∙ e)

pub ends-sound : (s : Shape) (ends : List ℕ) → ShapeSound s → length ends ≡ 2 * rows s → verdict (end_tests s ends) ≡ Ok tt → EndsSound s ends
unfolding end_tests
ends-sound s ends t f e =
    let h = first-passed _ _ e in
    let strays-not : (r : ℕ) → r < rows s → strays s.cameras s.points s.bearings ends r ≡ false = none_of _ _ (test-at-passed OutOfRange _ h.0) in
    let loops-not : (r : ℕ) → r < rows s → loops s.bearings ends r ≡ false = none_of _ _ (test-at-passed Loop _ (only _ h.1)) in
    record {
      shape = t;
      size = f;
      camera = λ r l. (row-tied _ _ _ ends r (strays-not r l)).0;
      point = λ r l. rw (lt-ltb r s.bearings l) at (row-tied _ _ _ ends r (strays-not r (omega arith))).1;
      target = λ r k l. rw (le-ltb r s.bearings k) at (row-tied _ _ _ ends r (strays-not r l)).1;
      apart = λ r k l q. row_apart _ ends r (loops-not r l) k q;
    }

-- ---- 6

pub links-sound : (s : Shape) (ends offsets listed : List ℕ) → EndsSound s ends → length offsets ≡ s.points + 1 → length listed ≡ s.bearings → verdict (list_tests s ends offsets listed) ≡ Ok tt →
    LinksSound (links s ends offsets listed)
unfolding list_tests
links-sound s ends offsets listed E o l e =
    let t = lists-parts s.points s.bearings ends offsets listed o (not-false _ (test-passed PointLists _ (only _ e))) in
    record {
      ends = E;
      offsets = t.0;
      listed = record { size = l; bearing = is-bearing _ _ _ _ _ t.0 t.1 };
      own = own-point _ _ _ _ _ t.0 t.1;
      once = once _ _ ends _ _ t.0 t.2;
    }

-- a bearing stands in its own point's list, since it is named, and under no other point
pub listed-under : (L : Links) → LinksSound L → (r : ℕ) → r < L.shape.bearings → let k = span_of L.offsets (second_end L.ends r) in (i : ℕ) × (i < k.size) × (row_at L.listed k i ≡ r)
listed-under L S r l =
    let u = named_some L.listed r L.shape.bearings (omega (arith, S.once r l)) in
    let v = locate (λ p. get_or L.offsets p 0) L.shape.points u.0 S.offsets.start (rw S.offsets.end u.1) in
    let q : second_end L.ends r ≡ v.0 = sym (ap (second_end L.ends) u.2) ∙ S.own v.0 u.0 v.1 v.2 v.3 in
    let e : get_or L.offsets v.0 0 + (u.0 - get_or L.offsets v.0 0) ≡ u.0 = omega (arith, v.2) in
    rw q (u.0 - get_or L.offsets v.0 0, omega (arith, v.2, v.3), rw e u.2)

-- ---- 7: the domain, number by number

pub weight-domain : (weights : List Float) (r : ℕ) → bad_weight weights r ≡ false → (finite (get_or weights r nan) ≡ true) × (lt (get_or weights r nan) null ≡ false)
unfolding bad_weight
weight-domain weights r e = let h = neither _ _ e in (not-false _ h.0, h.1)

pub scale-domain : (scales : List Float) (r : ℕ) → bad_scale scales r ≡ false → (finite (get_or scales r nan) ≡ true) × (lt null (get_or scales r nan) ≡ true)
unfolding bad_scale
scale-domain scales r e = let h = neither _ _ e in (not-false _ h.0, not-false _ h.1)

pub finite-on : (v : Vec3) → is_finite v ≡ true → (k : Axis) → finite (on k v) ≡ true
unfolding is_finite
finite-on v e X = (both_true _ _ e).0
finite-on v e Y = (both_true (finite v.y) (finite v.z) (both_true (finite v.x) _ e).1).0
finite-on v e Z = (both_true (finite v.y) (finite v.z) (both_true (finite v.x) _ e).1).1

pub vector-domain : (l : List Float) (i : ℕ) → bad_vector l i ≡ false → (k : Axis) → finite (on k (get vector l (3 * i))) ≡ true
unfolding bad_vector
vector-domain l i e = finite-on (get vector l (3 * i)) (not-false _ e)

pub row-domain : (weights scales rays : List Float) (r : ℕ) → bad_row weights scales rays r ≡ false → (bad_weight weights r ≡ false) × (bad_scale scales r ≡ false) × (bad_vector rays r ≡ false)
unfolding bad_row
row-domain weights scales rays r e =
    let h = neither (bad_weight weights r) (bad_scale scales r || bad_vector rays r) e in
    let k = neither (bad_scale scales r) (bad_vector rays r) h.1 in
    (h.0, k.0, k.1)

weights-sound : (s : Shape) (weights : List Float) → verdict (weight_tests s weights) ≡ Ok tt → (r : ℕ) → r < rows s → bad_weight weights r ≡ false
unfolding weight_tests
weights-sound s weights e = none_of _ _ (test-at-passed Domain _ (only _ e))

-- rows, points, and what sections of camera positions there are
pub domain-sound : (s : Shape) (rays weights scales positions : List Float) (cameras : List Section) → verdict (domain_tests (row_sections s rays weights scales positions ++ cameras)) ≡ Ok tt →
    ((r : ℕ) → r < rows s → bad_row weights scales rays r ≡ false) × ((p : ℕ) → p < s.points → bad_vector positions p ≡ false) × (running cameras ≡ None)
unfolding domain_tests
domain-sound s rays weights scales positions cameras e =
    let a = running-passed _ _ _ (test-at-passed Domain _ (only _ e)) in
    let b = running-passed _ _ _ a.1 in
    (a.0, b.0, b.1)

-- ---- stages that several calls share

pub graph-sound : (g : Graph) → ShapeSound g.shape → ends_fit (rows g.shape) g.ends g.weights ≡ true → verdict (graph_row_tests g) ≡ Ok tt → GraphSound g
unfolding graph_row_tests
graph-sound g s f e =
    let h = stage-passed (end_tests g.shape g.ends) _ e in
    let l = ends-fit _ _ _ f in
    record { ends = ends-sound _ _ s l.0 h.0; weights = l.1; weight = weights-sound _ _ h.1 }

pub network-sound : (net : Network) (cameras : List Section) → ShapeSound net.shape → network_fits net ≡ true → verdict (network_row_tests net cameras) ≡ Ok tt →
    NetworkSound net × (running cameras ≡ None)
unfolding network_row_tests link_tests
network-sound net cameras s f e =
    let n = network-fits net f in
    let h = stage-passed (link_tests net.shape net.ends net.offsets net.listed) _ e in
    let k = stage-passed (end_tests net.shape net.ends) _ h.0 in
    let d = domain-sound net.shape net.rays net.weights net.scales net.positions cameras h.1 in
    let E = ends-sound net.shape net.ends s n.content.ends k.0 in (
      record {
        links = links-sound net.shape net.ends net.offsets net.listed E n.offsets n.listed k.1;
        lengths = n;
        row = d.0;
        position = d.1;
      },
      d.2,
    )

-- 1 to 7
pub tests-sound : (net : Network) → verdict (network_tests net) ≡ Ok tt → NetworkSound net
unfolding network_tests
tests-sound net e =
    let h = stage-passed (count_tests net.shape) _ e in
    let k = stage-passed (length_tests (network_fits net)) _ h.1 in
    (network-sound net [] (counts-sound _ h.0) (lengths-fit _ k.0) k.1).0

-- ---- the marks of a call that tests 1 and 2 (x), then 3 (v), then 4 and 5

module _ (s : Shape) (fit : Bool) (ends marks : List ℕ) {x : Verdict} (c : x ≡ verdict (count_tests s)) where
  abbrev after : List ℕ
  after = marks_after (verdict (early_tests s fit ends)) s.bearings marks

  pub kept-by-counts : {r : Refusal} → x ≡ Err r → marks ≡ after
  unfolding early_tests
  kept-by-counts h = marks-halt (count_tests s) s.bearings marks c _ h

  module _ {v : Verdict} (p : x ≡ Ok tt) (f : v ≡ verdict (length_tests fit)) where
    pub kept-by-lengths : {r : Refusal} → v ≡ Err r → marks ≡ after
    unfolding early_tests
    kept-by-lengths h = marks-pass (count_tests s) s.bearings marks c _ p (marks-halt (length_tests fit) s.bearings marks f _ h)

    pub left-by-rows : {marks' : List ℕ} → v ≡ Ok tt → marks' ≡ marks_after (verdict (end_tests s ends)) s.bearings marks → marks' ≡ after
    unfolding early_tests
    left-by-rows q k = marks-pass (count_tests s) s.bearings marks c _ p (marks-pass (length_tests fit) s.bearings marks f _ q k)

-- ---- 8

pub route-sound : (route limit : ℕ) → verdict (route_tests route limit) ≡ Ok tt → bad_route route limit ≡ false
unfolding route_tests
route-sound route limit e = test-passed Route _ (only _ e)

-- d is within the dense limit, and the dense limit is small
limit-small : (route limit : ℕ) → bad_route route limit ≡ false → limit ≤ 256
unfolding bad_route
limit-small route limit e =
    let h = neither (ltb route 1) (ltb 3 route || ltb 256 limit) e in
    ltb-false _ _ (neither (ltb 3 route) (ltb 256 limit) h.1).1

pub dense-small : (n route limit : ℕ) → dense_rows n route limit ≤ 256
unfolding dense_rows
dense-small n route limit = go (bad_route route limit) (eqb route 2) (ltb limit (n - 1)) (limit-small route limit) (ltb-false limit (n - 1))
  where
    go : (x y z : Bool) → (x ≡ false → limit ≤ 256) → (z ≡ false → n - 1 ≤ limit) → cond (x || (y || z)) 0 (n - 1) ≤ 256
    go true y z f g = omega arith
    go false true z f g = omega arith
    go false false true f g = omega arith
    go false false false f g = omega (arith, f refl, g refl)

pub square-small : (d : ℕ) → d ≤ 256 → d * d ≤ 65536
square-small d h = mul-le-mul h h

pub dense-is : (n route limit : ℕ) {x b : Bool} → x ≡ bad_route route limit → (x || eqb route 2 || ltb limit (n - 1)) ≡ b → cond b 0 (n - 1) ≡ dense_rows n route limit
unfolding dense_rows
dense-is n route limit e f = rw (← f, or_assoc, e)

-- ---- what is read of the links is in range

pub camera-in : (s : Shape) (ends : List ℕ) (r : ℕ) → EndsSound s ends → r < rows s → first_end ends r < s.cameras
camera-in s ends r E h = E.camera r h

pub point-in : (s : Shape) (ends : List ℕ) (r : ℕ) → EndsSound s ends → r < s.bearings → second_end ends r < s.points
point-in s ends r E h = E.point r h

pub target-in : (s : Shape) (ends : List ℕ) (r : ℕ) → EndsSound s ends → (s.bearings ≤ r) × (r < rows s) → second_end ends r < s.cameras
target-in s ends r E h = E.target r h.0 h.1

pub listed_in : (b : ℕ) (listed : List ℕ) (k : ℕ) → ListedSound b listed → k < b → get_or listed k 0 < b
listed_in b listed k E h = E.bearing k h

pub rises-in : (m b : ℕ) (offsets : List ℕ) (p : ℕ) → OffsetsSound m b offsets → p < m → get_or offsets p 0 ≤ get_or offsets (p + 1) 0
rises-in m b offsets p E h = E.rises p h

pub span-in : (m b : ℕ) (offsets : List ℕ) (p : ℕ) → OffsetsSound m b offsets → p < m → get_or offsets p 0 + (get_or offsets (p + 1) 0 - get_or offsets p 0) ≤ b
span-in m b offsets p E h = omega (arith, E.rises p h, E.within (p + 1) (omega arith))
