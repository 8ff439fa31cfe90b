-- Scales: the new scales as they are stored, and that every row's is. Assumes nothing.
use Prim.Native.Nat.{ℕ, ◌+◌, ◌-◌, ◌≤◌, ◌<◌}
use mathlib.Core.Path.{◌≡◌, refl, sym, ◌∙◌}
use mathlib.Core.List.{List}
use mathlib.Core.Bool.{Bool, true, false, cond}
use native.Mathlib.Omega.{arith}
use Rattle.std.proofs.Math.Nat.{sub_self}
use lib.Dec.{ltb}
use lib.ListN.{length, get_or, set}
use lib.Ieee.{Float, nan, lt}
use borrow.Author.Tests.{lt-ltb, le-ltb, ltb-true, ltb-false}
use Rattle.field.specs.declared.Vec3.{Vec3}
use Rattle.network.specs.declared.Shape.{Shape}
use Rattle.network.specs.declared.Span.{Span}
use Rattle.network.specs.Network.{Network, links_of, rows, is_bearing, span_of}
use Rattle.network.specs.Lists.{named}
use Rattle.network.specs.inner.Sound.{LinksSound}
use Rattle.network.proofs.PointLists.{named_some}
use Rattle.system.specs.System.{tiny, effective_in, weight_sum, sums_from}
use Rattle.recover.specs.Recover.{direction_kept, kept_by_weight, new_scale_in, new_scale, scales_of}
use Rattle.recover.specs.inner.Order.{listed_row, own_row, stored_at, direction_scale}
use Rattle.recover.proofs.Stores.{Hit, stored-ext, stored-none, stored_more, stored-add, stored-all}

-- ---- the loops over a point's list and over the directions

pub list-more : (listed : List ℕ) (g : ℕ → Float) (f i r : ℕ) (l w w' : List Float) →
    r ≡ get_or listed (f + i) 0 → w ≡ stored_at (listed_row listed) g f i l → w' ≡ set w r (g r) → w' ≡ stored_at (listed_row listed) g f (i + 1) l
unfolding listed_row
list-more listed g f i r l w w' e h t = stored_more (listed_row listed) g f i r l w w' e h t

module _ (net : Network) (cs : List Vec3) (l : List Float) where
  abbrev b : ℕ
  b = net.shape.bearings

  abbrev own_scale : ℕ → Float
  own_scale = direction_scale net.shape net.ends net.rays net.weights net.scales net.positions cs

  -- the scales of the directions below row r, stored in l
  abbrev directions_below : ℕ → List Float
  directions_below r = stored_at own_row own_scale b (r - b) l

  pub directions_none : l ≡ directions_below b
  directions_none = rw sub_self (stored-none own_row _ b l)

  pub directions-more : (r : ℕ) (keeps : Bool) (w w' : List Float) → b ≤ r →
      keeps ≡ direction_kept b (get_or net.weights r nan) → w ≡ directions_below r →
      w' ≡ set w r (new_scale_in keeps net.shape net.ends net.rays net.scales net.positions cs r) → w' ≡ directions_below (r + 1)
  unfolding direction_scale own_row
  directions-more r keeps w w' below e h t =
      let i : b + (r - b) ≡ r = omega arith in
      let k : r + 1 - b ≡ r - b + 1 = omega arith in
      rw k (stored_more own_row own_scale b (r - b) r l w w' (sym i) h (t ∙ rw e))

-- ---- of a network that was not refused

-- a row that is named is named somewhere
named-place : (listed : List ℕ) (r n : ℕ) → named listed r n ≡ 1 → Hit (listed_row listed) n r
unfolding listed_row
named-place listed r n e = let u = named_some listed r n (omega arith) in record { place = u.0; below = u.1; is = u.2 }

module _ (net : Network) (cs : List Vec3) where
  abbrev s : Shape
  s = net.shape

  abbrev listed : List ℕ
  listed = net.listed

  abbrev offsets : List ℕ
  offsets = net.offsets

  -- a direction's new scale is the network's
  own-scale : (r : ℕ) → s.bearings ≤ r → direction_scale s net.ends net.rays net.weights net.scales net.positions cs r ≡ new_scale net cs r
  unfolding direction_scale new_scale kept_by_weight
  own-scale r h = rw (le-ltb _ _ h)

  module _ (L : LinksSound (links_of net)) where
    -- so is that of a bearing on point p, where W is p's
    listed-scale : (p i : ℕ) (w : Float) → p < s.points → i < (span_of offsets p).size → w ≡ weight_sum (effective_in net.weights net.scales) listed (span_of offsets p) →
        let r = listed_row listed ((span_of offsets p).first + i) in new_scale_in (lt w tiny) s net.ends net.rays net.scales net.positions cs r ≡ new_scale net cs r
    unfolding new_scale kept_by_weight sums_from listed_row
    listed-scale p i w h k e =
        let place : (span_of offsets p).first + i < s.bearings = omega (arith, L.offsets.rises p h, L.offsets.within (p + 1) (omega arith)) in
        let own = L.own p ((span_of offsets p).first + i) h (omega arith) (omega arith) in
        rw (lt-ltb _ _ (L.listed.bearing _ place), own, ← e)

    pub point-stored : (p : ℕ) (k : Span) (w : Float) (l v : List Float) →
        p < s.points → k ≡ span_of offsets p → w ≡ weight_sum (effective_in net.weights net.scales) listed k →
        v ≡ stored_at (listed_row listed) (new_scale_in (lt w tiny) s net.ends net.rays net.scales net.positions cs) k.first k.size l →
        v ≡ stored_at (listed_row listed) (new_scale net cs) (span_of offsets p).first (span_of offsets p).size l
    point-stored p k w l v h ek ew ev =
        ev ∙ rw ek (stored-ext _ _ _ _ _ _ l (λ i b. refl) (λ i b. listed-scale p i w h b (ew ∙ rw ek)))

    -- ---- the loop over the points

    pub points_none : (l : List Float) → l ≡ stored_at (listed_row listed) (new_scale net cs) 0 (get_or offsets 0 0) l
    points_none l = rw L.offsets.start (stored-none _ _ 0 l)

    pub points-more : (p : ℕ) (l w w' : List Float) →
        p < s.points → w ≡ stored_at (listed_row listed) (new_scale net cs) 0 (get_or offsets p 0) l →
        w' ≡ stored_at (listed_row listed) (new_scale net cs) (span_of offsets p).first (span_of offsets p).size w →
        w' ≡ stored_at (listed_row listed) (new_scale net cs) 0 (get_or offsets (p + 1) 0) l
    points-more p l w w' h e f =
        let k = span_of offsets p in
        let q : k.first + k.size ≡ get_or offsets (p + 1) 0 = omega (arith, L.offsets.rises p h) in
        rw q at (stored-add _ _ k.first k.size l w w' e f)

    -- ---- bearings where the lists name them, directions at their own places

    abbrev row_at_place : ℕ → ℕ
    row_at_place k = cond (is_bearing s k) (listed_row listed k) (own_row k)

    at-bearing : (k : ℕ) → k < s.bearings → listed_row listed k ≡ row_at_place k
    at-bearing k h = rw (lt-ltb _ _ h)

    at-direction : (k : ℕ) → s.bearings ≤ k → own_row k ≡ row_at_place k
    at-direction k h = rw (le-ltb _ _ h)

    hit : (r : ℕ) → r < rows s → Hit row_at_place (rows s) r
    unfolding own_row
    hit r h = go (ltb r s.bearings) refl
      where
        go : (t : Bool) → ltb r s.bearings ≡ t → Hit row_at_place (rows s) r
        go true e =
            let t = named-place listed r s.bearings (L.once r (ltb-true _ _ e)) in
            record { place = t.place; below = omega (arith, t.below); is = sym (at-bearing t.place t.below) ∙ t.is }
        go false e = record { place = r; below = h; is = sym (at-direction r (ltb-false _ _ e)) }

    pub scales-stored : (l w w' : List Float) →
        length l ≡ rows s → w ≡ stored_at (listed_row listed) (new_scale net cs) 0 s.bearings l →
        w' ≡ stored_at own_row (direction_scale s net.ends net.rays net.weights net.scales net.positions cs) s.bearings s.directions w → w' ≡ scales_of net cs
    unfolding own_row
    scales-stored l w w' h e f =
        let b = s.bearings in
        let x : w ≡ stored_at row_at_place (new_scale net cs) 0 b l = e ∙ stored-ext _ _ _ _ 0 b l (λ i k. at-bearing (0 + i) (omega arith)) (λ i k. refl) in
        let y : w' ≡ stored_at row_at_place (new_scale net cs) b s.directions w =
        f ∙ stored-ext _ _ _ _ b s.directions w (λ i k. at-direction (b + i) (omega arith)) (λ i k. own-scale (b + i) (omega arith)) in
        stored-add _ _ b s.directions l w w' x y ∙ stored-all row_at_place (new_scale net cs) (rows s) (rows s) l h hit
