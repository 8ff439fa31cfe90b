-- The pass that starts the solve: several segments filled at once, camera by camera; what it leaves in the buffer. Assumes nothing.
use mathlib.Core.Path.{ap, refl, sym, ◌∙◌, ◌≡◌}
use mathlib.Core.Logic.{inl, inr}
use mathlib.Core.Bool.{Bool, cond, false, true}
use mathlib.Core.List.{List, [], ◌∷◌}
use Prim.Native.Nat.{ℕ, ◌*◌, ◌+◌, ◌<◌, ◌≤◌}
use native.Mathlib.Numerals.{add-one}
use native.Mathlib.Omega.{arith}
use lib.Dec.{eqb}
use lib.ListN.{drop, length}
use lib.Ieee.{Float}
use Rattle.field.proofs.Buffers.{drop-store, get-store, get-store-apart, length-store, load-ext, put-store-comm, store-more, store-none, vector-lawful}
use Rattle.field.proofs.Counting.{field-ext, get_or-field, length-field, upto-suc, upto_zero}
use Rattle.field.specs.Buffer.{Cell, get, load, put, store, vector}
use Rattle.field.specs.Count.{field}
use Rattle.field.specs.Vec.{origin, over, plus}
use Rattle.field.specs.declared.Vec3.{Vec3}
use Rattle.network.specs.declared.Shape.{Shape}
use Rattle.system.proofs.Terms.{term-here}
use Rattle.system.specs.System.{diagonal_of, term_at}
use Rattle.system.specs.Work.{positions_at, right_at, residual_at, preconditioned_at, search_at, term, term_place, weights_at}
use Rattle.system.specs.declared.CameraTerm.{CameraTerm}
use Rattle.iterative.specs.Method.{preconditioned_entry}
use Rattle.iterative.specs.Opening.{CamerasFormed, Each, Opened, Segment, StartFormed, filled, segments_of, start_segments}
use Rattle.iterative.specs.Problem.{dot_step, field_dot, times}
use Rattle.iterative.specs.declared.Frame.{Frame}
use Rattle.iterative.specs.Reduced.{right_entry}
use Rattle.iterative.specs.inner.Solver.{FieldsFit, Outside, TurnOpened, diagonal_in, preconditioned_in, put_each, right_in}

-- ---- any segments of n vectors that lie one behind another, from p to q

abbrev Spaced : ℕ → ℕ → List Segment → ℕ → Type 0
Spaced n p [] q = p ≤ q
Spaced n p (g ∷ gs) q = (p ≤ g.place) × Spaced n (g.place + 3 * n) gs q

spaced-most : (n p : ℕ) (gs : List Segment) (q : ℕ) → Spaced n p gs q → p ≤ q
spaced-most n p [] q h = h
spaced-most n p (g ∷ gs) q h = let m : g.place + 3 * n ≤ q = spaced-most n (g.place + 3 * n) gs q h.1 in omega (arith, h.0)

filled_none : (gs : List Segment) (l : List Float) → filled gs 0 l ≡ l
unfolding filled
filled_none [] l = refl
filled_none (g ∷ gs) l = filled_none gs _ ∙ sym (store-none vector l g.place g.entry)

length-filled : (gs : List Segment) (k : ℕ) (l : List Float) → length (filled gs k l) ≡ length l
unfolding filled
length-filled [] k l = refl
length-filled (g ∷ gs) k l = length-filled gs k _ ∙ length-store vector l g.place (field k g.entry)

module _ (n k : ℕ) (b : k ≤ n) where
  -- what lies before the segments is kept, and what lies behind
  get-before : {A : Type 0} (J : Cell A) (p : ℕ) (gs : List Segment) (q : ℕ) → Spaced n p gs q → (l : List Float) (x : ℕ) → x + J.width ≤ p → get J (filled gs k l) x ≡ get J l x
  unfolding filled
  get-before J p [] q h l x a = refl
  get-before J p (g ∷ gs) q h l x a =
      get-before J (g.place + 3 * n) gs q h.1 _ x (omega (arith, h.0))
      ∙ get-store-apart J vector vector-lawful l g.place (field k g.entry) x (inr (omega (arith, h.0)))

  drop-behind : (p : ℕ) (gs : List Segment) (q : ℕ) → Spaced n p gs q → (l : List Float) → drop q (filled gs k l) ≡ drop q l
  unfolding filled
  drop-behind p [] q h l = refl
  drop-behind p (g ∷ gs) q h l =
      let m : g.place + 3 * n ≤ q = spaced-most n (g.place + 3 * n) gs q h.1 in
      let z : length (field k g.entry) ≡ k = length-field k g.entry in
      drop-behind (g.place + 3 * n) gs q h.1 _ ∙ drop-store vector vector-lawful q l g.place (field k g.entry) (omega arith)

  -- a vector put before them
  put-before : (p : ℕ) (gs : List Segment) (q : ℕ) → Spaced n p gs q → (l : List Float) (x : ℕ) (v : Vec3) → x + 3 ≤ p → filled gs k (put vector l x v) ≡ put vector (filled gs k l) x v
  unfolding filled
  put-before p [] q h l x v a = refl
  put-before p (g ∷ gs) q h l x v a =
      ap (filled gs k) (sym (put-store-comm vector vector-lawful vector vector-lawful l g.place (field k g.entry) x v (inr (omega (arith, h.0)))))
      ∙ put-before (g.place + 3 * n) gs q h.1 _ x v (omega (arith, h.0))

  -- camera by camera, in the buffer m: formed below k; as in l0 from k on, where l is as l0 from the first segment on
  each-formed : (p : ℕ) (gs : List Segment) (q : ℕ) → Spaced n p gs q → (l m : List Float) → m ≡ filled gs k l → q ≤ length l →
      Each (λ g. (i : ℕ) → i < k → get vector m (g.place + 3 * i) ≡ g.entry i) gs
  unfolding filled
  each-formed p [] q h l m e room = tt
  each-formed p (g ∷ gs) q h l m e room =
      let s : length (field k g.entry) ≡ k = length-field k g.entry in
      let w : length (store vector l g.place (field k g.entry)) ≡ length l = length-store vector l g.place (field k g.entry) in
      let z : g.place + 3 * n ≤ q = spaced-most n (g.place + 3 * n) gs q h.1 in (
        λ i c.
            rw e (get-before vector (g.place + 3 * n) gs q h.1 _ (g.place + 3 * i) (omega arith))
            ∙ get-store vector vector-lawful l g.place (field k g.entry) i origin (omega arith) (omega arith)
            ∙ get_or-field k g.entry i origin c,
        each-formed (g.place + 3 * n) gs q h.1 _ m e (omega arith),
      )

  each-other : (p : ℕ) (gs : List Segment) (q : ℕ) → Spaced n p gs q → (l0 l m : List Float) → ((x : ℕ) → p ≤ x → get vector l x ≡ get vector l0 x) → m ≡ filled gs k l →
      Each (λ g. (i : ℕ) → k ≤ i → i < n → get vector m (g.place + 3 * i) ≡ get vector l0 (g.place + 3 * i)) gs
  unfolding filled
  each-other p [] q h l0 l m f e = tt
  each-other p (g ∷ gs) q h l0 l m f e =
      let s : length (field k g.entry) ≡ k = length-field k g.entry in
      let stored : (x : ℕ) → g.place + 3 * k ≤ x → get vector (store vector l g.place (field k g.entry)) x ≡ get vector l0 x =
      λ x c. get-store-apart vector vector vector-lawful l g.place (field k g.entry) x (inl (omega arith)) ∙ f x (omega (arith, h.0)) in (
        λ i c d. rw e (get-before vector (g.place + 3 * n) gs q h.1 _ (g.place + 3 * i) (omega arith)) ∙ stored (g.place + 3 * i) (omega arith),
        each-other (g.place + 3 * n) gs q h.1 l0 _ m (λ x c. stored x (omega arith)) e,
      )

-- one camera more
filled_more : (n k : ℕ) → k < n → (p : ℕ) (gs : List Segment) (q : ℕ) → Spaced n p gs q → (l : List Float) → put_each gs k (filled gs k l) ≡ filled gs (k + 1) l
unfolding filled
filled_more n k c p [] q h l = refl
filled_more n k c p (g ∷ gs) q h l =
    ap (put_each gs k) (sym (put-before n k (omega arith) (g.place + 3 * n) gs q h.1 _ (g.place + 3 * k) (g.entry k) (omega arith)))
    ∙ filled_more n k c (g.place + 3 * n) gs q h.1 _
    ∙ ap (filled gs (k + 1)) (rw add-one (store-more vector vector-lawful l g.place k g.entry))

-- all n cameras: the segments as fields
each-load : (n : ℕ) (m : List Float) (gs : List Segment) → Each (λ g. (i : ℕ) → i < n → get vector m (g.place + 3 * i) ≡ g.entry i) gs →
    Each (λ g. load vector m g.place n ≡ field n g.entry) gs
unfolding load
each-load n m [] h = tt
each-load n m (g ∷ gs) h = (field-ext n _ _ h.0, each-load n m gs h.1)

-- ---- the start's segments

module _ (s : Shape) (a : ℕ) (l : List Float) where
  abbrev n : ℕ
  n = s.cameras

  abbrev ts : List CameraTerm
  ts = load term l 0 n

  abbrev b : ℕ → Vec3
  b = right_entry a ts

  abbrev z : ℕ → Vec3
  z = preconditioned_entry a (diagonal_of ts) (field n b)

  spaced : Spaced n (positions_at s) (start_segments s b z) (weights_at s)
  spaced = (omega arith, (omega arith, (omega arith, (omega arith, (omega arith, omega arith)))))

  -- after k cameras
  cameras-formed : (k : ℕ) (m : List Float) (v w : Vec3) → weights_at s ≤ length l → k ≤ n → Opened s a k l m v w → CamerasFormed (segments_of s a ts) n k l m
  cameras-formed k m v w room c O = record {
    formed = each-formed n k c (positions_at s) (start_segments s b z) (weights_at s) spaced l m O.buffer room;
    others = each-other n k c (positions_at s) (start_segments s b z) (weights_at s) spaced l l m (λ x d. refl) O.buffer;
  }

  -- after all
  module _ (m : List Float) (v w : Vec3) (O : Opened s a n l m v w) where
    pub opened-outside : Outside s l m
    opened-outside = record {
      terms =
          rw O.buffer
          (load-ext term _ l 0 0 n (λ i d. get-before n n (omega arith) term (positions_at s) _ (weights_at s) spaced l (0 + term_place i) (omega arith)));
      rest = rw O.buffer (drop-behind n n (omega arith) (positions_at s) (start_segments s b z) (weights_at s) spaced l);
      size = rw O.buffer (length-filled (start_segments s b z) n l);
    }

    pub opened-fields : weights_at s ≤ length l → Each (λ g. load vector m g.place n ≡ field n g.entry) (segments_of s a ts)
    opened-fields room = each-load n m (start_segments s b z) (cameras-formed n m v w room (omega arith) O).formed

  -- the loop: where it begins, and one camera more
  pub opened-none : (v w : Vec3) → v ≡ origin → w ≡ origin → Opened s a 0 l l v w
  unfolding field_dot
  opened-none v w ev ew = record { buffer = sym (filled_none (start_segments s b z) l); sums = ev ∙ sym (upto_zero _ origin); old = ew ∙ sym (upto_zero _ origin) }

  module _ (k : ℕ) (c : k < n) (m : List Float) (v w : Vec3) (O : Opened s a k l m v w) where
    term-kept : get term m (term_place k) ≡ term_at ts k
    term-kept = rw O.buffer (get-before n k (omega arith) term (positions_at s) _ (weights_at s) spaced l (term_place k) (omega arith)) ∙ term-here l n k c

    right_kept : right_in a m k ≡ b k
    unfolding right_entry
    right_kept = rw term-kept

    preconditioned-kept : preconditioned_in a m k ≡ z k
    unfolding preconditioned_entry right_entry diagonal_of
    preconditioned-kept = rw (term-kept, get_or-field n b k origin c) (go (eqb k a))
      where
        go : (x : Bool) → cond x origin (over (term_at ts k).right (diagonal_of ts k)) ≡ cond x origin (over (cond x origin (term_at ts k).right) (diagonal_of ts k))
        go true = refl
        go false = refl

    pub opened-more : (m' : List Float) (v' w' : Vec3) → TurnOpened (record { shape = s; anchor = a }) k v w m m' v' w' → Opened s a (k + 1) l m' v' w'
    unfolding field_dot dot_step
    opened-more m' v' w' T = record {
      buffer = T.put ∙ rw (right_kept, preconditioned-kept, O.buffer) (filled_more n k c (positions_at s) _ (weights_at s) spaced l);
      sums = T.sums ∙ rw (add-one, upto-suc, ← O.sums, get_or-field n b k origin c, right_kept);
      old = T.old ∙ rw (add-one, upto-suc, ← O.old, get_or-field n b k origin c, get_or-field n z k origin c, right_kept, preconditioned-kept);
    }

pub start-formed : StartFormed
start-formed s a k l = cameras-formed s a l k

-- ---- one turn: the five puts; at the anchor, and at another camera

pub put-started : (s : Shape) (i p q r t u : ℕ) (o b z : Vec3) (l l1 l2 l3 l4 l5 : List Float) → FieldsFit s (length l) →
    p ≡ positions_at s → q ≡ right_at s → r ≡ residual_at s → t ≡ preconditioned_at s → u ≡ search_at s → o ≡ origin →
    l1 ≡ put vector l (p + 3 * i) o → l2 ≡ put vector l1 (q + 3 * i) b → l3 ≡ put vector l2 (r + 3 * i) b → l4 ≡ put vector l3 (t + 3 * i) z → l5 ≡ put vector l4 (u + 3 * i) z →
    l5 ≡ put_each (start_segments s (λ j. b) (λ j. z)) i l
put-started s i p q r t u o b z l l1 l2 l3 l4 l5 R ep eq er et eu eo f1 f2 f3 f4 f5 = f5 ∙ rw (f4, f3, f2, f1, ep, eq, er, et, eu, eo)

module _ (f : Frame) (i : ℕ) (l l' : List Float) (v w : Vec3) where
  pub turn-anchor : (b z : Vec3) → eqb i f.anchor ≡ true → b ≡ origin → z ≡ origin → l' ≡ put_each (start_segments f.shape (λ j. b) (λ j. z)) i l → TurnOpened f i v w l l' v w
  turn-anchor b z h eb ez e = record { put = rw h (rw (eb, ez) at e); sums = rw h; old = rw h }

  pub turn-other : (t : CameraTerm) (d : Float) (z v' w' : Vec3) → eqb i f.anchor ≡ false → t ≡ get term l (term_place i) → d ≡ diagonal_in l i → z ≡ over t.right d →
      l' ≡ put_each (start_segments f.shape (λ j. t.right) (λ j. z)) i l → v' ≡ plus v (times t.right t.right) → w' ≡ plus w (times t.right z) →
      TurnOpened f i v w l l' v' w'
  turn-other t d z v' w' h et ed ez e ev ew = record { put = rw h (rw (ez, ed, et) at e); sums = rw h (rw et at ev); old = rw h (rw (ez, ed, et) at ew) }
