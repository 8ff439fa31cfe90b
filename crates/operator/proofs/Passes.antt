-- The operator's changes of a field in the buffer, from what the calls ensure. Assumes nothing.
use mathlib.Core.Path.{ap, sym, ◌∙◌, ◌≡◌}
use mathlib.Core.Logic.{inr}
use mathlib.Core.List.{List}
use mathlib.Core.Bool.{false, true}
use Prim.Native.Nat.{ℕ, suc, ◌*◌, ◌+◌, ◌<◌, ◌≤◌}
use native.Mathlib.Numerals.{add-one}
use native.Mathlib.Omega.{arith}
use borrow.Author.Tests.{eq-eqb, ne_eqb}
use lib.ListN.{drop, get_or, length}
use Rattle.field.proofs.Fills.{fill_more, seen-prior}
use lib.Ieee.{Float, lt}
use Rattle.field.proofs.Buffers.{at_load, change-field, drop-store, length-load, store-load, through, vector-lawful}
use Rattle.field.proofs.Counting.{length-field, upto-suc, upto_zero}
use Rattle.field.specs.Buffer.{get, load, put, store, vector}
use Rattle.field.specs.Count.{upto}
use Rattle.field.specs.Vec.{minus, origin, over, plus, scale, at}
use Rattle.field.specs.declared.Vec3.{Vec3}
use Rattle.network.specs.Network.{first_end, second_end, Links, row_at, span_of}
use Rattle.network.specs.declared.Shape.{Shape}
use Rattle.system.specs.System.{tiny}
use Rattle.system.specs.Work.{weights_at}
use Rattle.operator.proofs.OperatorLaws.{Sized, changed-length, sized-bearing, sized-direction, sized-point, sized-times}
use Rattle.operator.proofs.Buffered.{weights-kept}
use Rattle.operator.specs.Operator.{Change, bearing_step, changed, direction_step, list_step, mean_step, point_step, reduced_by, ridge_at, ridge_entry, ridged, span_pass, times}
use Rattle.operator.specs.inner.Applied.{FieldsIn, applied}
use Rattle.network.specs.declared.Span.{Span}
use Rattle.system.specs.inner.Formed.{weights_in}

-- ---- the ridge

pub length-ridged : (n a : ℕ) (x : List Vec3) → length (ridged n a x) ≡ n
length-ridged n a x = length-field n _

-- one camera more
pub ridge-more : (n a from into : ℕ) (l : List Float) (i : ℕ) (m w : List Float) → from + 3 * n ≤ into → i < n →
    m ≡ store vector l into (ridged i a (load vector l from n)) →
    w ≡ put vector m (into + 3 * i) (ridge_at a i (get vector m (from + 3 * i))) →
    w ≡ store vector l into (ridged (i + 1) a (load vector l from n))
unfolding ridge_entry
ridge-more n a from into l i m w b h e f = fill_more _ l into i m w _ e (ap (ridge_at a i) (seen-prior l m into _ n i e h from b)) f

-- ---- one camera's vector changed

module _ (op : Vec3 → Vec3 → Vec3) (l m : List Float) (into n a c : ℕ) (v : Vec3) (fits : into + 3 * n ≤ length l) where
  pub changed-anchor : c ≡ a → l ≡ store vector l into (changed op a c v (load vector l into n))
  unfolding changed
  changed-anchor e = rw (eq-eqb c a e) (sym (store-load vector vector-lawful l into n fits))

  pub changed-other : (c ≡ a → ⊥) → c < n → m ≡ put vector l (into + 3 * c) (op (get vector l (into + 3 * c)) v) → m ≡ store vector l into (changed op a c v (load vector l into n))
  unfolding changed
  changed-other d h e = e ∙ rw (ne_eqb c a d) (change-field vector vector-lawful (λ u. op u v) l into n c origin h fits)

-- ---- one change after another

abbrev after : Change → Change → Change
after G F w x y = G w x (F w x y)

times-suc : (f : ℕ → Change) (i : ℕ) → times f (suc i) ≡ after (f i) (times f i)
unfolding times
times-suc f i = λ j w x y. upto-suc (λ k. f k w x) i y j

module _ (s : Shape) (from into : ℕ) (l : List Float) (O : FieldsIn s from into (length l)) where
  fits : into + 3 * s.cameras ≤ length l
  fits = omega (arith, O.ordered.last, O.ordered.room)

  weights-after : (f : List Vec3) (m : List Float) → m ≡ store vector l into f → length f ≡ s.cameras → weights_in s m ≡ weights_in s l
  weights-after f m e h = weights-kept s l m (ap (drop (weights_at s)) e ∙ drop-store vector vector-lawful (weights_at s) l into f (omega (arith, O.ordered.last)))

  pub both : (F G : Change) (m w : List Float) → Sized s.cameras F → Sized s.cameras G → m ≡ applied s from into F l → w ≡ applied s from into G m → w ≡ applied s from into (after G F) l
  unfolding applied
  both F G m w hF hG e f =
      let n = s.cameras in
      let x = load vector l from n in
      let z = F (weights_in s l) x (load vector l into n) in
      let size : length z ≡ n = hF.sized (weights_in s l) x (load vector l into n) (length-load vector l into n) in
      f
      ∙ ap (λ t. store vector m into (G t (load vector m from n) (load vector m into n))) (weights-after z m e size)
      ∙ through vector vector vector-lawful (G (weights_in s l)) l m from n into n z e size (inr (omega (arith, O.ordered.apart))) fits (hG.sized (weights_in s l) x z size)

  -- a loop of changes: where it begins, and one more
  pub none : (f : ℕ → Change) → l ≡ applied s from into (times f 0) l
  unfolding applied times
  none f = rw upto_zero (sym (store-load vector vector-lawful l into s.cameras fits))

  pub more : (f : ℕ → Change) → ((i : ℕ) → Sized s.cameras (f i)) → (i : ℕ) (m w : List Float) → m ≡ applied s from into (times f i) l → w ≡ applied s from into (f i) m →
      w ≡ applied s from into (times f (i + 1)) l
  more f h i m w e g = rw (add-one, times-suc) (both (times f i) (f i) m w (sized-times s.cameras f h i) (h i) e g)

-- ---- the rows, where z is the shape as it was read

module _ (s z : Shape) (ez : z ≡ s) (ends : List ℕ) (a from into : ℕ) (l : List Float) where
  -- what a bearing does to its camera
  pub bearing-done : (r c : ℕ) (e : Float) (u x d v : Vec3) (w : List Float) →
      (c ≡ first_end ends r) × (c < s.cameras) →
      x ≡ get vector l (from + 3 * c) →
      d ≡ minus x u →
      e ≡ (weights_in z l).row r →
      v ≡ scale d e →
      w ≡ store vector l into (changed plus a c v (load vector l into z.cameras)) →
      w ≡ applied s from into (bearing_step ends a u r) l
  unfolding applied bearing_step
  bearing-done r c e u x d v w (ec, h) ex ed ee ev f =
      let k : get_or (load vector l from z.cameras) (first_end ends r) origin ≡ x = at_load vector l from z.cameras _ origin (rw (← ez, ec) at h) ∙ rw (← ec, ← ex) in
      rw (← ez, k, ← ee, ← ed, ← ev, ← ec) f

  -- what a direction does to its source and its target
  pub direction-done : (d i j : ℕ) (v : Vec3) (m w : List Float) → let r = z.bearings + d in
      FieldsIn s from into (length l) →
      (i ≡ first_end ends r) × (i < s.cameras) →
      (j ≡ second_end ends r) × (j < s.cameras) →
      v ≡ scale (minus (get vector l (from + 3 * j)) (get vector l (from + 3 * i))) ((weights_in z l).row r) →
      m ≡ store vector l into (changed minus a i v (load vector l into z.cameras)) →
      w ≡ store vector m into (changed plus a j v (load vector m into z.cameras)) →
      w ≡ applied s from into (direction_step s.bearings ends a d) l
  unfolding applied direction_step
  direction-done d i j v m w O (ei, bi) (ej, bj) ev f g =
      let n = z.cameras in
      let r = z.bearings + d in
      let P = rw (← ez) at O in
      let ki : get_or (load vector l from n) (first_end ends r) origin ≡ get vector l (from + 3 * i) = at_load vector l from n _ origin (rw (← ez, ei) at bi) ∙ rw (← ei) in
      let kj : get_or (load vector l from n) (second_end ends r) origin ≡ get vector l (from + 3 * j) = at_load vector l from n _ origin (rw (← ez, ej) at bj) ∙ rw (← ej) in
      let y = changed minus a i v (load vector l into n) in
      let size : length y ≡ n = changed-length minus a i v (load vector l into n) ∙ length-load vector l into n in
      rw (← ez, ki, kj, ← ev, ← ei, ← ej)
      (g
      ∙ through vector vector vector-lawful (λ t k. changed plus a j v k) l m from n into n y f size (inr (omega (arith, P.ordered.apart))) (omega (arith, P.ordered.last, P.ordered.room))
      (changed-length plus a j v y ∙ size))

-- ---- points

-- what is read of a bearing for its point's sum
pub weighted-is : (s : Shape) (ends : List ℕ) (from : ℕ) (l : List Float) (r c : ℕ) (e : Float) (x v : Vec3) →
    (c ≡ first_end ends r) × (c < s.cameras) → x ≡ get vector l (from + 3 * c) → e ≡ (weights_in s l).row r → v ≡ scale x e →
    v ≡ scale (at (load vector l from s.cameras) (first_end ends r)) ((weights_in s l).row r)
weighted-is s ends from l r c e x v (ec, h) ex ee ev =
    let q : at (load vector l from s.cameras) (first_end ends r) ≡ x = at_load vector l from s.cameras _ origin (rw ec at h) ∙ rw (← ec, ← ex) in
    rw (q, ← ee) ev

-- (target - source) × its effective weight
pub between_is : (x y x' y' d v : Vec3) (e e' : Float) → x ≡ x' → y ≡ y' → d ≡ minus x y → e ≡ e' → v ≡ scale d e → v ≡ scale (minus x' y') e'
between_is x y x' y' d v e e' ex ey ed ee ev = rw (← ex, ← ey, ← ed, ← ee) ev

-- one bearing more in the sum
module _ (s : Shape) (ends listed : List ℕ) (from : ℕ) (l : List Float) (k : Span) where
  abbrev sum_of : ℕ → Vec3
  sum_of i = upto (mean_step ends listed k (weights_in s l) (load vector l from s.cameras)) i origin

  pub sum-none : (t : Vec3) → t ≡ origin → t ≡ sum_of 0
  sum-none t e = e ∙ sym (upto_zero _ origin)

  pub sum_more : (i r : ℕ) (t t' v : Vec3) → r ≡ row_at listed k i → v ≡ scale (at (load vector l from s.cameras) (first_end ends r)) ((weights_in s l).row r) → t ≡ sum_of i → t' ≡ plus t v →
      t' ≡ sum_of (i + 1)
  sum_more i r t t' v er ev et g = rw (add-one, upto-suc, ← et, ← er, ← ev) g

-- the bearings of a point with the mean of its cameras, which is their sum over the point's weight
pub mean-taken : (s : Shape) (ends listed : List ℕ) (from into a : ℕ) (l m : List Float) (p : Span) (v u : Vec3) (t : Float) →
    v ≡ upto (mean_step ends listed p (weights_in s l) (load vector l from s.cameras)) p.size origin →
    u ≡ over v t →
    m ≡ applied s from into (times (list_step ends listed p a u) p.size) l →
    m ≡ applied s from into (span_pass ends listed a p t) l
unfolding applied span_pass
mean-taken s ends listed from into a l m p v u t e f g = rw (← e, ← f) g

-- a list of i bearings
pub rows_are : (s : Shape) (ends listed : List ℕ) (from into a : ℕ) (l w : List Float) (p : Span) (t : Float) (i : ℕ) → p.size ≡ i →
    w ≡ applied s from into (span_pass ends listed a (record { first = p.first; size = i }) t) l →
    w ≡ applied s from into (span_pass ends listed a p t) l
rows_are s ends listed from into a l w p t i e f = f ∙ ap (λ k. applied s from into (span_pass ends listed a (record { first = p.first; size = k }) t) l) (sym e)

-- point p: skipped, or with the mean of its cameras
module _ (L : Links) (from into a p : ℕ) (l : List Float) (t : Float) (et : t ≡ (weights_in L.shape l).point p) where
  pub point-skipped : FieldsIn L.shape from into (length l) → lt t tiny ≡ true → l ≡ applied L.shape from into (point_step L a p) l
  unfolding applied point_step
  point-skipped O b = rw (← et, b) (sym (store-load vector vector-lawful l into _ (fits L.shape from into l O)))

  pub point-met : (q : Span) (w : List Float) → q ≡ span_of L.offsets p → lt t tiny ≡ false → w ≡ applied L.shape from into (span_pass L.ends L.listed a q t) l →
      w ≡ applied L.shape from into (point_step L a p) l
  unfolding applied point_step
  point-met q w e b g = rw (← et, b, ← e) g

-- ---- the loops, one turn more

module _ (s : Shape) (from into : ℕ) (l : List Float) (O : FieldsIn s from into (length l)) (i : ℕ) (m w : List Float) where
  pub list-more : (ends listed : List ℕ) (k : Span) (a : ℕ) (u : Vec3) (r : ℕ) → r ≡ row_at listed k i → m ≡ applied s from into (times (list_step ends listed k a u) i) l →
      w ≡ applied s from into (bearing_step ends a u r) m → w ≡ applied s from into (times (list_step ends listed k a u) (i + 1)) l
  list-more ends listed k a u r h e g = more s from into l O _ (λ j. sized-bearing s.cameras a ends u _) i m w e (rw h at g)

  pub points-more : (L : Links) (a : ℕ) → m ≡ applied s from into (times (point_step L a) i) l → w ≡ applied s from into (point_step L a i) m → w ≡ applied s from into (times (point_step L a) (i + 1)) l
  points-more L a e g = more s from into l O _ (sized-point L s.cameras a) i m w e g

  pub directions-more : (ends : List ℕ) (a : ℕ) → m ≡ applied s from into (times (direction_step s.bearings ends a) i) l → w ≡ applied s from into (direction_step s.bearings ends a i) m →
      w ≡ applied s from into (times (direction_step s.bearings ends a) (i + 1)) l
  directions-more ends a e g = more s from into l O _ (sized-direction s.cameras a s.bearings ends) i m w e g

-- ---- the three passes one after another

pub reduced-done : (L : Links) (a from into : ℕ) (l l1 l2 l3 : List Float) → let s = L.shape in
    FieldsIn s from into (length l) →
    l1 ≡ store vector l into (ridged s.cameras a (load vector l from s.cameras)) →
    l2 ≡ applied s from into (times (point_step L a) s.points) l1 →
    l3 ≡ applied s from into (times (direction_step s.bearings L.ends a) s.directions) l2 →
    l3 ≡ store vector l into (reduced_by L (weights_in s l) a (load vector l from s.cameras))
unfolding applied reduced_by
reduced-done L a from into l l1 l2 l3 O e1 e2 e3 =
    let s = L.shape in
    let n = s.cameras in
    let R : Change = λ w x y. ridged n a x in
    let P = times (point_step L a) s.points in
    let hR : Sized n R = record { sized = λ w x y e. length-ridged n a x } in
    let hP : Sized n P = sized-times n _ (sized-point L n a) s.points in
    both s from into l O (after P R) (times (direction_step s.bearings L.ends a) s.directions) l2 l3 (record { sized = λ w x y e. hP.sized w x (R w x y) (hR.sized w x y e) })
    (sized-times n _ (sized-direction n a s.bearings L.ends) s.directions) (both s from into l O R P l1 l2 hR hP e1 e2) e3
