-- A camera's term: what the rows add to it, and how it lies in a buffer. Assumes nothing.
use mathlib.Core.Path.{◌≡◌, refl, sym, ap, ◌∙◌}
use mathlib.Core.List.{List, [], ◌∷◌, ◌++◌, append-nil}
use mathlib.Core.Bool.{true, false}
use Prim.Native.Nat.{ℕ, zero, suc, ◌+◌, ◌*◌, ◌<◌, ◌≤◌}
use native.Mathlib.Nat.{add-zero, zero-add, mul-zero, mul-suc}
use native.Mathlib.Numerals.{towards_suc}
use native.Mathlib.Omega.{arith}
use lib.ListN.{length, get_or, set, drop, replicate, replicate-append-replicate}
use lib.Ieee.{Float, nan, binary64, add, lt}
use Rattle.field.specs.declared.Vec3.{Vec3}
use Rattle.field.specs.Vec.{null, plus, minus, scale}
use Rattle.std.specs.Int.{from_bool}
use Rattle.field.specs.Count.{field}
use Rattle.field.specs.Buffer.{Cell, part, write, get, put, flat, load, store, vector}
use Rattle.field.proofs.Counting.{field-zero, field-suc}
use Rattle.field.proofs.Sums.{count_none, count-more}
use Rattle.field.proofs.Buffers.{Lawful, at_load, get_or-part, get-part, get-vector, write-sets, filled-write, flat_append}
use Rattle.system.specs.declared.CameraTerm.{CameraTerm}
use Rattle.system.specs.System.{tiny, one, two, no_term, term_at, degree_at, reduced_weight, sees, joins, departs, arrives}
use Rattle.system.specs.Work.{term, term_place}
use Rattle.system.specs.inner.Formed.{few_in}

-- ---- what a row adds

abbrev term_of : Float → Vec3 → Float → Float → CameraTerm
term_of d v g k = record { diagonal = d; right = v; degree = g; count = k }

pub sees-faint : (e w : Float) (v o : Vec3) (t : CameraTerm) → lt w tiny ≡ true →
    term_of t.diagonal t.right (add binary64 t.degree e) t.count ≡ sees e w v o t
unfolding sees
sees-faint e w v o t h = rw h

module _ (e : Float) (o u : Vec3) (t : CameraTerm) where
  pub sees-full : (w : Float) (v p q : Vec3) → lt w tiny ≡ false → p ≡ scale v e → q ≡ minus p o → u ≡ plus t.right q →
      term_of (add binary64 t.diagonal (reduced_weight e w)) u (add binary64 t.degree e) (add binary64 t.count one) ≡ sees e w v o t
  unfolding sees
  sees-full w v p q h a b k = rw (h, k, b, a)

  module _ (t' : CameraTerm) (h : t' ≡ joins e u t) where
    pub departs-by : u ≡ minus t.right o → t' ≡ departs e o t
    unfolding departs
    departs-by k = h ∙ rw k

    pub arrives-by : u ≡ plus t.right o → t' ≡ arrives e o t
    unfolding arrives
    arrives-by k = h ∙ rw k

-- ---- in a buffer

pub term-lawful : Lawful term
term-lawful = record { sized = λ t. refl; back = λ t. refl; forth = forth6 } where
  forth6 : (l : List Float) → length l ≡ 6 → get_or l 0 nan ∷ get_or l 1 nan ∷ get_or l 2 nan ∷ get_or l 3 nan ∷ get_or l 4 nan ∷ get_or l 5 nan ∷ [] ≡ l
  forth6 [] h = absurd (omega arith)
  forth6 (a ∷ []) h = absurd (omega arith)
  forth6 (a ∷ b ∷ []) h = absurd (omega arith)
  forth6 (a ∷ b ∷ c ∷ []) h = absurd (omega arith)
  forth6 (a ∷ b ∷ c ∷ d ∷ []) h = absurd (omega arith)
  forth6 (a ∷ b ∷ c ∷ d ∷ e ∷ []) h = absurd (omega arith)
  forth6 (a ∷ b ∷ c ∷ d ∷ e ∷ f ∷ []) h = refl
  forth6 (a ∷ b ∷ c ∷ d ∷ e ∷ f ∷ g ∷ l) h = absurd (omega arith)

pub get-term : (l : List Float) (p : ℕ) → get term l p ≡ term_of (get_or l p nan) (get vector l (p + 1)) (get_or l (p + 4) nan) (get_or l (p + 5) nan)
unfolding get
get-term l p =
    let w = part l p 6 in
    let at : (i : ℕ) → i < 6 → get_or w i nan ≡ get_or l (p + i) nan = λ i h. get_or-part l p 6 i nan h in
    let a : get_or w 0 nan ≡ get_or l p nan = at 0 (omega arith) ∙ rw add-zero in
    let e : record { x = get_or w 1 nan; y = get_or w 2 nan; z = get_or w 3 nan } ≡ get vector l (p + 1) = sym (get-vector w 1) ∙ get-part vector l p 6 1 (omega arith) in
    let c = at 4 (omega arith) in
    let d = at 5 (omega arith) in
    λ i. record { diagonal = a i; right = e i; degree = c i; count = d i }

pub put-term : (l : List Float) (p : ℕ) (t : CameraTerm) →
    put term l p t ≡ set (set (put vector (set l p t.diagonal) (p + 1) t.right) (p + 4) t.degree) (p + 5) t.count
unfolding put
put-term l p t =
    simp towards_suc
    (write-sets l p (t.diagonal ∷ t.right.x ∷ t.right.y ∷ t.right.z ∷ t.degree ∷ t.count ∷ [])
    ∙ ap (λ (k : List Float). set (set k (suc (suc (suc (suc p)))) t.degree) (suc (suc (suc (suc (suc p))))) t.count)
    (sym (write-sets (set l p t.diagonal) (suc p) (t.right.x ∷ t.right.y ∷ t.right.z ∷ []))))

pub get-term-by : (l : List Float) (p q : ℕ) (v : Vec3) → p ≡ q → v ≡ get vector l (p + 1) → term_of (get_or l p nan) v (get_or l (p + 4) nan) (get_or l (p + 5) nan) ≡ get term l q
get-term-by l p q v h e = rw (e, ← h) (sym (get-term l p))

pub put-term-by : (l m : List Float) (p q : ℕ) (t : CameraTerm) → p ≡ q → m ≡ put vector (set l p t.diagonal) (p + 1) t.right →
    set (set m (p + 4) t.degree) (p + 5) t.count ≡ put term l q t
put-term-by l m p q t h e = rw (e, ← h) (sym (put-term l p t))

-- a term in a field of terms, and its degree
pub term-here : (l : List Float) (n c : ℕ) → c < n → get term l (term_place c) ≡ term_at (load term l 0 n) c
term-here l n c h = rw zero-add at (sym (at_load term l 0 n c no_term h))

pub degree-at : (l : List Float) (n c : ℕ) (t : CameraTerm) → t ≡ get term l (term_place c) → c < n → t.degree ≡ degree_at (load term l 0 n) c
degree-at l n c t e h = ap (λ (t : CameraTerm). t.degree) (e ∙ term-here l n c h)

-- ---- how many counts are under 2

pub few-none : (ts : List CameraTerm) → 0 ≡ few_in ts 0
unfolding few_in
few-none ts = sym (count_none _)

pub few-more : (l : List Float) (n c k x : ℕ) (t : CameraTerm) → c < n → t ≡ get term l (term_place c) → x ≡ from_bool (lt t.count two) → k ≡ few_in (load term l 0 n) c →
    k + x ≡ few_in (load term l 0 n) (c + 1)
unfolding few_in
few-more l n c k x t h e f g = count-more _ c k x g (f ∙ ap (λ (u : CameraTerm). from_bool (lt u.count two)) (e ∙ term-here l n c h))

-- a field of values whose numbers are all the same
pub flat-same : {A : Type 0} (K : Cell A) (a : A) (v : Float) → K.numbers a ≡ replicate K.width v → (n : ℕ) → flat K (field n (λ i. a)) ≡ replicate (K.width * n) v
unfolding flat
flat-same K a v h zero = rw (field-zero (λ (i : ℕ). a), mul-zero K.width)
flat-same K a v h (suc n) =
    rw (field-suc n (λ (i : ℕ). a), mul-suc K.width n)
    (flat_append K (field n (λ i. a)) (a ∷ [])
    ∙ rw (append-nil (K.numbers a), h, flat-same K a v h n) (replicate-append-replicate (K.width * n) K.width v))

-- the terms after their numbers are cleared
pub cleared-terms : (l : List Float) (n : ℕ) → term_place n ≤ length l → replicate (term_place n) null ++ drop (term_place n) l ≡ store term l 0 (field n (λ c. no_term))
unfolding store
cleared-terms l n h = filled-write (term_place n) null l h ∙ ap (write l 0) (sym (flat-same term no_term null refl n))
