-- Laws of reading words and digits. Assumes nothing.
use Rattle.std.proofs.Common.{Option, Some, None}
use Rattle.std.specs.Option.{option_and_then, option_map_or}
use Rattle.std.specs.List.{slice_get}
use denote.Bor.{Bor}
use mathlib.Core.Path.{◌≡◌, refl, sym, ap, ◌∙◌}
use mathlib.Core.List.{List, [], ◌∷◌}
use Prim.Native.Nat.{ℕ, zero, suc, ◌+◌, ◌-◌, ◌*◌, ◌^◌, ◌≤◌, ◌<◌}
use native.Mathlib.Nat.{pow-succ', pow-le-pow_right, mul-le-mul_left, mul-suc}
use native.Mathlib.Numerals.{add-one}
use native.Mathlib.Omega.{arith}
use lib.ListN.{length, get_or, take, drop, length-drop, drop_of_length-le}
use lib.Seq.{take_all, drop-drop, drop-cons}
use borrow.Author.Tests.{lt-ltb, le-ltb}
use Rattle.std.proofs.lemmas.Bool.Decides.{nat_tests}
use Rattle.records.specs.declared.text.Text.{Text}
use Rattle.records.specs.Records.{stepped, worded, digit_of, digit_at, below_base, digits, valued, Number, number_at, moved, Took}

-- a text is told by its bytes and its place
module _ {u : Text} {j : Bor (List ℕ)} {p : Option ℕ} where
  pub text-is : u.input ≡ j → u.at ≡ p → u ≡ record { input = j; at = p }
  text-is i a = rw (← i, ← a) refl

  pub text-input : u ≡ record { input = j; at = p } → u.input ≡ j
  text-input e = ap (λ (x : Text). x.input) e

  pub text-at : u ≡ record { input = j; at = p } → u.at ≡ p
  text-at e = ap (λ (x : Text). x.at) e

-- ---- words

-- a word is read up to place i, and its rest goes on from the text that is left
pub record Wording (s t : Text) (w : List ℕ) (i : ℕ) : Type 0 where
  pub input : t.input ≡ s.input
  pub rest : worded s.input.now s.at w ≡ worded s.input.now t.at (drop i w)

pub wording-none : (s : Text) (w : List ℕ) → Wording s s w 0
wording-none s w = record { input = refl; rest = refl }

worded-drop : (l : List ℕ) (q : Option ℕ) (w : List ℕ) (i : ℕ) → i < length w → worded l q (drop i w) ≡ worded l (stepped l q (get_or w i 0)) (drop (i + 1) w)
unfolding worded
worded-drop l q w i h = rw (add-one, drop-cons w i 0 h)

worded-none : (l : List ℕ) (q : Option ℕ) (w : List ℕ) (i : ℕ) → length w ≤ i → worded l q (drop i w) ≡ q
unfolding worded
worded-none l q w i h = rw (drop_of_length-le w {i = i} h)

module _ (s t : Text) (w : List ℕ) (i : ℕ) (x : Wording s t w i) where
  pub wording-more : (u : Text) → u ≡ moved t (stepped t.input.now t.at (get_or w i 0)) → i < length w → Wording s u w (i + 1)
  wording-more u e h =
      let a : u.at ≡ stepped s.input.now t.at (get_or w i 0) = rw x.input at (text-at e) in
      record { input = text-input e ∙ x.input; rest = x.rest ∙ worded-drop s.input.now t.at w i h ∙ rw a }

  pub wording-done : length w ≤ i → t ≡ moved s (worded s.input.now s.at w)
  wording-done h = text-is x.input (sym (x.rest ∙ worded-none s.input.now t.at w i h))

-- ---- digits

slice_get-drop : {A : Type 0} (l : List A) (i : ℕ) → slice_get (drop i l) 0 ≡ slice_get l i
slice_get-drop l zero = refl
slice_get-drop [] (suc i) = refl
slice_get-drop (a ∷ l) (suc i) = slice_get-drop l i

digit-drop : (base : ℕ) (l : List ℕ) (i : ℕ) → digit_at base (drop i l) 0 ≡ digit_at base l i
unfolding digit_at
digit-drop base l i = ap (λ (b : Option ℕ). option_and_then (below_base base) (option_and_then digit_of b)) (slice_get-drop l i)

-- the digits from place i on
abbrev pub left : (base most : ℕ) (l : List ℕ) (i : ℕ) → List ℕ
left base most l i = digits base (most - i) (drop i l)

left-next : (base most : ℕ) (l : List ℕ) (i : ℕ) → i < most → left base most l i ≡ option_map_or (λ d. d ∷ left base most l (i + 1)) (digit_at base l i) []
unfolding digits
left-next base most l i k =
    let n : most - i ≡ suc (most - (i + 1)) = omega arith in
    rw (n, digit-drop base l i, drop-drop 1 i l)

left-none : (base most : ℕ) (l : List ℕ) (i : ℕ) → most ≤ i → left base most l i ≡ []
unfolding digits
left-none base most l i h = let n : most - i ≡ 0 = omega arith in rw n

below-is : (base : ℕ) (o : Option ℕ) (d : ℕ) → option_and_then (below_base base) o ≡ Some d → d < base
below-is base None d e = cc
below-is base (Some x) d e = grind (arith, nat_tests)

pub digit-small : (base : ℕ) (l : List ℕ) (i d : ℕ) → digit_at base l i ≡ Some d → d < base
unfolding digit_at
digit-small base l i d e = below-is base (option_and_then digit_of (slice_get l i)) d e

length_more : (o : Option ℕ) (n : ℕ) (ds : List ℕ) → length ds ≤ n → length (option_map_or (λ d. d ∷ ds) o []) ≤ suc n
length_more (Some d) n ds h = omega arith
length_more None n ds h = omega arith

pub length_digits : (base k : ℕ) (l : List ℕ) → length (digits base k l) ≤ length l
unfolding digits digit_at
length_digits base zero l = omega arith
length_digits base (suc k) [] = omega arith
length_digits base (suc k) (b ∷ l) = length_more (digit_at base (b ∷ l) 0) (length l) (digits base k l) (length_digits base k l)

valued-none : (base v : ℕ) → valued base v [] ≡ v
unfolding valued
valued-none base v = refl

valued-on : (base v d : ℕ) (ds : List ℕ) → valued base v (d ∷ ds) ≡ valued base (base * v + d) ds
unfolding valued
valued-on base v d ds = refl

-- i digits are read and make v; those that are left make the number whole
pub record Reading (base most : ℕ) (l : List ℕ) (v i : ℕ) : Type 0 where
  pub value : valued base v (left base most l i) ≡ valued base 0 (digits base most l)
  pub count : i + length (left base most l i) ≡ length (digits base most l)
  pub small : v < base ^ i
  pub within : i ≤ most

-- one digit more
below : (base v d i : ℕ) → v < base ^ i → d < base → base * v + d < base ^ (i + 1)
below base v d i h k =
    let m : base * suc v ≤ base * base ^ i = mul-le-mul_left base h in
    let e : base * suc v ≡ base * v + base = mul-suc base v in
    rw (add-one, pow-succ') (omega arith)

-- what `read_digits` ensures, of the text from a place on
abbrev pub Digits : (base most : ℕ) (text : List ℕ) (v i : ℕ) → Type 0
Digits base most text v i = (v ≡ valued base 0 (digits base most text)) × (i ≡ length (digits base most text))

read_off : (base most : ℕ) (l : List ℕ) (v i : ℕ) → Reading base most l v i → left base most l i ≡ [] → Digits base most l v i
read_off base most l v i r o = (sym (valued-none base v) ∙ rw o at r.value, omega (arith, rw o at r.count))

module _ (base most : ℕ) (l : List ℕ) (v i : ℕ) (r : Reading base most l v i) {o : Option ℕ} (f : o ≡ digit_at base l i) (k : i < most) where
  module _ (d : ℕ) (e : o ≡ Some d) where
    pub reading-more : Reading base most l (base * v + d) (i + 1)
    reading-more =
        let o : left base most l i ≡ d ∷ left base most l (i + 1) = rw (← f, e) at (left-next base most l i k) in
        record {
          value = sym (valued-on base v d (left base most l (i + 1))) ∙ rw o at r.value;
          count = omega (arith, rw o at r.count);
          small = below base v d i r.small (digit-small base l i d (sym f ∙ e));
          within = omega arith;
        }

    pub digit-fits : base ^ most ≤ 2 ^ 64 → base * v + d < 2 ^ 64
    digit-fits m =
        let s : d < base = digit-small base l i d (sym f ∙ e) in
        let b : base * v + d < base ^ (i + 1) = below base v d i r.small s in
        let p : base ^ (i + 1) ≤ base ^ most = pow-le-pow_right (omega arith) (omega arith) in
        omega arith

    pub times-fits : base ^ most ≤ 2 ^ 64 → base * v < 2 ^ 64
    times-fits m = omega (arith, digit-fits m)

  pub read-other : o ≡ None → Digits base most l v i
  read-other e = read_off base most l v i r (rw (← f, e) at (left-next base most l i k))

pub read-most : (base most : ℕ) (l : List ℕ) (v i : ℕ) → Reading base most l v i → most ≤ i → Digits base most l v most
read-most base most l v i r h = let d = read_off base most l v i r (left-none base most l i h) in (d.0, omega (arith, d.1))

-- ---- numbers

pub rest-is : (l : List ℕ) (p : ℕ) → take (length l - p) (drop p l) ≡ drop p l
rest-is l p = take_all (length l - p) (drop p l) (omega (arith, length-drop p l))

pub rest-none : (l : List ℕ) (p : ℕ) → length l < p → [] ≡ drop p l
rest-none l p h = sym (drop_of_length-le l {i = p} (omega arith))

-- a number ends within the text
pub number-ends : (base most : ℕ) (l text : List ℕ) (q v i : ℕ) → text ≡ drop q l → Digits base most text v i → i ≤ length l - q
number-ends base most l text q v i e d =
    let n : length (digits base most text) ≤ length text = length_digits base most text in
    let m : length text ≡ length l - q = rw e (length-drop q l) in
    omega (arith, d.1)

module _ (base least most : ℕ) (l : List ℕ) (p : Option ℕ) {o : Option ℕ} (f : o ≡ stepped l p 32) where
  at-lost : o ≡ None → record { value = 0; next = None } ≡ number_at base least most l p
  unfolding number_at
  at-lost g = rw (← f, g)

  module _ (text : List ℕ) (q v i : ℕ) (g : o ≡ Some q) (e : text ≡ drop q l) (d : Digits base most text v i) where
    at-short : i < least → record { value = v; next = None } ≡ number_at base least most l p
    unfolding number_at
    at-short h = rw (← f, g, ← e, ← d.0, ← d.1, lt-ltb i least h)

    at-is : least ≤ i → record { value = v; next = Some (q + i) } ≡ number_at base least most l p
    unfolding number_at
    at-is h = rw (← f, g, ← e, ← d.0, ← d.1, le-ltb i least h)

took : (t : Text) {k : Number} {v : ℕ} {q : Option ℕ} → record { value = v; next = q } ≡ k → Took t (record { input = t.input; at = q }) k v
took t e = record { value = ap (λ (x : Number). x.value) e; next = text-is refl (ap (λ (x : Number). x.next) e) }

module _ (base least most : ℕ) (t : Text) {o : Option ℕ} (f : o ≡ stepped t.input.now t.at 32) where
  pub number-lost : o ≡ None → Took t (record { input = t.input; at = None }) (number_at base least most t.input.now t.at) 0
  number-lost g = took t (at-lost base least most t.input.now t.at f g)

  module _ (text : List ℕ) (q v i : ℕ) (g : o ≡ Some q) (e : text ≡ drop q t.input.now) (d : Digits base most text v i) where
    pub number-short : i < least → Took t (record { input = t.input; at = None }) (number_at base least most t.input.now t.at) v
    number-short h = took t (at-short base least most t.input.now t.at f text q v i g e d h)

    pub number-is : least ≤ i → Took t (record { input = t.input; at = Some (q + i) }) (number_at base least most t.input.now t.at) v
    number-is h = took t (at-is base least most t.input.now t.at f text q v i g e d h)
