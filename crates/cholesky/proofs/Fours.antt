-- Four neighbouring columns: laws over the lane, the number of a column among them. Assumes nothing.
use mathlib.Core.Path.{◌≡◌, refl, sym, ◌∙◌}
use mathlib.Core.Logic.{◌≢◌}
use mathlib.Core.Bool.{Bool, true, false, true≢false}
use mathlib.Core.List.{List}
use Prim.Native.Nat.{ℕ, zero, suc, ◌+◌, ◌*◌, ◌≤◌, ◌<◌}
use native.Mathlib.Nat.{add-zero, zero-add}
use native.Mathlib.Omega.{arith}
use borrow.Author.Count.{below_none, below_more}
use lib.ListN.{length, get_or, set, length-set}
use lib.Seq.{get_or-set_same, get_or-set_other}
use lib.Ieee.{Float, nan, binary64, div}
use lib.Ieee.Scale.{finite}
use Rattle.double.proofs.Truth.{both_true}
use Rattle.field.specs.Count.{upto}
use Rattle.field.proofs.Counting.{upto-invariant}
use Rattle.cholesky.specs.declared.Four.{Four}
use Rattle.cholesky.specs.Cholesky.{entry}
use Rattle.cholesky.specs.inner.Stages.{lane, all, finite4, off, taken, placed, packed, packed_with, four, stored, Solves}
use Rattle.cholesky.proofs.Places.{place-below, places-apart, through}

-- ---- lanes

each_lane : (P : ℕ → Type 0) → P 0 → P 1 → P 2 → P 3 → (k : ℕ) → k < 4 → P k
each_lane P a b c e = below_more P 3 (below_more P 2 (below_more P 1 (below_more P 0 (below_none P) a) b) c) e

-- two fours that agree in each lane are equal
four-ext : (x y : Four) → ((k : ℕ) → k < 4 → lane k x ≡ lane k y) → x ≡ y
four-ext x y h = λ i. record { first = h 0 (omega arith) i; second = h 1 (omega arith) i; third = h 2 (omega arith) i; fourth = h 3 (omega arith) i }

lane-packed : (p : List Float) (t k : ℕ) → k < 4 → lane k (packed p t) ≡ get_or p (256 * k + t) nan
unfolding packed
lane-packed p t = each_lane _ refl refl refl refl

pub lane-four : (d : ℕ) (A : List Float) (i j k : ℕ) → k < 4 → lane k (four d A i j) ≡ entry d A i (j + k)
unfolding four
lane-four d A i j = each_lane _ refl refl refl refl

-- ---- tests of several numbers

all_true : (p : ℕ → Bool) (n : ℕ) → all p n ≡ true → (k : ℕ) → k < n → p k ≡ true
unfolding all
all_true p zero e k h = absurd (omega arith)
all_true p (suc n) e k h = let b = both_true (all p n) (p n) e in through _ n (all_true p n b.0) b.1 k (omega arith)

-- the first that fails
abbrev pub Fails : (ℕ → Bool) → ℕ → Type 0
Fails p n = (k : ℕ) × (k < n) × (p k ≡ false) × ((o : ℕ) → o < k → p o ≡ true)

all-false : (p : ℕ → Bool) (n : ℕ) → all p n ≡ false → Fails p n
unfolding all
all-false p zero e = absurd (true≢false e)
all-false p (suc n) e = go (all p n) refl (λ q. all-false p n q)
  where
    go : (b : Bool) → all p n ≡ b → (all p n ≡ false → Fails p n) → Fails p (suc n)
    go true q f = (n, omega arith, rw q at e, all_true p n q)
    go false q f = let r = f q in (r.0, omega arith, r.2, r.3)

-- ---- numbers g k put at the places q k

module _ (q : ℕ → ℕ) (g : ℕ → Float) where
  pub record SetEach (n : ℕ) (A B : List Float) : Type 0 where
    pub size : length B ≡ length A
    pub own : (k : ℕ) → k < n → get_or B (q k) nan ≡ g k
    pub rest : (r : ℕ) → ((k : ℕ) → k < n → r ≢ q k) → get_or B r nan ≡ get_or A r nan

  pub placed-is : (n : ℕ) (A : List Float) → ((k : ℕ) → k < n → q k < length A) → ((o k : ℕ) → o < k → k < n → q o ≢ q k) → SetEach n A (placed q g n A)
  unfolding placed
  placed-is n A below apart =
      upto-invariant (λ (k : ℕ) (B : List Float). SetEach k A B) (λ k B. set B (q k) (g k)) n A
      (λ k B h p. record {
        size = length-set B (q k) (g k) ∙ p.size;
        own = λ o ho.
            through (λ (o : ℕ). get_or (set B (q k) (g k)) (q o) nan ≡ g o) k
            (λ o b. get_or-set_other B (q k) (q o) (g k) nan (apart o k b h) ∙ p.own o b)
            (get_or-set_same B (q k) (g k) nan (rw p.size (below k h)))
            o (omega arith);
        rest = λ r f. get_or-set_other B (q k) r (g k) nan (f k (omega arith)) ∙ p.rest r (λ o b. f o (omega arith));
      })
      (record { size = refl; own = λ k h. absurd (omega arith); rest = λ r f. refl })

-- ---- the packed columns

module _ (p : List Float) (t : ℕ) (x : Four) (hp : length p ≡ 1024) (ht : t < 256) where
  packs : SetEach (λ k. 256 * k + t) (λ k. lane k x) 4 p (packed_with p t x)
  unfolding packed_with
  packs = placed-is _ _ 4 p (λ k h. omega arith) (λ o k b h e. omega arith)

  pub packed-own : packed (packed_with p t x) t ≡ x
  packed-own = four-ext _ x (λ k h. lane-packed (packed_with p t x) t k h ∙ packs.own k h)

  pub packed-rest : (u : ℕ) → u < t → packed (packed_with p t x) u ≡ packed p u
  packed-rest u hu = four-ext _ _ (λ k h. lane-packed (packed_with p t x) u k h ∙ packs.rest (256 * k + u) (λ o b e. omega arith) ∙ sym (lane-packed p u k h))

-- ---- four neighbouring entries

module _ (d : ℕ) where
  pub four-read : (A : List Float) (i j : ℕ) (x : Four) →
      x.first ≡ entry d A i j →
      x.second ≡ entry d A i (j + 1) →
      x.third ≡ entry d A i (j + 2) →
      x.fourth ≡ entry d A i (j + 3) →
      x ≡ four d A i j
  four-read A i j x e f g h =
      four-ext x (four d A i j)
      (λ k b. each_lane (λ (k : ℕ). lane k x ≡ entry d A i (j + k)) (rw add-zero e) f g h k b ∙ sym (lane-four d A i j k b))

  pub four_same : (A B : List Float) (i j : ℕ) → ((c : ℕ) → j ≤ c → c < j + 4 → entry d B i c ≡ entry d A i c) → four d B i j ≡ four d A i j
  four_same A B i j f =
      four-ext (four d B i j) (four d A i j)
      (λ k b. lane-four d B i j k b ∙ f (j + k) (omega arith) (omega arith) ∙ sym (lane-four d A i j k b))

  module _ (A : List Float) (i j : ℕ) (x : Four) (hl : length A ≡ d * d) (hj : j + 3 < d) (hi : i < d) where
    stores : SetEach (λ k. i * d + (j + k)) (λ k. lane k x) 4 A (stored d A i j x)
    unfolding stored
    stores = placed-is _ _ 4 A (λ k h. let b = place-below d i (j + k) hi (omega arith) in omega arith) (λ o k b h e. omega arith)

    pub stored-size : length (stored d A i j x) ≡ d * d
    stored-size = stores.size ∙ hl

    pub stored-own : (k : ℕ) → k < 4 → entry d (stored d A i j x) i (j + k) ≡ lane k x
    stored-own = stores.own

    pub stored-rest : (m c : ℕ) → ((m ≡ i) × (j ≤ c) × (c < j + 4) → ⊥) → c < d → entry d (stored d A i j x) m c ≡ entry d A m c
    stored-rest m c f hc = stores.rest (m * d + c) (λ k h. places-apart d m c i (j + k) (λ e. f (e.0, omega arith, omega arith)) hc (omega arith))

  -- the matrix after four stores
  pub stored-done : (A B C D E : List Float) (i j : ℕ) (x : Four) →
      B ≡ set A (i * d + j) x.first →
      C ≡ set B (i * d + (j + 1)) x.second →
      D ≡ set C (i * d + (j + 2)) x.third →
      E ≡ set D (i * d + (j + 3)) x.fourth →
      E ≡ stored d A i j x
  unfolding stored placed upto
  stored-done A B C D E i j x e f g h = rw (h, g, f, e, add-zero)

  -- the quotients as the code makes them
  pub quotients-done : (A : List Float) (j : ℕ) (v x : Four) (a₀ b₀ b₁ c₀ c₁ c₂ e₀ e₁ e₂ e₃ : Float) →
      a₀ ≡ entry d A j j →
      b₀ ≡ entry d A (j + 1) j →
      b₁ ≡ entry d A (j + 1) (j + 1) →
      c₀ ≡ entry d A (j + 2) j →
      c₁ ≡ entry d A (j + 2) (j + 1) →
      c₂ ≡ entry d A (j + 2) (j + 2) →
      e₀ ≡ entry d A (j + 3) j →
      e₁ ≡ entry d A (j + 3) (j + 1) →
      e₂ ≡ entry d A (j + 3) (j + 2) →
      e₃ ≡ entry d A (j + 3) (j + 3) →
      x.first ≡ div binary64 v.first a₀ →
      x.second ≡ div binary64 (off v.second x.first b₀) b₁ →
      x.third ≡ div binary64 (off (off v.third x.first c₀) x.second c₁) c₂ →
      x.fourth ≡ div binary64 (off (off (off v.fourth x.first e₀) x.second e₁) x.third e₂) e₃ →
      Solves d A j v x
  unfolding upto
  quotients-done A j v x a₀ b₀ b₁ c₀ c₁ c₂ e₀ e₁ e₂ e₃ h₀ i₀ i₁ j₀ j₁ j₂ k₀ k₁ k₂ k₃ ha hb hc he =
      record {
        quotients = each_lane _
            (rw add-zero (rw h₀ at ha))
            (rw add-zero (rw (i₀, i₁) at hb))
            (rw add-zero (rw (j₀, j₁, j₂) at hc))
            (rw add-zero (rw (k₀, k₁, k₂, k₃) at he));
      }

-- ---- products and tests as the code makes them

pub taken-done : (v : Float) (x : Four) (p : List Float) (t : ℕ) →
    off (off (off (off v x.first (get_or p t nan)) x.second (get_or p (256 + t) nan)) x.third (get_or p (512 + t) nan)) x.fourth (get_or p (768 + t) nan) ≡ taken v x (packed p t)
unfolding taken packed upto
taken-done v x p t = rw zero-add

pub packed-done : (p : List Float) (t : ℕ) (x : Four) →
    set (set (set (set p t x.first) (256 + t) x.second) (512 + t) x.third) (768 + t) x.fourth ≡ packed_with p t x
unfolding packed_with placed upto
packed-done p t x = rw zero-add

pub finite-lanes : (x : Four) → finite4 x ≡ true → (k : ℕ) → k < 4 → finite (lane k x) ≡ true
unfolding finite4
finite-lanes x e = all_true (λ k. finite (lane k x)) 4 e

pub infinite-lane : (x : Four) → finite4 x ≡ false → Fails (λ k. finite (lane k x)) 4
unfolding finite4
infinite-lane x e = all-false (λ k. finite (lane k x)) 4 e
