-- What holds after k rounds of the method. Assumes nothing.
use Rattle.std.proofs.Common.{Err, Ok}
use Rattle.network.specs.Refusals.{Verdict}
use mathlib.Core.Path.{◌≡◌, refl, ap, ◌∙◌}
use mathlib.Core.Bool.{Bool, true, false, cond}
use mathlib.Core.List.{List}
use Prim.Native.Nat.{ℕ, suc, ◌+◌, ◌≤◌}
use native.Mathlib.Omega.{arith}
use native.Mathlib.Numerals.{add-one}
use borrow.Author.Tests.{eq-eqb}
use lib.ListN.{length}
use Rattle.field.specs.declared.Vec3.{Vec3}
use Rattle.field.specs.Vec.{at, origin}
use Rattle.field.proofs.Counting.{length-field, get_or-field, upto-invariant}
use Rattle.iterative.specs.Problem.{Problem, Regular}
use Rattle.iterative.specs.Method.{State, Run, running, ended, failed, any, unless, inner, zero_entry, stepped_entry, precondition, start, opened}
use Rattle.iterative.specs.Method.{moved, redirected, continued, round, next, rounds}

-- each field has n entries, and the anchor stays at zero
pub record Shaped (P : Problem) (s : State) : Type 0 where
  pub positions : length s.positions ≡ P.cameras
  pub residual : length s.residual ≡ P.cameras
  pub search : length s.search ≡ P.cameras
  pub anchor : at s.positions P.anchor ≡ origin

-- a run that goes on after k rounds has made k, and a component is active
pub record RunningAt (P : Problem) (k : ℕ) (s : State) : Type 0 where
  pub kept : Shaped P s
  pub count : s.round.count ≡ k
  pub active : any s.round.active ≡ true

-- one that ended has made k at most, and no component is active
pub record EndedAt (P : Problem) (k : ℕ) (s : State) : Type 0 where
  pub kept : Shaped P s
  pub count : s.round.count ≤ k
  pub done : any s.round.active ≡ false

abbrev pub Reached : (P : Problem) → ℕ → Run → Type 0
Reached P k (running s) = RunningAt P k s
Reached P k (ended s) = EndedAt P k s
Reached P k (failed r) = Unit

module _ (P : Problem) (S : Regular P) where
  start-kept : Shaped P (start P)
  unfolding start
  start-kept = record {
    positions = length-field _ _;
    residual = S.right;
    search = length-field _ _;
    anchor = get_or-field P.cameras zero_entry P.anchor origin S.held;
  }

  moved-kept : (s : State) (w : List Vec3) (c : Vec3) → Shaped P s → Shaped P (moved P s w c)
  unfolding moved stepped_entry
  moved-kept s w c q = record {
    positions = length-field _ _;
    residual = length-field _ _;
    search = q.search;
    anchor = get_or-field P.cameras _ P.anchor origin S.held ∙ rw (eq-eqb P.anchor P.anchor refl) q.anchor;
  }

  moved-count : (s : State) (w : List Vec3) (c : Vec3) → (moved P s w c).round.count ≡ s.round.count + 1
  unfolding moved
  moved-count s w c = refl

  redirected-kept : (s : State) (z : List Vec3) (new : Vec3) → Shaped P s → Shaped P (redirected P s z new)
  unfolding redirected
  redirected-kept s z new q = record { positions = q.positions; residual = q.residual; search = length-field _ _; anchor = q.anchor }

  redirected-running : (k : ℕ) (s : State) (z : List Vec3) (new : Vec3) → RunningAt P k s → RunningAt P k (redirected P s z new)
  unfolding redirected
  redirected-running k s z new g = record { kept = redirected-kept s z new g.kept; count = g.count; active = g.active }

  unless-reached : (k : ℕ) (v : Verdict) (r : Run) → Reached P k r → Reached P k (unless failed v r)
  unless-reached k (Err q) r h = tt
  unless-reached k (Ok u) r h = h

  continued-reached : (k : ℕ) (s : State) (b : Bool) → any s.round.active ≡ b → Shaped P s → s.round.count ≡ k → Reached P k (continued P b s)
  continued-reached k s true e q c =
      let z = precondition P s.residual in
      let new = inner P s.residual z in
      unless-reached k _ (running (redirected P s z new))
      (redirected-running k s z new (record { kept = q; count = c; active = e }))
  continued-reached k s false e q c = record { kept = q; count = omega arith; done = e }

  round-reached : (k : ℕ) (s : State) → RunningAt P k s → Reached P (suc k) (round P s)
  unfolding round
  round-reached k s g =
      let w = P.operator s.search in
      let c = inner P s.search w in
      let t = moved P s w c in
      unless-reached (suc k) _ (continued P (any t.round.active) t)
      (continued-reached (suc k) t (any t.round.active) refl (moved-kept s w c g.kept) (moved-count s w c ∙ rw add-one (ap suc g.count)))

  next-reached : (k : ℕ) (r : Run) → Reached P k r → Reached P (suc k) (next P r)
  next-reached k (running s) g = round-reached k s g
  next-reached k (ended s) e = record { kept = e.kept; count = omega arith; done = e.done }
  next-reached k (failed r) t = tt

  opened-reached : (v : Verdict) → Reached P 0 (opened P v)
  unfolding start
  opened-reached (Err q) = tt
  opened-reached (Ok u) = go (any (start P).round.active) refl
    where
      go : (b : Bool) → any (start P).round.active ≡ b → Reached P 0 (cond b (running (start P)) (ended (start P)))
      go true e = record { kept = start-kept; count = refl; active = e }
      go false e = record { kept = start-kept; count = omega arith; done = e }

  pub rounds-reached : (k : ℕ) → Reached P k (rounds P k)
  unfolding rounds
  rounds-reached k = upto-invariant (Reached P) (λ (_ : ℕ). next P) k _ (λ i r l. next-reached i r) (opened-reached _)
