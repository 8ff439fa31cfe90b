-- Laws of what a read put into a part of the buffer. Assumes nothing.
use Rattle.std.proofs.Common.{◌≡◌, ℕ, ◌+◌, ◌-◌, List, ◌++◌, length, take, drop, refl, sym, ap, ◌∙◌, subst, arith, rules, zero-add, Result, Ok, Err, Option, ◌<◌}
use Rattle.std.specs.Result.{IsErr}
use Rattle.std.proofs.lemmas.Slice.{overwrites}
use Rattle.std.proofs.lemmas.List.{drop-drop, take_rest, take_at, drop_at, take-append-le, length-take-le, length-drop, length-append}
use borrow.Rule.Slice.PartMut.{put_mid}
use Rattle.stream.specs.Stream.{Overwritten, ReadInto}
use Rattle.stream.specs.inner.Steps.{Stored}
use Rattle.std.specs.Io.{ReadsAtMost}
use Rattle.std.specs.Io.KnownBytes.{Consumes, ReadConsumes}

-- a call that failed
pub failed : {E : Type 0} (r : Result ℕ E) (old new : List ℕ) → IsErr r → length new ≡ length old → ReadInto r old new
unfolding ReadInto
failed (Ok k) old new h l = cc
failed (Err _) old new h l = l

-- One read's bytes, stored: what is promised of the read that gave them. Its n bytes stand at the front of `part`, and `part` at the front of an array.
pub stored-into : {E : Type 0} (r : Result ℕ E) (chunk old new : List ℕ) → Stored r chunk old new → ReadInto r old new
unfolding ReadInto
stored-into (Ok n) chunk old new s =
    let l : length (take n chunk) ≡ n = length-take-le n chunk s.0 in
    let o : Overwritten 0 n old (take n chunk ++ drop n old) = record {
      within = omega (arith, s.1);
      size = omega (arith, s.1, l, length-drop n old, length-append (take n chunk) (drop n old));
      front = refl;
      rest = rw zero-add (drop_at (take n chunk) (drop n old) n l);
    } in
    subst (Overwritten 0 n old) (sym s.2) o
stored-into (Err _) chunk old new s = ap length s

pub stored-kept : {E : Type 0} (r : Result ℕ E) (chunk old new : List ℕ) → Stored r chunk old new → IsErr r → new ≡ old
stored-kept (Ok n) chunk old new s e = cc
stored-kept (Err _) chunk old new s e = s

pub stored-bytes : {E : Type 0} (a b : Option (List ℕ)) (r : Result ℕ E) (part past old new : List ℕ) → ReadsAtMost r part
    → (0 < length new → 0 < length part) → Stored r (part ++ past) old new → ReadConsumes a b r part → ReadConsumes a b r new
stored-bytes a b (Ok n) part past old new h z s w =
    let f : take n (part ++ past) ≡ take n part = take-append-le n part past h.0 in
    let l : length (take n part) ≡ n = length-take-le n part h.0 in
    let q : take n new ≡ take n part = ap (take n) s.2 ∙ (ap (λ x. take n (x ++ drop n old)) f ∙ take_at (take n part) (drop n old) n l) in
    (subst (Consumes a b) (sym q) w.0, λ e k. w.1 e (z k))
stored-bytes a b (Err _) part past old new h z s w = w

-- The reads so far, and one more into what is left of the buffer, after which that is `part`.
module _ (d : ℕ) (old mid part : List ℕ) (a : Overwritten 0 d old mid) where
  pub size_more : length part ≡ length (take (length mid - d) (drop d mid)) → length (put_mid d (length mid - d) mid part) ≡ length old
  size_more l = search (rules, overwrites)

  pub kept_more : (k : ℕ) → Overwritten 0 k (take (length mid - d) (drop d mid)) part → Overwritten 0 (d + k) old (put_mid d (length mid - d) mid part)
  kept_more k h =
      let b : Overwritten 0 k (drop d mid) part = rw (take_rest mid d) at h in
      let ra : drop d mid ≡ drop d old = rw zero-add at a.rest in
      let rb : drop k part ≡ drop k (drop d mid) = rw zero-add at b.rest in
      let whole : put_mid d (length mid - d) mid part ≡ take d mid ++ part = search (rules, overwrites, b.size) in
      let past : drop d (take d mid ++ part) ≡ part = drop_at _ _ d (length-take-le d mid (omega arith)) in
      record {
        within = omega (arith, length-drop d mid);
        size = size_more h.size;
        front = refl;
        rest = rw zero-add (cc (drop-drop k d (put_mid d (length mid - d) mid part), drop-drop k d old));
      }
