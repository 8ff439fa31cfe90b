use Rattle.std.proofs.Common.{◌≡◌, ℕ, ◌-◌, List, ◌++◌, length, take, drop, sym, ap, ◌∙◌, append_assoc, take-append-drop}
use Rattle.std.proofs.lemmas.List.{take_rest}
use Rattle.std.proofs.KnownBytes.{Appends-trans}
use Rattle.stream.proofs.write_all.Goals as goal

-- n more bytes are taken
taken : (all done rest : List ℕ) (n : ℕ) → all ≡ done ++ rest → all ≡ (done ++ take n rest) ++ take (length rest - n) (drop n rest)
taken all done rest n e =
    e ∙ ap (λ l. done ++ l) (sym (take-append-drop n rest)) ∙ sym (append_assoc done (take n rest) (drop n rest)) ∙ ap (λ l. (done ++ take n rest) ++ l) (sym (take_rest rest n))

pub loop-to-preserved : goal.loop-to-preserved
loop-to-preserved g c =
    let (done, split, appended) = c.loop-to.invariant in
    let rest = c.loop-to.rest.now in
    let n = c.in-Ok.count in
    (done ++ take n rest, taken _ done rest n split, Appends-trans _ _ _ _ _ appended c.in-Ok.ensures.bytes)
