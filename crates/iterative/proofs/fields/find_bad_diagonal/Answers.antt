use Rattle.std.proofs.Common.{◌≡◌, true, false, rules, tests}
use Rattle.std.proofs.lemmas.Iterator.{first_from_Range}
use Rattle.iterative.proofs.Entries.{bad_in, bad-searched}
use Rattle.iterative.proofs.fields.find_bad_diagonal.Goals as goal

pub returns : goal.returns
returns c =
    let p = bad_in c.args.work.now c.args.frame.anchor in
    bad-searched _ _ _
    (first_from_Range _ _ _ _ (λ i. p i ≡ true) (λ i. p i ≡ false) c.find.ensures.ran (λ x q k. search (rules, tests)) (λ x q k. (search rules, search (rules, tests))))
