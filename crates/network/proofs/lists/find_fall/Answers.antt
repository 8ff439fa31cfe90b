use Rattle.std.proofs.Common.{◌≡◌, true, false, arith, rules, tests}
use Rattle.std.proofs.lemmas.Iterator.{first_from_Range}
use Rattle.field.proofs.Counting.{lowest-searched}
use Rattle.network.specs.Lists.{falls}
use Rattle.network.proofs.lists.find_fall.Goals as goal

pub returns : goal.returns
unfolding falls
returns c =
    let p = falls c.args.lists.now.offsets in
    rw (← c.shape.ensures.value) (lowest-searched p 0 _ (λ k h. absurd (omega arith))
    (first_from_Range _ _ _ _ (λ i. p i ≡ true) (λ i. p i ≡ false) c.find.ensures.ran (λ x q k. search (rules, tests)) (λ x q k. (search rules, search (rules, tests)))))
