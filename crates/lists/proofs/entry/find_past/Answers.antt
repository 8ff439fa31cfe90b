use Rattle.std.proofs.Common.{◌≡◌, true, false, arith, rules, tests}
use Rattle.std.proofs.lemmas.Iterator.{first_from_Range}
use Rattle.field.proofs.Counting.{lowest-searched}
use Rattle.lists.specs.PointLists.{past_points}
use Rattle.lists.proofs.entry.find_past.Goals as goal

pub returns : goal.returns
unfolding past_points
returns c =
    let p = past_points c.args.m c.args.ends.now in
    lowest-searched p 0 _ (λ k h. absurd (omega arith))
    (first_from_Range _ _ _ _ (λ i. p i ≡ true) (λ i. p i ≡ false) c.find.ensures.ran (λ x q k. search (rules, tests)) (λ x q k. (search rules, search (rules, tests))))
