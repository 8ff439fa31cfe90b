use Rattle.std.proofs.Common.{◌≡◌, true, false, arith, rules, tests}
use Rattle.std.proofs.lemmas.Iterator.{first_from_Range}
use Rattle.field.proofs.Counting.{lowest-searched}
use Rattle.network.specs.Refusals.{strays}
use Rattle.network.proofs.ends.find_stray.Goals as goal

pub returns : goal.returns
returns c =
    let p = strays c.args.s.cameras c.args.s.points c.args.s.bearings c.args.ends.now in
    lowest-searched p 0 _ (λ k h. absurd (omega arith))
    (first_from_Range _ _ _ _ (λ i. p i ≡ true) (λ i. p i ≡ false) c.find.ensures.ran (λ x q k. search (rules, tests)) (λ x q k. (search rules, search (rules, tests))))
