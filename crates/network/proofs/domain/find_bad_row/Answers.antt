use Rattle.std.proofs.Common.{◌≡◌, true, false, arith, rules, tests}
use Rattle.std.proofs.lemmas.Iterator.{first_from_Range}
use Rattle.field.proofs.Counting.{lowest-searched}
use Rattle.network.specs.Refusals.{bad_row}
use Rattle.network.proofs.domain.find_bad_row.Goals as goal

pub returns : goal.returns
returns c =
    let p = bad_row c.args.c.now.weights c.args.c.now.scales c.args.c.now.rays in
    rw (← c.shape-s.ensures) (lowest-searched p 0 _ (λ k h. absurd (omega arith))
    (first_from_Range _ _ _ _ (λ i. p i ≡ true) (λ i. p i ≡ false) c.find.ensures.ran (λ x q k. search (rules, tests)) (λ x q k. (search rules, search (rules, tests)))))
