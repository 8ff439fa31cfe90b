use Rattle.std.proofs.Common.{◌≡◌, true, false, arith, rules, tests}
use Rattle.std.proofs.lemmas.Iterator.{first_from_Range}
use Rattle.field.proofs.Counting.{lowest-searched}
use Rattle.network.specs.Network.{rows}
use Rattle.network.specs.Refusals.{strays}
use Rattle.image.specs.Reading.{ends_from}
use Rattle.image.proofs.rows.find_stray.Goals as goal

pub returns : goal.returns
returns c =
    let s = c.args.image.now.shape in
    let p = strays s.cameras s.points s.bearings (ends_from c.args.image.now.at (rows s) c.args.image.now.bytes) in
    rw c.count.ensures.value at
    (lowest-searched p 0 _ (λ k h. absurd (omega arith))
    (first_from_Range _ _ _ _ (λ i. p i ≡ true) (λ i. p i ≡ false) c.find.ensures.ran (λ x q k. search (rules, tests)) (λ x q k. (search rules, search (rules, tests)))))
