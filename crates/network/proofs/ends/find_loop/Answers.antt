use borrow.Author.Tests.{lt-leb}
use Rattle.std.proofs.Common.{ℕ, List, ◌<◌, ◌≡◌, true, false, rules, tests}
use Rattle.std.proofs.lemmas.Iterator.{first_from_Range}
use Rattle.field.proofs.Counting.{lowest-searched}
use Rattle.network.specs.Refusals.{loops}
use Rattle.network.proofs.ends.find_loop.Goals as goal

-- a bearing is no direction
no_loop : (b : ℕ) (ends : List ℕ) (r : ℕ) → r < b → loops b ends r ≡ false
unfolding loops
no_loop b ends r h = rw (lt-leb b r h)

pub returns : goal.returns
returns c =
    let p = loops c.args.s.bearings c.args.ends.now in
    lowest-searched p c.args.s.bearings _ (no_loop c.args.s.bearings c.args.ends.now)
    (first_from_Range _ _ _ _ (λ i. p i ≡ true) (λ i. p i ≡ false) c.find.ensures.ran (λ x q k. search (rules, tests)) (λ x q k. (search rules, search (rules, tests))))
