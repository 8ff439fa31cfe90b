use Rattle.lists.proofs.Entries.{lists-passed, call-refused, call-passed}
use Rattle.network.proofs.Verdicts.{given}
use Rattle.lists.proofs.list_points.Goals as goal

pub returns-in_err-check : goal.returns-in_err-check
returns-in_err-check c = rw (given c.from_residual.ensures.1) (search (call-refused, c.in_err-check.was))

pub new-rows-requires : goal.new-rows-requires
new-rows-requires c = (lists-passed _ _ c.check.ensures c.in_ok-check.was).0

pub sort_rows-requires : goal.sort_rows-requires
sort_rows-requires c =
    let p = lists-passed _ _ c.check.ensures c.in_ok-check.was in
    rw c.new-rows.ensures (record { offsets_len = p.1.0; listed_len = p.1.1 })

pub returns : goal.returns
returns c = let o = rw c.new-rows.ensures at c.sort_rows.ensures in search (call-passed, c.in_ok-check.was)
