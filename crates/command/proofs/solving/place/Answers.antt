use native.Mathlib.Omega.{arith}
use Rattle.command.proofs.Passing.{graph-passed}
use Rattle.command.proofs.Placed.{solved, solved-printed, solve-refused}
use Rattle.command.proofs.Printing.{handed}
use borrow.Author.Rules.{rules}
use Rattle.command.proofs.solving.place.Goals as goal

pub count_parts-parts-requires : goal.count_parts-parts-requires
count_parts-parts-requires c = search graph-passed

pub print-requires : goal.print-requires
print-requires c = let B = c.requires.buffers_sized in let k = c.requires.content_sound.small in (omega (arith, k.cameras, B.cameras), omega (arith, k.points, B.points))

pub returns-in_err-report : goal.returns-in_err-report
returns-in_err-report c =
    let r = c.requires in
    let s = solved _ _ _ _ _ _ r.content_sound _ _ _ _ _ _ _ _ _ _ _ _ r.listed c.solve.ensures c.count_parts-parts.ensures r.buffers_sized (search rules) in
    handed _ _ _ _ c.from_residual.ensures.1 (solve-refused _ _ _ _ _ s _ c.in_err-report.was)

pub returns : goal.returns
returns c = search (solved-printed, solved, arith, c.in_ok-report.was)
