use native.Mathlib.Omega.{arith}
use Rattle.std.proofs.Common.{◌≡◌, length, replicate}
use Rattle.network.proofs.PointLists.{lists-fall, lists-fit, offsets-rise-sound}
use Rattle.network.proofs.Marking.{marks-none}
use borrow.Author.Rules.{rules}
use Rattle.network.proofs.lists.lists_hold.Goals as goal

pub returns-then-not-offsets_rise : goal.returns-then-not-offsets_rise
returns-then-not-offsets_rise c = record { value = search lists-fall; marks_len = omega arith }

pub mark_points-requires : goal.mark_points-requires
mark_points-requires c =
    let zeros : c.fill.new.self ≡ replicate (length c.args.marks.now) 0 = search rules in
    record { offsets_sound = search offsets-rise-sound; marked = marks-none _ _ _ c.requires zeros }

pub returns : goal.returns
returns c = record { value = search lists-fit; marks_len = search rules }
