use Rattle.std.proofs.Common.{◌≡◌, ap, ◌∙◌, length, replicate, rules}
use Rattle.network.proofs.Verdicts.{last, test-not-is}
use Rattle.network.specs.Refusals.{list_tests}
use Rattle.network.proofs.lists.check_lists.Goals as goal

pub returns : goal.returns
unfolding list_tests
returns c =
    let held : length c.lists_hold-hold.new.marks ≡ c.args.s.bearings = c.lists_hold-hold.ensures.marks_len in
    let zeros : c.fill.new.self ≡ replicate (length c.lists_hold-hold.new.marks) 0 = search rules in
    record { value = search (last, test-not-is); marks_after = zeros ∙ ap (λ n. replicate n 0) held }
