use Rattle.network.proofs.Verdicts.{halts-in, handed-out, marks-left, marks-zero, passes-in}
use Rattle.network.specs.Refusals.{link_tests}
use Rattle.network.proofs.check_links.Goals as goal

pub returns-in_err-check_ends : goal.returns-in_err-check_ends
unfolding link_tests
returns-in_err-check_ends c = record {
  value = handed-out c.from_residual.ensures.1 (search (halts-in, c.in_err-check_ends.was));
  marks_after = search (marks-left, c.in_err-check_ends.was);
}

pub returns : goal.returns
unfolding link_tests
returns c = record { value = search (passes-in, c.in_ok-check_ends.was); marks_after = search (marks-zero, c.in_ok-check_ends.was) }
