use Rattle.network.proofs.Verdicts.{halts-in, handed-out, passes-in}
use borrow.Author.Rules.{rules}
use Rattle.placement.proofs.checks.check_rows.Goals as goal

pub returns-in_err-check_network_rows : goal.returns-in_err-check_network_rows
returns-in_err-check_network_rows c = record {
  value = handed-out c.from_residual.ensures.1 (search (halts-in, c.in_err-check_network_rows.was, c.check_network_rows.ensures.value));
  marks_after = search rules;
}

pub returns : goal.returns
returns c = record { value = search (passes-in, c.in_ok-check_network_rows.was, c.check_network_rows.ensures.value); marks_after = search rules }
