use Rattle.network.proofs.Verdicts.{halts-in, handed-out, passes-in}
use Rattle.network.specs.Refusals.{network_row_tests}
use borrow.Author.Rules.{rules}
use Rattle.network.proofs.check_network_rows.Goals as goal

pub returns-in_err-check_links : goal.returns-in_err-check_links
unfolding network_row_tests
returns-in_err-check_links c = rw (← c.net.view_is) record {
  value = handed-out c.from_residual.ensures.1 (search (halts-in, c.in_err-check_links.was, c.check_links.ensures.value));
  marks_after = search rules;
}

pub returns : goal.returns
unfolding network_row_tests
returns c =
    let content = rw (← c.net.view_is) at c.content.ensures in
    let tested = rw content at c.check_domain.ensures in
    rw (← c.net.view_is) record {
      value = search (passes-in, c.in_ok-check_links.was, c.check_links.ensures.value, tested);
      marks_after = search rules;
    }
