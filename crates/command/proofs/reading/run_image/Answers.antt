use Rattle.command.proofs.Printing.{handed}
use Rattle.command.proofs.Outcomes.{refused-outcome, long-refused, short, counts-refused, counts-passed, many-refused, few}
use Rattle.command.proofs.reading.run_image.Goals as goal

pub returns-in_err-refused_if : goal.returns-in_err-refused_if
returns-in_err-refused_if c = handed _ _ _ _ c.from_residual.ensures.1 (search (refused-outcome, long-refused, c.in_err-refused_if.was))

pub returns-in_err-s : goal.returns-in_err-s
returns-in_err-s c = handed _ _ _ _ c.from_residual-in_err-s.ensures.1 (search (refused-outcome, counts-refused, short, c.in_ok-refused_if.was, c.in_err-s.was))

pub returns-in_err-refused_if-2 : goal.returns-in_err-refused_if-2
returns-in_err-refused_if-2 c = handed _ _ _ _ c.from_residual-in_err-refused_if-2.ensures.1
    (search (refused-outcome, many-refused, counts-passed, short, c.in_ok-refused_if.was, c.in_ok-s.was, c.in_err-refused_if-2.was))

pub run_small-requires : goal.run_small-requires
run_small-requires c =
    let k = counts-passed _ (short _ c.refused_if.ensures c.in_ok-refused_if.was) c.counts.ensures _ c.in_ok-s.was in
    record { passed = k; small = few _ _ k c.refused_if-2.ensures c.in_ok-refused_if-2.was }
