use Rattle.network.proofs.Verdicts.{halts-in, handed-out, passes-in, last, test-at-is}
use Rattle.lists.specs.PointLists.{point_lists_tests}
use Rattle.lists.proofs.Entries.{lengths-tested, rows-held}
use Rattle.lists.proofs.entry.check.Goals as goal

pub returns-in_err-check_lengths : goal.returns-in_err-check_lengths
unfolding point_lists_tests
returns-in_err-check_lengths c = handed-out c.from_residual.ensures.1 (search (halts-in, lengths-tested, c.in_err-check_lengths.was))

pub find_past-requires : goal.find_past-requires
unfolding point_lists_tests
find_past-requires c = search (rows-held, c.in_ok-check_lengths.was)

pub returns : goal.returns
unfolding point_lists_tests
returns c = search (passes-in, lengths-tested, last, test-at-is, c.in_ok-check_lengths.was)
