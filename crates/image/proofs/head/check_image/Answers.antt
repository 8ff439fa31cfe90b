use Rattle.network.proofs.Verdicts.{halts, handed-out, passes, last, test-is, test-at-is}
use Rattle.image.proofs.Heads.{head_passed, pairs-passed}
use Rattle.image.specs.Tests.{image_tests}
use native.Mathlib.Omega.{arith}
use Rattle.image.proofs.head.check_image.Goals as goal

pub returns-in_err-refused_if : goal.returns-in_err-refused_if
unfolding image_tests
returns-in_err-refused_if c = handed-out c.from_residual.ensures.1 (search (halts, test-is, c.in_err-refused_if.was))

pub find_pair-requires : goal.find_pair-requires
unfolding image_tests
find_pair-requires c = record { k_in_bounds = search (head_passed, c.in_ok-refused_if.was); le_k = omega arith }

pub returns-in_err-refused_at : goal.returns-in_err-refused_at
unfolding image_tests
returns-in_err-refused_at c =
    handed-out c.from_residual-in_err-refused_at.ensures.1 (search (passes, halts, test-is, test-at-is, c.in_ok-refused_if.was, c.in_err-refused_at.was))

pub find_section-requires : goal.find_section-requires
unfolding image_tests
find_section-requires c = record { in_bounds = search (head_passed, c.in_ok-refused_if.was); bytes_value = search (pairs-passed, c.in_ok-refused_at.was) }

pub returns : goal.returns
unfolding image_tests
returns c = search (passes, last, test-is, test-at-is, c.in_ok-refused_if.was, c.in_ok-refused_at.was)
