use Rattle.network.proofs.Sections.{first-of-two, second-of-two, none_of_two}
use Rattle.image.proofs.Domain.{place-fits}
use Rattle.image.specs.Reading.{content_from}
use Rattle.image.proofs.rows.find_outside.Goals as goal

pub returns-in-Some : goal.returns-in-Some
unfolding content_from
returns-in-Some c = search first-of-two

pub returns-in_err-p : goal.returns-in_err-p
unfolding content_from
returns-in_err-p c = rw c.from_residual.ensures (search (none_of_two, c.in_err-p.was))

pub overflow_add-result : goal.overflow_add-result
unfolding content_from
overflow_add-result c = rw c.count.ensures.value (search (place-fits, c.in_ok-p.was))

pub returns : goal.returns
unfolding content_from
returns c = rw c.count.ensures.value (search (second-of-two, c.in_ok-p.was))
