use Rattle.records.proofs.Reading.{number-ends, number-lost, number-short, number-is}
use native.Mathlib.Omega.{arith}
use Rattle.records.proofs.text.Text.number.Goals as goal

pub returns-in_default : goal.returns-in_default
returns-in_default c = search (number-lost, c.in_default.is)

pub overflow_add-self : goal.overflow_add-self
overflow_add-self c = omega (arith, number-ends _ _ c.args.self.now.input.now _ c.in-Some.start _ _ c.rest.ensures c.read_digits-found.ensures)

pub returns-then-found-least : goal.returns-then-found-least
returns-then-found-least c = search (number-short, c.in-Some.is)

pub returns-else-found-least : goal.returns-else-found-least
returns-else-found-least c = search (number-is, c.in-Some.is)
