use Rattle.iterative.proofs.Running.{Rounds}
use Rattle.iterative.proofs.rounds.rounds.Given as goal

abbrev pub invariant-loop : goal.invariant-loop
invariant-loop l = Rounds l.t.links l.t.anchor l.initial.work l.initial.r l.counter l.work l.r
