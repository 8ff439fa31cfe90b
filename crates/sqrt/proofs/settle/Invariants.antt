use Rattle.sqrt.proofs.Bracket.{Bracket}
use Rattle.sqrt.proofs.settle.Given as goal

abbrev pub invariant-loop-turn : goal.invariant-loop-turn
invariant-loop-turn l = Bracket l.d l.lo l.hi l.turn
