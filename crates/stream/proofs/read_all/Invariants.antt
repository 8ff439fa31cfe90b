use Rattle.std.proofs.Common.{length, ◌-◌}
use Rattle.stream.specs.Stream.{Overwritten}
use Rattle.stream.proofs.read_all.Given as goal

abbrev pub invariant-loop-done : goal.invariant-loop-done
invariant-loop-done g l = Overwritten 0 l.done l.initial.buf l.buf

abbrev pub decreases-loop-done : goal.decreases-loop-done
decreases-loop-done g l = length l.initial.buf - l.done
