use Rattle.std.proofs.Common.{◌≡◌, ◌≤◌}
use Rattle.field.specs.Buffer.{load}
use Rattle.system.specs.Work.{term}
use Rattle.system.specs.inner.Formed.{few_in}
use Rattle.system.proofs.reads.count_few.Given as goal

abbrev pub invariant-loop-c : goal.invariant-loop-c
invariant-loop-c l = (l.few ≤ l.c) × (l.few ≡ few_in (load term l.work 0 l.n) l.c)
