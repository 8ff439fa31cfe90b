use Rattle.std.proofs.Common.{◌≡◌}
use Rattle.field.specs.Buffer.{load, store, vector}
use Rattle.operator.specs.inner.Applied.{pushed_all}
use Rattle.operator.proofs.short.push_all.Given as goal

abbrev pub invariant-loop-s : goal.invariant-loop-s
invariant-loop-s g l = l.work ≡ store vector l.initial.work l.f.into (pushed_all l.f.anchor l.u l.sights l.s-index (load vector l.initial.work l.f.into l.n))
