use mathlib.Core.Path.{sym, ◌∙◌}
use Rattle.iterative.proofs.components.bad_curvature_one.Goals as goal

pub returns-then-not-active : goal.returns-then-not-active
returns-then-not-active c = rw c.if-not-active.true

pub returns-then-not-is_finite : goal.returns-then-not-is_finite
returns-then-not-is_finite c = rw (c.if-not-active.false, sym c.is_finite.ensures ∙ c.if-not-is_finite.true)

pub returns : goal.returns
returns c =
    rw (
      c.if-not-active.false,
      sym c.is_finite.ensures
          ∙ c.if-not-is_finite.false,
      c.abs.ensures,
    )
