use Rattle.image.proofs.fill.value_at.Goals as goal

pub returns : goal.returns
returns c = rw (c.finite_at.ensures, c.requires.p_value) at c.unwrap_or.ensures
