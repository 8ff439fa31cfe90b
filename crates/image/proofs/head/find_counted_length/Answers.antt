use Rattle.image.proofs.head.find_counted_length.Goals as goal

pub returns : goal.returns
returns c = rw (c.sizes.ensures, c.shape_at.ensures.value) at c.find_length.ensures
