use Rattle.stream.specs.Stream.{ReadInto}
use Rattle.std.proofs.Common.{rules}
use Rattle.solve.proofs.main.Goals as goal

pub slice_bounds-image-end : goal.slice_bounds-image-end
unfolding ReadInto
slice_bounds-image-end c = search (rules, c.in-Ok.ensures)

pub slice_bounds-answer-end : goal.slice_bounds-answer-end
unfolding ReadInto
slice_bounds-answer-end c = search (rules, c.in-Ok.ensures)
