use Rattle.image.proofs.Heads.{section-first, counts-there}
use Rattle.image.proofs.head.find_section.Goals as goal

pub returns-then-length-ne16 : goal.returns-then-length-ne16
returns-then-length-ne16 c = search section-first

pub find_counted_length-requires : goal.find_counted_length-requires
find_counted_length-requires c = search counts-there
