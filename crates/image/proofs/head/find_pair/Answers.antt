use Rattle.image.proofs.Heads.{pair-offset, pair_end, pair-last}
use Rattle.image.proofs.head.find_pair.Goals as goal

pub returns-in-Some : goal.returns-in-Some
returns-in-Some c = search pair-offset

pub returns-then-start_of-bytes : goal.returns-then-start_of-bytes
returns-then-start_of-bytes c = search pair_end

pub returns : goal.returns
returns c = search pair-last
