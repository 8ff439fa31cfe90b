use Rattle.sqrt.proofs.Joined.{rooted-even, rooted-odd}
use Rattle.sqrt.proofs.root_bits.Goals as goal

pub returns-then-x-eq0 : goal.returns-then-x-eq0
returns-then-x-eq0 c = search rooted-even

pub returns-else-x-eq0 : goal.returns-else-x-eq0
returns-else-x-eq0 c = search rooted-odd
