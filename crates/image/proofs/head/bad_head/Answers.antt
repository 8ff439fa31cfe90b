use Rattle.image.proofs.Heads.{head-short, head-version, head-count}
use Rattle.image.proofs.head.bad_head.Goals as goal

pub returns-then-bytes-k : goal.returns-then-bytes-k
returns-then-bytes-k c = search head-short

pub returns-then-u16_at-version : goal.returns-then-u16_at-version
returns-then-u16_at-version c = search head-version

pub returns : goal.returns
returns c = search head-count
