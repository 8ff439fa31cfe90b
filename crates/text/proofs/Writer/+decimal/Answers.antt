use Rattle.text.proofs.Lines.{decimal-first, decimal-room, decimal-last}
use Rattle.text.proofs.Writer.+decimal.Goals as goal

pub returns-then-x-lt10 : goal.returns-then-x-lt10
returns-then-x-lt10 t c = search decimal-first

pub byte-requires-2 : goal.byte-requires-2
byte-requires-2 t c = search decimal-room

pub returns : goal.returns
returns t c = search decimal-last
