use Rattle.system.proofs.Forming.{rows-sound}
use Rattle.recover.proofs.row.Sites.new.Goals as goal

pub new-requires : goal.new-requires
new-requires c = rows-sound _ c.requires.sound
