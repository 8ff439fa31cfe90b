use Rattle.network.proofs.Verdicts.{last, test-at-is}
use Rattle.image.specs.Tests.{room_tests}
use Rattle.image.proofs.writing.check_room.Goals as goal

pub returns : goal.returns
unfolding room_tests
returns c = search (last, test-at-is)
