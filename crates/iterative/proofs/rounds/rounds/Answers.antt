use Rattle.std.proofs.Common.{◌≡◌, ◌∙◌, ap, Ok}
use Rattle.network.proofs.Verdicts.{given}
use Rattle.std.proofs.Common.{Break, Continue}
use Rattle.iterative.proofs.Running.{rounds-next, rounds-none, rounds-failed, rounds-done}
use Rattle.iterative.proofs.rounds.rounds.Goals as goal

pub loop-init : goal.loop-init
loop-init c = search rounds-none

pub returns-in_err-n : goal.returns-in_err-n
returns-in_err-n c = rw (given c.from_residual.ensures.1) (let m = rw c.shape.ensures.value at c.most_rounds-most.ensures in search (rounds-failed, c.in_err-n.was))

pub returns-in-Break : goal.returns-in-Break
returns-in-Break c = let e : c.round.result ≡ Ok (Break c.in-Break.n) = c.in_ok-n.was ∙ ap Ok c.in-Break.is in let m = rw c.shape.ensures.value at c.most_rounds-most.ensures in search rounds-done

pub loop-preserved : goal.loop-preserved
loop-preserved c = let e : c.round.result ≡ Ok (Continue c.in-Continue.n) = c.in_ok-n.was ∙ ap Ok c.in-Continue.is in search rounds-next
