use mathlib.Core.Path.{sym}
use Rattle.std.proofs.Math.Seq.{set_out}
use Rattle.exports.proofs.codes.put.Goals as goal

pub returns-else-i-report : goal.returns-else-i-report
returns-else-i-report c = sym (set_out _ _ _ c.if-i-report.false)
