use Rattle.text.specs.Text.{report_line, ascii}
use Rattle.text.proofs.Puts.{wrote_three}
use Rattle.text.proofs.put_report.Goals as goal

pub returns : goal.returns
unfolding report_line ascii
returns c = search wrote_three
