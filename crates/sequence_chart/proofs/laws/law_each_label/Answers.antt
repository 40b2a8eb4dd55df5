use Rattle.sequence_chart.proofs.Walks.{each_label}
use Rattle.sequence_chart.proofs.laws.law_each_label.Goals as goal

pub returns : goal.returns
returns c = each_label
