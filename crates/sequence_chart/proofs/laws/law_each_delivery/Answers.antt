use Rattle.sequence_chart.proofs.Walks.{each_delivery}
use Rattle.sequence_chart.proofs.laws.law_each_delivery.Goals as goal

pub returns : goal.returns
returns c = each_delivery
