use Rattle.client_guarantees.proofs.Folding.{last_setting_stands}
use Rattle.client_guarantees.proofs.law_last_setting_stands.Goals as goal

pub returns : goal.returns
returns c = last_setting_stands
