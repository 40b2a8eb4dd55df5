use Rattle.std.proofs.Common.{◌∙◌, sym}
use Rattle.voting_config.proofs.Sets.{same_config_is}
use Rattle.master_tasks.proofs.tasks.is_target.Goals as goal

pub returns : goal.returns
returns c = λ h. sym c.aim.ensures ∙ same_config_is c.aim.result c.args.config.now (sym c.is_same_list.ensures ∙ h)
