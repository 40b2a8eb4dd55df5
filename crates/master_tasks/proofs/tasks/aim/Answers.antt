use Rattle.std.proofs.Common.{◌∙◌, ap, List}
use Rattle.voting_config.specs.Ids.{Id, among}
use Rattle.reconfigurator.specs.Targets.{target_of}
use Rattle.master_tasks.proofs.tasks.aim.Goals as goal

pub returns : goal.returns
returns c =
    c.target.ensures
    ∙ ap (λ (live : List Id). target_of live c.args.value.now.exclusions c.args.me c.args.config.now c.args.shrink)
    (c.within-live.ensures ∙ ap (among c.args.value.now.members) c.sources.ensures)
