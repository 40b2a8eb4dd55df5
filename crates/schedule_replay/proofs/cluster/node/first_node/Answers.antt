use Rattle.std.proofs.Common.{subst}
use Rattle.policy_model.specs.declared.settings.Settings.{Settings}
use Rattle.replay_node.proofs.Opened.{JustOpened}
use Rattle.replay_node.specs.Clusters.{settings_of}
use Rattle.schedule_replay.specs.Openings.{OverJournal}
use Rattle.schedule_replay.proofs.Openings.{first_open}
use Rattle.schedule_replay.proofs.cluster.node.first_node.Goals as goal

pub returns : goal.returns
returns c =
    let s : Settings = settings_of c.args.ids.now c.args.initial.now c.args.voting_only.now c.args.second c.args.me in
    let disk = c.empty_disk.ensures in
    let over : OverJournal s c.in-Ok.journal c.node_over.result = subst (λ (t : Settings). OverJournal t c.in-Ok.journal c.node_over.result) c.in_ok-settings.ensures c.node_over.ensures in
    let is : JustOpened c.empty_disk.result c.in-Ok.journal = record { found = c.in-Ok.ensures.found tt; runs = c.in-Ok.ensures.runs; ran = c.in-Ok.ensures.ran tt } in
    first_open s c.empty_disk.result (record { files = disk.files; armed = disk.armed; up = disk.up; seen = disk.seen }) c.in-Ok.journal is c.node_over.result over
