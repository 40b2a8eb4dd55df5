use Rattle.std.proofs.Common.{refl}
use Rattle.policy_model.specs.declared.settings.Settings.{Settings}
use Rattle.replay_node.specs.Clusters.{settings_of}
use Rattle.schedule_replay.proofs.Openings.{first_stands}
use Rattle.schedule_replay.proofs.cluster.node.ClusterNode.new.Goals as goal

pub start-requires : goal.start-requires
start-requires c =
    let s : Settings = settings_of c.args.ids.now c.args.initial.now c.args.voting_only.now c.args.second c.args.me in
    (s, c.in_ok-node.ensures)

pub returns : goal.returns
returns c =
    let s : Settings = settings_of c.args.ids.now c.args.initial.now c.args.voting_only.now c.args.second c.args.me in
    first_stands s c.args.me refl c.start.new.node (c.in_ok-start.ensures s c.in_ok-node.ensures)
