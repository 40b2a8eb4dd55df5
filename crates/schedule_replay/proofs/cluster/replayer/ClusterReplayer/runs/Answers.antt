use Rattle.std.proofs.Common.{false, subst, sym}
use Rattle.policy_model.specs.declared.settings.Settings.{Settings}
use Rattle.replay_node.specs.Clusters.{settings_of}
use Rattle.schedule_replay.specs.Own.{own_in}
use Rattle.schedule_replay.specs.OwnStands.{NodeFor}
use Rattle.schedule_replay.specs.declared.cluster.node.ClusterNode.{ClusterNode}
use Rattle.schedule_replay.proofs.ClusterMovement.{here, place_inside}
use Rattle.schedule_replay.proofs.cluster.replayer.ClusterReplayer.runs.Goals as goal

pub bounds-nodes-place : goal.bounds-nodes-place
bounds-nodes-place c = place_inside _ _ _ _ _ _ _ _ _ _ _ (record { is = c.as_slice.ensures.value; found = c.place_of-place.ensures; lent_is = c.as_slice-nodes.ensures.value; long = c.as_slice-nodes.ensures.len; stands = c.requires.stands })

pub returns : goal.returns
returns c d stand =
    let s : Settings = settings_of c.args.schedule.now.nodes c.args.schedule.now.initial c.args.schedule.now.voting_only c.args.schedule.now.second c.args.n in
    c.runs.ensures s (own_in d c.args.n) (subst (λ (x : ClusterNode). NodeFor s x (own_in d c.args.n) false) (sym c.index-nodes-place.is)
    (here _ _ _ _ _ _ _ _ _ _ _ (record { is = c.as_slice.ensures.value; found = c.place_of-place.ensures; lent_is = c.as_slice-nodes.ensures.value; long = c.as_slice-nodes.ensures.len; stands = c.requires.stands }) c.index-nodes-place.result d stand))
