use Rattle.std.proofs.Common.{false, get_or, length, subst, sym}
use Rattle.std.proofs.lemmas.Result.{on_ok_weaker}
use Rattle.voting_config.specs.Ids.{Id}
use Rattle.policy_model.specs.declared.settings.Settings.{Settings}
use Rattle.replay_node.specs.Clusters.{after_restart, settings_of}
use Rattle.schedule_replay.specs.Own.{own_in, own_restart, own_restart_frames, own_restart_results}
use Rattle.schedule_replay.specs.OwnStands.{NodeFor, OwnDone}
use Rattle.schedule_replay.specs.ClusterTrace.{restart_shown}
use Rattle.schedule_replay.proofs.Going.{goes_restart}
use Rattle.schedule_replay.proofs.ClusterLines.{moved}
use Rattle.schedule_replay.proofs.ClusterMovement.{here, place_inside}
use Rattle.schedule_replay.proofs.cluster.replayer.ClusterReplayer.restart.Goals as goal

pub bounds-nodes-place : goal.bounds-nodes-place
bounds-nodes-place c = place_inside _ _ _ _ _ _ _ _ _ _ _ (record { is = c.as_slice.ensures.value; found = c.place_of-place.ensures; lent_is = c.as_mut_slice-nodes.ensures.value; long = c.as_mut_slice-nodes.ensures.len; stands = c.requires.stands })

pub restart-requires : goal.restart-requires
restart-requires c =
    let ids = c.args.schedule.now.nodes in
    let initial = c.args.schedule.now.initial in
    let voting_only = c.args.schedule.now.voting_only in
    let second = c.args.schedule.now.second in
    let stands = c.requires.stands in
    let there = here _ _ _ _ _ _ _ _ _ _ _ (record { is = c.as_slice.ensures.value; found = c.place_of-place.ensures; lent_is = c.as_mut_slice-nodes.ensures.value; long = c.as_mut_slice-nodes.ensures.len; stands = c.requires.stands }) c.index-nodes-place.result stands.0 stands.1.stand in
    (own_in stands.0 c.args.n, subst (λ (m : Id). NodeFor (settings_of ids initial voting_only second m) (get_or c.as_mut_slice-nodes.result.now c.place_of-place.result c.index-nodes-place.result) (own_in stands.0 c.args.n) false) (sym there.me_is) there)

pub returns : goal.returns
returns c =
    let ids = c.args.schedule.now.nodes in
    let initial = c.args.schedule.now.initial in
    let voting_only = c.args.schedule.now.voting_only in
    let second = c.args.schedule.now.second in
    let s : Settings = settings_of ids initial voting_only second c.args.n in
    let frames = c.args.self.now.frames.items in
    let more = c.restart.new.frames.items in
    let was = c.args.text.now in
    let now = c.restart.new.text in
    record {
      done = on_ok_weaker c.restart.result (λ does. moved _ _ _ _ _ _ _ _ _ _ _ (record { is = c.as_slice.ensures.value; found = c.place_of-place.ensures; lent_is = c.as_mut_slice-nodes.ensures.value; long = c.as_mut_slice-nodes.ensures.len; stands = c.requires.stands }) c.index-nodes-place.result c.restart.new.self more was now
          (λ own. own_restart s own) (λ own. own_restart_frames s own) (λ count own. own_restart_results s count own) (λ d. after_restart s d) (λ d. restart_shown s d) (λ d. goes_restart s d)
          (λ own stands. subst (λ (m : Id). OwnDone (settings_of ids initial voting_only second m) c.restart.new.self (own_restart (settings_of ids initial voting_only second m) own) frames more (own_restart_frames (settings_of ids initial voting_only second m) own) was now (own_restart_results (settings_of ids initial voting_only second m) (length frames) own)) stands.me_is
          (does own (subst (λ (m : Id). NodeFor (settings_of ids initial voting_only second m) (get_or c.as_mut_slice-nodes.result.now c.place_of-place.result c.index-nodes-place.result) own false) (sym stands.me_is) stands)))) c.restart.ensures;
    }
