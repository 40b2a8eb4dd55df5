use Rattle.std.proofs.Common.{Bool, get_or, subst, sym}
use Rattle.std.proofs.lemmas.Result.{on_ok_weaker}
use Rattle.policy_model.specs.declared.settings.Settings.{Settings}
use Rattle.replay_node.specs.Clusters.{after_event_if_up, settings_of}
use Rattle.schedule_replay.specs.Own.{own_event_if_up, own_frames_if_up, own_in, own_results_if_up}
use Rattle.schedule_replay.specs.OwnStands.{NodeFor}
use Rattle.schedule_replay.specs.ClusterTrace.{event_shown_if_up}
use Rattle.schedule_replay.proofs.Going.{goes_if_up}
use Rattle.schedule_replay.proofs.ClusterLines.{moved}
use Rattle.schedule_replay.proofs.ClusterMovement.{here, place_inside}
use Rattle.schedule_replay.proofs.cluster.replayer.ClusterReplayer.event.Goals as goal

pub bounds-nodes-place : goal.bounds-nodes-place
bounds-nodes-place c = place_inside _ _ _ _ _ _ _ _ _ _ _ (record { is = c.as_slice.ensures.value; found = c.place_of-place.ensures; lent_is = c.as_mut_slice-nodes.ensures.value; long = c.as_mut_slice-nodes.ensures.len; stands = c.requires.stands })

pub event-requires-clause-stands : goal.event-requires-clause-stands
event-requires-clause-stands c =
    let s : Settings = settings_of c.args.schedule.now.nodes c.args.schedule.now.initial c.args.schedule.now.voting_only c.args.schedule.now.second c.args.n in
    let stands = c.requires.stands in
    let there = here _ _ _ _ _ _ _ _ _ _ _ (record { is = c.as_slice.ensures.value; found = c.place_of-place.ensures; lent_is = c.as_mut_slice-nodes.ensures.value; long = c.as_mut_slice-nodes.ensures.len; stands = c.requires.stands }) c.index-nodes-place.result stands.0 stands.1.stand in
    (s, own_in stands.0 c.args.n, subst (λ (b : Bool). NodeFor s (get_or c.as_mut_slice-nodes.result.now c.place_of-place.result c.index-nodes-place.result) (own_in stands.0 c.args.n) b) (sym c.requires.later) there)

pub returns : goal.returns
returns c =
    let s : Settings = settings_of c.args.schedule.now.nodes c.args.schedule.now.initial c.args.schedule.now.voting_only c.args.schedule.now.second c.args.n in
    record {
      done = on_ok_weaker c.event.result (λ does. moved _ _ _ _ _ _ _ _ _ _ _ (record { is = c.as_slice.ensures.value; found = c.place_of-place.ensures; lent_is = c.as_mut_slice-nodes.ensures.value; long = c.as_mut_slice-nodes.ensures.len; stands = c.requires.stands }) c.index-nodes-place.result c.event.new.self _ _ _
          (λ own. own_event_if_up s c.args.event own) (λ own. own_frames_if_up s c.args.event own) (λ count own. own_results_if_up s c.args.event count own) (λ d. after_event_if_up s d c.args.event) (λ d. event_shown_if_up s d c.args.event) (λ d. goes_if_up s d c.args.event)
          (λ own stands. does s own (subst (λ (b : Bool). NodeFor s (get_or c.as_mut_slice-nodes.result.now c.place_of-place.result c.index-nodes-place.result) own b) (sym c.requires.later) stands))) c.event.ensures;
    }
