-- Part of the statement: how a state is accepted, responded to and committed.
use Rattle.std.specs.Prelude.{Bool, false, ◌&&◌, Option, None, Some, List, [], ◌∷◌, ◌++◌, is_some, if◌then◌else◌}
use Rattle.voting_config.specs.Ids.{Id, same, among, has_room}
use Rattle.cluster_state.specs.declared.state.ClusterState.{ClusterState}
use Rattle.cluster_state.specs.declared.state.StateId.{StateId}
use Rattle.wire_frames.specs.declared.frame.WireMessage.TheVariants as message
use Rattle.publication.specs.Publications.{Publication}
use Rattle.master_tasks.specs.Answering.{answers_by, committed_in, applied_in}
use Rattle.world_model.specs.declared.acts.Act.TheVariants.{Publish, Response, Commit}
use Rattle.world_model.specs.declared.acts.ActReply.{ActReply}
use Rattle.world_model.specs.declared.acts.ActReply.TheVariants.{Taken, Refused, Stopped}
use Rattle.cluster_state.specs.States.{id_of}
use Rattle.policy_model.specs.declared.settings.Settings.{Settings}
use Rattle.policy_model.specs.Events.{Item, Notes, CommitAcked, AppliedAnswered}
use Rattle.policy_model.specs.Parts.{published_id}
use Rattle.policy_model.specs.Views.{View}
use Rattle.policy_model.specs.Doing.{is_leader, then_rule, reply_now, act_now, after_act, takes, send, send_all, reply_all, raises_term, becomes_follower}
use Rattle.policy_model.specs.NextState.{targets_of, responders_of, goes_on}

-- its commit was sent
abbrev pub is_commit_sent : Option Publication → Bool
is_commit_sent None = false
is_commit_sent (Some p) = p.commit_sent

-- a response sends a commit
abbrev pub commits_now : ActReply → Bool
commits_now (Taken sends wins) = is_some sends
commits_now (Refused cause) = false
commits_now Stopped = false

module _ (s : Settings) where
  -- a state that is accepted is responded to, and its publisher is followed
  abbrev pub accepts : View → Id → ClusterState → List Item
  accepts v p state =
      let act = Publish (record { source = p; state = state }) in
      act_now s v act
      ∷ (if takes s v act
      then send s p (message.Response (id_of state)) ∷ (if same p s.me then [] else becomes_follower s (after_act s v act) p)
      else [])

  abbrev pub on_publish : View → Id → ClusterState → List Item
  on_publish v p state = then_rule s v (raises_term s v p state.term) (λ v'. accepts v' p state)

  -- the first commit goes to each target that has responded, and the requests in the state are acknowledged
  abbrev pub sends_first_commit : View → StateId → List Item
  sends_first_commit v id =
      send_all s (among (responders_of v.publication) (targets_of v.publication)) (message.Commit id)
      ++ reply_all s (answers_by (committed_in (published_id v.node)) v.tasks.waiting)
      ++ Notes CommitAcked ∷ []

  -- a later one goes to the one that responded
  abbrev pub sends_commit : View → Bool → Id → StateId → List Item
  sends_commit v sent p id = if sent then send s p (message.Commit id) ∷ [] else sends_first_commit v id

  -- a response to a leader that has published, where it fits
  abbrev pub on_response : View → Id → StateId → List Item
  on_response v p id =
      let act = Response (record { source = p; target = s.me; term = id.term; version = id.version }) in
      if is_leader v.mode && is_some v.publication && has_room v.node.publish_votes p
      then act_now s v act
      ∷ (if commits_now (reply_now s v act) then sends_commit (after_act s v act) (is_commit_sent v.publication) p id else [])
      else []

  -- the leader's publication is finished: exclusions that are done are acknowledged, who was to be shown the state is, and the leader goes on
  abbrev pub answers_applied : View → List Item
  answers_applied v =
      reply_all s (answers_by (applied_in v.node.committed v.node.accepted) v.tasks.waiting) ++ Notes AppliedAnswered ∷ []

  abbrev pub on_commit : View → Id → StateId → List Item
  on_commit v p id =
      let act = Commit (record { source = p; term = id.term; version = id.version }) in
      let after = after_act s v act in
      act_now s v act ∷ (if takes s v act && is_leader after.mode then then_rule s after (answers_applied after) (goes_on s) else [])
