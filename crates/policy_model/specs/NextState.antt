-- Part of the statement: what a leader does that has no publication in flight: it makes the next state, or hands over.
use Rattle.std.specs.Prelude.{◌+◌, Bool, false, not, ◌&&◌, Option, None, Some, List, [], ◌∷◌, ◌++◌, find, nat_le, if◌then◌else◌}
use Rattle.std.specs.List.{list_any}
use Rattle.cluster_state.specs.Field.{last_number}
use Rattle.voting_config.specs.Ids.{Id, has, outside}
use Rattle.cluster_state.specs.declared.state.ClusterState.{ClusterState}
use Rattle.cluster_state.specs.declared.state.ClusterValue.{ClusterValue}
use Rattle.cluster_state.specs.States.{id_of}
use Rattle.wire_frames.specs.declared.frame.WireMessage.TheVariants as message
use Rattle.election_clock.specs.Delays.{is_due}
use Rattle.publication.specs.Publications.{Publication}
use Rattle.master_tasks.specs.NextState.{next_value, next_config, next_answers, is_nothing_new}
use Rattle.world_model.specs.Replies.{commits}
use Rattle.world_model.specs.declared.acts.Act.{Act}
use Rattle.world_model.specs.declared.acts.Act.TheVariants.{Value}
use Rattle.policy_model.specs.declared.settings.Settings.{Settings}
use Rattle.policy_model.specs.Events.{Item, Notes, StateMade, HandedOver}
use Rattle.policy_model.specs.Views.{View, master_now}
use Rattle.policy_model.specs.Moves.{moved}
use Rattle.policy_model.specs.Doing.{is_leader, is_voting_only, is_second, act_now, after_act, takes, send_all, reply_all, may_win, becomes_candidate}

-- a publication is in flight until the node has taken its commit
abbrev pub is_in_flight : Option Publication → Bool
is_in_flight None = false
is_in_flight (Some p) = not p.finished

-- the members of the last value, and who has responded
abbrev pub targets_of : Option Publication → List Id
targets_of None = []
targets_of (Some p) = p.targets

abbrev pub responders_of : Option Publication → List Id
responders_of None = []
responders_of (Some p) = p.responders

-- the targets of a publication but for those that are to be removed and have not responded: the others may still respond, or have
abbrev pub may_respond : Publication → List Id → List Id
may_respond p removals = outside p.targets (outside removals p.responders)

-- the publication is in flight, and those who may respond are no quorum
abbrev pub is_hopeless : View → Option Publication → Bool
is_hopeless v None = false
is_hopeless v (Some p) = not p.finished && not (commits v.node (may_respond p v.tasks.removals))

module _ (s : Settings) where
  abbrev pub value_now : View → ClusterValue
  value_now v = next_value (master_now s v) v.tasks

  abbrev pub config_now : View → List Id
  config_now v = next_config (master_now s v) v.tasks

  abbrev pub value_act : View → Act
  value_act v = Value (v.node.accepted.version + 1) (config_now v) (value_now v)

  abbrev pub state_now : View → ClusterState
  state_now v =
      record {
        term = v.node.term;
        version = v.node.accepted.version + 1;
        parent = Some (id_of v.node.accepted);
        config = config_now v;
        committed = v.node.committed;
        value = value_now v;
      }

  -- the state is made by a node that was v and is made now: its members get it, or the node becomes a candidate
  abbrev pub publishes : View → View → List Item
  publishes v made =
      act_now s made (value_act v)
      ∷ (if takes s made (value_act v)
      then send_all s (value_now v).members (message.Publish (state_now v))
      else becomes_candidate s (after_act s made (value_act v)))

  -- what can be answered is answered, and a state is published where something is new
  abbrev pub makes_state : View → List Item
  makes_state v =
      reply_all s (next_answers (master_now s v) v.tasks)
      ++ Notes StateMade
      ∷ (if is_nothing_new (master_now s v) v.tasks then [] else publishes v (moved s v (Notes StateMade)))

  -- the least responder that is a voter and not voting-only is asked to be elected
  abbrev pub successor_of : View → Option Id
  successor_of v = find (λ id. not (is_voting_only s id) && has id v.node.committed) (responders_of v.publication)

  abbrev pub asks_successor : View → Option Id → List Item
  asks_successor v None = []
  asks_successor v (Some id) =
      if nat_le (v.node.term + 1) last_number then send_all s (targets_of v.publication) (message.StartJoin id (v.node.term + 1)) else []

  abbrev pub hands_over : View → List Item
  hands_over v = if is_due v.handover_due v.moment then Notes HandedOver ∷ asks_successor v (successor_of v) else []

  -- one that responded to the last publication has voted for another node in this term
  abbrev pub lacks_vote : View → Bool
  lacks_vote v = list_any (λ id. not (has id v.node.join_votes)) (responders_of v.publication)

  -- in the second profile a leader asks for the votes that it lacks, where neither that nor a hand-over was done a short time ago
  abbrev pub wants_votes : View → Bool
  wants_votes v = is_second s && (is_due v.handover_due v.moment && lacks_vote v)

  -- all members are asked to vote for the leader itself, in the next term
  abbrev pub asks_votes : View → List Item
  asks_votes v = Notes HandedOver ∷ asks_successor v (Some s.me)

  -- a leader that may win asks for votes, or makes the next state
  abbrev pub leads_on : View → List Item
  leads_on v = if wants_votes v then asks_votes v else makes_state v

  -- a leader that may not win hands over
  abbrev pub goes_on : View → List Item
  goes_on v =
      if is_leader v.mode && not (is_in_flight v.publication)
      then (if may_win s v then leads_on v else hands_over v)
      else []
