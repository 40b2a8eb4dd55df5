-- What the rules say in plain cases.
use Rattle.std.proofs.Common.{◌≡◌, ℕ, true, false, None, Some, Ok, List, [], ◌∷◌, refl}
use Rattle.voting_config.specs.Ids.{Id}
use Rattle.cluster_state.specs.JoinCheck.{join_checked}
use Rattle.cluster_state.specs.declared.state.ClusterState.{ClusterState}
use Rattle.cluster_state.specs.declared.state.ClusterValue.{ClusterValue}
use Rattle.cluster_state.specs.declared.state.StateId.{StateId}
use Rattle.wire_frames.specs.declared.frame.Frame.{Frame}
use Rattle.wire_frames.specs.declared.frame.WireMessage.{WireMessage}
use Rattle.wire_frames.specs.declared.frame.WireMessage.TheVariants as message
use Rattle.cluster_state.specs.declared.request.Ask.TheVariants as ask
use Rattle.cluster_state.specs.declared.request.Request.{Request}
use Rattle.cluster_state.specs.declared.reply.Answer.TheVariants as answer
use Rattle.cluster_state.specs.declared.reply.Reply.TheVariants as reply
use Rattle.master_tasks.specs.declared.waiting.Waiting.{Waiting}
use Rattle.master_tasks.specs.Queue.{no_tasks, is_full_of}
use Rattle.master_tasks.specs.NextState.{processed_by, next_value, config_for, next_config, is_accepted, is_nothing_new, next_answers, tasks_after}
use Rattle.world_model.specs.declared.acts.Act.TheVariants.{Bootstrap}
use Rattle.world_model.specs.declared.acts.ActReply.TheVariants.{Taken}
use Rattle.world_model.specs.declared.acts.Outcome.TheVariants.{Answered}
use Rattle.policy_model.specs.declared.settings.Settings.{Settings}
use Rattle.policy_model.specs.Events.{Candidate, Leader, Follower, Event, Start, Tick, FrameCame, Item, Acts, ChangesMode, Sends, Replies, Notes, Met, PeersAsked, ElectionSet, RoundBegun, RoundEnded, CommitAcked, StateMade, HandedOver, Begins, Log, NoItems, And, added}
use Rattle.policy_model.specs.Entries.{frames_of}
use Rattle.policy_model.specs.LookBacks.{mode_of, applied_of}
use Rattle.policy_model.specs.Parts.{published_at}
use Rattle.policy_model.specs.Doing.{becomes_candidate, becomes_follower}
use Rattle.policy_model.specs.NextState.{goes_on, hands_over, publishes, makes_state}
use Rattle.policy_model.specs.Publications.{sends_first_commit}
use Rattle.policy_model.specs.Views.{View, view_of}
use Rattle.policy_model.specs.Moves.{moved}
use Rattle.policy_model.specs.Follows.{items_of}
use Rattle.policy_model.specs.Checks.{on_follower_check}
use Rattle.policy_model.specs.Requests.{takes_line, queues}
use Rattle.policy_model.specs.Rules.{ticks_leader}

abbrev a : Id
a = 97 ∷ []

abbrev b : Id
b = 98 ∷ []

-- a node alone, and with another
abbrev alone : Settings
alone = record { me = a; peers = []; initial = a ∷ []; voting_only = []; policy = record { shrink = true; second = false } }

-- the same in the second profile
abbrev second : Settings
second = record alone { policy = record { shrink = true; second = true } }

abbrev started : Log
started = added (And NoItems (Begins Start)) (items_of alone NoItems Start)

start_meets_nobody : items_of alone NoItems Start ≡ Notes (Met []) ∷ Notes (Met []) ∷ []
start_meets_nobody = refl

-- the first tick boots, asks nobody, and waits for 8 ms
abbrev booted : List Item
booted = Acts (Bootstrap (a ∷ [])) (Answered (Taken None false)) ∷ Notes PeersAsked ∷ Notes (ElectionSet 7) ∷ []

first_tick_boots : items_of alone started (Tick 0 7) ≡ booted
first_tick_boots = refl

-- then the node stands for election, being a quorum alone
second_tick_elects : items_of alone (added (And started (Begins (Tick 0 7))) booted) (Tick 8 0)
    ≡ Notes (RoundBegun 0) ∷ Notes RoundEnded ∷ Sends (record { from = a; to = a; message = message.StartJoin a 1 }) ∷ []
second_tick_elects = refl

-- the node's own frames come back to it
abbrev after : Log → Event → Log
after l event = added (And l (Begins event)) (items_of alone l event)

abbrev from_itself : WireMessage → Event
from_itself m = FrameCame (record { from = a; to = a; message = m })

abbrev shows : Log → Event → List Frame
shows l event = frames_of (items_of alone l event)

abbrev sends : WireMessage → List Frame
sends m = record { from = a; to = a; message = m } ∷ []

abbrev first_value : ClusterValue
first_value = record { master = Some a; members = a ∷ []; exclusions = []; settings = [] }

abbrev state_id : ℕ → ℕ → StateId
state_id term version = record { term = term; version = version }

abbrev first_state : ClusterState
first_state = record { term = 1; version = 1; parent = Some (state_id 0 0); config = a ∷ []; committed = a ∷ []; value = first_value }

abbrev elected : Log
elected = after (after started (Tick 0 7)) (Tick 8 0)

it_joins_itself : shows elected (from_itself (message.StartJoin a 1)) ≡ sends (message.Join 1 (state_id 0 0))
it_joins_itself = refl

abbrev joined : Log
joined = after elected (from_itself (message.StartJoin a 1))

abbrev leading : Log
leading = after joined (from_itself (message.Join 1 (state_id 0 0)))

abbrev accepted : Log
accepted = after leading (from_itself (message.Publish first_state))

abbrev committed : Log
committed = after accepted (from_itself (message.Response (state_id 1 1)))

record PublishesFirst : Type 0 where
  -- it wins, leads, and publishes its first value
  publishes : shows joined (from_itself (message.Join 1 (state_id 0 0))) ≡ sends (message.Publish first_state)
  leads : mode_of leading ≡ Leader
  responds : shows leading (from_itself (message.Publish first_state)) ≡ sends (message.Response (state_id 1 1))
  commits : shows accepted (from_itself (message.Response (state_id 1 1))) ≡ sends (message.Commit (state_id 1 1))
  -- nothing is new, so nothing is sent
  rests : shows committed (from_itself (message.Commit (state_id 1 1))) ≡ []
  applies : applied_of (after committed (from_itself (message.Commit (state_id 1 1)))) ≡ state_id 1 1

publishes_first : PublishesFirst
unfolding join_checked processed_by next_value config_for next_config is_accepted is_nothing_new next_answers tasks_after
publishes_first = record { publishes = refl; leads = refl; responds = refl; commits = refl; rests = refl; applies = refl }

-- a leader with a write that waits, of a setting that nobody has put
abbrev removing : View → View
removing v = record v {
  tasks = record no_tasks { waiting = record { conn = 5; arrived = 0; request = record { id = 9; ask = ask.Remove (120 ∷ []) }; processed = false } ∷ [] };
}

abbrev applied : View
applied = view_of alone (after committed (from_itself (message.Commit (state_id 1 1))))

record WritesNothing : Type 0 where
  -- it is acknowledged with the accepted state, and in the second profile published
  acked : makes_state alone (removing applied) ≡ Replies (record { conn = 5; reply = reply.To 9 (answer.Acked (state_id 1 1)) }) ∷ Notes StateMade ∷ []
  published : (v : View) → makes_state second (removing v) ≡ Notes StateMade ∷ publishes second (removing v) (moved second (removing v) (Notes StateMade))

writes_nothing : WritesNothing
unfolding join_checked processed_by next_value config_for next_config is_accepted is_nothing_new next_answers tasks_after
writes_nothing = record { acked = refl; published = λ v. refl }

module _ (s : Settings) (v : View) where
  -- a follower answers its leader's check
  follower_answers : on_follower_check alone (record v { mode = Follower b; node = record v.node { term = 1 } }) b 1
      ≡ Sends (record { from = a; to = b; message = message.FollowerAnswer true 1 v.applied }) ∷ []
  follower_answers = refl

  -- so it does in the second profile, but a candidate is made no follower by a check
  follower_answers_too : on_follower_check second (record v { mode = Follower b; node = record v.node { term = 1 } }) b 1
      ≡ Sends (record { from = a; to = b; message = message.FollowerAnswer true 1 v.applied }) ∷ []
  follower_answers_too = refl

  candidate_stays : on_follower_check second (record v { mode = Candidate; node = record v.node { term = 1 } }) b 1
      ≡ Sends (record { from = a; to = b; message = message.FollowerAnswer false 1 v.applied }) ∷ []
  candidate_stays = refl

  -- a leader that lacks the vote of a responder asks all members for their votes in the next term, and processes no request
  abbrev lacking : View
  lacking = record v {
    mode = Leader;
    node = record v.node { term = 4; committed = a ∷ []; join_votes = a ∷ [] };
    moment = 2000;
    handover_due = 2000;
    publication = Some (record (published_at (state_id 4 1) (a ∷ b ∷ []) 0) { responders = a ∷ b ∷ []; finished = true });
  }

  votes_are_asked : goes_on second lacking
      ≡ Notes HandedOver ∷ Sends (record { from = a; to = a; message = message.StartJoin a 5 }) ∷ Sends (record { from = a; to = b; message = message.StartJoin a 5 }) ∷ []
  votes_are_asked = refl

  -- and not before the span is over
  votes_wait : goes_on second (record lacking { handover_due = 2001 }) ≡ makes_state second (record lacking { handover_due = 2001 })
  votes_wait = refl

  -- a leader gives up at a tick where those who may still respond are no quorum
  hopeless_is_given_up : (id : StateId)
      → ticks_leader second (record v {
        mode = Leader;
        moment = 1000;
        node = record v.node { committed = a ∷ b ∷ []; published_config = a ∷ b ∷ [] };
        publication = Some (published_at id (a ∷ b ∷ []) 8);
        tasks = record no_tasks { removals = b ∷ [] };
      })
      ≡ ChangesMode Candidate v.node.term ∷ []
  hopeless_is_given_up id = refl

  -- a candidate is no master, and knows of none
  candidate_is_no_master : (conn : ℕ) (request : Request) → takes_line s (record v { mode = Candidate }) conn (Ok request)
      ≡ Replies (record { conn = conn; reply = reply.To request.id (answer.NotMaster None) }) ∷ []
  candidate_is_no_master conn request = refl

  -- a full queue takes no request
  full_queue : (conn : ℕ) (request : Request) → is_full_of v.tasks ≡ true → queues s v conn request None
      ≡ Replies (record { conn = conn; reply = reply.To request.id (answer.QueueFull 64) }) ∷ []
  full_queue conn request h = rw h refl

  -- 30 seconds after its start a publication has failed, and nothing else is done at this tick
  publication_times_out : (id : StateId) (targets : List Id)
      → ticks_leader s (record v { mode = Leader; moment = 30008; publication = Some (published_at id targets 8); tasks = no_tasks })
      ≡ ChangesMode Candidate v.node.term ∷ []
  publication_times_out id targets = refl

  -- a leader that follows another node becomes a candidate first
  leader_turns_twice : becomes_follower s (record v { mode = Leader; tasks = no_tasks }) b ≡ ChangesMode Candidate v.node.term ∷ ChangesMode (Follower b) v.node.term ∷ []
  leader_turns_twice = refl

  -- the requests of a leader fail with the term in which it led
  requests_fail : (w : Waiting) → becomes_candidate s (record v { mode = Leader; leader_term = 3; tasks = record no_tasks { waiting = w ∷ [] } })
      ≡ Replies (record { conn = w.conn; reply = reply.To w.request.id (answer.FailedToCommit 3) }) ∷ ChangesMode Candidate v.node.term ∷ []
  requests_fail w = refl

  -- the first commit acknowledges what the state has
  commit_acknowledges : (key text : List ℕ) (id : StateId)
      → sends_first_commit s (record v {
        node = record v.node { term = 1; published_version = 2 };
        publication = Some (published_at id [] 0);
        tasks = record no_tasks { waiting = record { conn = 5; arrived = 0; request = record { id = 9; ask = ask.Put key text }; processed = true } ∷ [] };
      }) id
      ≡ Replies (record { conn = 5; reply = reply.To 9 (answer.Acked (state_id 1 2)) }) ∷ Notes CommitAcked ∷ []
  commit_acknowledges key text id = refl

  -- a node that may not win hands over to the least responder that is a voter, and processes no request
  handover_is_sent : hands_over (record s { voting_only = [] }) (record v {
    node = record v.node { term = 4; committed = b ∷ [] };
    moment = 2000;
    handover_due = 2000;
    publication = Some (record (published_at (state_id 4 1) (a ∷ b ∷ []) 0) { responders = a ∷ b ∷ [] });
  })
      ≡ Notes HandedOver ∷ Sends (record { from = s.me; to = a; message = message.StartJoin b 5 }) ∷ Sends (record { from = s.me; to = b; message = message.StartJoin b 5 }) ∷ []
  handover_is_sent = refl
