-- Part of the statement: what a client may rely on, as statements. The other files here give their words.
use Rattle.std.specs.Prelude.{◌≡◌, ◌≢◌, ℕ, true, false, List}
use Rattle.std.specs.List.{Contains}
use Rattle.voting_config.specs.Ids.{Id, has}
use Rattle.cluster_state.specs.declared.state.Kept.{Kept}
use Rattle.master_tasks.specs.declared.waiting.Waiting.{Waiting}
use Rattle.master_tasks.specs.declared.waiting.Outgoing.{Outgoing}
use Rattle.master_tasks.specs.Queue.{Tasks}
use Rattle.master_tasks.specs.NextState.{Leader as NextMaster, next_value, next_config}
use Rattle.world_model.specs.Acts.{NodeHistory, NoActs}
use Rattle.world_model.specs.NodeState.{durable_of}
use Rattle.world_model.specs.Histories.{History, node_history, IsLegal}
use Rattle.world_model.specs.Local.{then_run, OpensWith}
use Rattle.world_model.specs.Restarts.{IsAlone, IsLegalFrom}
use Rattle.policy_model.specs.declared.settings.Settings.{Settings}
use Rattle.policy_model.specs.declared.events.Event.{Event}
use Rattle.policy_model.specs.Events.{Item, acts_of}
use Rattle.policy_model.specs.Entries.{Life, Lived, Did, log_of, replies_of}
use Rattle.policy_model.specs.Follows.{Follows}
use Rattle.client_guarantees.specs.Asked.{MeetsEach, setting_under, setting_after_all}
use Rattle.client_guarantees.specs.Processed.{processed_into_next, processed_of, CameIn}
use Rattle.client_guarantees.specs.Replies.{IsTrueReply, RepliesTruly}

-- the life follows the policy, and its acts are those of its node in the history
pub record IsLifeIn (h : History) (s : Settings) (life : Life) : Type 0 where
  pub follows : Follows s life
  pub acts : node_history h s.me ≡ acts_of (log_of life)

-- The life follows the policy, and it is a run of its node in the history: of the node's acts its own stand in a row, some before and some
-- after them. Where there are some before, the run begins with what those left. A life that is all of its node's is such a run.
pub record IsRunIn (h : History) (s : Settings) (life : Life) : Type 0 where
  pub follows : Follows s life
  pub before : NodeHistory
  pub after : NodeHistory
  pub acts : node_history h s.me ≡ then_run (then_run before (acts_of (log_of life))) after
  pub begins : before ≢ NoActs → OpensWith (durable_of before) (acts_of (log_of life))

-- Each reply of the last event of such a run is true. Of the other nodes it is only asked that the history is legal.
abbrev pub LawLastRepliesAreTrue : Type 0
LawLastRepliesAreTrue =
    (initial : List Id) (h : History) → IsLegal initial h
    → (s : Settings) (before : Life) (event : Event) (items : List Item) → IsRunIn h s (Lived before (Did event items))
    → (out : Outgoing) → Contains (replies_of items) out → IsTrueReply h s (Lived before (Did event items)) out.conn out.reply

-- so is each of each of its events
abbrev pub LawRepliesAreTrue : Type 0
LawRepliesAreTrue =
    (initial : List Id) (h : History) → IsLegal initial h → (s : Settings) (life : Life) → IsRunIn h s life → RepliesTruly h s life

-- and from the restart of one node on
abbrev pub LawRestartedRepliesAreTrue : Type 0
LawRestartedRepliesAreTrue =
    (first : Id) (kept : Kept) (h : History) → IsAlone first kept → IsLegalFrom first kept h
    → (s : Settings) (life : Life) → IsRunIn h s life → RepliesTruly h s life

-- what a node that follows the policy has processed since it was opened last came as a line since then, by the connection to which the
-- replies go
abbrev pub LawProcessedCame : Type 0
LawProcessedCame =
    (s : Settings) (life : Life) → Follows s life
    → (w : Waiting) → Contains (processed_of s (log_of life)) w → CameIn life w.conn w.request

-- the next value has what each request asks for that is processed into it, unless one after it may have undone it
abbrev pub LawNextMeetsEach : Type 0
LawNextMeetsEach = (l : NextMaster) (t : Tasks) → MeetsEach (next_value l t) (processed_into_next l t)

-- under each key the next value has what the last of these says that sets or removes it, and without one what the accepted value has
abbrev pub LawLastSettingStands : Type 0
LawLastSettingStands =
    (l : NextMaster) (t : Tasks) (key : List ℕ)
    → setting_under key (next_value l t).settings
    ≡ setting_after_all key (setting_under key l.accepted.value.settings) (processed_into_next l t)

-- a node that the next value excludes becomes no voter: so one that was excluded before it was a member does not vote as it joins
abbrev pub LawExcludedStayOut : Type 0
LawExcludedStayOut =
    (l : NextMaster) (t : Tasks) (id : Id) → has id (next_value l t).exclusions ≡ true → has id l.accepted.config ≡ false
    → has id (next_config l t) ≡ false
