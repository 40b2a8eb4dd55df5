-- For the contracts inside: histories that begin with one node, restarted from what it kept, and with others that kept no state.
use Rattle.std.specs.Prelude.{◌≡◌, ◌≤◌, cond, List, [], ◌∷◌, Contains}
use Rattle.voting_config.specs.Ids.{Id, same}
use Rattle.cluster_state.specs.declared.state.Kept.{Kept}
use Rattle.world_model.specs.Acts.{Act, Outcome, NodeHistory, Message, Bootstrap, StartJoin, TakeJoin, Value, Publish, Response, Commit, Open, NoActs, Then, JoinMessage, PublishMessage, ResponseMessage, CommitMessage}
use Rattle.world_model.specs.NodeState.{empty_state}
use Rattle.world_model.specs.Histories.{History, NoEntries, Next, node_history, sent, Continues, MayFollow}

-- the record with which the node begins alone: it is the only one in both configurations
pub record IsAlone (node : Id) (kept : Kept) : Type 0 where
  pub config : kept.accepted.config ≡ node ∷ []
  pub committed : kept.committed ≡ node ∷ []
  pub older : kept.accepted.term ≤ kept.term

-- the first act of each node is an opening: the one node finds its record, another one no state
abbrev pub ContinuesFrom : Id → Kept → Id → NodeHistory → Act → Type 0
ContinuesFrom first kept node NoActs (Open found) = cond (same node first) (found ≡ kept) (found.accepted ≡ empty_state)
ContinuesFrom first kept node NoActs act = ⊥
ContinuesFrom first kept node (Then g a o) act = Continues (Then g a o) act

-- no node bootstraps, and each message was sent
abbrev pub TakesSent : List Message → Act → Type 0
TakesSent messages (Bootstrap config) = ⊥
TakesSent messages (TakeJoin join) = Contains messages (JoinMessage join)
TakesSent messages (Publish request) = Contains messages (PublishMessage request)
TakesSent messages (Response response) = Contains messages (ResponseMessage response)
TakesSent messages (Commit commit) = Contains messages (CommitMessage commit)
TakesSent messages (StartJoin candidate term) = Unit {0}
TakesSent messages (Value version config value) = Unit {0}
TakesSent messages (Open found) = Unit {0}

pub record MayHappenFrom (first : Id) (kept : Kept) (h : History) (node : Id) (act : Act) (outcome : Outcome) : Type 0 where
  pub follows : MayFollow node (node_history h node) act outcome
  pub continues : ContinuesFrom first kept node (node_history h node) act
  pub sent : TakesSent (sent h) act

-- what happened could happen from the restart of the node on
abbrev pub IsLegalFrom : Id → Kept → History → Type 0
IsLegalFrom first kept NoEntries = Unit {0}
IsLegalFrom first kept (Next h node act outcome) = IsLegalFrom first kept h × MayHappenFrom first kept h node act outcome
