-- Part of the statement: what all nodes did, the oldest first, and when that is legal.
use Rattle.std.specs.Prelude.{◌≡◌, ◌≢◌, Bool, true, false, cond, None, Some, List, [], ◌∷◌, ◌++◌, Contains, ◌⊎◌}
use Rattle.voting_config.specs.Ids.{Id, same}
use Rattle.world_model.specs.Acts.{Act, Outcome, NodeHistory, Message, Bootstrap, StartJoin, TakeJoin, Value, Publish, Response, Commit, Open, NoActs, Then, Taken, Refused, Stopped, Answered, Disk, Crashed, JoinMessage, PublishMessage, ResponseMessage, CommitMessage, wins}
pub use Rattle.world_model.specs.Acts.{is_opening}
use Rattle.world_model.specs.NodeState.{durable_of}
use Rattle.world_model.specs.Replies.{IsOutcome}

-- the acts of all nodes, each with its node and its outcome, the oldest first
pub data History : Type 0 where
  NoEntries : History
  Next : (before : History) → (node : Id) → (act : Act) → (outcome : Outcome) → History

-- the acts of one node
abbrev pub node_history : History → Id → NodeHistory
node_history NoEntries n = NoActs
node_history (Next h node act outcome) n = cond (same node n) (Then (node_history h n) act outcome) (node_history h n)

abbrev pub sent_by : Outcome → List Message
sent_by (Answered (Taken (Some message) wins)) = message ∷ []
sent_by (Answered (Taken None wins)) = []
sent_by (Answered (Refused cause)) = []
sent_by (Answered Stopped) = []
sent_by (Disk kept) = []
sent_by (Crashed kept) = []

-- all messages that were sent, the oldest first
abbrev pub sent : History → List Message
sent NoEntries = []
sent (Next h node act outcome) = sent h ++ sent_by outcome

-- the node crashed and was not opened again
abbrev pub is_down : NodeHistory → Bool
is_down NoActs = false
is_down (Then g act (Answered reply)) = false
is_down (Then g act (Disk kept)) = false
is_down (Then g act (Crashed kept)) = true

-- an opening finds what the node keeps
abbrev pub Continues : NodeHistory → Act → Type 0
Continues g (Open found) = found ≡ durable_of g
Continues g (Bootstrap config) = Unit {0}
Continues g (StartJoin candidate term) = Unit {0}
Continues g (TakeJoin join) = Unit {0}
Continues g (Value version config value) = Unit {0}
Continues g (Publish request) = Unit {0}
Continues g (Response response) = Unit {0}
Continues g (Commit commit) = Unit {0}

-- an opening that is the first act may find any record
abbrev pub ContinuesUnlessFirst : NodeHistory → Act → Type 0
ContinuesUnlessFirst NoActs act = Unit {0}
ContinuesUnlessFirst (Then g a o) act = Continues (Then g a o) act

-- each bootstrap names the one configuration, which is not empty, and each message was sent
abbrev pub IsSourced : List Id → List Message → Act → Type 0
IsSourced initial messages (Bootstrap config) = (config ≡ initial) × (initial ≢ [])
IsSourced initial messages (TakeJoin join) = Contains messages (JoinMessage join)
IsSourced initial messages (Publish request) = Contains messages (PublishMessage request)
IsSourced initial messages (Response response) = Contains messages (ResponseMessage response)
IsSourced initial messages (Commit commit) = Contains messages (CommitMessage commit)
IsSourced initial messages (StartJoin candidate term) = Unit {0}
IsSourced initial messages (Value version config value) = Unit {0}
IsSourced initial messages (Open found) = Unit {0}

-- what a node may do next
pub record MayFollow (me : Id) (g : NodeHistory) (act : Act) (outcome : Outcome) : Type 0 where
  pub follows : IsOutcome me g act outcome
  pub up : is_down g ≡ true → is_opening act ≡ true

-- the acts of one node follow each other
abbrev pub IsLocal : Id → NodeHistory → Type 0
IsLocal me NoActs = Unit {0}
IsLocal me (Then g act outcome) = IsLocal me g × MayFollow me g act outcome × ContinuesUnlessFirst g act

-- what may happen next
pub record MayHappen (initial : List Id) (h : History) (node : Id) (act : Act) (outcome : Outcome) : Type 0 where
  pub follows : MayFollow node (node_history h node) act outcome
  pub continues : Continues (node_history h node) act
  pub sourced : IsSourced initial (sent h) act

-- what happened could happen, where all nodes bootstrap with this configuration
abbrev pub IsLegal : List Id → History → Type 0
IsLegal initial NoEntries = Unit {0}
IsLegal initial (Next h node act outcome) = IsLegal initial h × MayHappen initial h node act outcome

-- p is the history up to some moment
abbrev pub IsPrefix : History → History → Type 0
IsPrefix p NoEntries = p ≡ NoEntries
IsPrefix p (Next h node act outcome) = (p ≡ Next h node act outcome) ⊎ IsPrefix p h
