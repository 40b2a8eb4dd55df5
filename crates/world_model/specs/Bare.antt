-- For the contracts inside: histories from before states had parents, and how such a history goes on. What is bare is without the parent of
-- each state in it.
use Rattle.std.specs.Prelude.{◌≡◌, ◌⊎◌, None, Some, List}
use Rattle.voting_config.specs.Ids.{Id}
use Rattle.cluster_state.specs.declared.state.ClusterState.{ClusterState}
use Rattle.cluster_state.specs.declared.state.Kept.{Kept}
use Rattle.cluster_state.specs.declared.messages.PublishRequest.{PublishRequest}
use Rattle.world_model.specs.Acts.{Act, Outcome, Message, Bootstrap, StartJoin, TakeJoin, Value, Publish, Response, Commit, Open, Taken, Refused, Stopped, Answered, Disk, Crashed, JoinMessage, PublishMessage, ResponseMessage, CommitMessage}
use Rattle.world_model.specs.Histories.{History, NoEntries, Next, MayHappen}

abbrev pub bare_state : ClusterState → ClusterState
bare_state s = record s { parent = None }

abbrev pub bare_kept : Kept → Kept
bare_kept k = record k { accepted = bare_state k.accepted }

abbrev pub bare_request : PublishRequest → PublishRequest
bare_request r = record r { state = bare_state r.state }

abbrev pub bare_message : Message → Message
bare_message (PublishMessage request) = PublishMessage (bare_request request)
bare_message (JoinMessage join) = JoinMessage join
bare_message (ResponseMessage response) = ResponseMessage response
bare_message (CommitMessage commit) = CommitMessage commit

abbrev pub bare_act : Act → Act
bare_act (Publish request) = Publish (bare_request request)
bare_act (Open found) = Open (bare_kept found)
bare_act (Bootstrap config) = Bootstrap config
bare_act (StartJoin candidate term) = StartJoin candidate term
bare_act (TakeJoin join) = TakeJoin join
bare_act (Value version config value) = Value version config value
bare_act (Response response) = Response response
bare_act (Commit commit) = Commit commit

abbrev pub bare_outcome : Outcome → Outcome
bare_outcome (Answered (Taken (Some message) wins)) = Answered (Taken (Some (bare_message message)) wins)
bare_outcome (Answered (Taken None wins)) = Answered (Taken None wins)
bare_outcome (Answered (Refused cause)) = Answered (Refused cause)
bare_outcome (Answered Stopped) = Answered Stopped
bare_outcome (Disk kept) = Disk kept
bare_outcome (Crashed kept) = Crashed kept

abbrev pub bare_history : History → History
bare_history NoEntries = NoEntries
bare_history (Next h node act outcome) = Next (bare_history h) node (bare_act act) (bare_outcome outcome)

-- What could happen before states had parents: what may happen now, but that the state which a value sends has no parent.
pub record CouldHappen (initial : List Id) (h : History) (node : Id) (act : Act) (outcome : Outcome) : Type 0 where
  pub outcome_now : Outcome
  pub may_happen : MayHappen initial h node act outcome_now
  pub is_bare : outcome ≡ bare_outcome outcome_now

-- each act could happen before states had parents
abbrev pub WasLegal : List Id → History → Type 0
WasLegal initial NoEntries = Unit {0}
WasLegal initial (Next h node act outcome) = WasLegal initial h × CouldHappen initial h node act outcome

-- h begins with p, and after it each act may happen
abbrev pub GoesOn : List Id → History → History → Type 0
GoesOn initial p NoEntries = p ≡ NoEntries
GoesOn initial p (Next h node act outcome) = (p ≡ Next h node act outcome) ⊎ (GoesOn initial p h × MayHappen initial h node act outcome)

-- For the contracts inside: the laws of such histories, as statements.

-- before states had parents no state had one
abbrev pub LawBare : Type 0
LawBare = (initial : List Id) (h : History) → WasLegal initial h → bare_history h ≡ h

-- a history that was begun before states had parents, and goes on since, was legal throughout if read without parents
abbrev pub LawForget : Type 0
LawForget = (initial : List Id) (p h : History) → WasLegal initial p → GoesOn initial p h → WasLegal initial (bare_history h)
