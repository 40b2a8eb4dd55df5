-- Part of the statement: the lines of a trace.
use Rattle.std.specs.Prelude.{ℕ, ◌+◌, Bool, cond, Option, None, Some, List, [], ◌++◌, codes, decimal}
use Rattle.serde_json.specs.Written.{compact_text}
use Rattle.voting_config.specs.Ids.{Id}
use Rattle.cluster_state.specs.declared.state.ClusterState.{ClusterState}
use Rattle.cluster_state.specs.declared.causes.InitialCause.{InitialCause}
use Rattle.cluster_state.specs.declared.causes.InitialCause.TheVariants as initial
use Rattle.cluster_state.specs.declared.causes.StartCause.{StartCause}
use Rattle.cluster_state.specs.declared.causes.StartCause.TheVariants as start
use Rattle.cluster_state.specs.declared.causes.JoinCause.{JoinCause}
use Rattle.cluster_state.specs.declared.causes.JoinCause.TheVariants as join
use Rattle.cluster_state.specs.declared.causes.ValueCause.{ValueCause}
use Rattle.cluster_state.specs.declared.causes.ValueCause.TheVariants as value
use Rattle.cluster_state.specs.declared.causes.PublishCause.{PublishCause}
use Rattle.cluster_state.specs.declared.causes.PublishCause.TheVariants as publish
use Rattle.cluster_state.specs.declared.causes.ResponseCause.{ResponseCause}
use Rattle.cluster_state.specs.declared.causes.ResponseCause.TheVariants as response
use Rattle.cluster_state.specs.declared.causes.CommitCause.{CommitCause}
use Rattle.cluster_state.specs.declared.causes.CommitCause.TheVariants as commit
use Rattle.cluster_state.specs.Json.{state_json, value_json}
use Rattle.world_model.specs.declared.acts.Act.{Act}
use Rattle.world_model.specs.declared.acts.Act.TheVariants.{Bootstrap, StartJoin, TakeJoin, Value, Publish, Response, Commit, Open}
use Rattle.world_model.specs.declared.acts.Message.{Message}
use Rattle.world_model.specs.declared.acts.Message.TheVariants.{Join as JoinMessage, Publish as PublishMessage, Response as ResponseMessage, Commit as CommitMessage}
use Rattle.world_model.specs.declared.acts.Cause.{Cause}
use Rattle.world_model.specs.declared.acts.Cause.TheVariants.{Initial as InitialRefused, Start as StartRefused, Join as JoinRefused, Value as ValueRefused, Publish as PublishRefused, Response as ResponseRefused, Commit as CommitRefused}
use Rattle.world_model.specs.declared.acts.ActReply.TheVariants.{Taken}
use Rattle.world_model.specs.declared.acts.Outcome.{Outcome}
use Rattle.world_model.specs.declared.acts.Outcome.TheVariants.{Answered}
use Rattle.world_model.specs.Acts.{wins}
use Rattle.voting_config.specs.Lists.{list_text}
use Rattle.trace_text.specs.declared.ending.Ending.{Ending}
use Rattle.trace_text.specs.declared.ending.Ending.TheVariants as ending
use Rattle.trace_text.specs.Endings.{ending_of}

-- ---- causes and outcomes

-- a name with one number, or with two
abbrev pub one : List ℕ → ℕ → List ℕ
one name x = name ++ codes "(" ++ decimal x ++ codes ")"

abbrev pub two : List ℕ → ℕ → ℕ → List ℕ
two name x y = name ++ codes "(" ++ decimal x ++ codes "," ++ decimal y ++ codes ")"

-- a name with an id
abbrev pub named : List ℕ → Id → List ℕ
named name n = name ++ codes "(" ++ n ++ codes ")"

abbrev pub initial_text : InitialCause → List ℕ
initial_text initial.AlreadySet = codes "AlreadySet"
initial_text initial.EmptyConfig = codes "EmptyConfig"

abbrev pub start_text : StartCause → List ℕ
start_text (start.TermNotGreater x y) = two (codes "TermNotGreater") x y
start_text (start.TermTooLarge x) = one (codes "TermTooLarge") x

abbrev pub join_text : JoinCause → List ℕ
join_text (join.NotForMe n) = named (codes "NotForMe") n
join_text (join.TermMismatch x y) = two (codes "TermMismatch") x y
join_text join.NotStarted = codes "NotStarted"
join_text (join.FresherTerm x y) = two (codes "FresherTerm") x y
join_text (join.FresherVersion x y) = two (codes "FresherVersion") x y
join_text join.NoConfig = codes "NoConfig"

abbrev pub value_text : ValueCause → List ℕ
value_text value.NotWon = codes "NotWon"
value_text (value.NotAccepted x y) = two (codes "NotAccepted") x y
value_text (value.VersionNotGreater x y) = two (codes "VersionNotGreater") x y
value_text (value.VersionTooLarge x) = one (codes "VersionTooLarge") x
value_text value.Reconfiguring = codes "Reconfiguring"
value_text value.NoJoinQuorum = codes "NoJoinQuorum"

abbrev pub publish_text : PublishCause → List ℕ
publish_text (publish.TermMismatch x y) = two (codes "TermMismatch") x y
publish_text (publish.VersionNotGreater x y) = two (codes "VersionNotGreater") x y

abbrev pub response_text : ResponseCause → List ℕ
response_text (response.NotForMe n) = named (codes "NotForMe") n
response_text response.NotWon = codes "NotWon"
response_text (response.TermMismatch x y) = two (codes "TermMismatch") x y
response_text (response.VersionMismatch x y) = two (codes "VersionMismatch") x y

abbrev pub commit_text : CommitCause → List ℕ
commit_text (commit.TermMismatch x y) = two (codes "TermMismatch") x y
commit_text (commit.AcceptedTermMismatch x y) = two (codes "AcceptedTermMismatch") x y
commit_text (commit.VersionMismatch x y) = two (codes "VersionMismatch") x y
commit_text (commit.Publishing x y) = two (codes "Publishing") x y

abbrev pub cause_text : Cause → List ℕ
cause_text (InitialRefused c) = initial_text c
cause_text (StartRefused c) = start_text c
cause_text (JoinRefused c) = join_text c
cause_text (ValueRefused c) = value_text c
cause_text (PublishRefused c) = publish_text c
cause_text (ResponseRefused c) = response_text c
cause_text (CommitRefused c) = commit_text c

abbrev pub ending_text : Ending → List ℕ
ending_text ending.Taken = codes "ok"
ending_text (ending.Refused cause) = codes "refused:" ++ cause_text cause
ending_text ending.Stopped = codes "stopped"
ending_text ending.Disk = codes "disk"
ending_text ending.Crashed = codes "crashed"

-- ---- acts and messages

-- a term and a version
abbrev pub id_text : ℕ → ℕ → List ℕ
id_text term version = decimal term ++ codes "/" ++ decimal version

abbrev pub state_text : ClusterState → List ℕ
state_text state = compact_text (state_json state)

abbrev pub act_text : Act → List ℕ
act_text (Bootstrap config) = codes "boot " ++ list_text config
act_text (StartJoin candidate term) = codes "startjoin " ++ candidate ++ codes " " ++ decimal term
act_text (TakeJoin j) = codes "join " ++ j.source ++ codes " " ++ j.target ++ codes " " ++ decimal j.term ++ codes " "
    ++ id_text j.last_term j.last_version
act_text (Value version config value) = codes "value " ++ decimal version ++ codes " " ++ list_text config ++ codes " "
    ++ compact_text (value_json value)
act_text (Publish r) = codes "publish " ++ r.source ++ codes " " ++ state_text r.state
act_text (Response r) = codes "response " ++ r.source ++ codes " " ++ r.target ++ codes " " ++ id_text r.term r.version
act_text (Commit c) = codes "commit " ++ c.source ++ codes " " ++ id_text c.term c.version
act_text (Open found) = codes "open"

-- an act and how it ended
abbrev pub act_line : Id → Ending → Act → List ℕ
act_line n e act = codes "act " ++ n ++ codes " " ++ ending_text e ++ codes " " ++ act_text act ++ codes "\n"

-- a node has opened its journal, and found this record
abbrev pub record_line : Id → ℕ → ClusterState → List Id → List ℕ
record_line n term accepted committed =
    codes "record " ++ n ++ codes " " ++ decimal term ++ codes " " ++ id_text accepted.term accepted.version ++ codes " "
    ++ list_text accepted.config ++ codes " " ++ list_text committed ++ codes "\n"

-- a node is down, and takes nothing
abbrev pub down_line : Id → List ℕ
down_line n = codes "down " ++ n ++ codes "\n"

-- a node is up already
abbrev pub up_line : Id → List ℕ
up_line n = codes "up " ++ n ++ codes "\n"

-- a node has crashed, between two acts or as it opened its journal
abbrev pub crashed_line : Id → List ℕ
crashed_line n = codes "crashed " ++ n ++ codes "\n"

-- a node's disk has failed as it opened its journal
abbrev pub disk_line : Id → List ℕ
disk_line n = codes "disk " ++ n ++ codes "\n"

abbrev pub outcome_line : Id → Outcome → Act → List ℕ
outcome_line n o (Open found) = record_line n found.term found.accepted found.committed
outcome_line n o act = act_line n (ending_of o) act

-- a node has won the election of a term
abbrev pub won_text : Bool → Id → ℕ → List ℕ
won_text won n term = cond won (codes "won " ++ n ++ codes " " ++ decimal term ++ codes "\n") []

abbrev pub won_line : Id → Act → Outcome → List ℕ
won_line n (TakeJoin j) o = won_text (wins o) n j.term
won_line n act o = []

-- the state that is committed
abbrev pub committed_text : Option ClusterState → List ℕ
committed_text None = []
committed_text (Some state) = codes "committed " ++ state_text state ++ codes "\n"

-- a response that sends a commit commits what its node has published last
abbrev pub committed_line : Outcome → Option ClusterState → List ℕ
committed_line (Answered (Taken (Some (CommitMessage c)) w)) published = committed_text published
committed_line other published = []

-- from whom a message is, and to whom; a publish request and a commit are for any node
abbrev pub address_text : Message → List ℕ
address_text (JoinMessage j) = j.source ++ codes "->" ++ j.target
address_text (PublishMessage r) = r.source ++ codes "->*"
address_text (ResponseMessage r) = r.source ++ codes "->" ++ r.target
address_text (CommitMessage c) = c.source ++ codes "->*"

abbrev pub message_text : Message → List ℕ
message_text (JoinMessage j) = codes "join " ++ decimal j.term ++ codes " " ++ id_text j.last_term j.last_version
message_text (PublishMessage r) = codes "publish " ++ state_text r.state
message_text (ResponseMessage r) = codes "response " ++ id_text r.term r.version
message_text (CommitMessage c) = codes "commit " ++ id_text c.term c.version

-- the message of this number
abbrev pub message_line : ℕ → Message → List ℕ
message_line number message = codes "m" ++ decimal number ++ codes " " ++ address_text message ++ codes " " ++ message_text message
    ++ codes "\n"

abbrev pub sent_line : ℕ → Outcome → List ℕ
sent_line number (Answered (Taken (Some message) w)) = message_line number message
sent_line number other = []

-- what an act writes after so many messages, where its node had published this state last
abbrev pub results : ℕ → Option ClusterState → Id → Act → Outcome → List ℕ
results count published n act o = outcome_line n o act ++ (won_line n act o ++ (committed_line o published ++ sent_line (count + 1) o))
