-- Part of the statement: when two messages are the same, as a test.
use Rattle.std.specs.Prelude.{Bool, true, false, ◌&&◌, Option, None, Some, List, nat_eq}
use Rattle.std.specs.List.{list_any}
use Rattle.voting_config.specs.Ids.{same, same_config}
use Rattle.cluster_state.specs.Same.{same_value}
use Rattle.cluster_state.specs.StateIds.{is_same_state}
use Rattle.cluster_state.specs.declared.state.StateId.{StateId}
use Rattle.cluster_state.specs.declared.state.ClusterState.{ClusterState}
use Rattle.cluster_state.specs.declared.messages.Join.{Join}
use Rattle.cluster_state.specs.declared.messages.PublishRequest.{PublishRequest}
use Rattle.cluster_state.specs.declared.messages.PublishResponse.{PublishResponse}
use Rattle.cluster_state.specs.declared.messages.ApplyCommit.{ApplyCommit}
use Rattle.world_model.specs.declared.acts.Message.{Message}
use Rattle.world_model.specs.declared.acts.Message.TheVariants.{Join as JoinMessage, Publish as PublishMessage, Response as ResponseMessage, Commit as CommitMessage}

abbrev pub same_parent : Option StateId → Option StateId → Bool
same_parent None None = true
same_parent None (Some y) = false
same_parent (Some x) None = false
same_parent (Some x) (Some y) = is_same_state x y

abbrev pub same_state : ClusterState → ClusterState → Bool
same_state a b = nat_eq a.term b.term && nat_eq a.version b.version && same_parent a.parent b.parent && same_config a.config b.config
    && same_config a.committed b.committed && same_value a.value b.value

abbrev pub same_join : Join → Join → Bool
same_join a b = same a.source b.source && same a.target b.target && nat_eq a.term b.term && nat_eq a.last_term b.last_term
    && nat_eq a.last_version b.last_version

abbrev pub same_request : PublishRequest → PublishRequest → Bool
same_request a b = same a.source b.source && same_state a.state b.state

abbrev pub same_response : PublishResponse → PublishResponse → Bool
same_response a b = same a.source b.source && same a.target b.target && nat_eq a.term b.term && nat_eq a.version b.version

abbrev pub same_commit : ApplyCommit → ApplyCommit → Bool
same_commit a b = same a.source b.source && nat_eq a.term b.term && nat_eq a.version b.version

abbrev pub is_join : Message → Join → Bool
is_join (JoinMessage other) join = same_join other join
is_join (PublishMessage other) join = false
is_join (ResponseMessage other) join = false
is_join (CommitMessage other) join = false

abbrev pub is_request : Message → PublishRequest → Bool
is_request (PublishMessage other) request = same_request other request
is_request (JoinMessage other) request = false
is_request (ResponseMessage other) request = false
is_request (CommitMessage other) request = false

abbrev pub is_response : Message → PublishResponse → Bool
is_response (ResponseMessage other) response = same_response other response
is_response (JoinMessage other) response = false
is_response (PublishMessage other) response = false
is_response (CommitMessage other) response = false

abbrev pub is_commit : Message → ApplyCommit → Bool
is_commit (CommitMessage other) commit = same_commit other commit
is_commit (JoinMessage other) commit = false
is_commit (PublishMessage other) commit = false
is_commit (ResponseMessage other) commit = false

abbrev pub same_message : Message → Message → Bool
same_message message (JoinMessage join) = is_join message join
same_message message (PublishMessage request) = is_request message request
same_message message (ResponseMessage response) = is_response message response
same_message message (CommitMessage commit) = is_commit message commit

-- whether a message is one of these
abbrev pub is_among : List Message → Message → Bool
is_among messages message = list_any (same_message message) messages
