-- Part of the statement: the messages that a replay holds.
use Rattle.std.specs.Prelude.{Bool, Option, None, Some, List, [], ◌∷◌}
use Rattle.std.specs.List.{list_all}
use Rattle.voting_config.specs.Ids.{Id, has}
pub use Rattle.world_model.specs.Acts.{source_of}
use Rattle.world_model.specs.declared.acts.Act.{Act}
use Rattle.world_model.specs.declared.acts.Act.TheVariants.{TakeJoin, Publish, Response, Commit}
use Rattle.world_model.specs.declared.acts.Message.{Message}
use Rattle.world_model.specs.declared.acts.Outcome.{Outcome}
use Rattle.world_model.specs.Histories.{sent_by}
use Rattle.world_model.specs.declared.acts.Message.TheVariants.{Join as JoinMessage, Publish as PublishMessage, Response as ResponseMessage, Commit as CommitMessage}
use Rattle.replay_node.specs.declared.message.SentMessage.{SentMessage}
use Rattle.replay_node.specs.declared.message.SentMessage.TheVariants as message

abbrev pub message_of : SentMessage → Message
message_of (message.Join j) = JoinMessage j
message_of (message.Publish r) = PublishMessage r.value
message_of (message.Response r) = ResponseMessage r
message_of (message.Commit c) = CommitMessage c

abbrev pub message_of_some : Option SentMessage → Option Message
message_of_some None = None
message_of_some (Some m) = Some (message_of m)

abbrev pub some_message : Option SentMessage → List Message
some_message None = []
some_message (Some m) = message_of m ∷ []

-- each message is from one of these nodes
abbrev pub are_from : List Id → List Message → Bool
are_from ids messages = list_all (λ (m : Message). has (source_of m) ids) messages

-- what an act sends that has this outcome; one that was not done sends nothing
abbrev pub sent_some : Option Outcome → List Message
sent_some None = []
sent_some (Some outcome) = sent_by outcome

-- the act by which a node takes a message
abbrev pub taking : Message → Act
taking (JoinMessage join) = TakeJoin join
taking (PublishMessage request) = Publish request
taking (ResponseMessage response) = Response response
taking (CommitMessage commit) = Commit commit
