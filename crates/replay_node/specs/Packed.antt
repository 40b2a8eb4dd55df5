-- For the contracts inside: a message in few bytes, whose ids are places on a roster.
use Rattle.std.specs.Prelude.{◌≡◌, ℕ, ◌<◌, List, [], ◌++◌, length, get_or, IsOk}
use Rattle.voting_config.specs.Ids.{Id}
use Rattle.cluster_state.specs.States.{state, whole}
use Rattle.world_model.specs.declared.acts.Message.{Message}
use Rattle.world_model.specs.declared.acts.Message.TheVariants.{Join as JoinMessage, Publish as PublishMessage, Response as ResponseMessage, Commit as CommitMessage}
use Rattle.replay_node.specs.Kept.{request_in}
use Rattle.replay_node.specs.Sent.{message_of}
use Rattle.replay_node.specs.declared.packed.PackedMessage.{PackedMessage}
use Rattle.replay_node.specs.declared.packed.PackedMessage.TheVariants as packed

-- the id at a place, counted from 0
abbrev pub id_at : List Id → ℕ → Id
id_at roster place = get_or roster place []

-- the id has this place
pub record HasPlace (roster : List Id) (id : Id) (place : ℕ) : Type 0 where
  pub within : place < length roster
  pub is : id_at roster place ≡ id

-- the message that it is over this roster
abbrev pub unpacked : List Id → PackedMessage → Message
unpacked roster (packed.Join source target term last_term last_version) =
    JoinMessage
    (record { source = id_at roster source; target = id_at roster target; term = term; last_term = last_term; last_version = last_version })
unpacked roster (packed.Publish source bytes) = PublishMessage (request_in (id_at roster source) bytes.items)
unpacked roster (packed.Response source target term version) =
    ResponseMessage (record { source = id_at roster source; target = id_at roster target; term = term; version = version })
unpacked roster (packed.Commit source term version) =
    CommitMessage (record { source = id_at roster source; term = term; version = version })
unpacked roster (packed.Whole message) = message_of message.value

-- its places are on the roster, and its bytes spell a state
abbrev pub IsPacked : List Id → PackedMessage → Type 0
IsPacked roster (packed.Join source target term last_term last_version) = (source < length roster) × (target < length roster)
IsPacked roster (packed.Publish source bytes) = (source < length roster) × IsOk (whole (state.at bytes.items))
IsPacked roster (packed.Response source target term version) = (source < length roster) × (target < length roster)
IsPacked roster (packed.Commit source term version) = source < length roster
IsPacked roster (packed.Whole message) = Unit {0}

-- over this roster it is this message
abbrev pub Packs : List Id → PackedMessage → Message → Type 0
Packs roster p m = IsPacked roster p × (unpacked roster p ≡ m)

-- ids may have come behind those of a roster
abbrev pub GrowsTo : List Id → List Id → Type 0
GrowsTo old new = (more : List Id) × (new ≡ old ++ more)
