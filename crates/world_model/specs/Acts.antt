-- Part of the statement: what one node did: its acts, each with its outcome, the oldest first.
use Rattle.std.specs.Prelude.{Bool, true, false}
use Rattle.voting_config.specs.Ids.{Id}
pub use Rattle.world_model.specs.declared.acts.Act.{Act}
pub use Rattle.world_model.specs.declared.acts.Act.TheVariants.{Bootstrap, StartJoin, TakeJoin, Value, Publish, Response, Commit, Open}
pub use Rattle.world_model.specs.declared.acts.Message.{Message}
pub use Rattle.world_model.specs.declared.acts.Message.TheVariants.{Join as JoinMessage, Publish as PublishMessage, Response as ResponseMessage, Commit as CommitMessage}
pub use Rattle.world_model.specs.declared.acts.Cause.{Cause}
pub use Rattle.world_model.specs.declared.acts.Cause.TheVariants.{Initial as InitialRefused, Start as StartRefused, Join as JoinRefused, Value as ValueRefused, Publish as PublishRefused, Response as ResponseRefused, Commit as CommitRefused}
pub use Rattle.world_model.specs.declared.acts.ActReply.{ActReply}
pub use Rattle.world_model.specs.declared.acts.ActReply.TheVariants.{Taken, Refused, Stopped}
pub use Rattle.world_model.specs.declared.acts.Outcome.{Outcome}
pub use Rattle.world_model.specs.declared.acts.Outcome.TheVariants.{Answered, Disk, Crashed}

-- the acts of one node so far, each with its outcome, the oldest first
pub data NodeHistory : Type 0 where
  NoActs : NodeHistory
  Then : (before : NodeHistory) → (act : Act) → (outcome : Outcome) → NodeHistory

-- from whom a message is
abbrev pub source_of : Message → Id
source_of (JoinMessage j) = j.source
source_of (PublishMessage r) = r.source
source_of (ResponseMessage r) = r.source
source_of (CommitMessage c) = c.source

abbrev pub is_opening : Act → Bool
is_opening (Open found) = true
is_opening (Bootstrap config) = false
is_opening (StartJoin candidate term) = false
is_opening (TakeJoin join) = false
is_opening (Value version config value) = false
is_opening (Publish request) = false
is_opening (Response response) = false
is_opening (Commit commit) = false

-- whether the act was taken
abbrev pub is_ok : Outcome → Bool
is_ok (Answered (Taken sends wins)) = true
is_ok (Answered (Refused cause)) = false
is_ok (Answered Stopped) = false
is_ok (Disk kept) = false
is_ok (Crashed kept) = false

-- whether what the act writes is kept
abbrev pub is_effective : Outcome → Bool
is_effective (Answered (Taken sends wins)) = true
is_effective (Answered (Refused cause)) = false
is_effective (Answered Stopped) = false
is_effective (Disk kept) = kept
is_effective (Crashed kept) = kept

abbrev pub wins : Outcome → Bool
wins (Answered (Taken sends flag)) = flag
wins (Answered (Refused cause)) = false
wins (Answered Stopped) = false
wins (Disk kept) = false
wins (Crashed kept) = false

abbrev pub is_disk : Outcome → Bool
is_disk (Answered reply) = false
is_disk (Disk kept) = true
is_disk (Crashed kept) = false

abbrev pub is_crashed : Outcome → Bool
is_crashed (Answered reply) = false
is_crashed (Disk kept) = false
is_crashed (Crashed kept) = true

abbrev pub is_first : NodeHistory → Bool
is_first NoActs = true
is_first (Then before act outcome) = false
