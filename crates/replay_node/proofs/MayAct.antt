-- What an act of a node may come to.
use Rattle.std.proofs.Common.{◌≡◌, ◌⊎◌, inl, inr, true, false, List, refl}
use Rattle.std.specs.List.{Contains}
use Rattle.voting_config.specs.Ids.{Id}
use Rattle.cluster_state.specs.declared.state.Kept.{Kept}
use Rattle.zen_disk.specs.Sides.{Files}
use Rattle.coord_state.specs.Writes.{change_of}
use Rattle.world_model.specs.declared.acts.Act.{Act}
use Rattle.world_model.specs.declared.acts.Act.TheVariants.{Bootstrap, StartJoin, TakeJoin, Value, Publish, Response, Commit, Open}
use Rattle.world_model.specs.declared.acts.Message.{Message}
use Rattle.world_model.specs.declared.acts.Message.TheVariants.{Join as JoinMessage, Publish as PublishMessage, Response as ResponseMessage, Commit as CommitMessage}
use Rattle.world_model.specs.declared.acts.ActReply.{ActReply}
use Rattle.world_model.specs.declared.acts.ActReply.TheVariants.{Taken, Refused, Stopped}
use Rattle.world_model.specs.Acts.{NodeHistory}
use Rattle.world_model.specs.NodeState.{durable_of}
use Rattle.world_model.specs.Histories.{node_history, sent, is_down, is_opening, Continues, IsSourced, MayHappen}
use Rattle.world_model.specs.Replies.{reply_of, is_taken, writes, IsOutcome}
use Rattle.replay_node.specs.NodeDisk.{NodeDisk, CallsEnd, Done, Failed, CrashedIn, bytes_read, calls_made}
use Rattle.replay_node.specs.NodeWorld.{NodeWorld, act_called, act_calls, outcome_at, outcome_by}
use Rattle.replay_node.specs.Sent.{taking}
use Rattle.replay_node.specs.Worlds.{World, node_world}

-- the calls of an act end well, unless it is taken and writes
ends_well : (disk : NodeDisk) (reply : ActReply) (act : Act) (kept : Kept) (files : Files) → ((calls_made disk (act_calls reply (change_of act) kept files)).ended ≡ Done) ⊎ ((is_taken reply ≡ true) × (writes act ≡ true))
ends_well disk (Refused cause) act kept files = inl refl
ends_well disk Stopped act kept files = inl refl
ends_well disk (Taken sends wins) (Bootstrap config) kept files = inr (refl, refl)
ends_well disk (Taken sends wins) (StartJoin candidate term) kept files = inr (refl, refl)
ends_well disk (Taken sends wins) (Publish request) kept files = inr (refl, refl)
ends_well disk (Taken sends wins) (Commit commit) kept files = inr (refl, refl)
ends_well disk (Taken sends wins) (TakeJoin join) kept files = inl refl
ends_well disk (Taken sends wins) (Value version config value) kept files = inl refl
ends_well disk (Taken sends wins) (Response response) kept files = inl refl
ends_well disk (Taken sends wins) (Open found) kept files = inl refl

outcome_is : (me : Id) (g : NodeHistory) (act : Act) (end : CallsEnd) → (end ≡ Done) ⊎ ((is_taken (reply_of me g act) ≡ true) × (writes act ≡ true)) → IsOutcome me g act (outcome_by end (reply_of me g act))
outcome_is me g act Done w = refl
outcome_is me g act Failed (inl e) = absurd (cc)
outcome_is me g act Failed (inr w) = w
outcome_is me g act (CrashedIn way) (inl e) = absurd (cc)
outcome_is me g act (CrashedIn way) (inr w) = w

outcome_may : (me : Id) (w : NodeWorld) (act : Act) → IsOutcome me w.acts act (outcome_at me w act)
outcome_may me w act = outcome_is me w.acts act (act_called me w act).ended (ends_well w.disk (reply_of me w.acts act) act (durable_of w.acts) (bytes_read w.disk.files))

continues : (g : NodeHistory) (act : Act) → is_opening act ≡ false → Continues g act
continues g (Open found) e = absurd (cc)
continues g (Bootstrap config) e = tt
continues g (StartJoin candidate term) e = tt
continues g (TakeJoin join) e = tt
continues g (Value version config value) e = tt
continues g (Publish request) e = tt
continues g (Response response) e = tt
continues g (Commit commit) e = tt

pub may_act : (initial : List Id) (w : World) (n : Id) (act : Act) → is_down (node_history w.history n) ≡ false → IsSourced initial (sent w.history) act → is_opening act ≡ false → MayHappen initial w.history n act (outcome_at n (node_world w n) act)
may_act initial w n act up sourced closed = record {
  follows = record { follows = outcome_may n (node_world w n) act; up = λ down. absurd (cc) };
  continues = continues (node_history w.history n) act closed;
  sourced = sourced;
}

-- taking a message that was sent
pub sourced_taking : (initial : List Id) (messages : List Message) (m : Message) → Contains messages m → IsSourced initial messages (taking m)
sourced_taking initial messages (JoinMessage j) h = h
sourced_taking initial messages (PublishMessage r) h = h
sourced_taking initial messages (ResponseMessage r) h = h
sourced_taking initial messages (CommitMessage c) h = h

pub taking_shut : (m : Message) → is_opening (taking m) ≡ false
taking_shut (JoinMessage j) = refl
taking_shut (PublishMessage r) = refl
taking_shut (ResponseMessage r) = refl
taking_shut (CommitMessage c) = refl
