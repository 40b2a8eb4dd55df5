-- Part of the statement: what one node saw and did, item by item.
use Rattle.std.specs.Prelude.{ℕ, Bool, false, Option, None, List, [], ◌∷◌}
use Rattle.voting_config.specs.Ids.{Id}
use Rattle.cluster_state.specs.declared.state.Kept.{Kept}
use Rattle.cluster_state.specs.declared.state.StateId.{StateId}
use Rattle.wire_frames.specs.declared.frame.Frame.{Frame}
use Rattle.cluster_state.specs.declared.request.Request.{Request}
use Rattle.master_tasks.specs.declared.waiting.Outgoing.{Outgoing}
use Rattle.world_model.specs.declared.acts.Act.{Act}
use Rattle.world_model.specs.declared.acts.Act.TheVariants.{Open}
use Rattle.world_model.specs.declared.acts.Outcome.{Outcome}
use Rattle.world_model.specs.declared.acts.Outcome.TheVariants.{Answered}
use Rattle.world_model.specs.declared.acts.ActReply.TheVariants.{Taken}
use Rattle.world_model.specs.Acts.{NodeHistory, NoActs, Then}
pub use Rattle.policy_model.specs.declared.events.Mode.{Mode}
pub use Rattle.policy_model.specs.declared.events.Mode.TheVariants.{Candidate, Leader, Follower}
pub use Rattle.policy_model.specs.declared.events.Event.{Event}
pub use Rattle.policy_model.specs.declared.events.Event.TheVariants.{Start, Tick, Frame as FrameCame, Client as LineCame, Disconnected as PeerGone}
pub use Rattle.policy_model.specs.declared.events.DropCause.{DropCause}
pub use Rattle.policy_model.specs.declared.events.DropCause.TheVariants.{Checks, Lag, Disconnect}

-- That a rule ran, and on what. It is not shown: what it stands for follows from the rest.
pub data Note : Type 0 where
  -- these were met
  Met : (ids : List Id) → Note
  -- a peer answered with the master that it knows
  Heard : (peer : Id) → (master : Option Id) → Note
  PeersAsked : Note
  -- no election is waited for; the first deadline is set; a deadline is reached, and a round of pre-votes begins
  ElectionOff : Note
  ElectionSet : (word : ℕ) → Note
  RoundBegun : (word : ℕ) → Note
  RoundAnswered : (source : Id) → (term : ℕ) → (last : StateId) → Note
  RoundEnded : Note
  -- these are to become members
  Joined : (ids : List Id) → Note
  FollowersChecked : Note
  FollowerAnswered : (from : Id) → (good : Bool) → (applied : StateId) → Note
  LeaderChecked : Note
  LeaderAnswered : (good : Bool) → Note
  -- a request is queued
  Queued : (conn : ℕ) → (request : Request) → Note
  -- the requests that are due are answered: exclusions that waited too long, what a commit has, exclusions that are done
  ExclusionsTimedOut : Note
  CommitAcked : Note
  AppliedAnswered : Note
  -- the next state was made of all that was queued
  StateMade : Note
  HandedOver : Note
  -- the connection to a node ended: its answer is forgotten, peers are to be asked at once, and it is watched no more
  PeerLost : (id : Id) → Note
  -- the connection to the leader ended: peers are asked a little later
  LeaderLost : Note

pub data Item : Type 0 where
  -- the journal was opened, and held this record
  Opens : (found : Kept) → Item
  -- an event begins
  Begins : (event : Event) → Item
  Acts : (act : Act) → (outcome : Outcome) → Item
  -- the mode changed, in this term
  ChangesMode : (mode : Mode) → (term : ℕ) → Item
  -- a member is to be removed
  Drops : (member : Id) → (cause : DropCause) → Item
  Sends : (frame : Frame) → Item
  Replies : (answer : Outgoing) → Item
  Notes : (note : Note) → Item

-- the items so far, the newest last
pub data Log : Type 0 where
  NoItems : Log
  And : (before : Log) → (item : Item) → Log

-- the log with these more
abbrev pub added : Log → List Item → Log
added l [] = l
added l (i ∷ is) = added (And l i) is

-- the acts
abbrev pub acts_of : Log → NodeHistory
acts_of NoItems = NoActs
acts_of (And l (Opens found)) = Then (acts_of l) (Open found) (Answered (Taken None false))
acts_of (And l (Acts act outcome)) = Then (acts_of l) act outcome
acts_of (And l i) = acts_of l
