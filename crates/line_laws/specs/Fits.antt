-- For the contracts inside: what holds of the values of the types: an id is one, and a number has 64 bits.
use Rattle.std.specs.Prelude.{ℕ, Option, None, Some, List, ◌^◌, ◌<◌, IsTrue}
use Rattle.std.specs.List.{list_all}
use Rattle.voting_config.specs.Ids.{Id, is_id}
use Rattle.cluster_state.specs.declared.state.Kept.{Kept}
use Rattle.cluster_state.specs.declared.state.StateId.{StateId}
use Rattle.cluster_state.specs.declared.state.ClusterState.{ClusterState}
use Rattle.cluster_state.specs.declared.causes.StartCause.{StartCause}
use Rattle.cluster_state.specs.declared.causes.StartCause.TheVariants as start
use Rattle.cluster_state.specs.declared.causes.JoinCause.{JoinCause}
use Rattle.cluster_state.specs.declared.causes.JoinCause.TheVariants as join
use Rattle.cluster_state.specs.declared.causes.ValueCause.{ValueCause}
use Rattle.cluster_state.specs.declared.causes.ValueCause.TheVariants as value
use Rattle.cluster_state.specs.declared.causes.PublishCause.{PublishCause}
use Rattle.cluster_state.specs.declared.causes.PublishCause.TheVariants as publish
use Rattle.cluster_state.specs.declared.causes.ResponseCause.{ResponseCause}
use Rattle.cluster_state.specs.declared.causes.ResponseCause.TheVariants as response
use Rattle.cluster_state.specs.declared.causes.CommitCause.{CommitCause}
use Rattle.cluster_state.specs.declared.causes.CommitCause.TheVariants as commit
use Rattle.world_model.specs.declared.acts.Act.{Act}
use Rattle.world_model.specs.declared.acts.Act.TheVariants.{Bootstrap, StartJoin, TakeJoin, Value, Publish, Response, Commit, Open}
use Rattle.world_model.specs.declared.acts.Cause.{Cause}
use Rattle.world_model.specs.declared.acts.Cause.TheVariants.{Initial as InitialRefused, Start as StartRefused, Join as JoinRefused, Value as ValueRefused, Publish as PublishRefused, Response as ResponseRefused, Commit as CommitRefused}
use Rattle.world_model.specs.declared.acts.Message.{Message}
use Rattle.world_model.specs.declared.acts.Message.TheVariants.{Join as JoinMessage, Publish as PublishMessage, Response as ResponseMessage, Commit as CommitMessage}
use Rattle.wire_frames.specs.declared.frame.Frame.{Frame}
use Rattle.wire_frames.specs.declared.frame.WireMessage.{WireMessage as FrameMessage}
use Rattle.wire_frames.specs.declared.frame.WireMessage.TheVariants as frame
use Rattle.trace_text.specs.declared.ending.Ending.{Ending}
use Rattle.trace_text.specs.declared.ending.Ending.TheVariants as ending
use Rattle.policy_model.specs.declared.events.Mode.{Mode}
use Rattle.policy_model.specs.declared.events.Mode.TheVariants as mode

abbrev pub IsSmall : ℕ → Type 0
IsSmall x = x < 2 ^ 64

abbrev pub AreSmall : ℕ → ℕ → Type 0
AreSmall x y = IsSmall x × IsSmall y

abbrev pub FitsStart : StartCause → Type 0
FitsStart (start.TermNotGreater x y) = AreSmall x y
FitsStart (start.TermTooLarge x) = IsSmall x

abbrev pub FitsJoin : JoinCause → Type 0
FitsJoin (join.NotForMe n) = IsTrue (is_id n)
FitsJoin (join.TermMismatch x y) = AreSmall x y
FitsJoin join.NotStarted = Unit {0}
FitsJoin (join.FresherTerm x y) = AreSmall x y
FitsJoin (join.FresherVersion x y) = AreSmall x y
FitsJoin join.NoConfig = Unit {0}

abbrev pub FitsValue : ValueCause → Type 0
FitsValue value.NotWon = Unit {0}
FitsValue (value.NotAccepted x y) = AreSmall x y
FitsValue (value.VersionNotGreater x y) = AreSmall x y
FitsValue (value.VersionTooLarge x) = IsSmall x
FitsValue value.Reconfiguring = Unit {0}
FitsValue value.NoJoinQuorum = Unit {0}

abbrev pub FitsPublish : PublishCause → Type 0
FitsPublish (publish.TermMismatch x y) = AreSmall x y
FitsPublish (publish.VersionNotGreater x y) = AreSmall x y

abbrev pub FitsResponse : ResponseCause → Type 0
FitsResponse (response.NotForMe n) = IsTrue (is_id n)
FitsResponse response.NotWon = Unit {0}
FitsResponse (response.TermMismatch x y) = AreSmall x y
FitsResponse (response.VersionMismatch x y) = AreSmall x y

abbrev pub FitsCommit : CommitCause → Type 0
FitsCommit (commit.TermMismatch x y) = AreSmall x y
FitsCommit (commit.AcceptedTermMismatch x y) = AreSmall x y
FitsCommit (commit.VersionMismatch x y) = AreSmall x y
FitsCommit (commit.Publishing x y) = AreSmall x y

abbrev pub FitsCause : Cause → Type 0
FitsCause (InitialRefused c) = Unit {0}
FitsCause (StartRefused c) = FitsStart c
FitsCause (JoinRefused c) = FitsJoin c
FitsCause (ValueRefused c) = FitsValue c
FitsCause (PublishRefused c) = FitsPublish c
FitsCause (ResponseRefused c) = FitsResponse c
FitsCause (CommitRefused c) = FitsCommit c

abbrev pub FitsEnding : Ending → Type 0
FitsEnding (ending.Refused cause) = FitsCause cause
FitsEnding other = Unit {0}

abbrev pub FitsMode : Mode → Type 0
FitsMode (mode.Follower leader) = IsTrue (is_id leader)
FitsMode other = Unit {0}

-- the id of a parent, where there is one
abbrev pub FitsParent : Option StateId → Type 0
FitsParent None = Unit {0}
FitsParent (Some id) = AreSmall id.term id.version

-- a state: its texts may be any
abbrev pub FitsState : ClusterState → Type 0
FitsState s = AreSmall s.term s.version × FitsParent s.parent

abbrev pub AreIds : List Id → Type 0
AreIds ids = IsTrue (list_all is_id ids)

-- the ids that a record, an act, a message and a frame name

abbrev pub FitsKept : Kept → Type 0
FitsKept k = AreIds k.accepted.config × AreIds k.committed

abbrev pub FitsAct : Act → Type 0
FitsAct (Bootstrap config) = AreIds config
FitsAct (StartJoin candidate term) = IsTrue (is_id candidate)
FitsAct (TakeJoin j) = IsTrue (is_id j.source) × IsTrue (is_id j.target)
FitsAct (Value version config value) = AreIds config
FitsAct (Publish r) = IsTrue (is_id r.source)
FitsAct (Response r) = IsTrue (is_id r.source) × IsTrue (is_id r.target)
FitsAct (Commit c) = IsTrue (is_id c.source)
FitsAct (Open found) = FitsKept found

abbrev pub FitsMessage : Message → Type 0
FitsMessage (JoinMessage j) = IsTrue (is_id j.source) × IsTrue (is_id j.target)
FitsMessage (PublishMessage r) = IsTrue (is_id r.source)
FitsMessage (ResponseMessage r) = IsTrue (is_id r.source) × IsTrue (is_id r.target)
FitsMessage (CommitMessage c) = IsTrue (is_id c.source)

abbrev pub FitsMaster : Option Id → Type 0
FitsMaster None = Unit {0}
FitsMaster (Some master) = IsTrue (is_id master)

abbrev pub FitsFrameMessage : FrameMessage → Type 0
FitsFrameMessage (frame.StartJoin candidate term) = IsTrue (is_id candidate)
FitsFrameMessage (frame.PeersAsk known) = AreIds known
FitsFrameMessage (frame.PeersAnswer master term known) = FitsMaster master × AreIds known
FitsFrameMessage (frame.PreVoteRefuse leader) = IsTrue (is_id leader)
FitsFrameMessage other = Unit {0}

abbrev pub FitsFrame : Frame → Type 0
FitsFrame f = IsTrue (is_id f.from) × IsTrue (is_id f.to) × FitsFrameMessage f.message
