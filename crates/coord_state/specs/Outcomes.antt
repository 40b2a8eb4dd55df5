-- For the contracts inside: the answer of a call, as the outcome of the act.
use Rattle.std.specs.Prelude.{◌≡◌, false, Option, None, Some, Result, Ok, Err}
use Rattle.cluster_state.specs.declared.messages.Join.{Join}
use Rattle.cluster_state.specs.declared.messages.PublishRequest.{PublishRequest}
use Rattle.cluster_state.specs.declared.messages.PublishResponse.{PublishResponse}
use Rattle.cluster_state.specs.declared.messages.ApplyCommit.{ApplyCommit}
use Rattle.cluster_state.specs.declared.causes.ValueCause.{ValueCause}
use Rattle.cluster_state.specs.declared.causes.PublishCause.{PublishCause}
use Rattle.cluster_state.specs.declared.causes.ResponseCause.{ResponseCause}
use Rattle.cluster_state.specs.declared.causes.CommitCause.{CommitCause}
use Rattle.cluster_state.specs.declared.causes.InitialCause.{InitialCause}
use Rattle.cluster_state.specs.declared.causes.StartCause.{StartCause}
use Rattle.cluster_state.specs.declared.causes.JoinCause.{JoinCause}
use Rattle.world_model.specs.declared.acts.ActReply.{ActReply}
use Rattle.world_model.specs.declared.acts.ActReply.TheVariants.{Taken, Refused, Stopped}
use Rattle.world_model.specs.declared.acts.Outcome.{Outcome}
use Rattle.world_model.specs.declared.acts.Outcome.TheVariants.{Answered, Disk, Crashed}
use Rattle.world_model.specs.declared.acts.Cause.{Cause}
use Rattle.world_model.specs.declared.acts.Message.TheVariants.{Join as JoinMessage, Publish as PublishMessage, Response as ResponseMessage, Commit as CommitMessage}
use Rattle.world_model.specs.declared.acts.Cause.TheVariants.{Initial as InitialRefused, Start as StartRefused, Join as JoinRefused, Value as ValueRefused, Publish as PublishRefused, Response as ResponseRefused, Commit as CommitRefused}
use Rattle.coord_state.specs.declared.coord.ActError.{ActError}
use Rattle.coord_state.specs.declared.coord.ActError.TheVariants as error
use Rattle.coord_state.specs.declared.coord.Joined.{Joined}
use Rattle.coord_state.specs.declared.ending.NotTaken.{NotTaken}
use Rattle.coord_state.specs.declared.ending.NotTaken.TheVariants as untaken

-- how an act ended that was not taken
abbrev pub not_taken : {C T : Type 0} → (C → Cause) → ActError C T → NotTaken
not_taken cause_of (error.Stopped taken) = untaken.Stopped
not_taken cause_of (error.Refused cause taken) = untaken.Refused (cause_of cause)
not_taken cause_of error.Disk = untaken.Disk

-- a record that the disk failed to write counts as not kept until it is opened again
abbrev pub ending : NotTaken → Outcome
ending untaken.Stopped = Answered Stopped
ending (untaken.Refused cause) = Answered (Refused cause)
ending untaken.Disk = Disk false

abbrev pub outcome : {A C T : Type 0} → (A → ActReply) → (C → Cause) → Result A (ActError C T) → Outcome
outcome reply_of cause_of (Ok taken) = Answered (reply_of taken)
outcome reply_of cause_of (Err e) = ending (not_taken cause_of e)

-- ---- the replies that take each act

abbrev pub plain : Unit {0} → ActReply
plain u = Taken None false

abbrev pub sends_join : Join → ActReply
sends_join join = Taken (Some (JoinMessage join)) false

abbrev pub counted : Joined → ActReply
counted joined = Taken None joined.won

abbrev pub sends_request : PublishRequest → ActReply
sends_request request = Taken (Some (PublishMessage request)) false

abbrev pub sends_response : PublishResponse → ActReply
sends_response response = Taken (Some (ResponseMessage response)) false

abbrev pub sends_commit : Option ApplyCommit → ActReply
sends_commit None = Taken None false
sends_commit (Some commit) = Taken (Some (CommitMessage commit)) false

-- ---- the outcome of each act

abbrev pub initial_outcome : {T : Type 0} → Result (Unit {0}) (ActError InitialCause T) → Outcome
initial_outcome answer = outcome plain InitialRefused answer

abbrev pub start_outcome : {T : Type 0} → Result Join (ActError StartCause T) → Outcome
start_outcome answer = outcome sends_join StartRefused answer

abbrev pub join_outcome : {T : Type 0} → Result Joined (ActError JoinCause T) → Outcome
join_outcome answer = outcome counted JoinRefused answer

-- the caller makes the request
abbrev pub value_outcome : {T : Type 0} → PublishRequest → Result (Unit {0}) (ActError ValueCause T) → Outcome
value_outcome request answer = outcome (λ (u : Unit). sends_request request) ValueRefused answer

abbrev pub publish_outcome : {T : Type 0} → Result PublishResponse (ActError PublishCause T) → Outcome
publish_outcome answer = outcome sends_response PublishRefused answer

abbrev pub response_outcome : {T : Type 0} → Result (Option ApplyCommit) (ActError ResponseCause T) → Outcome
response_outcome answer = outcome sends_commit ResponseRefused answer

abbrev pub commit_outcome : {T : Type 0} → Result (Unit {0}) (ActError CommitCause T) → Outcome
commit_outcome answer = outcome plain CommitRefused answer

-- an outcome that an act reports: no crash, and what the disk failed to write counts as not kept
abbrev pub IsReported : Outcome → Type 0
IsReported (Answered reply) = Unit {0}
IsReported (Disk kept) = kept ≡ false
IsReported (Crashed kept) = ⊥

-- what the act took is handed back, but where the disk failed
abbrev pub HandsBack : {A C T : Type 0} → T → Result A (ActError C T) → Type 0
HandsBack taken (Ok a) = Unit {0}
HandsBack taken (Err (error.Stopped back)) = back ≡ taken
HandsBack taken (Err (error.Refused cause back)) = back ≡ taken
HandsBack taken (Err error.Disk) = Unit {0}
