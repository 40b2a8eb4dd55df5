-- Laws of their own: what the lines of a trace tell, by the values that they are the text of.
use Rattle.std.specs.Prelude.{None, Some}
use Rattle.voting_config.specs.Ids.{Id}
use Rattle.world_model.specs.declared.acts.Act.{Act}
use Rattle.world_model.specs.declared.acts.Act.TheVariants.{Open}
use Rattle.world_model.specs.declared.acts.Message.{Message}
use Rattle.world_model.specs.declared.acts.Message.TheVariants.{Join as JoinMessage, Publish as PublishMessage, Response as ResponseMessage, Commit as CommitMessage}
use Rattle.world_model.specs.declared.acts.Outcome.{Outcome}
use Rattle.policy_model.specs.declared.events.Mode.{Mode}
use Rattle.policy_model.specs.declared.events.Mode.TheVariants as mode
use Rattle.trace_text.specs.declared.ending.Ending.{Ending}
use Rattle.trace_text.specs.declared.ending.Ending.TheVariants as ending
use Rattle.trace_text.specs.Endings.{ending_of}
use Rattle.trace_reader.specs.declared.said.Ending.{Ending as EndingSaid}
use Rattle.trace_reader.specs.declared.said.Ending.TheVariants as ending_said
use Rattle.trace_reader.specs.declared.said.Mode.{Mode as ModeSaid}
use Rattle.trace_reader.specs.declared.said.Mode.TheVariants as mode_said
use Rattle.trace_reader.specs.declared.said.Said.{Said}
use Rattle.trace_reader.specs.declared.said.Said.TheVariants as said

-- how an act ended, without the cause
abbrev pub ending_said_by : Ending → EndingSaid
ending_said_by ending.Taken = ending_said.Taken
ending_said_by (ending.Refused cause) = ending_said.Refused
ending_said_by ending.Stopped = ending_said.Stopped
ending_said_by ending.Disk = ending_said.Disk
ending_said_by ending.Crashed = ending_said.Crashed

-- an act and how it ended; of an opening, that the node has opened its journal
abbrev pub outcome_said : Id → Outcome → Act → Said
outcome_said n o (Open found) = said.Opened n
outcome_said n o act = said.Act n (ending_said_by (ending_of o))

-- the ends of a message
abbrev pub message_said : Message → Said
message_said (JoinMessage j) = said.Sent j.source (Some j.target)
message_said (PublishMessage r) = said.Sent r.source None
message_said (ResponseMessage r) = said.Sent r.source (Some r.target)
message_said (CommitMessage c) = said.Sent c.source None

-- a mode, without the leader that a follower follows
abbrev pub mode_said_by : Mode → ModeSaid
mode_said_by mode.Candidate = mode_said.Candidate
mode_said_by mode.Leader = mode_said.Leader
mode_said_by (mode.Follower leader) = mode_said.Follower
