-- Part of the statement: the outcome of an act, by the word that a line shows.
use Rattle.std.specs.Prelude.{false, None}
use Rattle.world_model.specs.declared.acts.ActReply.{ActReply}
use Rattle.world_model.specs.declared.acts.ActReply.TheVariants.{Taken, Refused, Stopped}
use Rattle.world_model.specs.declared.acts.Outcome.{Outcome}
use Rattle.world_model.specs.declared.acts.Outcome.TheVariants.{Answered, Disk, Crashed}
use Rattle.trace_text.specs.declared.ending.Ending.{Ending}
use Rattle.trace_text.specs.declared.ending.Ending.TheVariants as ending

-- that the act was taken, with the message and the win of the node's reply where it takes the act
abbrev pub taken_as : ActReply → ActReply
taken_as (Taken sends wins) = Taken sends wins
taken_as (Refused cause) = Taken None false
taken_as Stopped = Taken None false

-- the outcome of an act that is shown so, to which the node's reply is this; what the disk failed or stopped in counts as not kept until a
-- record of its node is shown
abbrev pub outcome_shown : ActReply → Ending → Outcome
outcome_shown reply ending.Taken = Answered (taken_as reply)
outcome_shown reply (ending.Refused cause) = Answered (Refused cause)
outcome_shown reply ending.Stopped = Answered Stopped
outcome_shown reply ending.Disk = Disk false
outcome_shown reply ending.Crashed = Crashed false
