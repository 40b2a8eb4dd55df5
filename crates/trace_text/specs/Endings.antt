-- Part of the statement: how an act ended, as a trace shows it: without the message that it sends and without what is kept.
use Rattle.world_model.specs.declared.acts.Outcome.{Outcome}
use Rattle.world_model.specs.declared.acts.Outcome.TheVariants.{Answered, Disk, Crashed}
use Rattle.world_model.specs.declared.acts.ActReply.{ActReply}
use Rattle.world_model.specs.declared.acts.ActReply.TheVariants as reply
use Rattle.trace_text.specs.declared.ending.Ending.{Ending}
use Rattle.trace_text.specs.declared.ending.Ending.TheVariants as ending

abbrev pub reply_ending : ActReply → Ending
reply_ending (reply.Taken sends wins) = ending.Taken
reply_ending (reply.Refused cause) = ending.Refused cause
reply_ending reply.Stopped = ending.Stopped

abbrev pub ending_of : Outcome → Ending
ending_of (Answered reply) = reply_ending reply
ending_of (Disk kept) = ending.Disk
ending_of (Crashed kept) = ending.Crashed
