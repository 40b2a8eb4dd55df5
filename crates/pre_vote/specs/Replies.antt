-- Part of the statement: what a node answers that is asked for a pre-vote.
use Rattle.std.specs.Prelude.{Option, None, Some, if◌then◌else◌}
use Rattle.voting_config.specs.Ids.{Id, same}
use Rattle.pre_vote.specs.declared.replies.Reply.{Reply}
use Rattle.pre_vote.specs.declared.replies.Reply.TheVariants.{Answer, Refused}

-- who has a leader other than the asker refuses, and names it
abbrev pub reply_to : Id → Option Id → Reply
reply_to asker None = Answer
reply_to asker (Some leader) = if same leader asker then Answer else Refused leader
