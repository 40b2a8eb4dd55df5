-- Part of the statement: replies, and the room that is left for more.
use Rattle.std.specs.Prelude.{ℕ, ◌-◌, List, [], ◌++◌, length}
use Rattle.cluster_state.specs.declared.reply.Answer.{Answer}
use Rattle.cluster_state.specs.declared.reply.Reply.TheVariants as reply
use Rattle.master_tasks.specs.declared.waiting.Waiting.{Waiting}
use Rattle.master_tasks.specs.declared.waiting.Outgoing.{Outgoing}

-- what was replied, in order, and how many more replies there is room for
pub record Replies : Type 0 where
  pub sent : List Outgoing
  pub room : ℕ

-- room for so many
abbrev pub room_for : ℕ → Replies
room_for count = record { sent = []; room = count }

-- the replies with more of them
abbrev pub with_sent : Replies → List Outgoing → Replies
with_sent out more = record { sent = out.sent ++ more; room = out.room - length more }

-- the reply that answers a request
abbrev pub answer_to : Waiting → Answer → Outgoing
answer_to w answer = record { conn = w.conn; reply = reply.To w.request.id answer }
