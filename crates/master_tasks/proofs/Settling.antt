-- One turn of the loop that answers requests.
use Rattle.std.proofs.Common.{◌≡◌, ℕ, ◌+◌, ◌≤◌, List, ◌++◌, length, take, drop, Option}
use Rattle.cluster_state.specs.declared.reply.Answer.{Answer}
use Rattle.master_tasks.specs.declared.waiting.Waiting.{Waiting}
use Rattle.master_tasks.specs.Replying.{Replies}
use Rattle.master_tasks.specs.Answering.{answers_by, left_by}

-- what is answered so far, and what is left to look at
pub record Settles (decide : Waiting → Option Answer) (first now : List Waiting) (place : ℕ) (out_first out : Replies) : Type 0 where
  pub within : place ≤ length now
  pub enough : length now ≤ place + out.room
  pub few : length now ≤ length first
  pub left : left_by decide first ≡ take place now ++ left_by decide (drop place now)
  pub answered : out_first.sent ++ answers_by decide first ≡ out.sent ++ answers_by decide (drop place now)
  pub room : out.room + length out.sent ≡ out_first.room + length out_first.sent
