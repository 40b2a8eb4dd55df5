-- Part of the statement: what a client's line is answered, and the answers that come with time.
use Rattle.std.specs.Prelude.{ℕ, Option, None, Some, Result, Ok, Err, List, [], ◌∷◌, ◌++◌, if◌then◌else◌}
use Rattle.cluster_state.specs.declared.reply.LineFault.{LineFault}
use Rattle.cluster_state.specs.declared.request.Request.{Request}
use Rattle.cluster_state.specs.declared.reply.Answer.TheVariants as answer
use Rattle.cluster_state.specs.declared.reply.Reply.{Reply}
use Rattle.cluster_state.specs.declared.reply.Reply.TheVariants as reply
use Rattle.cluster_state.specs.Puts.{bad_setting_of}
use Rattle.master_tasks.specs.Queue.{most_open, is_full_of}
use Rattle.master_tasks.specs.Answering.{answers_by, timed_out}
use Rattle.policy_model.specs.declared.settings.Settings.{Settings}
use Rattle.policy_model.specs.Events.{Item, Replies, Notes, Queued, ExclusionsTimedOut}
use Rattle.policy_model.specs.Views.{View}
use Rattle.policy_model.specs.Doing.{is_leader, leader_of, then_rule, reply_all}
use Rattle.policy_model.specs.NextState.{goes_on}

abbrev pub replies : ℕ → Reply → List Item
replies conn reply = Replies (record { conn = conn; reply = reply }) ∷ []

module _ (s : Settings) where
  -- exclusions that have waited too long are answered
  abbrev pub times_out_exclusions : View → List Item
  times_out_exclusions v =
      reply_all s (answers_by (timed_out v.node.committed v.moment) v.tasks.waiting) ++ Notes ExclusionsTimedOut ∷ []

  -- a leader queues a request, unless it is bad or too many wait
  abbrev pub queues : View → ℕ → Request → Option ℕ → List Item
  queues v conn request (Some length) = replies conn (reply.To request.id (answer.BadSetting length))
  queues v conn request None =
      if is_full_of v.tasks then replies conn (reply.To request.id (answer.QueueFull most_open))
      else then_rule s v (Notes (Queued conn request) ∷ []) (goes_on s)

  -- what a line was read as
  abbrev pub takes_line : View → ℕ → Result Request LineFault → List Item
  takes_line v conn (Err fault) = replies conn (reply.BadLine fault)
  takes_line v conn (Ok request) =
      if is_leader v.mode then queues v conn request (bad_setting_of request.ask)
      else replies conn (reply.To request.id (answer.NotMaster (leader_of s.me v.mode)))
