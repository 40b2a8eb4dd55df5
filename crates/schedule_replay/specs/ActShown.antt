-- Part of the statement: the part of an act, from its outcome. It need not be read: TraceLaws says of the parts what they show, by
-- HistoryShown and Showing.
use Rattle.std.specs.Prelude.{ℕ, ◌+◌, cond, Option, None, Some}
use Rattle.voting_config.specs.Ids.{Id}
use Rattle.cluster_state.specs.declared.state.ClusterState.{ClusterState}
use Rattle.world_model.specs.declared.acts.Act.{Act}
use Rattle.world_model.specs.declared.acts.Act.TheVariants.{TakeJoin}
use Rattle.world_model.specs.declared.acts.Message.TheVariants.{Commit as CommitMessage}
use Rattle.world_model.specs.declared.acts.ActReply.TheVariants.{Taken}
use Rattle.world_model.specs.declared.acts.Outcome.{Outcome}
use Rattle.world_model.specs.declared.acts.Outcome.TheVariants.{Answered}
use Rattle.world_model.specs.Acts.{wins}
use Rattle.trace_text.specs.Endings.{ending_of}
use Rattle.schedule_replay.specs.Parts.{NumberedMessage, ActShown}

abbrev pub won_term : Act → Outcome → Option ℕ
won_term (TakeJoin j) o = cond (wins o) (Some j.term) None
won_term act o = None

-- a commit commits what its node has published last
abbrev pub state_committed : Outcome → Option ClusterState → Option ClusterState
state_committed (Answered (Taken (Some (CommitMessage c)) w)) published = published
state_committed other published = None

abbrev pub message_sent : ℕ → Outcome → Option NumberedMessage
message_sent number (Answered (Taken (Some message) w)) = Some (record { number = number; message = message })
message_sent number other = None

-- an act that ended so, after so many messages, where its node had published this state last
abbrev pub act_shown : (count : ℕ) → Option ClusterState → Id → Act → Outcome → ActShown
act_shown count published n act o = record {
  node = n;
  act = act;
  ending = ending_of o;
  won = won_term act o;
  committed = state_committed o published;
  sends = message_sent (count + 1) o;
}
