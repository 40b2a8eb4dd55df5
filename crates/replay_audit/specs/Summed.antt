-- For the contracts inside: that the summary of a trace, which counts lines, counts what the history has, as statements.
use Rattle.std.specs.Prelude.{◌≡◌, ℕ, ◌+◌, Bool, true, false, cond, List, [], ◌∷◌, length, count_by}
use Rattle.world_model.specs.declared.acts.ActReply.TheVariants.{Taken, Refused, Stopped}
use Rattle.world_model.specs.declared.acts.Message.{Message}
use Rattle.world_model.specs.declared.acts.Message.TheVariants.{Join as JoinMessage, Publish as PublishMessage, Response as ResponseMessage, Commit as CommitMessage}
use Rattle.world_model.specs.declared.acts.Outcome.{Outcome}
use Rattle.world_model.specs.declared.acts.Outcome.TheVariants.{Answered, Disk, Crashed}
use Rattle.world_model.specs.Acts.{is_opening, is_crashed}
use Rattle.world_model.specs.Histories.{History, NoEntries, Next, sent}
use Rattle.world_model.specs.Safety.{winners}
use Rattle.schedule_text.specs.declared.level.Level.TheVariants.{Core, Node}
use Rattle.schedule_text.specs.declared.schedule.Schedule.{Schedule}
use Rattle.trace_summary.specs.declared.counts.Counts.{Counts}
use Rattle.trace_summary.specs.Summaries.{summary_of}
use Rattle.replay_node.specs.Clusters.{replayed_history}
use Rattle.schedule_replay.specs.Legal.{IsWellFormed}
use Rattle.schedule_replay.specs.Levels.{trace_at}
use Rattle.schedule_replay.specs.Replayed.{replayed}
use Rattle.schedule_replay.specs.Parts.{TracePart, WentDown}
use Rattle.schedule_replay.specs.TraceParts.{trace_parts}
use Rattle.schedule_replay.specs.ClusterShown.{core_of}
use Rattle.schedule_replay.specs.ClusterTraceParts.{cluster_parts}
use Rattle.replay_audit.specs.Audits.{CanBeAudited, CanBeAuditedWhole}

-- the act was refused
abbrev pub is_refusal : Outcome → Bool
is_refusal (Answered (Refused cause)) = true
is_refusal (Answered (Taken sends wins)) = false
is_refusal (Answered Stopped) = false
is_refusal (Disk kept) = false
is_refusal (Crashed kept) = false

-- how many acts a history has beside its openings, and how many of them were refused
abbrev pub act_count : History → ℕ
act_count NoEntries = 0
act_count (Next h n act o) = cond (is_opening act) (act_count h) (act_count h + 1)

abbrev pub refusal_count : History → ℕ
refusal_count NoEntries = 0
refusal_count (Next h n act o) = cond (is_refusal o) (refusal_count h + 1) (refusal_count h)

abbrev pub is_commit : Message → Bool
is_commit (CommitMessage commit) = true
is_commit (JoinMessage join) = false
is_commit (PublishMessage request) = false
is_commit (ResponseMessage response) = false

-- how many acts of a history a node crashed at
abbrev pub crash_count : History → ℕ
crash_count NoEntries = 0
crash_count (Next h n act o) = cond (is_crashed o) (crash_count h + 1) (crash_count h)

-- how often a node crashed at no act, but between two acts or as it opened its journal: such a crash has a part of the trace, and no entry
abbrev pub stop_count : List TracePart → ℕ
stop_count [] = 0
stop_count (WentDown n ∷ xs) = stop_count xs + 1
stop_count (x ∷ xs) = stop_count xs

-- These are the numbers of a history and of the parts that tell it: the lines of its schedule, its acts, those that were refused, its wins,
-- the commits that were sent, and the crashes, each at an act or at none. A state whose commit was sent twice has two lines, where an audit
-- counts it once.
pub record AreOf (c : Counts) (s : Schedule) (xs : List TracePart) (h : History) : Type 0 where
  pub steps : c.steps ≡ length s.lines
  pub acts : c.acts ≡ act_count h
  pub refused : c.refused ≡ refusal_count h
  pub won : c.won ≡ length (winners h)
  pub committed : c.committed ≡ count_by is_commit (sent h)
  pub crashes : c.crashes ≡ crash_count h + stop_count xs

-- so it is of the summary of each trace
abbrev pub LawSummary : Type 0
LawSummary =
    (s : Schedule) → IsWellFormed s → CanBeAudited Core s → AreOf (summary_of (trace_at Core s)).counts s (trace_parts s) (replayed s)

abbrev pub LawWholeSummary : Type 0
LawWholeSummary =
    (s : Schedule) → CanBeAuditedWhole s
    → AreOf (summary_of (trace_at Node s)).counts s (core_of (cluster_parts s)) (replayed_history s)
