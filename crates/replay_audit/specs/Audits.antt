-- For the contracts inside: what an audit finds in the trace of a schedule, as statements.
use Rattle.std.specs.Prelude.{◌≡◌, ◌≢◌, ◌≤◌, ℕ, suc, Result, Ok, Err, List, [], ◌++◌, length}
use Rattle.std.specs.List.{AllByRecursion}
use Rattle.voting_config.specs.Ids.{Id, IsIdSet}
use Rattle.world_model.specs.Histories.{History, NoEntries, Next}
use Rattle.schedule_text.specs.declared.fault.ReadError.{ReadError}
use Rattle.schedule_text.specs.declared.fault.ReadError.TheVariants.{Bad, Memory}
use Rattle.schedule_text.specs.declared.level.Level.{Level}
use Rattle.schedule_text.specs.declared.level.Level.TheVariants.{Core, Node}
use Rattle.schedule_text.specs.declared.schedule.Schedule.{Schedule}
use Rattle.recorded_trace.specs.declared.fault.BadTrace.{BadTrace}
use Rattle.recorded_trace.specs.Reading.{Recording, most_bytes, recording_of}
use Rattle.line_laws.specs.Read.{header}
use Rattle.replay_node.specs.Clusters.{replayed_history}
use Rattle.schedule_text.specs.Lines.{FitsLine}
use Rattle.trace_audit.specs.declared.verdict.Verdict.{Verdict}
use Rattle.trace_audit.specs.declared.verdict.Verdict.TheVariants.{Legal, NotLegal}
use Rattle.trace_audit.specs.Traced.{traced}
use Rattle.trace_audit.specs.Verdicts.{Judges, winners_of, committed_count}
use Rattle.schedule_replay.specs.Legal.{IsWellFormed}
use Rattle.schedule_replay.specs.Levels.{trace_at}
use Rattle.schedule_replay.specs.Replayed.{replayed}

-- the trace of a schedule as a recorded one: after the line `initial` with its configuration
abbrev pub recorded_trace : Level → Schedule → List ℕ
recorded_trace level s = header s.initial ++ trace_at level s

-- Such a trace can be audited: nodes have ids, some node bootstraps the cluster, and the trace is no longer than an audit takes.
pub record CanBeAudited (level : Level) (s : Schedule) : Type 0 where
  pub nodes : IsIdSet s.nodes
  pub initial : IsIdSet s.initial
  pub some_initial : s.initial ≢ []
  pub short : length (recorded_trace level s) ≤ most_bytes

-- the bytes are read as a recorded trace of this configuration, whose entries are those of this history
pub record IsTraceOf (bytes : List ℕ) (initial : List Id) (h : History) : Type 0 where
  pub trace : Recording
  pub read : recording_of bytes ≡ Ok trace
  pub from : trace.initial ≡ initial
  pub history : traced trace.entries ≡ h

-- how many acts and openings a history has
abbrev pub entry_count : History → ℕ
entry_count NoEntries = 0
entry_count (Next h n act o) = suc (entry_count h)

-- an audit finds that this history is legal, with its numbers; memory may run out
abbrev pub FindsLegal : History → Result Verdict (ReadError BadTrace) → Type 0
FindsLegal h (Ok (Legal entries winners committed)) = (entries ≡ entry_count h) × (winners ≡ winners_of h) × (committed ≡ committed_count h)
FindsLegal h (Ok (NotLegal line clause)) = ⊥
FindsLegal h (Err (Bad bad)) = ⊥
FindsLegal h (Err Memory) = Unit {0}

-- each answer of an audit to these bytes is so
abbrev pub AuditsAs : List ℕ → History → Type 0
AuditsAs bytes h = (answer : Result Verdict (ReadError BadTrace)) → Judges answer (recording_of bytes) → FindsLegal h answer

-- ---- level core

-- the trace of each schedule of single acts is read as its own history
abbrev pub LawReplayIsRead : Type 0
LawReplayIsRead = (s : Schedule) → IsWellFormed s → CanBeAudited Core s → IsTraceOf (recorded_trace Core s) s.initial (replayed s)

-- so an audit finds it legal, with the numbers of that history
abbrev pub LawReplayIsAudited : Type 0
LawReplayIsAudited = (s : Schedule) → IsWellFormed s → CanBeAudited Core s → AuditsAs (recorded_trace Core s) (replayed s)

-- ---- level node

-- a schedule of whole nodes, whose lines are of level node and of its nodes
pub record CanBeAuditedWhole (s : Schedule) : Type 0 where
  pub can : CanBeAudited Node s
  pub fit : AllByRecursion (FitsLine Node s.nodes) s.lines

-- its trace is read as its own history too, and found legal
abbrev pub LawWholeReplayIsRead : Type 0
LawWholeReplayIsRead = (s : Schedule) → CanBeAuditedWhole s → IsTraceOf (recorded_trace Node s) s.initial (replayed_history s)

abbrev pub LawWholeReplayIsAudited : Type 0
LawWholeReplayIsAudited = (s : Schedule) → CanBeAuditedWhole s → AuditsAs (recorded_trace Node s) (replayed_history s)
