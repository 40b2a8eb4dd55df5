-- Part of the statement: when a verdict on a recorded trace is right.
use Rattle.std.specs.Prelude.{◌≡◌, ℕ, Bool, Result, Ok, Err, List, ◌∷◌, ◌++◌, length, map, count_by}
use Rattle.voting_config.specs.Ids.{Id}
use Rattle.cluster_state.specs.declared.messages.ApplyCommit.{ApplyCommit}
use Rattle.schedule_text.specs.declared.fault.ReadError.{ReadError}
use Rattle.schedule_text.specs.declared.fault.ReadError.TheVariants.{Bad, Memory}
use Rattle.world_model.specs.declared.acts.Message.{Message}
use Rattle.world_model.specs.declared.acts.Message.TheVariants.{Commit as CommitMessage}
use Rattle.world_model.specs.Histories.{History, sent, IsLegal}
use Rattle.world_model.specs.Safety.{Win, Published, winners, published}
use Rattle.trace_audit.specs.declared.clause.Clause.{Clause}
use Rattle.recorded_trace.specs.declared.fault.BadTrace.{BadTrace}
use Rattle.trace_audit.specs.declared.verdict.Winner.{Winner}
use Rattle.trace_audit.specs.declared.verdict.Verdict.{Verdict}
use Rattle.trace_audit.specs.declared.verdict.Verdict.TheVariants.{Legal, NotLegal}
use Rattle.recorded_trace.specs.Reading.{Numbered, Recording}
use Rattle.trace_audit.specs.Traced.{traced, with_entry}
use Rattle.trace_audit.specs.Clauses.{BreaksFirst}
use Rattle.trace_audit.specs.Messages.{is_among}

-- the winners of a history, in order
abbrev pub winner_of : Win → Winner
winner_of w = record { node = w.node; term = w.term }

abbrev pub winners_of : History → List Winner
winners_of h = map winner_of (winners h)

-- the message that commits a published state
abbrev pub commit_of : Published → ApplyCommit
commit_of p = record { source = p.publisher; term = p.state.term; version = p.state.version }

-- whether it was sent
abbrev pub is_committed : List Message → ApplyCommit → Bool
is_committed messages commit = is_among messages (CommitMessage commit)

-- how many of the published states were committed
abbrev pub committed_count : History → ℕ
committed_count h = count_by (is_committed (sent h)) (map commit_of (published h))

-- the numbers of a legal history
pub record Counts (xs : List Numbered) (entries : ℕ) (won : List Winner) (committed : ℕ) : Type 0 where
  pub all : entries ≡ length xs
  pub winners : won ≡ winners_of (traced xs)
  pub commits : committed ≡ committed_count (traced xs)

-- the entry of a line is the first that is not legal, and this is the first clause that it breaks
pub record IsFirstBroken (initial : List Id) (xs : List Numbered) (line : ℕ) (clause : Clause) : Type 0 where
  pub prefix : List Numbered
  pub broken : Numbered
  pub back : List Numbered
  pub split : xs ≡ prefix ++ broken ∷ back
  pub number : broken.line ≡ line
  pub before : IsLegal initial (traced prefix)
  pub breaks : BreaksFirst clause initial (with_entry (traced prefix) broken.entry)

-- the verdict on a recording
abbrev pub IsRight : Recording → Verdict → Type 0
IsRight r (Legal entries won committed) = IsLegal r.initial (traced r.entries) × Counts r.entries entries won committed
IsRight r (NotLegal line clause) = (IsLegal r.initial (traced r.entries) → ⊥) × IsFirstBroken r.initial r.entries line clause

-- an answer to bytes that are read as this
abbrev pub Judges : Result Verdict (ReadError BadTrace) → Result Recording BadTrace → Type 0
Judges (Ok verdict) read = (r : Recording) × (read ≡ Ok r) × IsRight r verdict
Judges (Err (Bad bad)) read = read ≡ Err bad
Judges (Err Memory) read = Unit {0}
