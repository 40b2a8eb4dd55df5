-- For the contracts inside: when a node stands for its acts so far, and an audit for the entries so far.
use Rattle.std.specs.Prelude.{◌≡◌, ℕ, Bool, false, cond, Option, None, Some, Result, Ok, Err, List, [], ◌∷◌, length, map}
use Rattle.std.specs.Ordering.{nat_cmp}
use Rattle.std.specs.Cmp.Lexicographic.{slice_cmp}
use Rattle.std.specs.BTreeMap as tree
use Rattle.std.specs.BTreeMap.{BTreeMap}
use Rattle.voting_config.specs.Ids.{Id, same}
use Rattle.world_model.specs.declared.acts.Message.{Message}
use Rattle.world_model.specs.Acts.{NodeHistory, NoActs}
use Rattle.world_model.specs.declared.acts.Message.TheVariants.{Join as JoinMessage, Publish as PublishMessage, Response as ResponseMessage, Commit as CommitMessage}
use Rattle.cluster_state.specs.declared.messages.ApplyCommit.{ApplyCommit}
use Rattle.world_model.specs.Histories.{History, node_history, sent, IsLegal}
use Rattle.world_model.specs.Safety.{published}
use Rattle.node_audit.specs.declared.node.Node.{Node}
use Rattle.node_audit.specs.Standing.{Stands}
use Rattle.trace_audit.specs.declared.auditor.Auditor.{Auditor}
use Rattle.trace_audit.specs.declared.auditing.Broken.{Broken}
use Rattle.trace_audit.specs.declared.auditing.Judgement.{Judgement}
use Rattle.recorded_trace.specs.declared.progress.Progress.{Progress}
use Rattle.recorded_trace.specs.declared.entry.Entry.{Entry}
use Rattle.recorded_trace.specs.Lines.{shown_at}
use Rattle.recorded_trace.specs.declared.fault.BadTrace.{BadTrace}
use Rattle.trace_audit.specs.declared.verdict.Verdict.TheVariants.{NotLegal}
use Rattle.trace_audit.specs.declared.notes.Notes.{Notes}
use Rattle.trace_audit.specs.declared.verdict.Winner.{Winner}
use Rattle.trace_audit.specs.declared.auditor.Stop.{Stop}
use Rattle.trace_audit.specs.declared.auditor.Stop.TheVariants as stop
use Rattle.trace_audit.specs.Clauses.{BreaksFirst}
use Rattle.trace_audit.specs.Places.{IsSentOf}
use Rattle.recorded_trace.specs.Reading.{Numbered, Recording, ◌>>>◌, in_line, sized, with_entry as with_shown}
use Rattle.trace_audit.specs.Traced.{traced}
use Rattle.trace_audit.specs.Verdicts.{winners_of, commit_of, IsRight}
use Rattle.schedule_text.specs.declared.fault.ReadError.{ReadError}
use Rattle.schedule_text.specs.declared.fault.ReadError.TheVariants.{Bad, Memory as OutOfMemory}

-- ---- all nodes, and all nodes but one

-- a node of which there is no trace has done nothing
abbrev pub StandsIfAny : Option Node → NodeHistory → Type 0
StandsIfAny None g = g ≡ NoActs
StandsIfAny (Some n) g = Stands n g

abbrev pub node_in : BTreeMap Id Node → Id → Option Node
node_in nodes n = tree.get (slice_cmp nat_cmp) nodes n

abbrev pub AllStand : BTreeMap Id Node → (Id → NodeHistory) → Type 0
AllStand nodes acts = (n : Id) → StandsIfAny (node_in nodes n) (acts n)

abbrev pub OthersStand : Id → BTreeMap Id Node → (Id → NodeHistory) → Type 0
OthersStand me nodes acts = (n : Id) → same me n ≡ false → StandsIfAny (node_in nodes n) (acts n)

-- ---- an audit

-- the commit of the state that an act publishes, where it publishes one
abbrev pub commits_by : Id → Option Message → List ApplyCommit
commits_by n None = []
commits_by n (Some (PublishMessage request)) = record { source = n; term = request.state.term; version = request.state.version } ∷ []
commits_by n (Some (JoinMessage join)) = []
commits_by n (Some (ResponseMessage response)) = []
commits_by n (Some (CommitMessage commit)) = []

abbrev pub winners_by : Id → ℕ → Bool → List Winner
winners_by n term wins = cond wins (record { node = n; term = term } ∷ []) []

abbrev pub messages_by : Option Message → List Message
messages_by None = []
messages_by (Some m) = m ∷ []

-- the messages, the winners and the commits of the published states
pub record AreNotes (n : Notes) (messages : List Message) (won : List Winner) (commits : List ApplyCommit) : Type 0 where
  pub sent : IsSentOf n.sent messages
  pub winners : n.winners.items ≡ won
  pub published : n.published.items ≡ commits

abbrev pub NotesOf : Notes → History → Type 0
NotesOf n h = AreNotes n (sent h) (winners_of h) (map commit_of (published h))

-- after these entries, which are legal
pub record Audits (initial : List Id) (a : Auditor) (h : History) : Type 0 where
  pub names : a.initial ≡ initial
  pub legal : IsLegal initial h
  pub nodes : AllStand a.nodes (node_history h)
  pub notes : NotesOf a.notes h

-- what one more entry makes of it, where the history is then this
abbrev pub Takes : List Id → Auditor → Result (Unit {0}) Stop → History → Type 0
Takes initial new (Ok u) h = Audits initial new h
Takes initial new (Err (stop.Broken clause)) h = BreaksFirst clause initial h
Takes initial new (Err stop.Memory) h = Unit {0}

-- ---- a whole recording

-- of the entries so far: all are legal, or one was the first that is not
abbrev pub SoFar : List Id → Auditor → Option Broken → List Numbered → Type 0
SoFar initial a None xs = Audits initial a (traced xs)
SoFar initial a (Some b) xs = IsRight (record { initial = initial; entries = xs }) (NotLegal b.line b.clause)

-- what one more entry makes of it
abbrev pub Judged : List Id → Auditor → Result (Option Broken) (ReadError BadTrace) → List Numbered → Type 0
Judged initial new (Ok broken) xs = SoFar initial new broken xs
Judged initial new (Err (Bad bad)) xs = ⊥
Judged initial new (Err OutOfMemory) xs = Unit {0}

-- the same, with their number
abbrev pub Counted : List Id → Auditor → Result Judgement (ReadError BadTrace) → List Numbered → Type 0
Counted initial new (Ok j) xs = SoFar initial new j.broken xs × (j.entries ≡ length xs)
Counted initial new (Err (Bad bad)) xs = ⊥
Counted initial new (Err OutOfMemory) xs = Unit {0}

-- what one more line makes of it, or why the line is bad
abbrev pub TakesLine : List Id → Auditor → Progress → List ℕ → List Numbered → Result Judgement (ReadError BadTrace) → Type 0
TakesLine initial new p line xs (Ok j) = (told : Option Entry) × (in_line p (sized p line (shown_at line)) ≡ Ok told)
    × SoFar initial new j.broken (with_shown p xs told) × (j.entries ≡ length (with_shown p xs told))
TakesLine initial new p line xs (Err (Bad bad)) = in_line p (sized p line (shown_at line)) ≡ Err bad
TakesLine initial new p line xs (Err OutOfMemory) = Unit {0}

abbrev pub stopped_as : Stop → ℕ → Result (Option Broken) (ReadError BadTrace)
stopped_as (stop.Broken clause) line = Ok (Some (record { line = line; clause = clause }))
stopped_as stop.Memory line = Err OutOfMemory

-- the initial configuration with the entries after it
abbrev pub recorded_with : List Id → Result (List Numbered) BadTrace → Result Recording BadTrace
recorded_with initial read = read >>> λ entries. Ok (record { initial = initial; entries = entries })
