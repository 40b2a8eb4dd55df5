-- Part of the statement: what the trace of a schedule shows of its history, as statements. `run` cites these records of its schedule.
use Rattle.std.specs.Prelude.{◌≡◌, false, List, ◌++◌}
use Rattle.world_model.specs.Histories.{NoEntries, sent}
use Rattle.schedule_text.specs.declared.schedule.Line.{Line}
use Rattle.schedule_text.specs.declared.schedule.Schedule.{Schedule}
use Rattle.schedule_replay.specs.Legal.{IsWellFormed}
use Rattle.schedule_replay.specs.Replayed.{replayed}
use Rattle.schedule_replay.specs.Trace.{trace}
use Rattle.schedule_replay.specs.LineByLine.{ShowsLines}
use Rattle.schedule_replay.specs.TraceParts.{trace_parts}
use Rattle.schedule_replay.specs.Showing.{Shows, Agrees}
use Rattle.schedule_replay.specs.Parts.{TracePart, text_of}
use Rattle.schedule_replay.specs.HistoryShown.{history_shown, lines_of, messages_of, numbered}

-- the trace is the text of these parts, which echo the lines in order, and the history is read off them
pub record GivesHistory (s : Schedule) (xs : List TracePart) : Type 0 where
  pub text : trace s ≡ text_of xs
  pub lines : lines_of xs ≡ s.lines
  pub history : history_shown xs ≡ replayed s
  pub messages : messages_of xs ≡ numbered 0 (sent (replayed s))

-- so it is for each schedule
abbrev pub LawTraceGivesHistory : Type 0
LawTraceGivesHistory = (s : Schedule) → GivesHistory s (trace_parts s)

-- more lines leave the parts of the lines before as they are
abbrev pub LawPartsGoOn : Type 0
LawPartsGoOn = (s : Schedule) (more : List Line)
    → (rest : List TracePart) × (trace_parts (record s { lines = s.lines ++ more }) ≡ trace_parts s ++ rest)

-- after the echo of each line stands what the line asks for; at first all nodes are up, and none has done anything
abbrev pub LawTraceFollows : Type 0
LawTraceFollows = (s : Schedule) → ShowsLines s.initial NoEntries (λ n. false) s.lines (trace_parts s)

-- the parts show the wins and the committed states of the history, and no others
abbrev pub LawTraceShows : Type 0
LawTraceShows = (s : Schedule) → IsWellFormed s → Shows (replayed s) (trace_parts s)

-- two `won` lines of one term name one node, and two `committed` lines of one version show one state
abbrev pub LawTraceAgrees : Type 0
LawTraceAgrees = (s : Schedule) → IsWellFormed s → Agrees (trace_parts s)
