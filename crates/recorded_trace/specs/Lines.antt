-- Part of the statement: what a line of a trace shows: an entry, or nothing that an audit looks at.
use Rattle.std.specs.Prelude.{ℕ, Bool, ◌&&◌, ◌||◌, Option, None, Some, Result, Ok, Err, List, [], ◌∷◌, take, drop, codes, if◌then◌else◌}
use Rattle.std.specs.Result.{is_ok}
use Rattle.std.specs.Str.{bytes_eq}
use Rattle.voting_config.specs.Ids.{Id}
use Rattle.voting_config.specs.Lists.{listed_ids}
use Rattle.schedule_text.specs.declared.fault.WhyBad.{WhyBad}
use Rattle.schedule_text.specs.Lines.{words_of, any_number}
use Rattle.recorded_trace.specs.declared.entry.Entry.{Entry}
use Rattle.recorded_trace.specs.declared.fault.Why.{Why}
use Rattle.recorded_trace.specs.declared.fault.Why.TheVariants as bad
use Rattle.recorded_trace.specs.Acts.{act_at, record_at}

-- the first word of a message is `m` and its number
abbrev pub is_numbered : List ℕ → Bool
is_numbered w = bytes_eq (take 1 w) (codes "m") && is_ok (any_number.at (drop 1 w))

-- the first word of a line that shows neither an act nor a record
abbrev pub is_skipped : List ℕ → Bool
is_skipped w =
    bytes_eq w (codes ">") || bytes_eq w (codes "won") || bytes_eq w (codes "committed") || bytes_eq w (codes "mode")
    || bytes_eq w (codes "drop") || bytes_eq w (codes "reply") || bytes_eq w (codes "unsent") || bytes_eq w (codes "misrouted")
    || bytes_eq w (codes "down") || bytes_eq w (codes "up") || bytes_eq w (codes "crashed") || bytes_eq w (codes "disk")
    || bytes_eq w (codes "nomemory") || is_numbered w

abbrev pub shaped : Result Entry WhyBad → Result (Option Entry) Why
shaped (Ok entry) = Ok (Some entry)
shaped (Err e) = Err bad.Shape

abbrev pub words_shown : List (List ℕ) → Result (Option Entry) Why
words_shown [] = Err bad.Word
words_shown (verb ∷ ws) =
    if bytes_eq verb (codes "act") then shaped (act_at ws)
    else (if bytes_eq verb (codes "record") then shaped (record_at ws)
    else (if is_skipped verb then Ok None
    else Err bad.Word))

-- what a line shows
abbrev pub shown_at : List ℕ → Result (Option Entry) Why
shown_at line = words_shown (words_of line)

-- the ids that are listed, where there are some
abbrev pub some_ids : Option (List Id) → Result (List Id) Why
some_ids (Some (id ∷ ids)) = Ok (id ∷ ids)
some_ids (Some []) = Err bad.Header
some_ids None = Err bad.Header

abbrev pub initial_of : List (List ℕ) → Result (List Id) Why
initial_of [] = Err bad.Header
initial_of (w ∷ []) = some_ids (listed_ids w)
initial_of (w ∷ v ∷ ws) = Err bad.Header

abbrev pub header_words : List (List ℕ) → Result (List Id) Why
header_words [] = Err bad.Header
header_words (verb ∷ ws) = if bytes_eq verb (codes "initial") then initial_of ws else Err bad.Header

-- the first line, `initial` and the initial configuration
abbrev pub header_at : List ℕ → Result (List Id) Why
header_at line = header_words (words_of line)
