-- Part of the statement: which request a line is, or why it is none.
use Rattle.std.specs.Prelude.{◌≡◌, ℕ, if◌then◌else◌, List, length, nat_lt, Option, Some, None, ok_or, Result, Ok, Err}
use Rattle.std.specs.Str.{is_utf8}
use Rattle.client_lines.specs.Lines.{most_line}
use Rattle.serde_json.specs.Data.{Data}
use Rattle.serde_json.specs.Read.{read}
use Rattle.serde_json.specs.View.{view}
use Rattle.serde_json.specs.declared.value.Value.{Value}
use Rattle.cluster_state.specs.declared.request.Request.{Request}
use Rattle.cluster_state.specs.declared.reply.LineFault.{LineFault}
use Rattle.cluster_state.specs.declared.reply.LineFault.TheVariants.{TooLong, NotJson, BadShape}
use Rattle.client_lines.specs.declared.fault.LineError.{LineError}
use Rattle.client_lines.specs.declared.fault.LineError.TheVariants.{Fault, Memory}
use Rattle.client_lines.specs.Requests.{request_of}

-- the JSON value that the bytes are
abbrev pub json_of : List ℕ → Option Data
json_of bytes = if is_utf8 bytes then read bytes else None

abbrev pub shaped : {X : Type 0} → Option X → Result X LineFault
shaped o = ok_or o BadShape

abbrev pub value_request : Option Data → Result Request LineFault
value_request None = Err NotJson
value_request (Some d) = shaped (request_of d)

-- the request that the line is, or the first fault
unfoldable pub line_request : List ℕ → Result Request LineFault
line_request line = if nat_lt most_line (length line) then Err TooLong else value_request (json_of line)

-- What was read is what there is to read, unless memory ran out.
abbrev pub FailsToRead : {X : Type 0} → LineError → Result X LineFault → Type 0
FailsToRead Memory there = Unit {0}
FailsToRead (Fault f) there = there ≡ Err f

abbrev pub Reads : {X : Type 0} → Result X LineError → Result X LineFault → Type 0
Reads (Ok x) there = there ≡ Ok x
Reads (Err e) there = FailsToRead e there

abbrev pub ReadsValue : Result Value LineError → Option Data → Type 0
ReadsValue (Ok v) there = there ≡ Some (view v)
ReadsValue (Err e) there = FailsToRead e (ok_or there NotJson)
