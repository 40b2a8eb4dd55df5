-- Part of the statement: the device calls that keep a change.
use Rattle.std.specs.Prelude.{ℕ, ◌+◌, Bool, true, false, List, if◌then◌else◌}
use Rattle.voting_config.specs.Ids.{Id}
use Rattle.cluster_state.specs.declared.state.ClusterState.{ClusterState}
use Rattle.cluster_state.specs.declared.state.Kept.{Kept}
use Rattle.zen_disk.specs.DeviceCall.{DeviceCall}
use Rattle.zen_disk.specs.Sides.{Files, other}
use Rattle.gate_log.specs.Calls.{append_calls, renewal_calls}
use Rattle.gate_log.specs.Generations.{Generations, in_use, appended, renewed, IsAppended, IsRenewed}
use Rattle.gate_log.specs.Journal.{framed}
use Rattle.gate_log.specs.Place.{Place, place_of, renews}
use Rattle.state_journal.specs.Bodies.{body_of, holds_old}
use Rattle.state_journal.specs.Changes.{changed}
use Rattle.state_journal.specs.declared.change.Change.{Change}
use Rattle.state_journal.specs.declared.change.Change.TheVariants.{Renewed}

abbrev pub record_with : ℕ → ClusterState → List Id → Kept
record_with term accepted committed = record { term = term; accepted = accepted; committed = committed }

-- the body that begins the next generation with this record
abbrev pub generation_after : Place → Kept → List ℕ
generation_after p kept = body_of (Renewed (record { epoch = p.epoch + 1; kept = kept }))

-- the calls of an append of this body or of a renewal with this generation
abbrev pub writing_calls : Bool → Place → (body generation : List ℕ) → List DeviceCall
writing_calls renewing p body generation =
    if renewing then renewal_calls (other p.side) p.other_gate (framed generation)
    else append_calls p.side p.gate (framed body)

-- A change is appended to the side in use, or the record with it begins the next generation on the other side, as it does where one is
-- due.
abbrev pub keeping_calls : (due : Bool) → Place → Kept → Change → List DeviceCall
keeping_calls due p kept change =
    writing_calls (renews due p (body_of change)) p (body_of change) (generation_after p (changed kept change))

-- The same where these generations stand: one is due where a body of version 1 is in use.
abbrev pub keeping_calls_in : Generations → Kept → Change → List DeviceCall
keeping_calls_in g kept change = keeping_calls (holds_old (in_use g)) (place_of g) kept change

-- what stands after either
abbrev pub written_in : Bool → Generations → (body generation : List ℕ) → Generations
written_in true g body generation = renewed g generation
written_in false g body generation = appended g body

-- after either, perhaps cut short by a crash
abbrev pub IsWritten : Bool → Generations → (body generation : List ℕ) → Files → Type 0
IsWritten true g body generation = IsRenewed g generation
IsWritten false g body generation = IsAppended g body
