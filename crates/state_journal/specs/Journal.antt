-- Part of the statement: the record that a journal stands for.
use Rattle.std.specs.Prelude.{◌≡◌, ℕ, ◌+◌, List, [], ◌∷◌, length, nat_lt, nat_le, Bool, true, false, not, ◌&&◌, Option, Some, None, Result, Ok, Err, if◌then◌else◌}
use Rattle.std.specs.Result.{result_ok}
use Rattle.std.proofs.Common.{◌∙◌, ap, sym}
use Rattle.zen_disk.specs.Moments.{Only}
use Rattle.cluster_state.specs.Initial.{empty_record}
use Rattle.cluster_state.specs.declared.state.Kept.{Kept}
use Rattle.zen_disk.specs.Sides.{Files}
use Rattle.zen_disk.specs.declared.side.Side.{Side}
use Rattle.gate_log.specs.Folded.{found_by}
use Rattle.gate_log.specs.Generations.{Generations, generations_of, standing_in, in_use}
use Rattle.gate_log.specs.declared.why.Fault.{Fault as LogFault}
use Rattle.gate_log.specs.declared.why.Fault.TheVariants as log_fault
use Rattle.gate_log.specs.declared.why.Why.{Why as LogWhy}
use Rattle.gate_log.specs.declared.why.Why.TheVariants as log
use Rattle.state_journal.specs.Bodies.{is_guarded, guard_fault, change_at}
use Rattle.state_journal.specs.Changes.{changed}
use Rattle.state_journal.specs.declared.change.Change.{Change}
use Rattle.state_journal.specs.declared.change.Change.TheVariants.{Term, Accepted, Committed, Renewed}
use Rattle.state_journal.specs.declared.why.BodyFault.{BodyFault}
use Rattle.state_journal.specs.declared.why.Fault.{Fault}
use Rattle.state_journal.specs.declared.why.Fault.TheVariants.{Header, Cut, Long, Body, Order}
use Rattle.state_journal.specs.declared.why.Why.{Why}
use Rattle.state_journal.specs.declared.why.Why.TheVariants.{At, Twin}

-- a term is greater than the term so far, and a state's is not, also where both are set at once
abbrev pub in_order : Kept → Change → Bool
in_order kept (Term term) = nat_lt kept.term term
in_order kept (Accepted state) = nat_le state.term kept.term
in_order kept Committed = true
in_order kept (Renewed generation) = nat_le generation.kept.accepted.term generation.kept.term

-- the record with what a body spells, whose gate stands at p; a body of version 1 that comes late, after one of version 2, is not in order
unfoldable pub with_change : ℕ → (late : Bool) → Kept → Result Change BodyFault → Result Kept Fault
with_change p late kept (Ok change) = if late then Err (Order p) else if in_order kept change then Ok (changed kept change)
    else Err (Order p)
with_change p late kept (Err fault) = Err (Body p fault)

abbrev pub unless : Option Fault → Result Kept Fault → Result Kept Fault
unless None read = read
unless (Some fault) read = Err fault

-- The record with a body whose gate stands at p, or its first fault, of which that of its digest comes first. It may come after one
-- of version 2.
abbrev pub with_body : ℕ → (after : Bool) → Kept → List ℕ → Result Kept Fault
with_body p after kept body = unless (guard_fault p body) (with_change p (after && not (is_guarded body)) kept (change_at body))

abbrev pub goes_on_with : (Kept → Result Kept Fault) → Result Kept Fault → Result Kept Fault
goes_on_with more (Ok kept) = more kept
goes_on_with more (Err why) = Err why

-- the record with these bodies, of which the first one's gate stands at p, or the first fault
unfoldable pub folded_from : ℕ → (after : Bool) → Kept → List (List ℕ) → Result Kept Fault
folded_from p after kept [] = Ok kept
folded_from p after kept (body ∷ bodies) =
    goes_on_with (λ (k : Kept). folded_from (p + 5 + length body) (is_guarded body) k bodies) (with_body p after kept body)

-- the record of the bodies of one side, or its first fault
abbrev pub record_of_bodies : List (List ℕ) → Result Kept Fault
record_of_bodies bodies = folded_from 8 false empty_record bodies

abbrev pub fault_by : LogFault → Fault
fault_by log_fault.Header = Header
fault_by (log_fault.Cut p) = Cut p
fault_by (log_fault.Long p) = Long p
fault_by (log_fault.Order p) = Order p

abbrev pub why_by : LogWhy → Why
why_by (log.At side fault) = At side (fault_by fault)
why_by log.Twin = Twin

abbrev pub on_its_side : Result Kept (Side × Fault) → Result Kept Why
on_its_side (Ok kept) = Ok kept
on_its_side (Err fault) = Err (At fault.0 fault.1)

-- the record of the side in use, where the bodies of both sides are read
abbrev pub found_in : Result Generations LogWhy → Result Kept Why
found_in (Ok generations) = on_its_side (found_by record_of_bodies generations)
found_in (Err why) = Err (why_by why)

-- the record that an opening of these files finds, or their first fault
abbrev pub found_of : Files → Result Kept Why
found_of files = found_in (generations_of files)

-- the record that two files stand for
abbrev pub record_of_files : Files → Option Kept
record_of_files files = result_ok (found_of files)

-- how many bodies the side in use has
abbrev pub records_of : Files → ℕ
records_of files = length (in_use (standing_in files))

-- what a crash since t left is opened with this
abbrev pub StoodFor : (ℕ → Files → Type 0) → ℕ → Option Kept → Type 0
StoodFor left_since t found = (files : Files) × left_since t files × (found ≡ record_of_files files)

-- an opening finds what it might have found before
abbrev pub FoundAsSome : (Files → Type 0) → Files → Type 0
FoundAsSome outcomes files = (d : Files) × outcomes d × (found_of files ≡ found_of d)

-- at rest a crash leaves the record
pub only_record : (seen : Files) (left_now may_leave : Files → Type 0) (kept : Kept) (found : Option Kept)
    → ((c : Files) → left_now c → may_leave c) → Only seen may_leave → found_of seen ≡ Ok kept
    → (c : Files) × left_now c × (found ≡ record_of_files c) → found ≡ Some kept
only_record seen left_now may_leave kept found now only is left =
    left.2 ∙ ap record_of_files (only left.0 (now left.0 left.1)) ∙ ap result_ok is

-- a crash since t might have left the record, where it might have left the file as it reads
pub record_stays : (seen : Files) (left_since : ℕ → Files → Type 0) (t : ℕ) (kept : Kept) → left_since t seen → found_of seen ≡ Ok kept
    → StoodFor left_since t (Some kept)
record_stays seen left_since t kept left is = (seen, left, sym (ap result_ok is))
