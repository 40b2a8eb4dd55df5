-- For the contracts inside: what reading bodies gives, unless memory ran out.
use Rattle.std.specs.Prelude.{◌≡◌, ℕ, ◌≤◌, Bool, true, false, Result, Ok, Err}
use Rattle.cluster_state.specs.Field.{Field as FieldOf, last_number}
use Rattle.cluster_state.specs.States.{state, IsFit}
use Rattle.cluster_state.specs.declared.state.ClusterState.{ClusterState}
use Rattle.cluster_state.specs.declared.fault.StateFault.{StateFault}
use Rattle.cluster_state.specs.declared.fault.StateFault.TheVariants as fault
use Rattle.cluster_state.specs.declared.fault.ReadError.{ReadError}
use Rattle.cluster_state.specs.declared.fault.ReadError.TheVariants as reading
use Rattle.cluster_state.specs.declared.fault.DecodeError.{DecodeError}
use Rattle.cluster_state.specs.declared.fault.DecodeError.TheVariants as decoding
use Rattle.cluster_state.specs.declared.state.Kept.{Kept}
use Rattle.state_journal.specs.Bodies.{old_state}
use Rattle.state_journal.specs.declared.change.Change.{Change}
use Rattle.state_journal.specs.declared.change.Change.TheVariants.{Term, Accepted, Committed, Renewed}
use Rattle.state_journal.specs.declared.why.BodyFault.{BodyFault}
use Rattle.state_journal.specs.declared.why.BodyFault.TheVariants.{Field, Trailing}
use Rattle.state_journal.specs.declared.why.Fault.{Fault}
use Rattle.state_journal.specs.declared.why.Fault.TheVariants.{Body}
use Rattle.state_journal.specs.declared.why.Why.{Why}
use Rattle.state_journal.specs.declared.why.Why.TheVariants.{At}
use Rattle.zen_disk.specs.declared.side.Side.{Side}
use Rattle.state_journal.specs.declared.body.BodyError.{BodyError}
use Rattle.state_journal.specs.declared.body.BodyError.TheVariants as body
use Rattle.state_journal.specs.declared.fold.FoldError.{FoldError}
use Rattle.state_journal.specs.declared.fold.FoldError.TheVariants as fold
use Rattle.state_journal.specs.declared.fold.FoundError.{FoundError}
use Rattle.state_journal.specs.declared.fold.FoundError.TheVariants as found
use Rattle.state_journal.specs.declared.error.OpenError.{OpenError}
use Rattle.state_journal.specs.declared.error.OpenError.TheVariants as refused

-- a state, of version 1 where it is old
abbrev pub state_of : Bool → FieldOf ClusterState
state_of true = old_state
state_of false = state

abbrev pub fault_by : StateFault → BodyFault
fault_by (fault.Field e) = Field e
fault_by fault.Trailing = Trailing

abbrev pub error_by : DecodeError → BodyError
error_by decoding.Memory = body.Memory
error_by (decoding.Fault f) = body.Fault (fault_by f)

abbrev pub error_from : ReadError → BodyError
error_from reading.Memory = body.Memory
error_from (reading.Field f) = body.Fault (Field f)

abbrev pub IsBodyError : BodyError → Result Change BodyFault → Type 0
IsBodyError body.Memory read = Unit {0}
IsBodyError (body.Fault f) read = read ≡ Err f

abbrev pub ReadsChange : Result Change BodyError → Result Change BodyFault → Type 0
ReadsChange (Ok change) read = read ≡ Ok change
ReadsChange (Err e) read = IsBodyError e read

-- the error of a body whose gate stands at p
abbrev pub error_at : ℕ → BodyError → FoldError
error_at p body.Memory = fold.Memory
error_at p (body.Fault f) = fold.Fault (Body p f)

abbrev pub IsFoldError : FoldError → Result Kept Fault → Type 0
IsFoldError fold.Memory read = Unit {0}
IsFoldError (fold.Fault why) read = read ≡ Err why

abbrev pub ReadsRecord : Result Kept FoldError → Result Kept Fault → Type 0
ReadsRecord (Ok kept) read = read ≡ Ok kept
ReadsRecord (Err e) read = IsFoldError e read

-- the error of one side
abbrev pub error_on : Side → FoldError → FoundError
error_on side fold.Memory = found.Memory
error_on side (fold.Fault fault) = found.Fault (At side fault)

abbrev pub IsFoundError : FoundError → Result Kept Why → Type 0
IsFoundError found.Memory read = Unit {0}
IsFoundError (found.Fault why) read = read ≡ Err why

abbrev pub FindsRecord : Result Kept FoundError → Result Kept Why → Type 0
FindsRecord (Ok kept) read = read ≡ Ok kept
FindsRecord (Err e) read = IsFoundError e read

-- the answer to files whose bodies make no record
abbrev pub refusal_of : {D : Type 0} → FoundError → D → OpenError D
refusal_of found.Memory disk = refused.Memory disk
refusal_of (found.Fault why) disk = refused.NotAJournal why disk

-- a change within the limits
abbrev pub IsFitChange : Change → Type 0
IsFitChange (Term term) = term ≤ last_number
IsFitChange (Accepted state) = IsFit state
IsFitChange Committed = Unit {0}
IsFitChange (Renewed generation) = (generation.kept.term ≤ last_number) × IsFit generation.kept.accepted

-- a record within the limits
pub record IsFitRecord (kept : Kept) : Type 0 where
  pub bounded : kept.term ≤ last_number
  pub fit : IsFit kept.accepted
  pub older : kept.accepted.term ≤ kept.term
