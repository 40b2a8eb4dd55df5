-- Part of the statement: a state as bytes.
use Rattle.std.specs.Prelude.{◌≡◌, ℕ, ◌≤◌, ◌==◌, List, length, Option, IfSome, IsTrue, Result, Ok, Err, if◌then◌else◌}
use Rattle.voting_config.specs.Ids.{most_ids}
use Rattle.cluster_state.specs.declared.fault.FieldError.{FieldError}
use Rattle.cluster_state.specs.declared.fault.FieldError.TheVariants.{BadParent}
use Rattle.cluster_state.specs.declared.fault.StateFault.{StateFault}
use Rattle.cluster_state.specs.declared.fault.StateFault.TheVariants as fault
use Rattle.cluster_state.specs.declared.state.ClusterState.{ClusterState}
use Rattle.cluster_state.specs.declared.state.ClusterValue.{ClusterValue}
use Rattle.cluster_state.specs.declared.state.StateId.{StateId}
use Rattle.cluster_state.specs.Field.{Field, optional, ◌then◌, tested, shaped, last_number}
use Rattle.cluster_state.specs.Fields.{term, version, id, ids, most_exclusions, settings, AreFitSettings}
use Rattle.cluster_state.specs.StateIds.{is_above_parent}

-- the fields of a value, and of a state, one after the other
abbrev pub value : Field ClusterValue
value = shaped
    (λ p. record { master = p.0; members = p.1.0; exclusions = p.1.1.0; settings = p.1.1.1 })
    (λ v. (v.master, (v.members, (v.exclusions, v.settings))))
    (optional id then ids most_ids then ids most_exclusions then settings)

abbrev pub state_id : Field StateId
state_id = shaped (λ p. record { term = p.0; version = p.1 }) (λ i. (i.term, i.version)) (term then version)

-- the id of a state, and that of its parent, which is below it
abbrev pub lineage : Field (StateId × Option StateId)
lineage = tested (λ p. is_above_parent p.0 p.1) BadParent (state_id then optional state_id)

abbrev pub state : Field ClusterState
state = shaped
    (λ p. record { term = p.0.0.term; version = p.0.0.version; parent = p.0.1; config = p.1.0; committed = p.1.1.0; value = p.1.1.1 })
    (λ s. ((record { term = s.term; version = s.version }, s.parent), (s.config, (s.committed, s.value))))
    (lineage then ids most_ids then ids most_ids then value)

-- the bytes are one field and nothing else
abbrev pub whole : {A : Type 0} → Result (A × List ℕ) FieldError → Result A StateFault
whole (Ok x) = if length x.1 == 0 then Ok x.0 else Err fault.Trailing
whole (Err e) = Err (fault.Field e)

-- the bytes are the value's spelling, all of them
abbrev pub Spells : {A : Type 0} → Field A → A → List ℕ → Type 0
Spells f x bytes = f.Fits x × (bytes ≡ f.spelling x)

abbrev pub id_of : ClusterState → StateId
id_of s = record { term = s.term; version = s.version }

-- the id, the value, the state is within the limits
pub record IsFitId (i : StateId) : Type 0 where
  pub term : i.term ≤ last_number
  pub version : i.version ≤ last_number

pub record IsFitValue (v : ClusterValue) : Type 0 where
  pub exclusions : length v.exclusions ≤ most_exclusions
  pub settings : AreFitSettings v.settings

pub record IsFit (s : ClusterState) : Type 0 where
  pub term : s.term ≤ last_number
  pub version : s.version ≤ last_number
  pub parent : IfSome s.parent IsFitId
  pub above_parent : IsTrue (is_above_parent (id_of s) s.parent)
  pub value : IsFitValue s.value
