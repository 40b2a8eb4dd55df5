-- Part of the statement: a change as a body of a journal.
use Rattle.std.specs.Prelude.{◌≡◌, ℕ, ◌-◌, ◌==◌, ◌&&◌, nat_le, Bool, not, false, List, [], ◌∷◌, ◌++◌, length, take, drop, Option, Some, None, Result, Ok, Err, if◌then◌else◌}
use Rattle.std.specs.List.{list_any}
use Rattle.std.specs.Str.{bytes_eq}
use Rattle.sha2.specs.Sha256.{sha256}
use Rattle.cluster_state.specs.declared.fault.FieldError.TheVariants.{Short}
use Rattle.cluster_state.specs.declared.fault.StateFault.{StateFault}
use Rattle.cluster_state.specs.declared.fault.StateFault.TheVariants as fault
use Rattle.cluster_state.specs.declared.state.ClusterState.{ClusterState}
use Rattle.cluster_state.specs.declared.state.ClusterValue.{ClusterValue}
use Rattle.voting_config.specs.Ids.{Id, most_ids}
use Rattle.cluster_state.specs.Field.{Field as FieldOf, ◌then◌, shaped}
use Rattle.cluster_state.specs.Fields.{term, version, ids}
use Rattle.cluster_state.specs.States.{value, state, whole}
use Rattle.state_journal.specs.declared.change.Change.{Change}
use Rattle.state_journal.specs.declared.change.Change.TheVariants.{Term, Accepted, Committed, Renewed}
use Rattle.state_journal.specs.Generations.{Generation}
use Rattle.state_journal.specs.declared.why.BodyFault.{BodyFault}
use Rattle.state_journal.specs.declared.why.BodyFault.TheVariants.{Tag, Field, Trailing}
use Rattle.state_journal.specs.declared.why.Fault.{Fault}
use Rattle.state_journal.specs.declared.why.Fault.TheVariants.{Body, Damaged}

-- what a generation begins with: its epoch, and the term, the accepted state and the committed configuration so far
abbrev pub generation_of : FieldOf ClusterState → FieldOf Generation
generation_of one = shaped
    (λ p. record { epoch = p.0; kept = record { term = p.1.0; accepted = p.1.1.0; committed = p.1.1.1 } })
    (λ g. (g.epoch, (g.kept.term, (g.kept.accepted, g.kept.committed))))
    (version then term then one then ids most_ids)

abbrev pub generation : FieldOf Generation
generation = generation_of state

-- ---- the digest of a body of version 2

-- how many bytes the digest has
abbrev pub digest_bytes : ℕ
digest_bytes = 32

-- a tag and fields, and the SHA-256 of both
unfoldable pub guarded : List ℕ → List ℕ
guarded prefix = prefix ++ sha256 prefix

-- the one spelling of a change
unfoldable pub body_of : Change → List ℕ
body_of (Term t) = guarded (129 ∷ term.spelling t)
body_of (Accepted s) = guarded (130 ∷ state.spelling s)
body_of Committed = guarded (131 ∷ [])
body_of (Renewed g) = guarded (132 ∷ generation.spelling g)

-- a body of version 2, by its first byte
abbrev pub is_guarded : List ℕ → Bool
is_guarded [] = false
is_guarded (tag ∷ rest) = nat_le 129 tag && nat_le tag 132

-- one of these is a body of version 1
abbrev pub holds_old : List (List ℕ) → Bool
holds_old bodies = list_any (λ (body : List ℕ). not (is_guarded body)) bodies

-- what stands before the digest, and the digest that stands there
abbrev pub prefix_of : List ℕ → List ℕ
prefix_of body = take (length body - digest_bytes) body

abbrev pub stored_in : List ℕ → List ℕ
stored_in body = drop (length body - digest_bytes) body

-- The fault of the digest of a body of version 2, whose gate stands at p: there is none, or it is not that of the tag and the fields.
abbrev pub digest_fault : ℕ → List ℕ → Option Fault
digest_fault p body =
    if nat_le (length body) digest_bytes then Some (Body p (Field Short))
    else if bytes_eq (sha256 (prefix_of body)) (stored_in body) then None
    else Some (Damaged p (stored_in body) (sha256 (prefix_of body)))

-- a body of version 1 has none
unfoldable pub guard_fault : ℕ → List ℕ → Option Fault
guard_fault p body = if is_guarded body then digest_fault p body else None

-- ---- bodies of version 1, which are read and no longer written

-- the fields of a state, which has no parent
abbrev pub old_fields : FieldOf (ℕ × (ℕ × (List Id × (List Id × ClusterValue))))
old_fields = term then version then ids most_ids then ids most_ids then value

abbrev pub without_parent : ℕ × (ℕ × (List Id × (List Id × ClusterValue))) → ClusterState
without_parent p = record { term = p.0; version = p.1.0; parent = None; config = p.1.1.0; committed = p.1.1.1.0; value = p.1.1.1.1 }

abbrev pub old_state : FieldOf ClusterState
old_state = record (shaped without_parent (λ s. (s.term, (s.version, (s.config, (s.committed, s.value))))) old_fields) {
  Fits = λ s. old_fields.Fits (s.term, (s.version, (s.config, (s.committed, s.value)))) × (s.parent ≡ None);
}

abbrev pub old_generation : FieldOf Generation
old_generation = generation_of old_state

-- ---- what a body spells

-- the change that holds what the fields of a body spell
abbrev pub change_by : {A : Type 0} → (A → Change) → Result A StateFault → Result Change BodyFault
change_by make (Ok x) = Ok (make x)
change_by make (Err (fault.Field e)) = Err (Field e)
change_by make (Err fault.Trailing) = Err Trailing

abbrev pub nothing_more : List ℕ → Result Change BodyFault
nothing_more fields = if length fields == 0 then Ok Committed else Err Trailing

-- the fields behind this first byte
unfoldable pub change_tagged : ℕ → List ℕ → Result Change BodyFault
change_tagged tag fields =
    if tag == 129 then change_by Term (whole (term.at fields))
    else if tag == 130 then change_by Accepted (whole (state.at fields))
    else if tag == 131 then nothing_more fields
    else if tag == 132 then change_by Renewed (whole (generation.at fields))
    else if tag == 1 then change_by Term (whole (term.at fields))
    else if tag == 2 then change_by Accepted (whole (old_state.at fields))
    else if tag == 3 then nothing_more fields
    else if tag == 4 then change_by Renewed (whole (old_generation.at fields))
    else Err Tag

abbrev pub change_in : List ℕ → Result Change BodyFault
change_in [] = Err Tag
change_in (tag ∷ fields) = change_tagged tag fields

-- the change that a body spells, or its first fault; that of its digest comes before these
abbrev pub change_at : List ℕ → Result Change BodyFault
change_at body = change_in (if is_guarded body then prefix_of body else body)
