-- A field that is all of the bytes.
use Rattle.std.proofs.Common.{◌≡◌, ℕ, true, false, cond, eqb, List, [], ◌∷◌, length, Result, Ok, Err, refl, sym, ap, ◌∙◌}
use Rattle.std.specs.Prelude.{IfOk, IfSome, Option, Some, None}
use Rattle.std.specs.List.{AllByRecursion}
use Rattle.std.proofs.lemmas.Bool.{eqb-true}
use Rattle.std.proofs.lemmas.List.{append-nil, nil_from_length}
use Rattle.cluster_state.specs.declared.fault.FieldError.{FieldError}
use Rattle.cluster_state.specs.declared.fault.StateFault.{StateFault}
use Rattle.cluster_state.specs.declared.fault.StateFault.TheVariants.{Trailing}
use Rattle.cluster_state.specs.declared.fault.DecodeError.{DecodeError}
use Rattle.cluster_state.specs.declared.state.ClusterState.{ClusterState}
use Rattle.cluster_state.specs.declared.state.StateId.{StateId}
use Rattle.cluster_state.specs.Faults.{Decodes}
use Rattle.cluster_state.specs.Settings.{Setting}
use Rattle.cluster_state.specs.Field.{Field}
use Rattle.cluster_state.specs.Fields.{setting, IsFitSetting}
use Rattle.cluster_state.specs.States.{whole, state_id, state, Spells, IsFitId, IsFit}
use Rattle.cluster_state.proofs.Laws.{IsBytes, IsField}

abbrev read_as : {A : Type 0} → A → List ℕ → Result (A × List ℕ) FieldError
read_as x rest = Ok (x, rest)

-- what all of the bytes gave
pub whole_ok : {A : Type 0} (read : Result (A × List ℕ) FieldError) (x : A) → whole read ≡ Ok x → read ≡ Ok (x, [])
whole_ok {A} (Ok (y, rest)) x e =
    elim (eqb (length rest) 0) as (λ b. eqb (length rest) 0 ≡ b → cond {A = Result A StateFault} b (Ok y) (Err Trailing) ≡ Ok x → read_as y rest ≡ read_as x []) [
      | true ↦ λ t k. let nothing : rest ≡ [] = nil_from_length rest (eqb-true _ _ t) in let same : y ≡ x = cc in rw (nothing, same) refl
      | false ↦ λ t k. absurd cc
    ] refl e
whole_ok (Err f) x e = absurd cc

pub whole_takes : {A : Type 0} (f : Field A) → IsField f → (bytes : List ℕ) (x : A) → IsBytes bytes → whole (f.at bytes) ≡ Ok x → Spells f x bytes
whole_takes f law bytes x fits e =
    let read = law.takes bytes x [] fits (whole_ok (f.at bytes) x e) in
    (read.1, read.0 ∙ append-nil (f.spelling x))

pub whole_again : {A : Type 0} (f : Field A) → IsField f → (bytes : List ℕ) (x : A) → Spells f x bytes → whole (f.at bytes) ≡ Ok x
whole_again f law bytes x spelled =
    let read : f.at bytes ≡ Ok (x, []) = ap f.at (spelled.1 ∙ sym (append-nil (f.spelling x))) ∙ law.again x [] spelled.0 in
    rw read refl

pub is_found : {A : Type 0} (f : Field A) → IsField f → (bytes : List ℕ) (r : Result A DecodeError) → IsBytes bytes → Decodes r (whole (f.at bytes)) → IfOk r (λ x. Spells f x bytes)
is_found f law bytes (Ok x) fits exact = whole_takes f law bytes x fits exact
is_found f law bytes (Err e) fits exact = tt

pub fit_entries : (xs : List Setting) → AllByRecursion setting.Fits xs → AllByRecursion IsFitSetting xs
fit_entries [] h = tt
fit_entries (x ∷ xs) h = (record { key = h.0.0.0; short_key = h.0.0.1; short_value = h.0.1.1 }, fit_entries xs h.1)

fit_parent : (o : Option StateId) → IfSome o state_id.Fits → IfSome o IsFitId
fit_parent None h = tt
fit_parent (Some p) h = record { term = h.0; version = h.1 }

-- what has a spelling is within the limits
pub is_fit : (s : ClusterState) → state.Fits s → IsFit s
is_fit s h =
    let v = h.1.1.1 in
    record {
      term = h.0.0.0.0;
      version = h.0.0.0.1;
      parent = fit_parent s.parent h.0.0.1;
      above_parent = h.0.1;
      value = record { exclusions = v.1.1.0.0; settings = record { few = v.1.1.1.0; each = fit_entries s.value.settings v.1.1.1.2 } };
    }

pub found_fits : (bytes : List ℕ) (r : Result ClusterState DecodeError) → IfOk r (λ s. Spells state s bytes) → IfOk r IsFit
found_fits bytes (Ok s) h = is_fit s h.0
found_fits bytes (Err e) h = tt

-- bytes spell one value at most
pub one_value : {A : Type 0} (f : Field A) → IsField f → (x y : A) (bytes : List ℕ) → Spells f x bytes → Spells f y bytes → x ≡ y
one_value f law x y bytes p q =
    let e : whole (f.at bytes) ≡ Ok x = whole_again f law bytes x p in
    let d : whole (f.at bytes) ≡ Ok y = whole_again f law bytes y q in
    cc
