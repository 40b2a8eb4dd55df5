-- The digests of the bodies that are read.
use Rattle.std.proofs.Common.{◌≡◌, ℕ, ◌+◌, ◌-◌, List, [], ◌∷◌, ◌++◌, length, Bool, true, false, Ok, Err, refl, sym, ap, ◌∙◌}
use Rattle.std.specs.Prelude.{Result, Option, Some, None, if◌then◌else◌}
use Rattle.std.specs.List.{AllByRecursion}
use Rattle.std.specs.Str.{bytes_eq}
use Rattle.std.proofs.lemmas.Bool.{cond-true}
use Rattle.std.proofs.lemmas.List.{take-append-drop}
use Rattle.std.proofs.lemmas.Slice.Eq.{bytes_eq-Decides}
use Rattle.sha2.specs.Sha256.{sha256}
use Rattle.cluster_state.specs.Initial.{empty_record}
use Rattle.cluster_state.specs.declared.state.Kept.{Kept}
use Rattle.state_journal.specs.Bodies.{guarded, is_guarded, prefix_of, stored_in, digest_fault, guard_fault}
use Rattle.state_journal.specs.Journal.{with_body, unless, goes_on_with, folded_from}
use Rattle.state_journal.specs.Laws.{IsSound, LawDigests}
use Rattle.state_journal.specs.declared.why.Fault.{Fault}

-- what is read has no fault before it
none-unless : (fault : Option Fault) (read : Result Kept Fault) (kept : Kept) → unless fault read ≡ Ok kept → fault ≡ None
none-unless None read kept e = refl
none-unless (Some f) read kept e = absurd cc

module _ (p : ℕ) (body : List ℕ) where
  right : (short same : Bool) (f g : Fault) → (if short then Some f else if same then None else Some g) ≡ None → same ≡ true
  right true same f g e = absurd cc
  right false true f g e = refl
  right false false f g e = absurd cc

  sound : guard_fault p body ≡ None → IsSound body
  unfolding guard_fault guarded
  sound none is =
      let fault : digest_fault p body ≡ None = sym (cond-true (is_guarded body) (digest_fault p body) None is) ∙ none in
      let same : bytes_eq (sha256 (prefix_of body)) (stored_in body) ≡ true = right _ _ _ _ fault in
      let stored : sha256 (prefix_of body) ≡ stored_in body = (bytes_eq-Decides (sha256 (prefix_of body)) (stored_in body)).0 same in
      sym (take-append-drop (length body - 32) body) ∙ ap (λ (d : List ℕ). prefix_of body ++ d) (sym stored)

goes : (r : Result Kept Fault) (more : Kept → Result Kept Fault) (kept : Kept) → goes_on_with more r ≡ Ok kept → (k : Kept) × (r ≡ Ok k) × (more k ≡ Ok kept)
goes (Ok k) more kept e = (k, refl, e)
goes (Err f) more kept e = absurd cc

all : (bodies : List (List ℕ)) (p : ℕ) (after : Bool) (k kept : Kept) → folded_from p after k bodies ≡ Ok kept → AllByRecursion IsSound bodies
unfolding folded_from
all [] p after k kept e = tt
all (body ∷ bodies) p after k kept e =
    let next = goes (with_body p after k body) _ kept e in
    (sound p body (none-unless (guard_fault p body) _ next.0 next.1), all bodies (p + 5 + length body) (is_guarded body) next.0 kept next.2)

pub digests : LawDigests
digests bodies kept e = all bodies 8 false empty_record kept e
