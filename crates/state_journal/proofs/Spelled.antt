-- A body that is spelled is read again.
use Rattle.std.proofs.Common.{◌≡◌, ℕ, ◌+◌, ◌-◌, ◌^◌, ◌≤◌, List, [], ◌∷◌, ◌++◌, length, true, false, Ok, refl, sym, ap, ◌∙◌, subst, arith, length-append}
use Rattle.std.specs.Prelude.{None, nat_le}
use Rattle.std.specs.Str.{bytes_eq}
use Rattle.std.proofs.lemmas.Bool.{cond-true, cond-false, lt-leb}
use Rattle.std.proofs.lemmas.List.{take_at, drop_at}
use Rattle.std.proofs.lemmas.Slice.Eq.{bytes_eq-Decides}
use Rattle.sha2.specs.Sha256.{sha256}
use Rattle.sha2.proofs.Facts256.{length-sha256}
use Rattle.voting_config.specs.Ids.{Id, most_ids}
use Rattle.cluster_state.specs.declared.state.ClusterState.{ClusterState}
use Rattle.cluster_state.specs.declared.state.Kept.{Kept}
use Rattle.cluster_state.specs.Field.{Field, eight_bytes}
use Rattle.cluster_state.specs.Fields.{term}
use Rattle.cluster_state.specs.States.{state}
use Rattle.cluster_state.proofs.Laws.{IsField, bind_ok, ok_is, then_law, shaped_law}
use Rattle.cluster_state.proofs.StateLaws.{term_law, version_law, ids_law, value_law, state_law}
use Rattle.cluster_state.proofs.Whole.{whole_again}
use Rattle.gate_log.specs.Generations.{is_generation}
use Rattle.state_journal.specs.Bodies.{guarded, is_guarded, prefix_of, stored_in, guard_fault, body_of, change_in, change_at, change_by, change_tagged, generation_of, generation, old_fields, without_parent, old_state, old_generation}
use Rattle.state_journal.specs.Drafts.{Drafted, HasSpelling, IsDraft, MayBegin, generation_prefix, most_state_bytes}
use Rattle.cluster_state.proofs.Sizes.{state_short}
use Rattle.state_journal.specs.declared.change.Change.{Change}
use Rattle.state_journal.specs.Generations.{Generation}
use Rattle.state_journal.specs.declared.change.Change.TheVariants.{Term, Accepted, Committed, Renewed}

generation_of_law : (one : Field ClusterState) → IsField one → IsField (generation_of one)
generation_of_law one law = shaped_law _ _ _ (λ x. refl) (λ g. refl) (then_law _ _ version_law (then_law _ _ term_law (then_law _ _ law (ids_law most_ids (omega arith)))))

pub generation_law : IsField generation
generation_law = generation_of_law state state_law

-- ---- version 1

old_fields_law : IsField old_fields
old_fields_law = then_law _ _ term_law (then_law _ _ version_law (then_law _ _ (ids_law most_ids (omega arith)) (then_law _ _ (ids_law most_ids (omega arith)) value_law)))

pub old_state_law : IsField old_state
old_state_law = record {
  takes = λ bytes s rest fits e.
      let x = bind_ok (old_fields.at bytes) _ (s, rest) e in
      let read = old_fields_law.takes bytes x.0.0 x.0.1 fits x.1 in
      let P : ClusterState × List ℕ → Type 0 = λ q. (bytes ≡ old_state.spelling q.0 ++ q.1) × old_state.Fits q.0 in
      subst P (ok_is (without_parent x.0.0, x.0.1) (s, rest) x.2) (read.0, (read.1, refl));
  again = λ s rest fits. rw (old_fields_law.again (s.term, (s.version, (s.config, (s.committed, s.value)))) rest fits.0) (λ i. Ok (record s { parent = sym fits.1 i }, rest));
}

pub old_generation_law : IsField old_generation
old_generation_law = generation_of_law old_state old_state_law

-- ---- a body of version 2 has its digest behind it

length-guarded : (prefix : List ℕ) → length (prefix ++ sha256 prefix) ≡ length prefix + 32
length-guarded prefix = omega (arith, length-append prefix (sha256 prefix), length-sha256 prefix)

prefix_is : (prefix : List ℕ) → prefix_of (prefix ++ sha256 prefix) ≡ prefix
prefix_is prefix = take_at prefix (sha256 prefix) (length (prefix ++ sha256 prefix) - 32) (omega (arith, length-guarded prefix))

stored_is : (prefix : List ℕ) → stored_in (prefix ++ sha256 prefix) ≡ sha256 prefix
stored_is prefix = drop_at prefix (sha256 prefix) (length (prefix ++ sha256 prefix) - 32) (omega (arith, length-guarded prefix))

sound : (p tag : ℕ) (fields : List ℕ) → is_guarded (tag ∷ fields) ≡ true → guard_fault p (guarded (tag ∷ fields)) ≡ None
unfolding guard_fault guarded
sound p tag fields is =
    let prefix = tag ∷ fields in
    let body = prefix ++ sha256 prefix in
    let long : nat_le (length body) 32 ≡ false = lt-leb _ _ (omega (arith, length-guarded prefix)) in
    let same : bytes_eq (sha256 (prefix_of body)) (stored_in body) ≡ true =
    (λ i. bytes_eq (sha256 (prefix_is prefix i)) (stored_is prefix i)) ∙ (bytes_eq-Decides (sha256 prefix) (sha256 prefix)).1 refl in
    cond-true (is_guarded body) _ _ is ∙ cond-false (nat_le (length body) 32) _ _ long ∙ cond-true (bytes_eq (sha256 (prefix_of body)) (stored_in body)) _ _ same

-- the digest of a change is right
pub body_sound : (p : ℕ) (change : Change) → guard_fault p (body_of change) ≡ None
unfolding body_of
body_sound p (Term t) = sound p 129 (term.spelling t) refl
body_sound p (Accepted s) = sound p 130 (state.spelling s) refl
body_sound p Committed = sound p 131 [] refl
body_sound p (Renewed g) = sound p 132 (generation.spelling g) refl

pub body_guarded : (change : Change) → is_guarded (body_of change) ≡ true
unfolding body_of guarded
body_guarded (Term t) = refl
body_guarded (Accepted s) = refl
body_guarded Committed = refl
body_guarded (Renewed g) = refl

reads_prefix : (tag : ℕ) (fields : List ℕ) → is_guarded (tag ∷ fields) ≡ true → change_at (guarded (tag ∷ fields)) ≡ change_tagged tag fields
unfolding guarded
reads_prefix tag fields is =
    let prefix = tag ∷ fields in
    ap change_in (cond-true (is_guarded (prefix ++ sha256 prefix)) _ _ is ∙ prefix_is prefix)

pub reads_term : (t : ℕ) → t ≤ 2 ^ 62 → change_at (body_of (Term t)) ≡ Ok (Term t)
unfolding body_of change_tagged
reads_term t fits = reads_prefix 129 (term.spelling t) refl ∙ ap (λ r. change_by Term r) (whole_again term term_law (term.spelling t) t (fits, refl))

pub reads_state : (s : ClusterState) → state.Fits s → change_at (body_of (Accepted s)) ≡ Ok (Accepted s)
unfolding body_of change_tagged
reads_state s fits = reads_prefix 130 (state.spelling s) refl ∙ ap (λ r. change_by Accepted r) (whole_again state state_law (state.spelling s) s (fits, refl))

pub reads_committed : change_at (body_of Committed) ≡ Ok Committed
unfolding body_of change_tagged
reads_committed = reads_prefix 131 [] refl

pub reads_renewed : (epoch : ℕ) (kept : Kept) → epoch ≤ 2 ^ 62 → MayBegin kept → change_at (body_of (Renewed (record { epoch = epoch; kept = kept }))) ≡ Ok (Renewed (record { epoch = epoch; kept = kept }))
unfolding body_of change_tagged
reads_renewed epoch kept small may =
    let g : Generation = record { epoch = epoch; kept = kept } in
    reads_prefix 132 (generation.spelling g) refl ∙ ap (λ r. change_by Renewed r) (whole_again generation generation_law (generation.spelling g) g ((small, (may.bounded, (may.fits, may.named))), refl))

pub fits_of : (s : ClusterState) → HasSpelling s → state.Fits s
unfolding HasSpelling
fits_of s has = has

pub draft_short : (s : ClusterState) (draft : Drafted) → IsDraft s draft → length draft.state ≤ most_state_bytes
draft_short s draft is = omega (arith, ap length is.spelled, state_short s (fits_of s is.fits))

pub state_is : (s : ClusterState) → guarded (130 ∷ state.spelling s) ≡ body_of (Accepted s)
unfolding body_of
state_is s = refl

-- the body that a draft makes
pub drafted_is : (s : ClusterState) (draft : Drafted) → IsDraft s draft → guarded (130 ∷ draft.state) ≡ body_of (Accepted s)
drafted_is s draft is = ap (λ (l : List ℕ). guarded (130 ∷ l)) is.spelled ∙ state_is s

pub renewed_is : (epoch t : ℕ) (s : ClusterState) (committed : List Id) → guarded (generation_prefix epoch t (state.spelling s) committed) ≡ body_of (Renewed (record { epoch = epoch; kept = record { term = t; accepted = s; committed = committed } }))
unfolding body_of
renewed_is epoch t s committed = refl

pub term_plain : (t : ℕ) → is_generation (body_of (Term t)) ≡ false
unfolding body_of guarded
term_plain t = refl

pub committed_plain : is_generation (body_of Committed) ≡ false
unfolding body_of guarded
committed_plain = refl

pub accepted_plain : (s : ClusterState) → is_generation (body_of (Accepted s)) ≡ false
unfolding body_of guarded
accepted_plain s = refl

pub state_plain : (l : List ℕ) → is_generation (guarded (130 ∷ l)) ≡ false
unfolding guarded
state_plain l = refl

pub length-body : (prefix : List ℕ) → length (guarded prefix) ≡ length prefix + 32
unfolding guarded
length-body prefix = length-guarded prefix

pub length-accepted : (s : ClusterState) → length (body_of (Accepted s)) ≡ length (state.spelling s) + 33
unfolding body_of
length-accepted s = omega (arith, length-body (130 ∷ state.spelling s))

length-eight_of : (t : ℕ) → length (129 ∷ eight_bytes t) ≡ 9
unfolding eight_bytes
length-eight_of t = refl

pub length-term : (t : ℕ) → length (body_of (Term t)) ≡ 41
unfolding body_of
length-term t = omega (arith, length-body (129 ∷ eight_bytes t), length-eight_of t)

pub length-committed : length (body_of Committed) ≡ 33
unfolding body_of
length-committed = omega (arith, length-body (131 ∷ []))
