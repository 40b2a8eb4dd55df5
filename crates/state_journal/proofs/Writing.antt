-- What a change that is kept makes of the record.
use Rattle.std.proofs.Common.{◌≡◌, ◌⊎◌, ℕ, ◌+◌, ◌-◌, ◌<◌, ◌≤◌, ◌^◌, List, [], ◌∷◌, ◌++◌, length, Ok, refl, sym, ◌∙◌, ap, inl, inr, ⊎_elim, subst, arith, length-append, Bool, true, false}
use Rattle.std.specs.Prelude.{Option, nat_lt, min, not, ◌&&◌, ◌||◌}
use Rattle.std.proofs.lemmas.List.Folds.{list_any-append}
use Rattle.std.proofs.lemmas.Bool.{and_parts, ltb-true, le-leb}
use Rattle.std.proofs.Math.Bool.{and-false, and-true, or-false}
use Rattle.zen_disk.specs.Moments.{LeavesOnly}
use Rattle.zen_disk.specs.Sides.{Sides, Files, on, other, put}
use Rattle.zen_disk.specs.declared.side.Side.{Side}
use Rattle.zen_disk.specs.declared.side.Side.TheVariants.{Zero, One}
use Rattle.cluster_state.specs.Initial.{empty_record}
use Rattle.cluster_state.specs.declared.state.Kept.{Kept}
use Rattle.gate_log.specs.Folded.{found_by}
use Rattle.gate_log.specs.Generations.{Generations, generations_of, standing_in, in_use, IsSettled}
use Rattle.gate_log.specs.Place.{Place, renews}
use Rattle.gate_log.proofs.Laid.{fewer, gate_is}
use Rattle.gate_log.proofs.Folded.{append_finds, renewal_finds}
use Rattle.state_journal.specs.Bodies.{is_guarded, holds_old, body_of, change_at}
use Rattle.state_journal.specs.Changes.{changed, IsEither}
use Rattle.state_journal.specs.Drafts.{MayBegin}
use Rattle.state_journal.specs.Journal.{in_order, record_of_bodies, on_its_side, found_in, found_of, record_of_files, records_of, StoodFor}
use Rattle.state_journal.specs.Keeping.{generation_after, written_in, IsWritten}
use Rattle.state_journal.specs.declared.change.Change.{Change}
use Rattle.state_journal.specs.declared.change.Change.TheVariants.{Renewed}
use Rattle.state_journal.proofs.Folds.{makes, folded-push, fold_step, fold_end}
use Rattle.state_journal.proofs.Found.{on_side_ok, in_use_read, appended_reads, renewed_reads, stands_for_either}
use Rattle.state_journal.proofs.Spelled.{body_guarded, reads_renewed}

-- a journal that is open and running
pub record IsOpen (files : Files) (outcomes : Files → Type 0) (p : Place) (kept : Kept) (records : ℕ) (due : Bool) : Type 0 where
  pub settled : IsSettled files outcomes p.side p.gate p.other_gate p.epoch
  pub limit : p.gate < 2 ^ 63
  pub stands : found_of files ≡ Ok kept
  pub counted : records ≡ records_of files
  pub aged : due ≡ holds_old (in_use (standing_in files))

-- a change that may be made
pub record MayFollow (kept : Kept) (change : Change) : Type 0 where
  pub reads : change_at (body_of change) ≡ Ok change
  pub order : in_order kept change ≡ true

-- a record that begins a generation is the record of its one body
pub begun : (p : Place) (next : Kept) → p.epoch < 2 ^ 62 → MayBegin next → record_of_bodies (generation_after p next ∷ []) ≡ Ok next
begun p next small may =
    fold_step 8 false empty_record next (generation_after p next) []
    (makes 8 false empty_record (Renewed (record { epoch = p.epoch + 1; kept = next })) (reads_renewed (p.epoch + 1) next (omega (arith, small)) may) (le-leb _ _ may.older))
    ∙ fold_end _ _ next

-- there is a next epoch where a generation begins
pub next_epoch : (due : Bool) (p : Place) (body : List ℕ) → renews due p body ≡ true → p.epoch < 2 ^ 62
next_epoch due p body is = let parts = and_parts (due || nat_lt 65536 (p.tail + 5 + length body)) (nat_lt p.epoch (2 ^ 62)) is in ltb-true _ _ parts.1

-- how many bodies are in use after a renewal, or an append
abbrev pub count_after : Bool → ℕ → ℕ
count_after true records = 1
count_after false records = records + 1

-- the number that is counted after a change is that of the bodies in use
pub counts_by : (b : Bool) (records result now : ℕ) → now ≡ count_after b records → records < 2 ^ 63 → (b ≡ true → result ≡ 1) → (b ≡ false → result ≡ min (records + 1) (2 ^ 64 - 1)) → result ≡ now
counts_by true records result now is few one more = one refl ∙ sym is
counts_by false records result now is few one more = omega (arith, is, few, more refl)

renewed_count : (side : Side) (b : Sides (List (List ℕ))) (body : List ℕ) → length (on (other side) (put (other side) (body ∷ []) b)) ≡ 1
renewed_count Zero b body = refl
renewed_count One b body = refl

appended_count : (side : Side) (b : Sides (List (List ℕ))) (bodies : List (List ℕ)) → length (on side (put side bodies b)) ≡ length bodies
appended_count Zero b bodies = refl
appended_count One b bodies = refl

-- whether a body of version 1 is in use after a renewal, or an append
renewed_age : (due : Bool) (side : Side) (b : Sides (List (List ℕ))) (body : List ℕ) → is_guarded body ≡ true → (due && false) ≡ holds_old (on (other side) (put (other side) (body ∷ []) b))
renewed_age due Zero b body is = and-false due ∙ (λ i. not (sym is i) || false)
renewed_age due One b body is = and-false due ∙ (λ i. not (sym is i) || false)

pushed_age : (due : Bool) (bodies : List (List ℕ)) (body : List ℕ) → due ≡ holds_old bodies → is_guarded body ≡ true → (due && true) ≡ holds_old (bodies ++ body ∷ [])
pushed_age due bodies body aged is =
    and-true due ∙ aged ∙ sym (or-false (holds_old bodies)) ∙ (λ i. holds_old bodies || (not (sym is i) || false)) ∙ sym (list_any-append (λ (b : List ℕ). not (is_guarded b)) bodies (body ∷ []))

appended_age : (due : Bool) (side : Side) (b : Sides (List (List ℕ))) (bodies : List (List ℕ)) (body : List ℕ) → due ≡ holds_old bodies → is_guarded body ≡ true → (due && true) ≡ holds_old (on side (put side (bodies ++ body ∷ []) b))
appended_age due Zero b bodies body aged is = pushed_age due bodies body aged is
appended_age due One b bodies body aged is = pushed_age due bodies body aged is

module _ {files : Files} {outcomes : Files → Type 0} {p : Place} {kept : Kept} {records : ℕ} {due : Bool} (is : IsOpen files outcomes p kept records due) where
  found : found_by record_of_bodies (standing_in files) ≡ Ok kept
  found = on_side_ok _ kept (sym (ap found_in is.settled.stands) ∙ is.stands)

  so_far : record_of_bodies (in_use (standing_in files)) ≡ Ok kept
  so_far = in_use_read record_of_bodies (standing_in files).side (standing_in files).bodies kept found

  -- there is room to count one more
  pub few : records < 2 ^ 63
  few =
      let used : on p.side (standing_in files).bodies ≡ in_use (standing_in files) = ap (λ (s : Side). on s (standing_in files).bodies) (sym is.settled.active) in
      omega (arith, is.counted, is.limit, fewer (on p.side (standing_in files).bodies), gate_is (on p.side (standing_in files).bodies) (on p.side files) p.gate is.settled.here, ap length used)

  module _ (change : Change) (may : MayFollow kept change) (begins : renews due p (body_of change) ≡ true → MayBegin (changed kept change)) where
    with_it : record_of_bodies (in_use (standing_in files) ++ body_of change ∷ []) ≡ Ok (changed kept change)
    with_it = folded-push (body_of change) kept (changed kept change) (λ at after. makes at after kept change may.reads may.order) (in_use (standing_in files)) 8 false empty_record so_far

    alone : renews due p (body_of change) ≡ true → record_of_bodies (generation_after p (changed kept change) ∷ []) ≡ Ok (changed kept change)
    alone renewing = begun p (changed kept change) (next_epoch due p (body_of change) renewing) (begins renewing)

    either_by : (b : Bool) → renews due p (body_of change) ≡ b → (c : Files) → IsWritten b (standing_in files) (body_of change) (generation_after p (changed kept change)) c → IsEither kept (changed kept change) (record_of_files c)
    either_by true renewing c written =
        stands_for_either kept (changed kept change) c
        (renewal_finds record_of_bodies (standing_in files) (generation_after p (changed kept change)) kept (changed kept change) empty_record found (fold_end 8 false empty_record) (alone renewing) c written)
    either_by false renewing c written = stands_for_either kept (changed kept change) c (append_finds record_of_bodies (standing_in files) (body_of change) kept (changed kept change) found with_it c written)

    now_by : (b : Bool) → renews due p (body_of change) ≡ b → found_by record_of_bodies (written_in b (standing_in files) (body_of change) (generation_after p (changed kept change))) ≡ Ok (changed kept change)
    now_by true renewing = renewed_reads record_of_bodies (standing_in files) (generation_after p (changed kept change)) kept (changed kept change) found (alone renewing)
    now_by false renewing = appended_reads record_of_bodies (standing_in files) (body_of change) kept (changed kept change) found with_it

    module _ (new : Files) (grown : standing_in new ≡ written_in (renews due p (body_of change)) (standing_in files) (body_of change) (generation_after p (changed kept change))) where
      pub stands_after : generations_of new ≡ Ok (standing_in new) → found_of new ≡ Ok (changed kept change)
      stands_after stands =
          ap found_in (stands ∙ ap (λ (g : Generations). Ok g) grown)
          ∙ ap on_its_side (now_by (renews due p (body_of change)) refl)

      counted_by : (b : Bool) → standing_in new ≡ written_in b (standing_in files) (body_of change) (generation_after p (changed kept change)) → records_of new ≡ count_after b records
      counted_by true is_new = ap (λ (g : Generations). length (in_use g)) is_new ∙ renewed_count (standing_in files).side (standing_in files).bodies (generation_after p (changed kept change))
      counted_by false is_new =
          omega (
            arith,
            is.counted,
            ap (λ (g : Generations). length (in_use g)) is_new,
            appended_count (standing_in files).side (standing_in files).bodies (in_use (standing_in files) ++ body_of change ∷ []),
            length-append (in_use (standing_in files)) (body_of change ∷ []),
          )

      due_by : (b : Bool) → standing_in new ≡ written_in b (standing_in files) (body_of change) (generation_after p (changed kept change)) → (due && not b) ≡ holds_old (in_use (standing_in new))
      due_by true is_new =
          renewed_age due (standing_in files).side (standing_in files).bodies (generation_after p (changed kept change)) (body_guarded (Renewed (record { epoch = p.epoch + 1; kept = changed kept change })))
          ∙ sym (ap (λ (g : Generations). holds_old (in_use g)) is_new)
      due_by false is_new =
          appended_age due (standing_in files).side (standing_in files).bodies (in_use (standing_in files)) (body_of change) is.aged (body_guarded change)
          ∙ sym (ap (λ (g : Generations). holds_old (in_use g)) is_new)

      pub due_after : (due && not (renews due p (body_of change))) ≡ holds_old (in_use (standing_in new))
      due_after = due_by (renews due p (body_of change)) grown

      pub counted_after : records_of new ≡ count_after (renews due p (body_of change)) records
      counted_after = counted_by (renews due p (body_of change)) grown

    -- what a crash leaves while the change is kept
    pub leaves_either : {D : Type 0} (moment : D → ℕ) (left_since : D → ℕ → Files → Type 0) (old new : D)
        → LeavesOnly moment left_since old new (IsWritten (renews due p (body_of change)) (standing_in files) (body_of change) (generation_after p (changed kept change)))
        → (t : ℕ) (r : Option Kept) → t ≤ moment old → StoodFor (left_since new) t r → StoodFor (left_since old) t r ⊎ IsEither kept (changed kept change) r
    leaves_either moment left_since old new run t r le stood =
        ⊎_elim (λ was. inl (stood.0, was, stood.2)) (λ written. inr (subst (IsEither kept (changed kept change)) (sym stood.2) (either_by (renews due p (body_of change)) refl stood.0 written)))
        (run.since t stood.0 le stood.1)
