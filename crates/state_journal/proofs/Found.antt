-- The record that two files stand for.
use Rattle.std.proofs.Common.{◌≡◌, ◌⊎◌, ℕ, List, [], ◌∷◌, ◌++◌, length, Ok, Err, refl, sym, ◌∙◌, ap, inl, inr, ⊎_elim, subst, Bool, true}
use Rattle.std.specs.Prelude.{Result}
use Rattle.std.specs.Result.{result_ok, result_unwrap_or}
use Rattle.std.proofs.lemmas.List.{append-nil}
use Rattle.zen_disk.specs.Sides.{Sides, Files, on}
use Rattle.zen_disk.specs.declared.side.Side.{Side}
use Rattle.zen_disk.specs.declared.side.Side.TheVariants.{Zero, One}
use Rattle.cluster_state.specs.declared.state.Kept.{Kept}
use Rattle.zen_disk.specs.DeviceCall.{DeviceCall}
use Rattle.zen_disk.specs.Runs.{CallsMade}
use Rattle.gate_log.specs.Calls.{both_opening_calls}
use Rattle.gate_log.specs.Opening.{RanPartly}
use Rattle.gate_log.specs.Folded.{both_read, read_on, found_by}
use Rattle.gate_log.specs.Generations.{Generations, generations_of, in_use, no_generations, standing_in, appended, renewed}
use Rattle.gate_log.specs.declared.why.Why.{Why as LogWhy}
use Rattle.gate_log.proofs.Folded.{are_read, used, switched}
use Rattle.state_journal.specs.Bodies.{holds_old}
use Rattle.state_journal.specs.Changes.{IsEither}
use Rattle.state_journal.specs.Journal.{record_of_bodies, on_its_side, found_in, found_of, record_of_files, records_of}
use Rattle.state_journal.specs.Opening.{RanUntil, calls_until}
use Rattle.state_journal.specs.Reads.{refusal_of}
use Rattle.state_journal.specs.declared.fold.FoundError.{FoundError}
use Rattle.state_journal.specs.declared.fold.FoundError.TheVariants as error
use Rattle.state_journal.specs.declared.why.Fault.{Fault}
use Rattle.state_journal.specs.declared.why.Why.{Why}

pub on_side_ok : (r : Result Kept (Side × Fault)) (kept : Kept) → on_its_side r ≡ Ok kept → r ≡ Ok kept
on_side_ok (Ok k) kept is = let same : k ≡ kept = cc in ap (λ (x : Kept). Ok x) same
on_side_ok (Err fault) kept is = absurd cc

module _ {R W : Type 0} (read : List (List ℕ) → Result R W) where
  -- what is found is what the bodies in use are read as
  pub in_use_read : (side : Side) (b : Sides (List (List ℕ))) (found : R) → read_on side (both_read (read b.zero) (read b.one)) ≡ Ok found → read (on side b) ≡ Ok found
  in_use_read Zero b found is = let both = are_read Zero (read b.zero) (read b.one) found is in both.first ∙ ap Ok both.is
  in_use_read One b found is = let both = are_read One (read b.zero) (read b.one) found is in both.second ∙ ap Ok both.is

  pub appended_reads : (g : Generations) (body : List ℕ) (before after : R) → found_by read g ≡ Ok before → read (in_use g ++ body ∷ []) ≡ Ok after → found_by read (appended g body) ≡ Ok after
  appended_reads g body before after was now = used read g.side g.bodies (in_use g ++ body ∷ []) before after was now

  pub renewed_reads : (g : Generations) (body : List ℕ) (before after : R) → found_by read g ≡ Ok before → read (body ∷ []) ≡ Ok after → found_by read (renewed g body) ≡ Ok after
  renewed_reads g body before after was now = switched read g.side g.bodies (body ∷ []) before after was now

-- what generations that are read as the one record or the other stand for
pub stands_for_either : (before after : Kept) (c : Files) → ((h : Generations) × (generations_of c ≡ Ok h) × ((found_by record_of_bodies h ≡ Ok before) ⊎ (found_by record_of_bodies h ≡ Ok after)))
    → IsEither before after (record_of_files c)
stands_for_either before after c found =
    let is : record_of_files c ≡ result_ok (on_its_side (found_by record_of_bodies found.0)) = ap (λ (r : Result Generations LogWhy). result_ok (found_in r)) found.1 in
    ⊎_elim
    (λ old. inl (is ∙ ap (λ (r : Result Kept (Side × Fault)). result_ok (on_its_side r)) old))
    (λ new. inr (is ∙ ap (λ (r : Result Kept (Side × Fault)). result_ok (on_its_side r)) new))
    found.2

-- ---- an opening

pub finds : (files : Files) (g : Generations) (found : Result Kept Why) → generations_of files ≡ Ok g → on_its_side (found_by record_of_bodies g) ≡ found → found_of files ≡ found
finds files g found is folds = ap found_in is ∙ folds

pub counts : (files : Files) (g : Generations) → generations_of files ≡ Ok g → length (in_use g) ≡ records_of files
counts files g is = ap (λ (r : Result Generations LogWhy). length (in_use (result_unwrap_or r no_generations))) (sym is)

pub ages : (files : Files) (g : Generations) → generations_of files ≡ Ok g → holds_old (in_use g) ≡ holds_old (in_use (standing_in files))
ages files g is = ap (λ (r : Result Generations LogWhy). holds_old (in_use (result_unwrap_or r no_generations))) (sym is)

-- all the calls were made
pub ran_all : {D : Type 0} (moves : D → DeviceCall → D → Bool → Type 0) (calls : List DeviceCall) (old new now : D) → now ≡ new → CallsMade moves calls old new true → RanPartly moves calls old now
ran_all moves calls old new now same ran = (calls, [], append-nil calls, subst (λ d. CallsMade moves calls old d true) (sym same) ran)

-- ---- an opening of files whose bodies make no record

pub not_found_ran : {D : Type 0} (moves : D → DeviceCall → D → Bool → Type 0) (files : Files) (g : Generations) (e : FoundError) (old new : D)
    → generations_of files ≡ Ok g → CallsMade moves (both_opening_calls files) old new true → RanUntil moves files old (refusal_of e new)
not_found_ran moves files g error.Memory old new is ran = ran_all moves (both_opening_calls files) old new new refl ran
not_found_ran moves files g (error.Fault why) old new is ran =
    subst (λ (r : Result Generations LogWhy). CallsMade moves (calls_until r files) old new true) (sym is) ran
