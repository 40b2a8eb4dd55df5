-- What the bodies of one side make of the record.
use Rattle.std.proofs.Common.{◌≡◌, ℕ, ◌+◌, ◌<◌, List, [], ◌∷◌, ◌++◌, length, Ok, Err, refl, sym, ◌∙◌, ap, subst, Bool, true, false, get_or, drop, arith}
use Rattle.std.specs.declared.alloc.Global.{Global}
use Rattle.std.proofs.lemmas.List.{drop_more}
use Rattle.gate_log.specs.Opened.{lists}
use Rattle.std.specs.Prelude.{Result, Vec, Option, None, not, ◌&&◌}
use Rattle.std.proofs.Math.Bool.{and-false}
use Rattle.std.proofs.lemmas.Bool.{cond-true, ltb-true, leb-true}
use Rattle.cluster_state.specs.declared.state.Kept.{Kept}
use Rattle.state_journal.specs.Bodies.{is_guarded, guard_fault, body_of, change_at}
use Rattle.state_journal.specs.Changes.{changed}
use Rattle.state_journal.specs.Journal.{in_order, unless, with_change, with_body, goes_on_with, folded_from}
use Rattle.state_journal.specs.Reads.{error_at, IsBodyError, IsFitChange, IsFitRecord, IsFoldError}
use Rattle.state_journal.specs.declared.body.BodyError.{BodyError}
use Rattle.state_journal.specs.declared.body.BodyError.TheVariants.{Memory, Fault as BodyFaultOf}
use Rattle.state_journal.specs.declared.fold.FoldError.{FoldError}
use Rattle.state_journal.specs.declared.fold.FoldError.TheVariants.{Memory as NoMemory, Fault as FoldFault}
use Rattle.state_journal.specs.declared.change.Change.{Change}
use Rattle.state_journal.specs.declared.change.Change.TheVariants.{Term, Accepted, Committed, Renewed}
use Rattle.state_journal.specs.declared.why.BodyFault.{BodyFault}
use Rattle.state_journal.specs.declared.why.Fault.{Fault}
use Rattle.state_journal.proofs.Spelled.{body_sound, body_guarded}

pub error_with : (p : ℕ) (late : Bool) (kept : Kept) (e : BodyError) (read : Result Change BodyFault) → IsBodyError e read → IsFoldError (error_at p e) (with_change p late kept read)
unfolding with_change
error_with p late kept Memory read is = tt
error_with p late kept (BodyFaultOf f) read is = ap (λ (r : Result Change BodyFault). with_change p late kept r) is

pub without_fault : (p : ℕ) (after : Bool) (kept : Kept) (body : List ℕ) → guard_fault p body ≡ None → with_body p after kept body ≡ with_change p (after && not (is_guarded body)) kept (change_at body)
without_fault p after kept body is = ap (λ (f : Option Fault). unless f (with_change p (after && not (is_guarded body)) kept (change_at body))) is

in_time : (p : ℕ) (kept : Kept) (change : Change) → in_order kept change ≡ true → with_change p false kept (Ok change) ≡ Ok (changed kept change)
unfolding with_change
in_time p kept change order = cond-true (in_order kept change) _ _ order

-- a change in order is made, wherever its gate stands and whatever comes before it
pub makes : (p : ℕ) (after : Bool) (kept : Kept) (change : Change) → change_at (body_of change) ≡ Ok change → in_order kept change ≡ true → with_body p after kept (body_of change) ≡ Ok (changed kept change)
makes p after kept change reads order =
    without_fault p after kept (body_of change) (body_sound p change)
    ∙ (λ i. with_change p (after && not (body_guarded change i)) kept (reads i))
    ∙ ap (λ (late : Bool). with_change p late kept (Ok change)) (and-false after)
    ∙ in_time p kept change order

-- what is in order leaves a record within the limits
pub changed_fits : (kept : Kept) (change : Change) → IsFitRecord kept → IsFitChange change → in_order kept change ≡ true → IsFitRecord (changed kept change)
changed_fits kept (Term term) was fits order = record { bounded = fits; fit = was.fit; older = omega (arith, was.older, ltb-true kept.term term order) }
changed_fits kept (Accepted state) was fits order = record { bounded = was.bounded; fit = fits; older = leb-true state.term kept.term order }
changed_fits kept Committed was fits order = record { bounded = was.bounded; fit = was.fit; older = was.older }
changed_fits kept (Renewed generation) was fits order = record {
  bounded = fits.0;
  fit = fits.1;
  older = leb-true generation.kept.accepted.term generation.kept.term order;
}

module _ (body : List ℕ) (last next : Kept) (more : (p : ℕ) (after : Bool) → with_body p after last body ≡ Ok next) where
  step : (r : Result Kept Fault) (bodies : List (List ℕ)) (p : ℕ) (after : Bool) → ((k : Kept) → folded_from p after k bodies ≡ Ok last → folded_from p after k (bodies ++ body ∷ []) ≡ Ok next)
      → goes_on_with (λ (k : Kept). folded_from p after k bodies) r ≡ Ok last → goes_on_with (λ (k : Kept). folded_from p after k (bodies ++ body ∷ [])) r ≡ Ok next
  step (Ok k) bodies p after each is = each k is
  step (Err fault) bodies p after each is = absurd cc

  pub folded-push : (bodies : List (List ℕ)) (p : ℕ) (after : Bool) (kept : Kept) → folded_from p after kept bodies ≡ Ok last → folded_from p after kept (bodies ++ body ∷ []) ≡ Ok next
  unfolding folded_from
  folded-push [] p after kept is =
      let same : kept ≡ last = cc in
      subst (λ (k : Kept). goes_on_with (λ (j : Kept). Ok j) (with_body p after k body) ≡ Ok next) (sym same) (ap (λ (r : Result Kept Fault). goes_on_with (λ (j : Kept). Ok j) r) (more p after))
  folded-push (first ∷ bodies) p after kept is =
      step (with_body p after kept first) bodies (p + 5 + length first) (is_guarded first) (λ k. folded-push bodies (p + 5 + length first) (is_guarded first) k) is

-- ---- one body of those that are folded

pub fold_step : (p : ℕ) (after : Bool) (kept next : Kept) (body : List ℕ) (bodies : List (List ℕ)) → with_body p after kept body ≡ Ok next
    → folded_from p after kept (body ∷ bodies) ≡ folded_from (p + 5 + length body) (is_guarded body) next bodies
unfolding folded_from
fold_step p after kept next body bodies is = ap (λ (r : Result Kept Fault). goes_on_with (λ (k : Kept). folded_from (p + 5 + length body) (is_guarded body) k bodies) r) is

pub fold_fault : (p : ℕ) (after : Bool) (kept : Kept) (body : List ℕ) (bodies : List (List ℕ)) (e : FoldError) → IsFoldError e (with_body p after kept body) → IsFoldError e (folded_from p after kept (body ∷ bodies))
unfolding folded_from
fold_fault p after kept body bodies NoMemory is = tt
fold_fault p after kept body bodies (FoldFault fault) is = ap (λ (r : Result Kept Fault). goes_on_with (λ (k : Kept). folded_from (p + 5 + length body) (is_guarded body) k bodies) r) is

pub fold_end : (p : ℕ) (after : Bool) (kept : Kept) → folded_from p after kept [] ≡ Ok kept
unfolding folded_from
fold_end p after kept = refl

pub lists_drop : (vs : List (Vec ℕ Global)) (i : ℕ) (v : Vec ℕ Global) → i < length vs → v ≡ get_or vs i v → lists (drop i vs) ≡ v.items ∷ lists (drop (i + 1) vs)
lists_drop vs i v inside is = ap lists (drop_more vs i v inside) ∙ ap (λ (w : Vec ℕ Global). w.items ∷ lists (drop (i + 1) vs)) (sym is)
