-- What bodies are read as is within the limits.
use Rattle.std.proofs.Common.{◌≡◌, ℕ, List, Bool, true, false, Ok, Err, refl, sym, subst}
use Rattle.std.specs.Prelude.{IfOk, Result, None}
use Rattle.cluster_state.specs.declared.fault.StateFault.{StateFault}
use Rattle.cluster_state.specs.declared.fault.StateFault.TheVariants.{Field as StateField, Trailing as StateTrailing}
use Rattle.cluster_state.specs.declared.state.ClusterState.{ClusterState}
use Rattle.cluster_state.specs.States.{whole, IsFit}
use Rattle.cluster_state.proofs.Laws.{IsBytes}
use Rattle.cluster_state.proofs.Whole.{whole_takes, is_fit}
use Rattle.state_journal.specs.Bodies.{change_by, generation, generation_of, old_state, old_generation}
use Rattle.state_journal.specs.Reads.{state_of, ReadsChange, IsFitChange}
use Rattle.state_journal.specs.declared.body.BodyError.{BodyError}
use Rattle.state_journal.specs.declared.change.Change.{Change}
use Rattle.state_journal.specs.declared.change.Change.TheVariants.{Accepted, Renewed}
use Rattle.state_journal.proofs.Spelled.{generation_law, old_state_law, old_generation_law}

change_from : {A : Type 0} (make : A → Change) (read : Result A StateFault) (change : Change) → change_by make read ≡ Ok change → (x : A) × (read ≡ Ok x) × (change ≡ make x)
change_from make (Ok x) change is = (x, refl, let same : change ≡ make x = cc in same)
change_from make (Err (StateField e)) change is = absurd cc
change_from make (Err StateTrailing) change is = absurd cc

fit_old : (s : ClusterState) → old_state.Fits s → IsFit s
fit_old s fits =
    let f = fits.0 in
    subst IsFit (λ i. record s { parent = sym fits.1 i }) (is_fit (record s { parent = None }) ((((f.0, f.1.0), tt), refl), (f.1.1.0, (f.1.1.1.0, f.1.1.1.1))))

fit_generation : (bytes : List ℕ) (r : Result Change BodyError) → IsBytes bytes → ReadsChange r (change_by Renewed (whole (generation.at bytes))) → IfOk r IsFitChange
fit_generation bytes (Err e) fits reads = tt
fit_generation bytes (Ok change) fits reads =
    let from = change_from Renewed (whole (generation.at bytes)) change reads in
    let spelled = whole_takes generation generation_law bytes from.0 fits from.1 in
    subst IsFitChange (sym from.2) (spelled.0.1.0, is_fit from.0.kept.accepted spelled.0.1.1.0)

-- the same of version 1
fit_old_generation : (bytes : List ℕ) (r : Result Change BodyError) → IsBytes bytes → ReadsChange r (change_by Renewed (whole (old_generation.at bytes))) → IfOk r IsFitChange
fit_old_generation bytes (Err e) fits reads = tt
fit_old_generation bytes (Ok change) fits reads =
    let from = change_from Renewed (whole (old_generation.at bytes)) change reads in
    let spelled = whole_takes old_generation old_generation_law bytes from.0 fits from.1 in
    subst IsFitChange (sym from.2) (spelled.0.1.0, fit_old from.0.kept.accepted spelled.0.1.1.0)

-- the same of either version
pub fit_generation_of : (old : Bool) (bytes : List ℕ) (r : Result Change BodyError) → IsBytes bytes
    → ReadsChange r (change_by Renewed (whole ((generation_of (state_of old)).at bytes))) → IfOk r IsFitChange
fit_generation_of true = fit_old_generation
fit_generation_of false = fit_generation

pub fit_old_state : (bytes : List ℕ) (r : Result Change BodyError) → IsBytes bytes → ReadsChange r (change_by Accepted (whole (old_state.at bytes))) → IfOk r IsFitChange
fit_old_state bytes (Err e) fits reads = tt
fit_old_state bytes (Ok change) fits reads =
    let from = change_from Accepted (whole (old_state.at bytes)) change reads in
    subst IsFitChange (sym from.2) (fit_old from.0 (whole_takes old_state old_state_law bytes from.0 fits from.1).0)
