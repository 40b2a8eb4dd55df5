-- How deeds are shown.
use Rattle.std.proofs.Common.{◌≡◌, false, List, [], ◌∷◌, refl, ap, ◌∙◌}
use Rattle.policy_model.specs.declared.events.Deed.{Deed}
use Rattle.policy_model.specs.declared.events.Deed.TheVariants as deed
use Rattle.world_model.specs.declared.acts.Outcome.{Outcome}
use Rattle.world_model.specs.declared.acts.Outcome.TheVariants.{Answered, Disk, Crashed}
use Rattle.event_text.specs.Deeds.{outcome_left, deed_left, as_left}

outcome_as_it_is : (o : Outcome) → outcome_left false o ≡ o
outcome_as_it_is (Answered reply) = refl
outcome_as_it_is (Disk kept) = refl
outcome_as_it_is (Crashed kept) = refl

step_as_it_is : (s : Deed) → deed_left false s ≡ s
step_as_it_is (deed.Act act o) = ap (λ (x : Outcome). deed.Act act x) (outcome_as_it_is o)
step_as_it_is (deed.Mode mode term) = refl

-- where no node crashed, each deed is shown as it is
pub told_as_it_is : (ss : List Deed) → as_left false ss ≡ ss
told_as_it_is [] = refl
told_as_it_is (s ∷ ss) = ap (λ (x : Deed). x ∷ as_left false ss) (step_as_it_is s) ∙ ap (λ (xs : List Deed). s ∷ xs) (told_as_it_is ss)
