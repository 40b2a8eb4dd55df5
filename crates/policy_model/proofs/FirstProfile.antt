-- In the first profile the rules are those of a policy that knows no second one.
use Rattle.std.proofs.Common.{◌≡◌, Bool, true, false, not, ◌&&◌, ◌||◌, refl, ap, ◌∙◌}
use Rattle.std.specs.Prelude.{nat_lt, length}
use Rattle.voting_config.specs.Ids.{same_config}
use Rattle.election_clock.specs.Delays.{has_passed}
use Rattle.policy_model.specs.declared.settings.Settings.{Settings}
use Rattle.policy_model.specs.Parts.{shrink_delay}
use Rattle.policy_model.specs.Rules.{has_timed_out}
use Rattle.policy_model.specs.Laws.{IsFirstProfile}

or_no : (x : Bool) → (x || false) ≡ x
or_no true = refl
or_no false = refl

and_yes : (x : Bool) → (x && true) ≡ x
and_yes true = refl
and_yes false = refl

and_no : (x : Bool) → (x && false) ≡ false
and_no true = refl
and_no false = refl

pub first_profile : (s : Settings) → s.policy.second ≡ false → IsFirstProfile s
first_profile s h = record {
  checked = λ v p. rw h refl;
  given_up = λ v. rw h (or_no (has_timed_out v.publication v.moment));
  led = λ v. rw h refl;
  wanted = λ term accepted committed. rw h (and_yes (same_config committed accepted.config));
  not_anew = λ additions anew. rw h (and_no (nat_lt 0 (length additions) || anew));
  shown = λ accepted value. rw h refl;
  led_by = λ led_from now.
      ap (λ (shrink : Bool). record s.policy { shrink = shrink })
      (ap (λ (second : Bool). s.policy.shrink && (not second || has_passed led_from shrink_delay now)) h ∙ and_yes s.policy.shrink);
  kept = λ v. rw h refl;
}
