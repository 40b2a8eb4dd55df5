-- A value within the limits stays so, if no request is to put a bad setting.
use Rattle.std.proofs.Common.{◌≡◌, ℕ, zero, suc, ◌+◌, ◌<◌, ◌≤◌, ◌⊎◌, inl, inr, Bool, true, false, not, ◌&&◌, cond, Option, None, Some, Result, Ok, Err, List, [], ◌∷◌, ◌++◌, length, filter, fold, slice_get, refl, subst, nat_le, nat_lt, arith}
use Rattle.std.specs.Prelude.{if◌then◌else◌}
use Rattle.std.specs.List.{AllByRecursion}
use Rattle.std.proofs.lemmas.Bool.Decides.{nat_tests}
use Rattle.voting_config.specs.Ids.{Id, ascends, has, union_count_of, union}
use Rattle.exclusions.specs.declared.AddError.{AddError}
use Rattle.exclusions.specs.declared.AddError.TheVariants.{TooMany}
use Rattle.exclusions.specs.declared.StillMember.{StillMember}
use Rattle.exclusions.specs.Exclusions.{most_exclusions, added_of, cleared_of}
use Rattle.voting_config.proofs.Sets.{length-union}
use Rattle.cluster_state.specs.declared.state.ClusterState.{ClusterState}
use Rattle.cluster_state.specs.declared.state.ClusterValue.{ClusterValue}
use Rattle.cluster_state.specs.Fields.{most_settings, IsFitSetting}
use Rattle.cluster_state.specs.Settings.{Setting, put_setting, without_key}
use Rattle.cluster_state.specs.States.{IsFitValue}
use Rattle.cluster_state.proofs.JsonLaws.{keys}
use Rattle.cluster_state.proofs.Putting.{ascends_put, each_put, longer_by_one, same_length}
use Rattle.cluster_state.proofs.Removing.{ascends_without}
use Rattle.cluster_state.specs.declared.request.Ask.{Ask}
use Rattle.cluster_state.specs.declared.request.Ask.TheVariants as ask
use Rattle.cluster_state.specs.declared.reply.Answer.{Answer}
use Rattle.cluster_state.specs.declared.reply.Answer.TheVariants as answer
use Rattle.cluster_state.specs.Puts.{bad_setting_of}
use Rattle.cluster_state.proofs.Puts.{IsFitSetting-bad_length}
use Rattle.master_tasks.specs.declared.waiting.Waiting.{Waiting}
use Rattle.master_tasks.specs.Queue.{Tasks, offered}
use Rattle.master_tasks.specs.Answering.{left_by}
use Rattle.master_tasks.specs.Processing.{Processing, AnsweredAtOnce, Makes, Processed, and_then, before_all, clearing, excluding, processing, processing_once, putting, value_after, with_next}
use Rattle.master_tasks.specs.NextState.{Leader, is_nothing_new, next_value, processed_by, tasks_after, waiting_after, unacked, value_before}
use Rattle.master_tasks.specs.Fitting.{HaveGoodSettings}

-- within the limits, with keys that ascend
record Fits (v : ClusterValue) : Type 0 where
  pub fit : IsFitValue v
  pub ascending : ascends (keys v.settings) ≡ true

-- a setting is put
room_of : (b : Bool) (n : ℕ) → (not b && nat_le most_settings n) ≡ false → (b ≡ true) ⊎ (n < most_settings)
room_of true n h = inl refl
room_of false n h = inr (grind (arith, nat_tests))

few_put : (s : Setting) (ss : List Setting) → ascends (keys ss) ≡ true → length ss ≤ most_settings → (has s.0 (keys ss) ≡ true) ⊎ (length ss < most_settings) → length (put_setting s ss) ≤ most_settings
few_put s ss up few (inl there) = rw (same_length s ss up there) few
few_put s ss up few (inr less) = let longer = longer_by_one s ss in omega (arith, longer)

fits_put : (v : ClusterValue) (s : Setting) → Fits v → IsFitSetting s → Fits (value_after v (putting v s))
fits_put v s f good =
    elim (not (has s.0 (keys v.settings)) && nat_le most_settings (length v.settings)) as (λ b. (not (has s.0 (keys v.settings)) && nat_le most_settings (length v.settings)) ≡ b → Fits (value_after v (if b then AnsweredAtOnce (answer.TooManySettings (most_settings + 1)) else Makes (record v { settings = put_setting s v.settings })))) [
      | true ↦ λ full. f
      | false ↦ λ fits. record {
        fit = record {
          exclusions = f.fit.exclusions;
          settings = record {
            few = few_put s v.settings f.ascending f.fit.settings.few (room_of (has s.0 (keys v.settings)) (length v.settings) fits);
            each = each_put s v.settings good f.fit.settings.each;
          };
        };
        ascending = ascends_put s v.settings f.ascending;
      }
    ] refl

-- a setting is removed
pub each_filter : {A : Type 0} (P : A → Type 0) (q : A → Bool) (xs : List A) → AllByRecursion P xs → AllByRecursion P (filter q xs)
each_filter P q [] h = h
each_filter P q (x ∷ xs) h =
    elim (q x) as (λ b. AllByRecursion P (cond b (x ∷ filter q xs) (filter q xs))) [
      | true ↦ (h.0, each_filter P q xs h.1)
      | false ↦ each_filter P q xs h.1
    ]

pub fewer : {A : Type 0} (q : A → Bool) (xs : List A) → length (filter q xs) ≤ length xs
fewer q [] = omega arith
fewer q (x ∷ xs) =
    let rest : length (filter q xs) ≤ length xs = fewer q xs in
    elim (q x) as (λ b. length (cond b (x ∷ filter q xs) (filter q xs)) ≤ suc (length xs)) [ true ↦ omega arith | false ↦ omega arith ]

fits_remove : (v : ClusterValue) (key : List ℕ) → Fits v → Fits (record v { settings = without_key key v.settings })
fits_remove v key f = record {
  fit = record {
    exclusions = f.fit.exclusions;
    settings = record {
      few = (let less : length (without_key key v.settings) ≤ length v.settings = fewer _ v.settings in omega (arith, less, f.fit.settings.few));
      each = each_filter IsFitSetting _ v.settings f.fit.settings.each;
    };
  };
  ascending = ascends_without key v.settings f.ascending;
}

-- nodes are excluded
few_added : (excluded asked ids : List Id) → added_of excluded asked ≡ Ok ids → length ids ≤ most_exclusions
few_added excluded asked ids =
    elim (nat_lt most_exclusions (union_count_of asked excluded)) as (λ b. nat_lt most_exclusions (union_count_of asked excluded) ≡ b → (if b then Err (TooMany (union_count_of asked excluded)) else Ok (union excluded asked)) ≡ Ok ids → length ids ≤ most_exclusions) [
      | true ↦ λ many h. absurd cc
      | false ↦ λ few h. within few (let same : union excluded asked ≡ ids = cc in same)
    ] refl
  where
    within : nat_lt most_exclusions (union_count_of asked excluded) ≡ false → union excluded asked ≡ ids → length ids ≤ most_exclusions
    within few same = rw (← same) (let all = length-union excluded asked in grind (arith, nat_tests, all))

fits_exclude : (v : ClusterValue) (r : Result (List Id) AddError) → Fits v → ((k : List Id) → r ≡ Ok k → length k ≤ most_exclusions) → Fits (value_after v (excluding v r))
fits_exclude v (Ok ids) f few = record { fit = record { exclusions = few ids refl; settings = f.fit.settings }; ascending = f.ascending }
fits_exclude v (Err e) f few = f

fits_clear : (v : ClusterValue) (r : Result (Unit {0}) StillMember) → Fits v → Fits (value_after v (clearing v r))
fits_clear v (Ok u) f = record { fit = record { exclusions = omega arith; settings = f.fit.settings }; ascending = f.ascending }
fits_clear v (Err e) f = f

fits_ask : (second : Bool) (accepted : ClusterState) (v : ClusterValue) (a : Ask) → Fits v → bad_setting_of a ≡ None → Fits (value_after v (processing second accepted v a))
fits_ask second accepted v (ask.Put key text) f good = fits_put v (key, text) f (IsFitSetting-bad_length key text good)
fits_ask second accepted v (ask.Remove key) f good = fits_remove v key f
fits_ask second accepted v (ask.Exclude ids) f good = fits_exclude v (added_of v.exclusions ids) f (few_added v.exclusions ids)
fits_ask second accepted v (ask.Clear wait) f good = fits_clear v (cleared_of v.exclusions v.members wait) f
fits_ask second accepted v ask.State f good =
    elim second as (λ b. Fits (value_after v (if b then Makes v else AnsweredAtOnce (answer.State accepted)))) [ true ↦ f | false ↦ f ]

fits_once : (second : Bool) (accepted : ClusterState) (v : ClusterValue) (w : Waiting) → Fits v → bad_setting_of w.request.ask ≡ None → Fits (value_after v (processing_once second accepted v w))
fits_once second accepted v w f good =
    elim w.processed as (λ b. Fits (value_after v (if b then Makes v else processing second accepted v w.request.ask))) [
      | true ↦ f
      | false ↦ fits_ask second accepted v w.request.ask f good
    ]

pub value_then : (p : Processed) (w : Waiting) (step : Processing) → value_after p.value step ≡ (and_then p w step).value
value_then p w (AnsweredAtOnce a) = refl
value_then p w (Makes v) = refl

fits_all : (second : Bool) (accepted : ClusterState) (p : Processed) (ws : List Waiting) → Fits p.value → HaveGoodSettings ws → Fits (fold (with_next second accepted) p ws).value
fits_all second accepted p [] f good = f
fits_all second accepted p (w ∷ ws) f good =
    let P : ClusterValue → Type 0 = Fits in
    fits_all second accepted (with_next second accepted p w) ws (subst P (value_then p w (processing_once second accepted p.value w)) (fits_once second accepted p.value w f good.0)) good.1

pub fits_next : (l : Leader) (t : Tasks) → IsFitValue l.accepted.value → ascends (keys l.accepted.value.settings) ≡ true → HaveGoodSettings t.waiting → IsFitValue (next_value l t)
unfolding processed_by next_value
fits_next l t fit up good =
    (fits_all l.policy.second l.accepted (before_all (value_before l.me t l.accepted.value)) t.waiting
    record { fit = record { exclusions = fit.exclusions; settings = fit.settings }; ascending = up } good).fit

-- those who wait afterwards have good settings too
pub each_append : {A : Type 0} (P : A → Type 0) (xs ys : List A) → AllByRecursion P xs → AllByRecursion P ys → AllByRecursion P (xs ++ ys)
each_append P [] ys h k = k
each_append P (x ∷ xs) ys h k = (h.0, each_append P xs ys h.1 k)

pub each_at : {A : Type 0} (P : A → Type 0) (xs : List A) (i : ℕ) (x : A) → AllByRecursion P xs → slice_get xs i ≡ Some x → P x
each_at P [] i x h e = absurd (cc)
each_at P (y ∷ ys) zero x h e = let is : y ≡ x = cc in subst P is h.0
each_at P (y ∷ ys) (suc i) x h e = each_at P ys i x h.1 e

good_then : (p : Processed) (w : Waiting) (step : Processing) → HaveGoodSettings p.waiting → bad_setting_of w.request.ask ≡ None → HaveGoodSettings (and_then p w step).waiting
good_then p w (AnsweredAtOnce a) h good = h
good_then p w (Makes v) h good = each_append _ p.waiting (record w { processed = true } ∷ []) h (good, tt)

pub good_all : (second : Bool) (accepted : ClusterState) (p : Processed) (ws : List Waiting) → HaveGoodSettings p.waiting → HaveGoodSettings ws → HaveGoodSettings (fold (with_next second accepted) p ws).waiting
good_all second accepted p [] h good = h
good_all second accepted p (w ∷ ws) h good = good_all second accepted (with_next second accepted p w) ws (good_then p w (processing_once second accepted p.value w) h good.0) good.1

pub good_waiting : (l : Leader) (t : Tasks) → HaveGoodSettings t.waiting → HaveGoodSettings (waiting_after l t)
unfolding processed_by
good_waiting l t good =
    let all = good_all l.policy.second l.accepted (before_all (value_before l.me t l.accepted.value)) t.waiting tt good in
    elim (is_nothing_new l t) as (λ b. HaveGoodSettings (if b then unacked l (processed_by l t).waiting else (processed_by l t).waiting)) [
      | true ↦ each_filter _ _ (processed_by l t).waiting all
      | false ↦ all
    ]

pub good_after : (l : Leader) (t : Tasks) → HaveGoodSettings t.waiting → HaveGoodSettings (tasks_after l t).waiting
unfolding tasks_after
good_after l t good = good_waiting l t good

-- so have those who wait on when others are answered, and those who wait when one more comes
pub good_left : (decide : Waiting → Option Answer) (ws : List Waiting) → HaveGoodSettings ws → HaveGoodSettings (left_by decide ws)
good_left decide ws good = each_filter _ _ ws good

pub good_offered : (t : Tasks) (w : Waiting) → HaveGoodSettings t.waiting → bad_setting_of w.request.ask ≡ None → HaveGoodSettings (offered t w).waiting
good_offered t w good fine = each_append _ t.waiting (w ∷ []) good (fine, tt)
