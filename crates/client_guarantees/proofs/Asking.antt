-- What a request makes of a value: it has what is asked for, and all else that it may not undo.
use Rattle.std.proofs.Common.{◌≡◌, ℕ, Bool, true, false, true≢false, not, ◌&&◌, ◌||◌, cond, Option, None, Some, Result, Ok, Err, List, [], ◌∷◌, length, map, refl, sym, ap, ◌∙◌, subst}
use Rattle.std.proofs.lemmas.Bool.{or_right}
use Rattle.std.specs.Prelude.{◌+◌, nat_le, if◌then◌else◌}
use Rattle.std.specs.declared.cmp.Ordering.TheVariants.{Less, Equal, Greater}
use Rattle.std.specs.Ordering.{is_eq, nat_cmp, match_ordering}
use Rattle.std.specs.Cmp.Lexicographic.{slice_cmp}
use Rattle.std.specs.Str.{bytes_eq}
use Rattle.voting_config.specs.Ids.{Id, has, same, with_id, union}
use Rattle.voting_config.proofs.Sorted.{has-with_id}
use Rattle.exclusions.specs.declared.AddError.{AddError}
use Rattle.exclusions.specs.declared.StillMember.{StillMember}
use Rattle.exclusions.specs.Exclusions.{added_of, cleared_of}
use Rattle.cluster_state.specs.Fields.{most_settings}
use Rattle.cluster_state.specs.Settings.{Setting, put_setting, without_key}
use Rattle.cluster_state.specs.declared.state.ClusterState.{ClusterState}
use Rattle.cluster_state.specs.declared.state.ClusterValue.{ClusterValue}
use Rattle.cluster_state.proofs.Putting.{eq_flipped}
use Rattle.cluster_state.specs.declared.request.Ask.{Ask}
use Rattle.cluster_state.specs.declared.request.Ask.TheVariants as ask
use Rattle.cluster_state.specs.declared.reply.Answer.TheVariants as answer
use Rattle.master_tasks.specs.Processing.{Processing, AnsweredAtOnce, Makes, excluding, clearing, processing}
use Rattle.voting_config.proofs.Sets.{same_is, same_self}
use Rattle.client_guarantees.specs.Asked.{setting_under, Meets, may_undo, setting_after}

-- ---- settings

same_key : (key : List ℕ) (t : Setting) (b : Bool) → is_eq (slice_cmp nat_cmp key t.0) ≡ b → bytes_eq t.0 key ≡ b
same_key key t b e = sym (eq_flipped key t.0) ∙ e

found_put : (key text : List ℕ) (ts : List Setting) → setting_under key (put_setting (key, text) ts) ≡ Some text
found_put key text [] = rw (same_self key) refl
found_put key text (t ∷ ts) =
    elim (slice_cmp nat_cmp key t.0) as (λ o. slice_cmp nat_cmp key t.0 ≡ o → setting_under key (match_ordering o ((key, text) ∷ t ∷ ts) ((t.0, text) ∷ ts) (t ∷ put_setting (key, text) ts)) ≡ Some text) [
      | Less ↦ λ e. rw (same_self key) refl
      | Equal ↦ λ e. rw (same_key key t true (ap is_eq e)) refl
      | Greater ↦ λ e. rw (same_key key t false (ap is_eq e)) (found_put key text ts)
    ] refl

kept_put : (key text k : List ℕ) (ts : List Setting) → bytes_eq key k ≡ false → setting_under k (put_setting (key, text) ts) ≡ setting_under k ts
kept_put key text k [] n = rw n refl
kept_put key text k (t ∷ ts) n =
    elim (slice_cmp nat_cmp key t.0) as (λ o. slice_cmp nat_cmp key t.0 ≡ o → setting_under k (match_ordering o ((key, text) ∷ t ∷ ts) ((t.0, text) ∷ ts) (t ∷ put_setting (key, text) ts)) ≡ setting_under k (t ∷ ts)) [
      | Less ↦ λ e. rw n refl
      | Equal ↦ λ e.
          let other : bytes_eq t.0 k ≡ false = subst (λ (x : List ℕ). bytes_eq x k ≡ false) (sym (same_is t.0 key (same_key key t true (ap is_eq e)))) n in
          rw other refl
      | Greater ↦ λ e. ap (λ (o : Option (List ℕ)). cond (bytes_eq t.0 k) (Some t.1) o) (kept_put key text k ts n)
    ] refl

gone_without : (key : List ℕ) (ts : List Setting) → setting_under key (without_key key ts) ≡ None
gone_without key [] = refl
gone_without key (t ∷ ts) =
    elim (bytes_eq t.0 key) as (λ b. bytes_eq t.0 key ≡ b → setting_under key (cond (not b) (t ∷ without_key key ts) (without_key key ts)) ≡ None) [
      | true ↦ λ e. gone_without key ts
      | false ↦ λ e. rw e (gone_without key ts)
    ] refl

kept_without : (key k : List ℕ) (ts : List Setting) → bytes_eq key k ≡ false → setting_under k (without_key key ts) ≡ setting_under k ts
kept_without key k [] n = refl
kept_without key k (t ∷ ts) n =
    elim (bytes_eq t.0 key) as (λ b. bytes_eq t.0 key ≡ b → setting_under k (cond (not b) (t ∷ without_key key ts) (without_key key ts)) ≡ setting_under k (t ∷ ts)) [
      | true ↦ λ e.
          let other : bytes_eq t.0 k ≡ false = subst (λ (x : List ℕ). bytes_eq x k ≡ false) (sym (same_is t.0 key e)) n in
          rw other (kept_without key k ts n)
      | false ↦ λ e. ap (λ (o : Option (List ℕ)). cond (bytes_eq t.0 k) (Some t.1) o) (kept_without key k ts n)
    ] refl

-- ---- exclusions

with_more : (id x : Id) (xs : List Id) → has id xs ≡ true → has id (with_id x xs) ≡ true
with_more id x xs h = has-with_id id x xs ∙ or_right (same x id) (has id xs) h

union_keeps : (id : Id) (xs ys : List Id) → has id xs ≡ true → has id (union xs ys) ≡ true
union_keeps id xs [] h = h
union_keeps id xs (y ∷ ys) h = union_keeps id (with_id y xs) ys (with_more id y xs h)

union_adds : (id : Id) (xs ys : List Id) → has id ys ≡ true → has id (union xs ys) ≡ true
union_adds id xs [] h = absurd (true≢false (sym h))
union_adds id xs (y ∷ ys) h = from (same y id) refl h (union_adds id (with_id y xs) ys)
  where
    from : (b : Bool) → same y id ≡ b → (b || has id ys) ≡ true → (has id ys ≡ true → has id (union (with_id y xs) ys) ≡ true) → has id (union (with_id y xs) ys) ≡ true
    from true e k rest = union_keeps id (with_id y xs) ys (has-with_id id y xs ∙ ap (λ (c : Bool). c || has id xs) e)
    from false e k rest = rest k

-- ---- a request

-- the value made has what is asked for, and what it may not undo
pub record Grants (value : ClusterValue) (a : Ask) (made : ClusterValue) : Type 0 where
  pub own : Meets made a
  pub others : (b : Ask) → may_undo a b ≡ false → Meets value b → Meets made b

abbrev pub MakesGranted : ClusterValue → Ask → Processing → Type 0
MakesGranted value a (AnsweredAtOnce x) = Unit {0}
MakesGranted value a (Makes made) = Grants value a made

either : (value : ClusterValue) (a : Ask) (b : Bool) (x y : Processing) → MakesGranted value a x → MakesGranted value a y → MakesGranted value a (if b then x else y)
either value a true x y t u = t
either value a false x y t u = u

put_grants : (value : ClusterValue) (key text : List ℕ) → Grants value (ask.Put key text) (record value { settings = put_setting (key, text) value.settings })
put_grants value key text = record { own = found_put key text value.settings; others = others }
  where
    others : (b : Ask) → may_undo (ask.Put key text) b ≡ false → Meets value b → Meets (record value { settings = put_setting (key, text) value.settings }) b
    others (ask.Put k t) n h = kept_put key text k value.settings n ∙ h
    others (ask.Remove k) n h = kept_put key text k value.settings n ∙ h
    others (ask.Exclude ids) n h = h
    others (ask.Clear wait) n h = h
    others ask.State n h = tt

remove_grants : (value : ClusterValue) (key : List ℕ) → Grants value (ask.Remove key) (record value { settings = without_key key value.settings })
remove_grants value key = record { own = gone_without key value.settings; others = others }
  where
    others : (b : Ask) → may_undo (ask.Remove key) b ≡ false → Meets value b → Meets (record value { settings = without_key key value.settings }) b
    others (ask.Put k t) n h = kept_without key k value.settings n ∙ h
    others (ask.Remove k) n h = kept_without key k value.settings n ∙ h
    others (ask.Exclude ids) n h = h
    others (ask.Clear wait) n h = h
    others ask.State n h = tt

exclude_grants : (value : ClusterValue) (ids : List Id) → Grants value (ask.Exclude ids) (record value { exclusions = union value.exclusions ids })
exclude_grants value ids = record { own = λ id h. union_adds id value.exclusions ids h; others = others }
  where
    others : (b : Ask) → may_undo (ask.Exclude ids) b ≡ false → Meets value b → Meets (record value { exclusions = union value.exclusions ids }) b
    others (ask.Put k t) n h = h
    others (ask.Remove k) n h = h
    others (ask.Exclude more) n h = λ id e. union_keeps id value.exclusions ids (h id e)
    others (ask.Clear wait) n h = absurd (true≢false n)
    others ask.State n h = tt

clear_grants : (value : ClusterValue) (wait : Bool) → Grants value (ask.Clear wait) (record value { exclusions = [] })
clear_grants value wait = record { own = refl; others = others }
  where
    others : (b : Ask) → may_undo (ask.Clear wait) b ≡ false → Meets value b → Meets (record value { exclusions = [] }) b
    others (ask.Put k t) n h = h
    others (ask.Remove k) n h = h
    others (ask.Exclude ids) n h = absurd (true≢false n)
    others (ask.Clear w) n h = refl
    others ask.State n h = tt

state_grants : (value : ClusterValue) → Grants value ask.State value
state_grants value = record { own = tt; others = λ b n h. h }

exclude_makes : (value : ClusterValue) (ids : List Id) (b : Bool) (error : AddError) → MakesGranted value (ask.Exclude ids) (excluding value (if b then Err error else Ok (union value.exclusions ids)))
exclude_makes value ids true error = tt
exclude_makes value ids false error = exclude_grants value ids

clear_makes : (value : ClusterValue) (wait : Bool) (r : Result (Unit {0}) StillMember) → MakesGranted value (ask.Clear wait) (clearing value r)
clear_makes value wait (Ok u) = clear_grants value wait
clear_makes value wait (Err still) = tt

pub makes_granted : (second : Bool) (accepted : ClusterState) (value : ClusterValue) (a : Ask) → MakesGranted value a (processing second accepted value a)
makes_granted second accepted value (ask.Put key text) =
    either value (ask.Put key text) (not (has key (map (λ t. t.0) value.settings)) && nat_le most_settings (length value.settings))
    (AnsweredAtOnce (answer.TooManySettings (most_settings + 1))) (Makes (record value { settings = put_setting (key, text) value.settings })) tt (put_grants value key text)
makes_granted second accepted value (ask.Remove key) = remove_grants value key
makes_granted second accepted value (ask.Exclude ids) = exclude_makes value ids _ _
makes_granted second accepted value (ask.Clear wait) = clear_makes value wait (cleared_of value.exclusions value.members wait)
makes_granted second accepted value ask.State = either value ask.State second (Makes value) (AnsweredAtOnce (answer.State accepted)) (state_grants value) tt

-- ---- the value under a key

put_says : (key k text : List ℕ) (ts : List Setting) (b : Bool) → bytes_eq k key ≡ b → setting_under key (put_setting (k, text) ts) ≡ (if b then Some text else setting_under key ts)
put_says key k text ts true e = subst (λ (x : List ℕ). setting_under x (put_setting (k, text) ts) ≡ Some text) (same_is k key e) (found_put k text ts)
put_says key k text ts false e = kept_put k text key ts e

remove_says : (key k : List ℕ) (ts : List Setting) (b : Bool) → bytes_eq k key ≡ b → setting_under key (without_key k ts) ≡ (if b then None else setting_under key ts)
remove_says key k ts true e = subst (λ (x : List ℕ). setting_under x (without_key k ts) ≡ None) (same_is k key e) (gone_without k ts)
remove_says key k ts false e = kept_without k key ts e

-- the value made has under the key what the request says
abbrev pub MakesSaid : List ℕ → ClusterValue → Ask → Processing → Type 0
MakesSaid key value a (AnsweredAtOnce x) = Unit {0}
MakesSaid key value a (Makes made) = setting_under key made.settings ≡ setting_after key (setting_under key value.settings) a

either_says : (key : List ℕ) (value : ClusterValue) (a : Ask) (b : Bool) (x y : Processing) → MakesSaid key value a x → MakesSaid key value a y → MakesSaid key value a (if b then x else y)
either_says key value a true x y t u = t
either_says key value a false x y t u = u

excluding_says : (key : List ℕ) (value : ClusterValue) (ids : List Id) (r : Result (List Id) AddError) → MakesSaid key value (ask.Exclude ids) (excluding value r)
excluding_says key value ids (Ok made) = refl
excluding_says key value ids (Err error) = tt

clearing_says : (key : List ℕ) (value : ClusterValue) (wait : Bool) (r : Result (Unit {0}) StillMember) → MakesSaid key value (ask.Clear wait) (clearing value r)
clearing_says key value wait (Ok u) = refl
clearing_says key value wait (Err still) = tt

pub makes_said : (key : List ℕ) (second : Bool) (accepted : ClusterState) (value : ClusterValue) (a : Ask) → MakesSaid key value a (processing second accepted value a)
makes_said key second accepted value (ask.Put k text) =
    either_says key value (ask.Put k text) (not (has k (map (λ t. t.0) value.settings)) && nat_le most_settings (length value.settings))
    (AnsweredAtOnce (answer.TooManySettings (most_settings + 1))) (Makes (record value { settings = put_setting (k, text) value.settings })) tt
    (put_says key k text value.settings (bytes_eq k key) refl)
makes_said key second accepted value (ask.Remove k) = remove_says key k value.settings (bytes_eq k key) refl
makes_said key second accepted value (ask.Exclude ids) = excluding_says key value ids (added_of value.exclusions ids)
makes_said key second accepted value (ask.Clear wait) = clearing_says key value wait (cleared_of value.exclusions value.members wait)
makes_said key second accepted value ask.State = either_says key value ask.State second (Makes value) (AnsweredAtOnce (answer.State accepted)) refl tt
