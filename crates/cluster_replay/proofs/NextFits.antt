-- The next state that a leader makes fits into a body, where its accepted value does and what waits is well formed.
use Rattle.std.proofs.Common.{◌≡◌, ℕ, ◌+◌, ◌-◌, ◌%◌, ◌≤◌, Bool, true, false, not, cond, ◌&&◌, ◌||◌, None, Result, Ok, Err, List, [], ◌∷◌, ◌++◌, length, take, filter, fold, refl, subst, nat_le, nat_lt, nat_eq, arith}
use Rattle.std.specs.Prelude.{IfSome, if◌then◌else◌}
use Rattle.std.specs.List.{list_all, AllByRecursion}
use Rattle.std.proofs.lemmas.Bool.{and_parts, and_from}
use Rattle.voting_config.specs.Ids.{Id, is_id, has, with_id, without_id, most_ids, is_quorum_of, union_count_of, IsIdSet, among, outside, set_of, union, with_room}
use Rattle.reconfigurator.specs.Targets.{odd_of, least_size, size_of, candidates_of, chosen_of, target_of}
use Rattle.voting_config.proofs.Sets.{length-set_of-take}
use Rattle.voting_config.proofs.Kept.{list_all-filter}
use Rattle.master_tasks.proofs.Limits.{each_filter, each_append, fewer, value_then}
use Rattle.exclusions.specs.declared.AddError.TheVariants.{TooMany}
use Rattle.exclusions.specs.declared.StillMember.{StillMember}
use Rattle.exclusions.specs.Exclusions.{most_exclusions, added_of, cleared_of}
use Rattle.cluster_state.specs.declared.state.ClusterState.{ClusterState}
use Rattle.cluster_state.specs.declared.state.ClusterValue.{ClusterValue}
use Rattle.cluster_state.specs.Fields.{id, ids, setting, most_settings}
use Rattle.cluster_state.specs.Settings.{Setting, has_texts, IsSettings, put_setting}
use Rattle.cluster_state.specs.Initial.{empty_value, empty_state, initial_state}
use Rattle.cluster_state.specs.States.{state as state_field, value as value_field, IsFitValue}
use Rattle.cluster_state.proofs.JsonLaws.{keys, ascending_keys}
use Rattle.cluster_state.proofs.Fitting.{fits_ids, fits_id, fits_value}
use Rattle.cluster_state.proofs.Putting.{IsSettings-put}
use Rattle.cluster_state.proofs.Removing.{IsSettings-without}
use Rattle.cluster_state.specs.declared.request.Ask.{Ask}
use Rattle.cluster_state.specs.declared.request.Ask.TheVariants as ask
use Rattle.cluster_state.specs.declared.request.Request.{Request}
use Rattle.cluster_state.specs.declared.reply.Answer.TheVariants as answer
use Rattle.cluster_state.specs.Puts.{bad_setting_of}
use Rattle.cluster_state.proofs.Whole.{fit_entries}
use Rattle.master_tasks.specs.declared.waiting.Waiting.{Waiting}
use Rattle.master_tasks.specs.Fitting.{HaveGoodSettings}
use Rattle.master_tasks.specs.Members.{joined, members_after}
use Rattle.master_tasks.specs.declared.policy.Policy.{Policy}
use Rattle.master_tasks.specs.NextState.{Leader, config_for, is_nothing_new, may_reconfigure, next_config, next_value, processed_by, tasks_after, unacked, value_before}
use Rattle.master_tasks.specs.Processing.{Processing, AnsweredAtOnce, Makes, Processed, and_then, before_all, clearing, excluding, processing, processing_once, putting, value_after, with_next}
use Rattle.master_tasks.specs.Queue.{Tasks}
use Rattle.master_tasks.proofs.Limits.{fits_next}
use Rattle.trace_text.proofs.IdLists.{none_set}
use Rattle.cluster_replay.proofs.Fits.{AreIds, no_ids, ids-fold, few_ids, each-append, each-take, set-fits, set-filter, set-with}

-- ---- what clients ask

abbrev pub IsGoodAsk : Ask → Type 0
IsGoodAsk (ask.Put key text) = has_texts (key, text) ≡ true
IsGoodAsk (ask.Remove key) = Unit {0}
IsGoodAsk (ask.Exclude ids) = IsIdSet ids
IsGoodAsk (ask.Clear wait) = Unit {0}
IsGoodAsk ask.State = Unit {0}

pub record IsGoodRequest (r : Request) : Type 0 where
  pub good : IsGoodAsk r.ask
  pub short : bad_setting_of r.ask ≡ None

-- who is to come are ids, and what waits is well formed
pub record FitTasks (t : Tasks) : Type 0 where
  pub additions : IsIdSet t.additions
  pub waiting : AllByRecursion (λ w. IsGoodRequest w.request) t.waiting

-- ---- members

set-room : (ids : List Id) (x : Id) → IsIdSet ids → is_id x ≡ true → IsIdSet (with_room ids x)
set-room ids x s h =
    elim (nat_lt (length ids) most_ids) as (λ b. nat_lt (length ids) most_ids ≡ b → IsIdSet (if b then with_id x ids else ids)) [
      | true ↦ λ e. set-with x ids s h e
      | false ↦ λ e. s
    ] refl

pub set-rooms : (ids more : List Id) → IsIdSet ids → list_all is_id more ≡ true → IsIdSet (fold with_room ids more)
set-rooms ids [] s h = s
set-rooms ids (x ∷ more) s h = let parts = and_parts (is_id x) (list_all is_id more) h in set-rooms (with_room ids x) more (set-room ids x s parts.0) parts.1

set-joined : (me : Id) (additions members : List Id) → is_id me ≡ true → list_all is_id additions ≡ true → IsIdSet members → IsIdSet (joined me additions members)
set-joined me additions members h a s =
    set-rooms (if has me additions then with_room members me else members) additions
    (elim (has me additions) as (λ b. IsIdSet (if b then with_room members me else members)) [ true ↦ set-room members me s h | false ↦ s ]) a

set-members : (me : Id) (t : Tasks) (members : List Id) → is_id me ≡ true → IsIdSet t.additions → IsIdSet members → IsIdSet (members_after me t members)
set-members me t members h a s = set-joined me t.additions (outside members (without_id me t.removals)) h a.each (set-filter _ members s)

-- ---- a value, but for how many exclusions and settings it has

pub record IsWellFormed (v : ClusterValue) : Type 0 where
  pub master : IfSome v.master id.Fits
  pub members : IsIdSet v.members
  pub exclusions : AreIds v.exclusions
  pub settings : IsSettings v.settings

formed-put : (v : ClusterValue) (s : Setting) → IsWellFormed v → has_texts s ≡ true → IsWellFormed (value_after v (putting v s))
formed-put v s f texts =
    elim (not (has s.0 (keys v.settings)) && nat_le most_settings (length v.settings)) as (λ b. IsWellFormed (value_after v (if b then AnsweredAtOnce (answer.TooManySettings (most_settings + 1)) else Makes (record v { settings = put_setting s v.settings })))) [
      | true ↦ f
      | false ↦ record { master = f.master; members = f.members; exclusions = f.exclusions; settings = IsSettings-put s v.settings f.settings texts }
    ]

formed-exclude : (v : ClusterValue) (asked : List Id) → IsWellFormed v → list_all is_id asked ≡ true → IsWellFormed (value_after v (excluding v (added_of v.exclusions asked)))
formed-exclude v asked f h =
    elim (nat_lt most_exclusions (union_count_of asked v.exclusions)) as (λ b. IsWellFormed (value_after v (excluding v (if b then Err (TooMany (union_count_of asked v.exclusions)) else Ok (union v.exclusions asked))))) [
      | true ↦ f
      | false ↦ record { master = f.master; members = f.members; exclusions = ids-fold v.exclusions asked f.exclusions h; settings = f.settings }
    ]

formed-clear : (v : ClusterValue) (r : Result (Unit {0}) StillMember) → IsWellFormed v → IsWellFormed (value_after v (clearing v r))
formed-clear v (Ok u) f = record { master = f.master; members = f.members; exclusions = no_ids; settings = f.settings }
formed-clear v (Err e) f = f

formed-ask : (second : Bool) (accepted : ClusterState) (v : ClusterValue) (a : Ask) → IsWellFormed v → IsGoodAsk a → IsWellFormed (value_after v (processing second accepted v a))
formed-ask second accepted v (ask.Put key text) f good = formed-put v (key, text) f good
formed-ask second accepted v (ask.Remove key) f good = record { master = f.master; members = f.members; exclusions = f.exclusions; settings = IsSettings-without key v.settings f.settings }
formed-ask second accepted v (ask.Exclude asked) f good = formed-exclude v asked f good.each
formed-ask second accepted v (ask.Clear wait) f good = formed-clear v (cleared_of v.exclusions v.members wait) f
formed-ask second accepted v ask.State f good = elim second as (λ b. IsWellFormed (value_after v (if b then Makes v else AnsweredAtOnce (answer.State accepted)))) [ true ↦ f | false ↦ f ]

formed-once : (second : Bool) (accepted : ClusterState) (v : ClusterValue) (w : Waiting) → IsWellFormed v → IsGoodAsk w.request.ask → IsWellFormed (value_after v (processing_once second accepted v w))
formed-once second accepted v w f good =
    elim w.processed as (λ b. IsWellFormed (value_after v (if b then Makes v else processing second accepted v w.request.ask))) [
      | true ↦ f
      | false ↦ formed-ask second accepted v w.request.ask f good
    ]

formed-all : (second : Bool) (accepted : ClusterState) (p : Processed) (ws : List Waiting) → IsWellFormed p.value → AllByRecursion (λ w. IsGoodRequest w.request) ws → IsWellFormed (fold (with_next second accepted) p ws).value
formed-all second accepted p [] f good = f
formed-all second accepted p (w ∷ ws) f good =
    let P : ClusterValue → Type 0 = IsWellFormed in
    formed-all second accepted (with_next second accepted p w) ws (subst P (value_then p w (processing_once second accepted p.value w)) (formed-once second accepted p.value w f good.0.good)) good.1

-- ---- the next configuration

each-among : (xs ys : List Id) → list_all is_id xs ≡ true → list_all is_id (among xs ys) ≡ true
each-among xs ys h = list_all-filter is_id _ xs h

each-outside : (xs ys : List Id) → list_all is_id xs ≡ true → list_all is_id (outside xs ys) ≡ true
each-outside xs ys h = list_all-filter is_id _ xs h

each-master : (b : Bool) (me : Id) → is_id me ≡ true → list_all is_id (if b then me ∷ [] else []) ≡ true
each-master true me h = and_from (is_id me) true h refl
each-master false me h = refl

each-candidates : (live voters : List Id) (me : Id) → is_id me ≡ true → list_all is_id live ≡ true → list_all is_id voters ≡ true → list_all is_id (candidates_of live voters me) ≡ true
each-candidates live voters me h a b =
    let others = outside live (me ∷ []) in
    let other_voters = outside voters (me ∷ []) in
    let o : list_all is_id others ≡ true = each-outside live (me ∷ []) a in
    let v : list_all is_id other_voters ≡ true = each-outside voters (me ∷ []) b in
    let m : List Id = if has me live || has me voters then me ∷ [] else [] in
    each-append is_id (m ++ among others other_voters ++ outside others other_voters) (outside other_voters others)
    (each-append is_id (m ++ among others other_voters) (outside others other_voters)
    (each-append is_id m (among others other_voters) (each-master (has me live || has me voters) me h) (each-among others other_voters o))
    (each-outside others other_voters o))
    (each-outside other_voters others v)

odd-le : (k : ℕ) → odd_of k ≤ k
odd-le k = elim (nat_eq (k % 2) 0) as (λ b. (if b then k - 1 else k) ≤ k) [ true ↦ omega arith | false ↦ omega arith ]

least-le : (members voters : ℕ) (shrink : Bool) → voters ≤ most_ids → least_size members voters shrink ≤ most_ids
least-le members voters false v = v
least-le members voters true v = elim (nat_lt members 3) as (λ b. (if b then 1 else 3) ≤ most_ids) [ true ↦ omega arith | false ↦ omega arith ]

size-le : (live members voters : ℕ) (shrink : Bool) → live ≤ most_ids → voters ≤ most_ids → size_of live members voters shrink ≤ most_ids
size-le live members voters shrink a b = let odd = odd-le live in let least = least-le members voters shrink b in omega (arith, odd, least)

set-chosen : (live excluded : List Id) (me : Id) (config : List Id) (shrink : Bool) → is_id me ≡ true → IsIdSet live → IsIdSet config → IsIdSet (chosen_of live excluded me config shrink)
set-chosen live excluded me config shrink h a c =
    let allowed = outside live excluded in
    let voters = outside config excluded in
    let size = size_of (length allowed) (length config) (length voters) shrink in
    let candidates = candidates_of allowed voters me in
    let few_allowed : length allowed ≤ length live = fewer _ live in
    let few_voters : length voters ≤ length config = fewer _ config in
    let few : size ≤ most_ids = size-le (length allowed) (length config) (length voters) shrink (omega (arith, few_allowed, a.fits)) (omega (arith, few_voters, c.fits)) in
    let each : list_all is_id candidates ≡ true = each-candidates allowed voters me h (each-outside live excluded a.each) (each-outside config excluded c.each) in
    let long : length (set_of (take size candidates)) ≤ size = length-set_of-take candidates size in
    few_ids (set_of (take size candidates)) (ids-fold [] (take size candidates) no_ids (each-take is_id size candidates each)) (omega (arith, long, few))

set-target : (live excluded : List Id) (me : Id) (config : List Id) (shrink : Bool) → is_id me ≡ true → IsIdSet live → IsIdSet config → IsIdSet (target_of live excluded me config shrink)
set-target live excluded me config shrink h a c =
    let chosen = chosen_of live excluded me config shrink in
    elim (is_quorum_of chosen live) as (λ b. IsIdSet (if b then chosen else config)) [ true ↦ set-chosen live excluded me config shrink h a c | false ↦ c ]

set-config : (me : Id) (term : ℕ) (accepted : ClusterState) (committed votes : List Id) (policy : Policy) (v : ClusterValue) → is_id me ≡ true → IsIdSet accepted.config → IsIdSet v.members → IsIdSet (config_for me term accepted committed votes policy v)
unfolding config_for
set-config me term accepted committed votes policy v h c m =
    elim (may_reconfigure term accepted committed policy) as (λ b. IsIdSet (if b then target_of (among v.members votes) v.exclusions me accepted.config policy.shrink else accepted.config)) [
      | true ↦ set-target (among v.members votes) v.exclusions me accepted.config policy.shrink h (set-filter _ v.members m) c
      | false ↦ c
    ]

-- ---- the whole

-- what a leader has accepted fits
pub record FitAccepted (s : ClusterState) : Type 0 where
  pub config : (ids most_ids).Fits s.config
  pub value : value_field.Fits s.value

none_fit : (limit : ℕ) → (ids limit).Fits []
none_fit limit = (omega arith, refl, tt)

pub empty_value_fits : value_field.Fits empty_value
empty_value_fits = (tt, (none_fit most_ids, (none_fit 10, (omega arith, refl, tt))))

pub empty_accepted : FitAccepted empty_state
empty_accepted = record { config = none_fit most_ids; value = empty_value_fits }

pub fit-either : (b : Bool) (s t : ClusterState) → FitAccepted s → FitAccepted t → FitAccepted (cond b s t)
fit-either true s t f g = f
fit-either false s t f g = g

pub fit-initial : (config : List Id) → (ids most_ids).Fits config → FitAccepted (initial_state config)
fit-initial config f = record { config = f; value = empty_value_fits }

pub fit-state : (s : ClusterState) → state_field.Fits s → FitAccepted s
fit-state s f = record { config = f.1.0; value = f.1.1.1 }

settings-kept : (ss : List Setting) → AllByRecursion setting.Fits ss → list_all has_texts ss ≡ true
settings-kept [] f = refl
settings-kept (s ∷ ss) f = and_from _ _ (and_from _ _ f.0.0.2 f.0.1.2) (settings-kept ss f.1)

formed-of : (v : ClusterValue) → value_field.Fits v → IsWellFormed v
formed-of v f =
    let exclusions = set-fits 10 v.exclusions (omega arith) f.1.1.0 in
    record {
      master = f.0;
      members = set-fits most_ids v.members (omega arith) f.1.0;
      exclusions = record { ascending = exclusions.ascending; each = exclusions.each };
      settings = record { ascending = f.1.1.1.1; texts = settings-kept v.settings f.1.1.1.2 };
    }

fit-of : (v : ClusterValue) → value_field.Fits v → IsFitValue v
fit-of v f = record { exclusions = f.1.1.0.0; settings = record { few = f.1.1.1.0; each = fit_entries v.settings f.1.1.1.2 } }

good-settings : (ws : List Waiting) → AllByRecursion (λ w. IsGoodRequest w.request) ws → HaveGoodSettings ws
good-settings [] g = tt
good-settings (w ∷ ws) g = (g.0.short, good-settings ws g.1)

formed-before : (me : Id) (t : Tasks) (v : ClusterValue) → is_id me ≡ true → IsIdSet t.additions → IsWellFormed v → IsWellFormed (value_before me t v)
formed-before me t v h a f = record { master = fits_id me h; members = set-members me t v.members h a f.members; exclusions = f.exclusions; settings = f.settings }

formed-next : (l : Leader) (t : Tasks) → is_id l.me ≡ true → FitAccepted l.accepted → FitTasks t → IsWellFormed (next_value l t)
unfolding processed_by next_value
formed-next l t h f g = formed-all l.policy.second l.accepted (before_all (value_before l.me t l.accepted.value)) t.waiting (formed-before l.me t l.accepted.value h g.additions (formed-of l.accepted.value f.value)) g.waiting

pub next-value-fits : (l : Leader) (t : Tasks) → is_id l.me ≡ true → FitAccepted l.accepted → FitTasks t → value_field.Fits (next_value l t)
next-value-fits l t h f g =
    let formed = formed-next l t h f g in
    let before = formed-of l.accepted.value f.value in
    let fit : IsFitValue (next_value l t) = fits_next l t (fit-of l.accepted.value f.value) (ascending_keys [] l.accepted.value.settings refl before.settings.ascending) (good-settings t.waiting g.waiting) in
    let few : length (next_value l t).exclusions ≤ 10 = fit.exclusions in
    fits_value (next_value l t) fit formed.master formed.members (few_ids (next_value l t).exclusions formed.exclusions (omega (arith, few))) formed.settings

pub next-config-fits : (l : Leader) (t : Tasks) → is_id l.me ≡ true → FitAccepted l.accepted → FitTasks t → (ids most_ids).Fits (next_config l t)
unfolding next_config
next-config-fits l t h f g =
    let formed = formed-next l t h f g in
    let set : IsIdSet (config_for l.me l.term l.accepted l.committed l.votes l.policy (next_value l t)) =
    set-config l.me l.term l.accepted l.committed l.votes l.policy (next_value l t) h (set-fits most_ids l.accepted.config (omega arith) f.config) formed.members
    in
    fits_ids most_ids (next_config l t) set set.fits

-- ---- the tasks afterwards

pub good-left : (q : Waiting → Bool) (ws : List Waiting) → AllByRecursion (λ w. IsGoodRequest w.request) ws → AllByRecursion (λ w. IsGoodRequest w.request) (filter q ws)
good-left q ws g = each_filter _ q ws g

good-then : (p : Processed) (w : Waiting) (step : Processing) → AllByRecursion (λ w. IsGoodRequest w.request) p.waiting → IsGoodRequest w.request → AllByRecursion (λ w. IsGoodRequest w.request) (and_then p w step).waiting
good-then p w (AnsweredAtOnce a) h good = h
good-then p w (Makes v) h good = each_append _ p.waiting (record w { processed = true } ∷ []) h (good, tt)

good-all : (second : Bool) (accepted : ClusterState) (p : Processed) (ws : List Waiting) → AllByRecursion (λ w. IsGoodRequest w.request) p.waiting → AllByRecursion (λ w. IsGoodRequest w.request) ws
    → AllByRecursion (λ w. IsGoodRequest w.request) (fold (with_next second accepted) p ws).waiting
good-all second accepted p [] h good = h
good-all second accepted p (w ∷ ws) h good = good-all second accepted (with_next second accepted p w) ws (good-then p w (processing_once second accepted p.value w) h good.0) good.1

pub fit-after : (l : Leader) (t : Tasks) → FitTasks t → FitTasks (tasks_after l t)
unfolding tasks_after processed_by
fit-after l t g =
    let all = good-all l.policy.second l.accepted (before_all (value_before l.me t l.accepted.value)) t.waiting tt g.waiting in
    record {
      additions = none_set;
      waiting = elim (is_nothing_new l t) as (λ b. AllByRecursion (λ w. IsGoodRequest w.request) (if b then unacked l (processed_by l t).waiting else (processed_by l t).waiting)) [
        | true ↦ good-left _ (processed_by l t).waiting all
        | false ↦ all
      ];
    }
