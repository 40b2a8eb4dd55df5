-- Requests that are processed one after another: the value has what each asks for, unless a later one may have undone it.
use Rattle.std.proofs.Common.{◌≡◌, ℕ, Bool, true, false, true≢false, Option, List, [], ◌∷◌, ◌++◌, refl, sym, ◌∙◌, ap, subst, ◌⊎◌, inl, inr, arith}
use Rattle.std.specs.List.{Contains}
use Rattle.std.specs.Prelude.{fold, not, if◌then◌else◌}
use Rattle.std.proofs.lemmas.Bool.{or_parts}
use Rattle.std.proofs.lemmas.List.{append_assoc, append-nil}
use Rattle.std.proofs.lemmas.List.Folds.{list_any-append}
use Rattle.std.proofs.lemmas.List.Elements.{Contains-append_right}
use Rattle.voting_config.specs.Ids.{Id, has}
use Rattle.cluster_state.specs.declared.state.ClusterState.{ClusterState}
use Rattle.cluster_state.specs.declared.state.ClusterValue.{ClusterValue}
use Rattle.cluster_state.specs.declared.request.Ask.{Ask}
use Rattle.cluster_state.specs.declared.request.Ask.TheVariants as ask
use Rattle.cluster_state.specs.declared.request.Request.{Request}
use Rattle.master_tasks.specs.declared.waiting.Waiting.{Waiting}
use Rattle.master_tasks.specs.Queue.{Tasks}
use Rattle.master_tasks.specs.Processing.{Processing, AnsweredAtOnce, Makes, processing, processing_once, value_after, Processed, before_all, and_then, with_next}
use Rattle.master_tasks.specs.NextState.{Leader as NextMaster, value_before, processed_by, next_value}
use Rattle.client_guarantees.specs.Asked.{setting_under, setting_after_all, Meets, may_undo, is_undone, MeetsUnlessUndone, MeetsEach}
use Rattle.client_guarantees.specs.Processed.{processed_by_this, processed_from, processed_into_next}
use Rattle.client_guarantees.proofs.Asking.{Grants, MakesGranted, makes_granted, MakesSaid, makes_said}

-- ---- lists of requests

-- each of the requests
abbrev pub Each : (Waiting → Type 0) → List Waiting → Type 0
Each P [] = Unit {0}
Each P (w ∷ ws) = P w × Each P ws

pub each-map : (P Q : Waiting → Type 0) → ((w : Waiting) → P w → Q w) → (ws : List Waiting) → Each P ws → Each Q ws
each-map P Q f [] e = tt
each-map P Q f (w ∷ ws) e = (f w e.0, each-map P Q f ws e.1)

pub each-last : (P : Waiting → Type 0) (ws : List Waiting) (w : Waiting) → Each P ws → P w → Each P (ws ++ w ∷ [])
each-last P [] w e p = (p, tt)
each-last P (v ∷ ws) w e p = (e.0, each-last P ws w e.1 p)

abbrev pub IsAmong : List Waiting → Waiting → Type 0
IsAmong [] w = ⊥
IsAmong (v ∷ vs) w = (w ≡ v) ⊎ IsAmong vs w

pub among-more : (w : Waiting) (xs ys : List Waiting) → IsAmong xs w → IsAmong (xs ++ ys) w
among-more w [] ys e = absurd e
among-more w (x ∷ xs) ys (inl e) = inl e
among-more w (x ∷ xs) ys (inr e) = inr (among-more w xs ys e)

pub among-later : (w : Waiting) (xs ys : List Waiting) → IsAmong ys w → IsAmong (xs ++ ys) w
among-later w [] ys e = e
among-later w (x ∷ xs) ys e = inr (among-later w xs ys e)

among-last : (w : Waiting) (xs : List Waiting) → IsAmong (xs ++ w ∷ []) w
among-last w [] = inl refl
among-last w (x ∷ xs) = inr (among-last w xs)

pub among_contains : (ws : List Waiting) (w : Waiting) → IsAmong ws w → Contains ws w
among_contains [] w e = absurd e
among_contains (x ∷ xs) w (inl e) = subst (Contains (x ∷ xs)) (sym e) (0, (omega arith), refl)
among_contains (x ∷ xs) w (inr e) = Contains-append_right (x ∷ []) xs w (among_contains xs w e)

-- ---- a value that has what is asked for

had-more : (value made : ClusterValue) (w : Waiting) (ws : List Waiting) → Grants value w.request.ask made → MeetsEach value ws → MeetsEach made (ws ++ w ∷ [])
had-more value made w [] g h = ((λ n. g.own), tt)
had-more value made w (u ∷ us) g h = (here, had-more value made w us g h.1)
  where
    here : MeetsUnlessUndone made u (us ++ w ∷ [])
    here n =
        let test : Waiting → Bool = λ v. may_undo v.request.ask u.request.ask in
        let parts = or_parts (is_undone u us) (is_undone u (w ∷ [])) (sym (list_any-append test us (w ∷ [])) ∙ n) in
        g.others u.request.ask (or_parts (test w) false parts.1).0 (h.0 parts.0)

pub had-behind : (value : ClusterValue) (earlier later : List Waiting) → MeetsEach value (earlier ++ later) → MeetsEach value later
had-behind value [] later h = h
had-behind value (x ∷ xs) later h = had-behind value xs later h.1

-- it does not matter whether members and master are others
alike : (value other : ClusterValue) → value.settings ≡ other.settings → value.exclusions ≡ other.exclusions → (a : Ask) → Meets value a → Meets other a
alike value other s x (ask.Put key text) e = ap (setting_under key) (sym s) ∙ e
alike value other s x (ask.Remove key) e = ap (setting_under key) (sym s) ∙ e
alike value other s x (ask.Exclude ids) e = λ id k. subst (λ (l : List Id). has id l ≡ true) x (e id k)
alike value other s x (ask.Clear wait) e = sym x ∙ e
alike value other s x ask.State e = tt

had-alike : (value other : ClusterValue) → value.settings ≡ other.settings → value.exclusions ≡ other.exclusions → (ws : List Waiting) → MeetsEach value ws → MeetsEach other ws
had-alike value other s x [] h = tt
had-alike value other s x (w ∷ ws) h = ((λ n. alike value other s x w.request.ask (h.0 n)), had-alike value other s x ws h.1)

-- ---- the fold

same_processed : (w : Waiting) → w.processed ≡ true → record w { processed = true } ≡ w
same_processed w e = λ i. record w { processed = sym e i }

-- a request is processed once
abbrev OnceGranted : Waiting → ClusterValue → Bool → Processing → Type 0
OnceGranted w value true x = x ≡ Makes value
OnceGranted w value false x = MakesGranted value w.request.ask x

once_granted : (second : Bool) (accepted : ClusterState) (value : ClusterValue) (w : Waiting) (b : Bool) → OnceGranted w value b (if b then Makes value else processing second accepted value w.request.ask)
once_granted second accepted value w true = refl
once_granted second accepted value w false = makes_granted second accepted value w.request.ask

value_is : (p : Processed) (w : Waiting) (x : Processing) → (and_then p w x).value ≡ value_after p.value x
value_is p w (AnsweredAtOnce a) = refl
value_is p w (Makes made) = refl

-- ---- those that wait

-- it is among those that are processed now, or so
abbrev pub IsNowOr : List Waiting → (Waiting → Type 0) → Waiting → Type 0
IsNowOr now Q w = IsAmong now w ⊎ Q w

module _ (Q : Waiting → Type 0) where
  -- of those that wait so far each is processed now or is so, and of the others each that was processed before is so
  record IsFolding (p : Processed) (now ws : List Waiting) : Type 0 where
    wait : Each (IsNowOr now Q) p.waiting
    before : Each (λ w. w.processed ≡ true → Q w) ws

  stays : (p : Processed) (now ws : List Waiting) → IsFolding p now ws → IsFolding p (now ++ []) ws
  stays p now ws f = subst (λ (d : List Waiting). IsFolding p d ws) (sym (append-nil now)) f

  now_more : (now : List Waiting) (last w : Waiting) → IsNowOr now Q w → IsNowOr (now ++ last ∷ []) Q w
  now_more now last w (inl k) = inl (among-more w now (last ∷ []) k)
  now_more now last w (inr q) = inr q

  makes-step : (p : Processed) (now : List Waiting) (w : Waiting) (ws : List Waiting) (made : ClusterValue) (b : Bool) → w.processed ≡ b
      → IsFolding p now (w ∷ ws) → IsFolding (and_then p w (Makes made)) (now ++ (if b then [] else record w { processed = true } ∷ [])) ws
  makes-step p now w ws made true e f =
      stays (and_then p w (Makes made)) now ws
      (record { wait = each-last (IsNowOr now Q) p.waiting (record w { processed = true }) f.wait (inr (subst Q (sym (same_processed w e)) (f.before.0 e))); before = f.before.1 })
  makes-step p now w ws made false e f =
      let last : Waiting = record w { processed = true } in
      record {
        wait = each-last (IsNowOr (now ++ last ∷ []) Q) p.waiting last (each-map (IsNowOr now Q) (IsNowOr (now ++ last ∷ []) Q) (now_more now last) p.waiting f.wait) (inl (among-last last now));
        before = f.before.1;
      }

  step : (p : Processed) (now : List Waiting) (w : Waiting) (ws : List Waiting) (x : Processing) → IsFolding p now (w ∷ ws) → IsFolding (and_then p w x) (now ++ processed_by_this w x) ws
  step p now w ws (AnsweredAtOnce a) f = stays _ now ws (record { wait = f.wait; before = f.before.1 })
  step p now w ws (Makes made) f = makes-step p now w ws made w.processed refl f

  folded : (second : Bool) (accepted : ClusterState) (p : Processed) (now ws : List Waiting) → IsFolding p now ws → IsFolding (fold (with_next second accepted) p ws) (now ++ processed_from second accepted p.value ws) []
  folded second accepted p now [] f = stays p now [] f
  folded second accepted p now (w ∷ ws) f =
      let x = processing_once second accepted p.value w in
      let rest = folded second accepted (and_then p w x) (now ++ processed_by_this w x) ws (step p now w ws x f) in
      subst (λ (d : List Waiting). IsFolding (fold (with_next second accepted) (and_then p w x) ws) d [])
      (ap (λ (v : ClusterValue). (now ++ processed_by_this w x) ++ processed_from second accepted v ws) (value_is p w x) ∙ append_assoc now (processed_by_this w x) (processed_from second accepted (value_after p.value x) ws))
      rest

  -- who waits once the next state was made is processed into it, or is so where of those that waited each is so that was processed before
  pub next_waiting : (l : NextMaster) (t : Tasks) → Each (λ w. w.processed ≡ true → Q w) t.waiting → Each (IsNowOr (processed_into_next l t) Q) (processed_by l t).waiting
  unfolding processed_by processed_into_next
  next_waiting l t b = (folded l.policy.second l.accepted (before_all (value_before l.me t l.accepted.value)) [] t.waiting (record { wait = tt; before = b })).wait

-- ---- where none is processed now

record NoneProcessed (second : Bool) (accepted : ClusterState) (p : Processed) (ws : List Waiting) : Type 0 where
  anew : p.anew ≡ false
  none : processed_from second accepted p.value ws ≡ []

not_by_this : (w : Waiting) (b : Bool) → not b ≡ false → (if b then [] else record w { processed = true } ∷ []) ≡ []
not_by_this w true e = refl
not_by_this w false e = absurd (true≢false e)

none_now : (p : Processed) (w : Waiting) (x : Processing) → (and_then p w x).anew ≡ false → (p.anew ≡ false) × (processed_by_this w x ≡ [])
none_now p w (AnsweredAtOnce a) e = (e, refl)
none_now p w (Makes made) e = let parts = or_parts p.anew (not w.processed) e in (parts.0, not_by_this w w.processed parts.1)

none_processed : (second : Bool) (accepted : ClusterState) (p : Processed) (ws : List Waiting) → (fold (with_next second accepted) p ws).anew ≡ false → NoneProcessed second accepted p ws
none_processed second accepted p [] e = record { anew = e; none = refl }
none_processed second accepted p (w ∷ ws) e =
    let x = processing_once second accepted p.value w in
    let rest = none_processed second accepted (and_then p w x) ws e in
    let now = none_now p w x rest.anew in
    record {
      anew = now.0;
      none =
          ap (λ (ys : List Waiting). ys ++ processed_from second accepted (value_after p.value x) ws) now.1
          ∙ ap (λ (v : ClusterValue). processed_from second accepted v ws) (sym (value_is p w x))
          ∙ rest.none;
    }

-- where no request was processed anew, none is processed into the next state
pub nothing_processed : (l : NextMaster) (t : Tasks) → (processed_by l t).anew ≡ false → processed_into_next l t ≡ []
unfolding processed_by processed_into_next
nothing_processed l t e = (none_processed l.policy.second l.accepted (before_all (value_before l.me t l.accepted.value)) t.waiting e).none

-- ---- the value alone

had_step : (p : Processed) (done : List Waiting) (w : Waiting) (b : Bool) (x : Processing) → w.processed ≡ b → OnceGranted w p.value b x
    → MeetsEach p.value done → MeetsEach (and_then p w x).value (done ++ processed_by_this w x)
had_step p done w true x e g h = subst (λ (y : Processing). MeetsEach (and_then p w y).value (done ++ processed_by_this w y)) (sym g) (rw e (subst (MeetsEach p.value) (sym (append-nil done)) h))
had_step p done w false (AnsweredAtOnce a) e g h = subst (MeetsEach p.value) (sym (append-nil done)) h
had_step p done w false (Makes made) e g h = rw e (had-more p.value made (record w { processed = true }) done g h)

had_folded : (second : Bool) (accepted : ClusterState) (p : Processed) (done ws : List Waiting) → MeetsEach p.value done → MeetsEach (fold (with_next second accepted) p ws).value (done ++ processed_from second accepted p.value ws)
had_folded second accepted p done [] h = subst (MeetsEach p.value) (sym (append-nil done)) h
had_folded second accepted p done (w ∷ ws) h =
    let x = processing_once second accepted p.value w in
    let rest = had_folded second accepted (and_then p w x) (done ++ processed_by_this w x) ws (had_step p done w w.processed x refl (once_granted second accepted p.value w w.processed) h) in
    subst (MeetsEach (fold (with_next second accepted) (and_then p w x) ws).value)
    (ap (λ (v : ClusterValue). (done ++ processed_by_this w x) ++ processed_from second accepted v ws) (value_is p w x) ∙ append_assoc done (processed_by_this w x) (processed_from second accepted (value_after p.value x) ws))
    rest

-- the next value has what was processed before and what is processed now
pub next_had : (l : NextMaster) (t : Tasks) (done : List Waiting) → MeetsEach l.accepted.value done → MeetsEach (next_value l t) (done ++ processed_into_next l t)
unfolding next_value processed_by processed_into_next
next_had l t done h =
    had_folded l.policy.second l.accepted (before_all (value_before l.me t l.accepted.value)) done t.waiting (had-alike l.accepted.value (value_before l.me t l.accepted.value) refl refl done h)

-- the next value has what each request asks for that is processed into it, unless one after it may have undone it
pub next_meets_each : (l : NextMaster) (t : Tasks) → MeetsEach (next_value l t) (processed_into_next l t)
unfolding next_value processed_by processed_into_next
next_meets_each l t = had_folded l.policy.second l.accepted (before_all (value_before l.me t l.accepted.value)) [] t.waiting tt

-- ---- the value under a key

abbrev OnceSaid : List ℕ → Waiting → ClusterValue → Bool → Processing → Type 0
OnceSaid key w value true x = x ≡ Makes value
OnceSaid key w value false x = MakesSaid key value w.request.ask x

once_said : (key : List ℕ) (second : Bool) (accepted : ClusterState) (value : ClusterValue) (w : Waiting) (b : Bool) → OnceSaid key w value b (if b then Makes value else processing second accepted value w.request.ask)
once_said key second accepted value w true = refl
once_said key second accepted value w false = makes_said key second accepted value w.request.ask

said_step : (key : List ℕ) (p : Processed) (w : Waiting) (rest : List Waiting) (b : Bool) (x : Processing) → w.processed ≡ b → OnceSaid key w p.value b x
    → setting_after_all key (setting_under key (and_then p w x).value.settings) rest ≡ setting_after_all key (setting_under key p.value.settings) (processed_by_this w x ++ rest)
said_step key p w rest true x e g =
    subst (λ (y : Processing). setting_after_all key (setting_under key (and_then p w y).value.settings) rest ≡ setting_after_all key (setting_under key p.value.settings) (processed_by_this w y ++ rest)) (sym g)
    (rw e refl)
said_step key p w rest false (AnsweredAtOnce a) e g = refl
said_step key p w rest false (Makes made) e g = rw e (ap (λ (o : Option (List ℕ)). setting_after_all key o rest) g)

said_folded : (key : List ℕ) (second : Bool) (accepted : ClusterState) (p : Processed) (ws : List Waiting)
    → setting_under key (fold (with_next second accepted) p ws).value.settings ≡ setting_after_all key (setting_under key p.value.settings) (processed_from second accepted p.value ws)
said_folded key second accepted p [] = refl
said_folded key second accepted p (w ∷ ws) =
    let x = processing_once second accepted p.value w in
    said_folded key second accepted (and_then p w x) ws
    ∙ said_step key p w (processed_from second accepted (and_then p w x).value ws) w.processed x refl (once_said key second accepted p.value w w.processed)
    ∙ ap (λ (v : ClusterValue). setting_after_all key (setting_under key p.value.settings) (processed_by_this w x ++ processed_from second accepted v ws)) (value_is p w x)

-- under each key the next value has what the last request says that sets or removes it
pub last_setting_stands : (l : NextMaster) (t : Tasks) (key : List ℕ) → setting_under key (next_value l t).settings ≡ setting_after_all key (setting_under key l.accepted.value.settings) (processed_into_next l t)
unfolding next_value processed_by processed_into_next
last_setting_stands l t key = said_folded key l.policy.second l.accepted (before_all (value_before l.me t l.accepted.value)) t.waiting

-- ---- what holds of a request by its connection and what it asks for

pub each-append : (P : Waiting → Type 0) (xs ys : List Waiting) → Each P xs → Each P ys → Each P (xs ++ ys)
each-append P [] ys e f = f
each-append P (x ∷ xs) ys e f = (e.0, each-append P xs ys e.1 f)

module _ (Q : ℕ → Request → Type 0) where
  -- of a request's connection and what it asks for
  abbrev pub Of : Waiting → Type 0
  Of w = Q w.conn w.request

  of-one : (w : Waiting) (x : Processing) → Of w → Each Of (processed_by_this w x)
  of-one w (AnsweredAtOnce a) q = tt
  of-one w (Makes made) q = if_new w.processed
    where
      if_new : (b : Bool) → Each Of (if b then [] else record w { processed = true } ∷ [])
      if_new true = tt
      if_new false = (q, tt)

  of-newly : (second : Bool) (accepted : ClusterState) (value : ClusterValue) (ws : List Waiting) → Each Of ws → Each Of (processed_from second accepted value ws)
  of-newly second accepted value [] e = tt
  of-newly second accepted value (w ∷ ws) e =
      let x = processing_once second accepted value w in
      each-append Of (processed_by_this w x) (processed_from second accepted (value_after value x) ws) (of-one w x e.0) (of-newly second accepted (value_after value x) ws e.1)

  of-and_then : (p : Processed) (w : Waiting) (x : Processing) → Of w → Each Of p.waiting → Each Of (and_then p w x).waiting
  of-and_then p w (AnsweredAtOnce a) q e = e
  of-and_then p w (Makes made) q e = each-last Of p.waiting (record w { processed = true }) e q

  of-processed : (second : Bool) (accepted : ClusterState) (p : Processed) (ws : List Waiting) → Each Of ws → Each Of p.waiting → Each Of (fold (with_next second accepted) p ws).waiting
  of-processed second accepted p [] e f = f
  of-processed second accepted p (w ∷ ws) e f = of-processed second accepted (with_next second accepted p w) ws e.1 (of-and_then p w (processing_once second accepted p.value w) e.0 f)

  pub of-waiting : (l : NextMaster) (t : Tasks) → Each Of t.waiting → Each Of (processed_by l t).waiting
  unfolding processed_by
  of-waiting l t e = of-processed l.policy.second l.accepted (before_all (value_before l.me t l.accepted.value)) t.waiting e tt

  pub of-new : (l : NextMaster) (t : Tasks) → Each Of t.waiting → Each Of (processed_into_next l t)
  unfolding processed_into_next
  of-new l t e = of-newly l.policy.second l.accepted (value_before l.me t l.accepted.value) t.waiting e
