-- The answers that requests get, and when they are true.
use Rattle.std.proofs.Common.{◌≡◌, ℕ, Bool, true, false, Option, None, Some, Result, Ok, Err, List, [], ◌∷◌, ◌++◌, refl, sym, ◌∙◌, ap, subst, inl, inr, ◌||◌, ◌<◌, true≢false, arith}
use Rattle.std.specs.Prelude.{if◌then◌else◌, nat_le, nat_eq, fold, not, ◌&&◌, ◌+◌, length, map}
use Rattle.std.specs.List.{cons_option}
use Rattle.std.specs.Option.{option_map}
use Rattle.std.proofs.lemmas.Bool.{both_ways, and_parts, or_parts, not-true}
use Rattle.std.proofs.lemmas.Bool.Decides.{nat_tests}
use Rattle.std.proofs.lemmas.List.{append_assoc, append-nil}
use Rattle.voting_config.specs.Ids.{Id, has, same, among, some_among}
use Rattle.exclusions.specs.declared.AddError.{AddError}
use Rattle.exclusions.specs.declared.AddError.TheVariants.{TooMany}
use Rattle.exclusions.specs.declared.StillMember.{StillMember}
use Rattle.exclusions.specs.Exclusions.{added_of, cleared_of}
use Rattle.cluster_state.specs.Fields.{most_settings}
use Rattle.cluster_state.specs.Settings.{put_setting}
use Rattle.cluster_state.specs.declared.state.ClusterState.{ClusterState}
use Rattle.cluster_state.specs.declared.state.ClusterValue.{ClusterValue}
use Rattle.cluster_state.specs.declared.state.StateId.{StateId}
use Rattle.cluster_state.specs.States.{id_of}
use Rattle.cluster_state.specs.declared.request.Ask.{Ask}
use Rattle.cluster_state.specs.declared.request.Ask.TheVariants as ask
use Rattle.cluster_state.specs.declared.reply.Answer.{Answer}
use Rattle.cluster_state.specs.declared.reply.Answer.TheVariants as answer
use Rattle.master_tasks.specs.declared.waiting.Waiting.{Waiting}
use Rattle.master_tasks.specs.declared.waiting.Outgoing.{Outgoing}
use Rattle.master_tasks.specs.Queue.{Tasks}
use Rattle.master_tasks.specs.Replying.{answer_to}
use Rattle.master_tasks.specs.Answering.{answer_applied, waits_applied, answers_by, left_by, excluded_by, failed, committed_in, unless_voting, applied_in, if_late, timed_out, nothing_new}
use Rattle.master_tasks.specs.Processing.{Processing, AnsweredAtOnce, Makes, excluding, clearing, processing, processing_once, Processed, before_all, and_then, with_next}
use Rattle.master_tasks.specs.NextState.{Leader as NextMaster, value_before, processed_by, next_value, is_accepted, is_nothing_new, next_answers}
use Rattle.master_tasks.proofs.Sameness.{stays_accepted}
use Rattle.world_model.specs.Histories.{History}
use Rattle.policy_model.specs.declared.settings.Settings.{Settings}
use Rattle.voting_config.proofs.Sets.{same_is}
use Rattle.world_model.specs.Safety.{Published, IsCommitted}
use Rattle.client_guarantees.specs.Replies.{HasCommitted}
use Rattle.client_guarantees.specs.Asked.{MeetsEach, HasNoVoterOf}
use Rattle.client_guarantees.specs.Processed.{processed_into_next}
use Rattle.client_guarantees.proofs.Folding.{Each, each-map, IsAmong, Of, had-behind, nothing_processed}
use Rattle.client_guarantees.proofs.Telling.{Basis, Up, IsNewFor, AckIsTrue, AnswerIsTrue, AllTrue, true-none, true-cons, true-append}

-- nobody waits on where nobody waits
pub left_none : (decide : Waiting → Option Answer) (ws : List Waiting) → ws ≡ [] → left_by decide ws ≡ []
left_none decide ws e = ap (left_by decide) e

-- a request that was processed is among these, and the state of this id is new for it
abbrev pub IsProcessedFor : Settings → Basis → List Waiting → StateId → Waiting → Type 0
IsProcessedFor s P done id w = w.processed ≡ true → IsAmong done w × IsNewFor s P id w

pub each-both : (P Q : Waiting → Type 0) (ws : List Waiting) → Each P ws → Each Q ws → Each (λ w. P w × Q w) ws
each-both P Q [] e f = tt
each-both P Q (w ∷ ws) e f = ((e.0, f.0), each-both P Q ws e.1 f.1)

pub each-processed : (s : Settings) (P : Basis) (done : List Waiting) (id : StateId) (ws : List Waiting) → Each (λ w. w.processed ≡ true → IsAmong done w) ws → Each (λ w. w.processed ≡ true → IsNewFor s P id w) ws → Each (IsProcessedFor s P done id) ws
each-processed s P done id [] e f = tt
each-processed s P done id (w ∷ ws) e f = ((λ t. (e.0 t, f.0 t)), each-processed s P done id ws e.1 f.1)

left_false : (x y z b : Bool) → not ((x || y) && b) && z ≡ true → b ≡ true → y ≡ false
left_false x false z b e f = refl
left_false false true z true e f = absurd (true≢false (sym e))
left_false true true z true e f = absurd (true≢false (sym e))
left_false x true z false e f = absurd (true≢false (sym f))

-- where nothing is new in the second profile, no request was processed
pub nothing_anew : (s : Settings) (l : NextMaster) (t : Tasks) → l.policy.second ≡ s.policy.second → is_nothing_new l t ≡ true → s.policy.second ≡ true → processed_into_next l t ≡ []
unfolding is_nothing_new
nothing_anew s l t y n x = nothing_processed l t (left_false _ _ _ l.policy.second n (y ∙ x))

-- a state of an earlier term is none of this one
other_term : (a b : ℕ) (x y : Bool) → a < b → (nat_eq a b && x && y) ≡ false
other_term a b x y less = grind (arith, nat_tests)

no_both : (z w : Bool) → w ≡ false → (z && w) ≡ false
no_both true w h = h
no_both false w h = refl

pub something_new : (l : NextMaster) (t : Tasks) → l.accepted.term < l.term → is_nothing_new l t ≡ false
unfolding is_nothing_new is_accepted
something_new l t less = no_both _ _ (other_term l.accepted.term l.term _ _ less)

-- a request that is among others stands between some of them
record Split (done : List Waiting) (w : Waiting) : Type 0 where
  earlier : List Waiting
  later : List Waiting
  is : done ≡ earlier ++ w ∷ later

split : (done : List Waiting) (w : Waiting) → IsAmong done w → Split done w
split [] w a = absurd a
split (x ∷ xs) w (inl e) = record { earlier = []; later = xs; is = ap (λ (v : Waiting). v ∷ xs) (sym e) }
split (x ∷ xs) w (inr a) = let rest = split xs w a in record { earlier = x ∷ rest.earlier; later = rest.later; is = ap (λ (l : List Waiting). x ∷ l) rest.is }

-- a committed state of this id has what was processed since some moment
pub record HasDone (h : History) (low : StateId) (g : List Waiting) (done : List Waiting) (id : StateId) : Type 0 where
  pub older : List Waiting
  pub processed : g ≡ older ++ done
  pub as_published : Published
  pub is_committed : IsCommitted h as_published
  pub is_id : id_of as_published.state ≡ id
  pub had : MeetsEach as_published.state.value done
  pub since : Up low id

each-all : (P : Waiting → Type 0) → ((w : Waiting) → P w) → (ws : List Waiting) → Each P ws
each-all P f [] = tt
each-all P f (w ∷ ws) = (f w, each-all P f ws)

-- a committed state may be shown to those who came
abbrev pub MayBeShown : History → Basis → ClusterState → Waiting → Type 0
MayBeShown h P accepted w = HasCommitted h accepted × Of P.came w

-- the accepted state is committed, and so is its configuration, and it is none that the node had left behind
pub record IsSettled (h : History) (low : StateId) (l : NextMaster) : Type 0 where
  pub committed : HasCommitted h l.accepted
  pub config : l.committed ≡ l.accepted.config
  pub since : Up low (id_of l.accepted)

-- ---- exclusions

none_among : (ids config : List Id) → some_among ids config ≡ false → (id : Id) → has id ids ≡ true → has id config ≡ false
none_among [] config n id k = absurd (true≢false (sym k))
none_among (x ∷ xs) config n id k = from (same x id) refl k (λ m q. none_among xs config m id q)
  where
    parts : (has x config ≡ false) × (some_among xs config ≡ false)
    parts = or_parts (has x config) (some_among xs config) n

    from : (b : Bool) → same x id ≡ b → (b || has id xs) ≡ true → (some_among xs config ≡ false → has id xs ≡ true → has id config ≡ false) → has id config ≡ false
    from true e q rest = subst (λ (y : Id). has y config ≡ false) (same_is x id e) parts.0
    from false e q rest = rest parts.1 q

-- a request that does not wait until its state is applied excludes nobody
excludes_none : (config : List Id) (a : Ask) → waits_applied a ≡ false → HasNoVoterOf config a
excludes_none config (ask.Exclude asked) e = absurd (true≢false e)
excludes_none config (ask.Put key text) e = tt
excludes_none config (ask.Remove key) e = tt
excludes_none config (ask.Clear wait) e = tt
excludes_none config ask.State e = tt

module _ (h : History) (s : Settings) (P : Basis) (g : List Waiting) where
  granted : (done : List Waiting) (id : StateId) → (d : HasDone h P.low g done id) → (w : Waiting) → HasNoVoterOf d.as_published.state.config w.request.ask → IsNewFor s P id w → IsAmong done w → AckIsTrue h s P g w.conn w.request.id id
  granted done id d w n k a =
      let p = split done w a in
      record {
        request = w;
        earlier = d.older ++ p.earlier;
        later = p.later;
        after = [];
        is_processed = d.processed ∙ ap (λ (l : List Waiting). d.older ++ l) p.is ∙ sym (append_assoc d.older p.earlier (w ∷ p.later)) ∙ sym (append-nil ((d.older ++ p.earlier) ++ w ∷ p.later));
        has_conn = refl;
        has_number = refl;
        since = d.since;
        is_new = k;
        as_published = d.as_published;
        is_committed = d.is_committed;
        is_id = d.is_id;
        meets = had-behind d.as_published.state.value p.earlier (w ∷ p.later) (subst (MeetsEach d.as_published.state.value) p.is d.had);
        votes = n;
      }

  abbrev pub IsTrueOption : Waiting → Option Answer → Type 0
  IsTrueOption w None = Unit {0}
  IsTrueOption w (Some a) = AnswerIsTrue h s P g w.conn w.request.id a

  true-decided : (w : Waiting) (o : Option Answer) (rest : List Outgoing) → IsTrueOption w o → AllTrue h s P g rest → AllTrue h s P g (cons_option (option_map (answer_to w) o) rest)
  true-decided w None rest t a = a
  true-decided w (Some x) rest t a = true-cons h s P g (answer_to w x) rest t a

  true-answers_by : (decide : Waiting → Option Answer) (ws : List Waiting) → Each (λ w. IsTrueOption w (decide w)) ws → AllTrue h s P g (answers_by decide ws)
  true-answers_by decide [] e = true-none h s P g
  true-answers_by decide (w ∷ ws) e = true-decided w (decide w) (answers_by decide ws) e.0 (true-answers_by decide ws e.1)

  true-if : (w : Waiting) (b : Bool) (x y : Option Answer) → (b ≡ true → IsTrueOption w x) → (b ≡ false → IsTrueOption w y) → IsTrueOption w (if b then x else y)
  true-if w true x y t u = t refl
  true-if w false x y t u = u refl

  pub true-failed : (term : ℕ) (ws : List Waiting) → AllTrue h s P g (answers_by (failed term) ws)
  true-failed term ws = true-answers_by (failed term) ws (each-all (λ w. IsTrueOption w (failed term w)) (λ w. tt) ws)

  late_one : (w : Waiting) (committed : List Id) (late : Bool) (o : Option (List Id)) → IsTrueOption w (if_late committed late o)
  late_one w committed late None = tt
  late_one w committed late (Some ids) = true-if w late (Some (answer.ExclusionTimeout (among ids committed))) None (λ e. tt) (λ e. tt)

  pub true-timed_out : (committed : List Id) (now : ℕ) (ws : List Waiting) → AllTrue h s P g (answers_by (timed_out committed now) ws)
  true-timed_out committed now ws = true-answers_by (timed_out committed now) ws (each-all (λ w. IsTrueOption w (timed_out committed now w)) (λ w. late_one w committed _ (excluded_by w.request.ask)) ws)

  committed_one : (done : List Waiting) (id : StateId) → HasDone h P.low g done id → (w : Waiting) → IsProcessedFor s P done id w → IsTrueOption w (committed_in id w)
  committed_one done id d w a =
      true-if w (w.processed && not (waits_applied w.request.ask)) (Some (answer.Acked id)) None
      (λ e.
      let parts = and_parts _ _ e in
      let p = a parts.0 in
      granted done id d w (excludes_none _ w.request.ask (not-true _ parts.1)) p.1 p.0) (λ e. tt)

  pub true-committed_in : (done : List Waiting) (id : StateId) → HasDone h P.low g done id → (ws : List Waiting) → Each (IsProcessedFor s P done id) ws → AllTrue h s P g (answers_by (committed_in id) ws)
  true-committed_in done id d ws e =
      true-answers_by (committed_in id) ws (each-map (IsProcessedFor s P done id) (λ w. IsTrueOption w (committed_in id w)) (committed_one done id d) ws e)

  -- a request that was processed is acked with this id
  acked_one : (done : List Waiting) (id : StateId) (d : HasDone h P.low g done id) (w : Waiting) → IsAmong done w × IsNewFor s P id w → HasNoVoterOf d.as_published.state.config w.request.ask → IsTrueOption w (Some (answer.Acked id))
  acked_one done id d w a n = granted done id d w n a.1 a.0

  -- none of these nodes votes in the committed configuration
  none_votes : (committed config asked : List Id) → committed ≡ config → some_among asked committed ≡ false → (id : Id) → has id asked ≡ true → has id config ≡ false
  none_votes committed config asked c e = none_among asked config (subst (λ (l : List Id). some_among asked l ≡ false) c e)

  -- the committed configuration is that of the accepted state, which is committed
  module _ (done : List Waiting) (committed : List Id) (accepted : ClusterState) (d : HasDone h P.low g done (id_of accepted)) (c : committed ≡ d.as_published.state.config) where
    applied_one : HasCommitted h accepted → (w : Waiting) (a : Ask) → w.request.ask ≡ a → IsAmong done w × IsNewFor s P (id_of accepted) w → Of P.came w → IsTrueOption w (answer_applied committed accepted a)
    applied_one k w (ask.Put key text) e a q = tt
    applied_one k w (ask.Remove key) e a q = tt
    applied_one k w (ask.Exclude asked) e a q =
        true-if w (some_among asked committed) None (Some (answer.Acked (id_of accepted))) (λ t. tt)
        (λ t. acked_one done (id_of accepted) d w a (subst (HasNoVoterOf d.as_published.state.config) (sym e) (none_votes committed d.as_published.state.config asked c t)))
    applied_one k w (ask.Clear wait) e a q = tt
    applied_one k w ask.State e a q = record { request = w; has_conn = refl; has_number = refl; is_asked = e; came = q; is_new = a.1; committed = k }

    pub true-applied_in : HasCommitted h accepted → (ws : List Waiting) → Each (IsProcessedFor s P done (id_of accepted)) ws → Each (Of P.came) ws → AllTrue h s P g (answers_by (applied_in committed accepted) ws)
    true-applied_in k ws e q =
        true-answers_by (applied_in committed accepted) ws
        (each-map (λ w. IsProcessedFor s P done (id_of accepted) w × Of P.came w) (λ w. IsTrueOption w (applied_in committed accepted w))
        (λ w a. true-if w w.processed (answer_applied committed accepted w.request.ask) None (λ t. applied_one k w w.request.ask refl (a.0 t) a.1) (λ t. tt)) ws (each-both (IsProcessedFor s P done (id_of accepted)) (Of P.came) ws e q))

    nothing_new_one : (w : Waiting) (a : Ask) → w.request.ask ≡ a → IsAmong done w × IsNewFor s P (id_of accepted) w → IsTrueOption w (unless_voting committed (id_of accepted) w.processed a)
    nothing_new_one w (ask.Put key text) e a = acked_one done (id_of accepted) d w a (subst (HasNoVoterOf d.as_published.state.config) (sym e) tt)
    nothing_new_one w (ask.Remove key) e a = acked_one done (id_of accepted) d w a (subst (HasNoVoterOf d.as_published.state.config) (sym e) tt)
    nothing_new_one w (ask.Exclude asked) e a =
        true-if w (w.processed && not (some_among asked committed)) (Some (answer.Acked (id_of accepted))) None
        (λ t. acked_one done (id_of accepted) d w a (subst (HasNoVoterOf d.as_published.state.config) (sym e) (none_votes committed d.as_published.state.config asked c (not-true _ (and_parts _ _ t).1)))) (λ t. tt)
    nothing_new_one w (ask.Clear wait) e a = acked_one done (id_of accepted) d w a (subst (HasNoVoterOf d.as_published.state.config) (sym e) tt)
    nothing_new_one w ask.State e a = tt

    true-nothing_new : (ws : List Waiting) → Each (λ w. IsAmong done w × IsNewFor s P (id_of accepted) w) ws → AllTrue h s P g (answers_by (nothing_new committed (id_of accepted)) ws)
    true-nothing_new ws e =
        true-answers_by (nothing_new committed (id_of accepted)) ws
        (each-map (λ w. IsAmong done w × IsNewFor s P (id_of accepted) w) (λ w. IsTrueOption w (nothing_new committed (id_of accepted) w)) (λ w a. nothing_new_one w w.request.ask refl a) ws e)

  -- requests that are answered at once are not acknowledged, and one for the state is shown the accepted one
  abbrev IsTrueProcessing : Waiting → Processing → Type 0
  IsTrueProcessing w (AnsweredAtOnce a) = AnswerIsTrue h s P g w.conn w.request.id a
  IsTrueProcessing w (Makes value) = Unit {0}

  either : (w : Waiting) (b : Bool) (x y : Processing) → IsTrueProcessing w x → IsTrueProcessing w y → IsTrueProcessing w (if b then x else y)
  either w true x y t u = t
  either w false x y t u = u

  true-excluding : (w : Waiting) (value : ClusterValue) (r : Result (List Id) AddError) → IsTrueProcessing w (excluding value r)
  true-excluding w value (Ok ids) = tt
  true-excluding w value (Err (TooMany count)) = tt

  true-clearing : (w : Waiting) (value : ClusterValue) (r : Result (Unit {0}) StillMember) → IsTrueProcessing w (clearing value r)
  true-clearing w value (Ok u) = tt
  true-clearing w value (Err still) = tt

  -- by the second profile it waits
  true-showing : (w : Waiting) (accepted : ClusterState) (value : ClusterValue) (second : Bool) → second ≡ s.policy.second → w.request.ask ≡ ask.State → MayBeShown h P accepted w
      → IsTrueProcessing w (if second then Makes value else AnsweredAtOnce (answer.State accepted))
  true-showing w accepted value true y e c = tt
  true-showing w accepted value false y e c =
      record { request = w; has_conn = refl; has_number = refl; is_asked = e; came = c.1; is_new = λ x. absurd (both_ways _ (sym y) x); committed = c.0 }

  true-processing : (w : Waiting) (second : Bool) (accepted : ClusterState) (value : ClusterValue) (a : Ask) → second ≡ s.policy.second → w.request.ask ≡ a → MayBeShown h P accepted w → IsTrueProcessing w (processing second accepted value a)
  true-processing w second accepted value (ask.Put key text) y e c =
      either w (not (has key (map (λ t. t.0) value.settings)) && nat_le most_settings (length value.settings))
      (AnsweredAtOnce (answer.TooManySettings (most_settings + 1))) (Makes (record value { settings = put_setting (key, text) value.settings })) tt tt
  true-processing w second accepted value (ask.Remove key) y e c = tt
  true-processing w second accepted value (ask.Exclude ids) y e c = true-excluding w value (added_of value.exclusions ids)
  true-processing w second accepted value (ask.Clear wait) y e c = true-clearing w value (cleared_of value.exclusions value.members wait)
  true-processing w second accepted value ask.State y e c = true-showing w accepted value second y e c

  true-and_then : (p : Processed) (w : Waiting) (x : Processing) → IsTrueProcessing w x → AllTrue h s P g p.answers → AllTrue h s P g (and_then p w x).answers
  true-and_then p w (AnsweredAtOnce a) t all = true-append h s P g p.answers (answer_to w a ∷ []) all (true-cons h s P g (answer_to w a) [] t (true-none h s P g))
  true-and_then p w (Makes made) t all = all

  true-processed : (second : Bool) (accepted : ClusterState) (p : Processed) (ws : List Waiting) → second ≡ s.policy.second → Each (MayBeShown h P accepted) ws → AllTrue h s P g p.answers → AllTrue h s P g (fold (with_next second accepted) p ws).answers
  true-processed second accepted p [] y c all = all
  true-processed second accepted p (w ∷ ws) y c all =
      true-processed second accepted (with_next second accepted p w) ws y c.1
      (true-and_then p w (processing_once second accepted p.value w)
      (either w w.processed (Makes p.value) (processing second accepted p.value w.request.ask) tt (true-processing w second accepted p.value w.request.ask y refl c.0)) all)

  true-when : (b : Bool) (xs : List Outgoing) → (b ≡ true → AllTrue h s P g xs) → AllTrue h s P g (if b then xs else [])
  true-when true xs a = a refl
  true-when false xs a = true-none h s P g

  -- where nothing is new, the accepted state has what was processed
  has_done : (l : NextMaster) (t : Tasks) (older done : List Waiting) → g ≡ older ++ done → MeetsEach (next_value l t) done → (c : HasCommitted h l.accepted) → Up P.low (id_of l.accepted) → is_nothing_new l t ≡ true → HasDone h P.low g done (id_of l.accepted)
  has_done l t older done e a c u n =
      let same : next_value l t ≡ c.as_published.state.value = (stays_accepted l t n).value ∙ sym (ap (λ (x : ClusterState). x.value) c.is_state) in
      record {
        older = older;
        processed = e;
        as_published = c.as_published;
        is_committed = c.is_committed;
        is_id = ap id_of c.is_state;
        had = subst (λ (v : ClusterValue). MeetsEach v done) same a;
        since = u;
      }

  -- the answers of a next state
  pub true-next : (l : NextMaster) (t : Tasks) (older done : List Waiting) → l.policy.second ≡ s.policy.second → g ≡ older ++ done → MeetsEach (next_value l t) done → Each (IsAmong done) (processed_by l t).waiting
      → (is_nothing_new l t ≡ true → Each (IsNewFor s P (id_of l.accepted)) (processed_by l t).waiting) → Each (MayBeShown h P l.accepted) t.waiting → (is_nothing_new l t ≡ true → IsSettled h P.low l) → AllTrue h s P g (next_answers l t)
  unfolding next_answers processed_by has_done
  true-next l t older done y e a w x shown c =
      true-append h s P g _ _ (true-processed l.policy.second l.accepted (before_all (value_before l.me t l.accepted.value)) t.waiting y shown (true-none h s P g))
      (true-when (is_nothing_new l t) _ (λ n.
      let k = c n in
      true-nothing_new done l.committed l.accepted (has_done l t older done e a k.committed k.since n) (k.config ∙ sym (ap (λ (x : ClusterState). x.config) k.committed.is_state)) (processed_by l t).waiting (each-both (IsAmong done) (IsNewFor s P (id_of l.accepted)) _ w (x n))))
