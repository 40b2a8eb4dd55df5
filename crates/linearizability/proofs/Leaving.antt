-- What acts and changes of mode leave of a node and of the requests that wait, by the second profile.
use Rattle.std.proofs.Common.{◌≡◌, ◌⊎◌, inl, inr, ℕ, Bool, true, false, true≢false, Option, None, Some, List, [], ◌∷◌, ◌++◌, refl, sym, ◌∙◌, ap, subst}
use Rattle.std.specs.Prelude.{if◌then◌else◌, ◌&&◌, is_some, nat_lt}
use Rattle.voting_config.specs.Ids.{Id}
use Rattle.cluster_state.specs.States.{id_of}
use Rattle.cluster_state.specs.declared.messages.Join.{Join}
use Rattle.cluster_state.specs.declared.messages.PublishRequest.{PublishRequest}
use Rattle.cluster_state.specs.declared.messages.PublishResponse.{PublishResponse}
use Rattle.cluster_state.specs.declared.messages.ApplyCommit.{ApplyCommit}
use Rattle.cluster_state.specs.declared.state.ClusterValue.{ClusterValue}
use Rattle.publication.specs.Publications.{Publication}
use Rattle.master_tasks.specs.declared.waiting.Waiting.{Waiting}
use Rattle.master_tasks.specs.Answering.{answers_by, failed}
use Rattle.world_model.specs.declared.acts.Act.{Act}
use Rattle.world_model.specs.declared.acts.Act.TheVariants.{StartJoin, TakeJoin, Value, Publish, Response, Commit}
use Rattle.world_model.specs.declared.acts.ActReply.{ActReply}
use Rattle.world_model.specs.declared.acts.ActReply.TheVariants.{Taken, Refused, Stopped}
use Rattle.world_model.specs.declared.acts.Outcome.TheVariants.{Answered}
use Rattle.world_model.specs.NodeState.{NodeState}
use Rattle.world_model.specs.Moves.{is_opening}
use Rattle.world_model.specs.Replies.{is_taken}
use Rattle.world_model.specs.Histories.{History}
use Rattle.world_model.specs.Safety.{Descends, Itself, Child}
use Rattle.policy_model.specs.declared.settings.Settings.{Settings}
use Rattle.policy_model.specs.declared.events.Mode.{Mode}
use Rattle.policy_model.specs.declared.events.Mode.TheVariants.{Candidate, Leader, Follower}
use Rattle.policy_model.specs.Events.{Acts, ChangesMode}
use Rattle.policy_model.specs.Parts.{published_id, responded}
use Rattle.policy_model.specs.Views.{View}
use Rattle.policy_model.specs.Moves.{moved}
use Rattle.policy_model.specs.Doing as doing
use Rattle.policy_model.specs.Joins.{wins_now}
use Rattle.policy_model.specs.NextState.{is_in_flight}
use Rattle.client_guarantees.proofs.Backing.{Backs, IsUnique}
use Rattle.client_guarantees.proofs.Steady.{Standing, standing}
use Rattle.client_guarantees.proofs.Leading.{IsIdle, Stands, stands-idle, ready-stands, stands-waiting, refused-stands, stands-publish, stands-commit, stands-response, stands-join, stands-value}
use Rattle.client_guarantees.proofs.Folding.{Each, each-map, IsAmong}
use Rattle.linearizability.proofs.Accounts.{in-left, in-right}
use Rattle.linearizability.proofs.Putting.{Tag, Takes, takes_after, tag_all, in-tags, AllPlaced, WasPut, Puts, in_flight, placed-answers, IsPublishedSo, Safe, safe-append, safe-if, safe-answers, Stays, GoesOn}

flight-responded : (o : Option Publication) (source : Id) (commits : Bool) → is_in_flight (responded o source commits) ≡ is_in_flight o
flight-responded None source commits = refl
flight-responded (Some p) source true = refl
flight-responded (Some p) source false = refl

not_leader : (m : Mode) → doing.is_candidate m ≡ true → doing.is_leader m ≡ false
not_leader Candidate e = refl
not_leader Leader e = cc
not_leader (Follower leader) e = refl

-- a node that has taken the commit: a read that waits is not answered yet
pub record Commits (h : History) (s : Settings) (x : Standing) (g : Takes) : Type 0 where
  pub stands : Stands h s x
  pub put : Each (Puts h g.taken (published_id x.node) true) x.waiting

-- nothing is published and nobody waits
abbrev IsBare : Standing → Takes → Type 0
IsBare x g = (x.publication ≡ None) × (x.waiting ≡ [])

module _ (h : History) (s : Settings) where
  pub stays-idle : (x : Standing) (g : Takes) → doing.is_leader x.mode ≡ false → x.publication ≡ None → x.waiting ≡ [] → Stays h s x g
  stays-idle x g e p w = record { stands = stands-idle h s x e p w; put = subst (Each (Puts h g.taken (published_id x.node) (is_in_flight x.publication))) (sym w) tt }

  pub idle-stays : (x : Standing) (g : Takes) → doing.is_leader x.mode ≡ false → IsIdle x → Stays h s x g
  idle-stays x g e i = stays-idle x g e (i e).0 (i e).1

  pub ready-stays : (x : Standing) (g : Takes) → Stays h s x g → GoesOn h s x g
  ready-stays x g i = record { ready = ready-stands h s x i.stands; put = i.put }

  pub stays-waiting : (x : Standing) (g : Takes) (ws : List Waiting) → (x.waiting ≡ [] → ws ≡ []) → ((R : Waiting → Type 0) → Each R x.waiting → Each R ws) → Stays h s x g → Stays h s (record x { waiting = ws }) g
  stays-waiting x g ws e w i = record { stands = stands-waiting h s x ws e i.stands; put = w (Puts h g.taken (published_id x.node) (is_in_flight x.publication)) i.put }

  pub stays-refused : (v : View) (g : Takes) (act : Act) (r : ActReply) → is_opening act ≡ false → is_taken r ≡ false → Stays h s (standing v) g → Stays h s (standing (moved s v (Acts act (Answered r)))) g
  stays-refused v g act r o e i = subst (λ (x : Standing). Stays h s x g) (sym (refused-stands h s v act r o e)) i

  pub stays-publish : (v : View) (g : Takes) (q : PublishRequest) (r : ActReply) → Backs h v.node (Publish q) r → Stays h s (standing v) g → Stays h s (standing (moved s v (Acts (Publish q) (Answered r)))) g
  stays-publish v g q (Taken sends wins) b i = record { stands = stands-publish h s v q (Taken sends wins) b i.stands; put = i.put }
  stays-publish v g q (Refused c) b i = stays-refused v g (Publish q) (Refused c) refl refl i
  stays-publish v g q Stopped b i = stays-refused v g (Publish q) Stopped refl refl i

  pub stays-response : (v : View) (g : Takes) (q : PublishResponse) (r : ActReply) → Stays h s (standing v) g → Stays h s (standing (moved s v (Acts (Response q) (Answered r)))) g
  stays-response v g q (Taken sends wins) i = record {
    stands = stands-response h s v q (Taken sends wins) i.stands;
    put = subst (λ (b : Bool). Each (Puts h g.taken (published_id v.node) b) v.tasks.waiting) (sym (flight-responded v.publication q.source (is_some sends))) i.put;
  }
  stays-response v g q (Refused c) i = stays-refused v g (Response q) (Refused c) refl refl i
  stays-response v g q Stopped i = stays-refused v g (Response q) Stopped refl refl i

  -- a join that does not win
  pub stays-join : (v : View) (g : Takes) (j : Join) (r : ActReply) → wins_now r ≡ false → Stays h s (standing v) g → Stays h s (standing (moved s v (Acts (TakeJoin j) (Answered r)))) g
  stays-join v g j (Taken sends true) e i = absurd (true≢false e)
  stays-join v g j (Taken sends false) e i = record { stands = stands-join h s v j (Taken sends false) e i.stands; put = i.put }
  stays-join v g j (Refused c) e i = stays-refused v g (TakeJoin j) (Refused c) refl refl i
  stays-join v g j Stopped e i = stays-refused v g (TakeJoin j) Stopped refl refl i

  any_flight : (x : Standing) (g : Takes) → Stays h s x g → Each (Puts h g.taken (published_id x.node) true) x.waiting
  any_flight x g i =
      each-map (Puts h g.taken (published_id x.node) (is_in_flight x.publication)) (Puts h g.taken (published_id x.node) true) (λ w p t. in_flight (p t)) x.waiting i.put

  pub commits-commit : (v : View) (g : Takes) (c : ApplyCommit) (r : ActReply) → Backs h v.node (Commit c) r → Stays h s (standing v) g → Commits h s (standing (moved s v (Acts (Commit c) (Answered r)))) g
  commits-commit v g c (Taken sends wins) b i = record { stands = stands-commit h s v c (Taken sends wins) b i.stands; put = any_flight (standing v) g i }
  commits-commit v g c (Refused x) b i = let k = stays-refused v g (Commit c) (Refused x) refl refl i in record { stands = k.stands; put = any_flight _ g k }
  commits-commit v g c Stopped b i = let k = stays-refused v g (Commit c) Stopped refl refl i in record { stands = k.stands; put = any_flight _ g k }

  -- one that is no leader, or that did not take it
  pub stays-commit : (v : View) (g : Takes) (c : ApplyCommit) (r : ActReply) → Backs h v.node (Commit c) r → (is_taken r && doing.is_leader v.mode) ≡ false → Stays h s (standing v) g → Stays h s (standing (moved s v (Acts (Commit c) (Answered r)))) g
  stays-commit v g c (Taken sends wins) b e i = idle-stays _ g e (stands-commit h s v c (Taken sends wins) b i.stands).leads.idle
  stays-commit v g c (Refused x) b e i = stays-refused v g (Commit c) (Refused x) refl refl i
  stays-commit v g c Stopped b e i = stays-refused v g (Commit c) Stopped refl refl i

  -- ---- a value

  -- what the published state is to a request that was processed into it, and to one that was processed into an earlier one
  put_now : (g : Takes) (p : NodeState) (version : ℕ) (config : List Id) (value : ClusterValue) → IsPublishedSo h s p version config value → (w : Waiting) → IsAmong g.made w
      → WasPut h (g.taken ++ tag_all (record { term = p.term; version = version }) g.made) (record { term = p.term; version = version }) true w
  put_now g p version config value q w a = record {
    tag = record { id = record { term = p.term; version = version }; request = w };
    is_in = in-right g.taken (tag_all (record { term = p.term; version = version }) g.made) (record { id = record { term = p.term; version = version }; request = w }) (in-tags (record { term = p.term; version = version }) g.made w a);
    is_request = refl;
    as_published = q.as_published;
    is_published = q.is_in;
    is_id = ap id_of q.is_state;
    last = q.as_published;
    is_last = q.is_in;
    last_id = ap id_of q.is_state;
    descends = Itself;
    read = λ e. (refl, refl);
  }

  put_over : (g : Takes) (p : NodeState) (version : ℕ) (config : List Id) (value : ClusterValue) → IsPublishedSo h s p version config value → (w : Waiting)
      → (old : WasPut h g.taken (published_id p) false w) → old.last.state ≡ p.accepted
      → WasPut h (g.taken ++ tag_all (record { term = p.term; version = version }) g.made) (record { term = p.term; version = version }) true w
  put_over g p version config value q w old same = record {
    tag = old.tag;
    is_in = in-left g.taken (tag_all (record { term = p.term; version = version }) g.made) old.tag old.is_in;
    is_request = old.is_request;
    as_published = old.as_published;
    is_published = old.is_published;
    is_id = old.is_id;
    last = q.as_published;
    is_last = q.is_in;
    last_id = ap id_of q.is_state;
    descends = Child q.as_published q.is_in (subst (Descends h old.as_published.state) (same ∙ sym q.parent) old.descends);
    read = λ e. absurd (true≢false (sym (old.read e).1));
  }

  -- a request that was processed into the last state, which is the accepted one
  pub record IsOver (taken : List Tag) (p : NodeState) (w : Waiting) : Type 0 where
    pub old : WasPut h taken (published_id p) false w
    pub same : old.last.state ≡ p.accepted

  put_value : (g : Takes) (p : NodeState) (version : ℕ) (config : List Id) (value : ClusterValue) → IsPublishedSo h s p version config value → (w : Waiting) → IsAmong g.made w ⊎ IsOver g.taken p w
      → WasPut h (g.taken ++ tag_all (record { term = p.term; version = version }) g.made) (record { term = p.term; version = version }) true w
  put_value g p version config value q w (inl a) = put_now g p version config value q w a
  put_value g p version config value q w (inr o) = put_over g p version config value q w o.old o.same

  -- a publication begins
  pub stays-value : (v : View) (g : Takes) (version : ℕ) (config : List Id) (value : ClusterValue) (r : ActReply) → is_taken r ≡ true → doing.is_leader v.mode ≡ true → v.node.election_won ≡ true
      → IsPublishedSo h s v.node version config value → Each (λ w. w.processed ≡ true → IsAmong g.made w ⊎ IsOver g.taken v.node w) v.tasks.waiting
      → Stays h s (standing (moved s v (Acts (Value version config value) (Answered r)))) (takes_after s v g (Acts (Value version config value) (Answered r)))
  stays-value v g version config value (Taken sends wins) t l won q e = record {
    stands = stands-value h s v version config value (Taken sends wins) t l won;
    put = each-map (λ w. w.processed ≡ true → IsAmong g.made w ⊎ IsOver g.taken v.node w)
        (Puts h (g.taken ++ tag_all (record { term = v.node.term; version = version }) g.made) (record { term = v.node.term; version = version }) true)
        (λ w f t. put_value g v.node version config value q w (f t)) v.tasks.waiting e;
  }
  stays-value v g version config value (Refused x) t l won q e = absurd (true≢false (sym t))
  stays-value v g version config value Stopped t l won q e = absurd (true≢false (sym t))

-- ---- changes of mode

each-failed : (h : History) (U : IsUnique h) (taken : List Tag) (term : ℕ) (ws : List Waiting) → AllPlaced h taken (answers_by (failed term) ws)
each-failed h U taken term ws = placed-answers h U taken (failed term) ws (all ws)
  where
    all : (us : List Waiting) → Each (λ (w : Waiting). Unit {0}) us
    all [] = tt
    all (u ∷ us) = (tt, all us)

module _ (h : History) (U : IsUnique h) (s : Settings) where
  safe-candidate : (v : View) (g : Takes) (Q : Standing → Takes → Type 0) → ((node : NodeState) → Q (record { mode = Candidate; publication = None; node = node; waiting = [] }) g) → Safe h s v g (doing.becomes_candidate s v) Q
  safe-candidate v g Q q = by (doing.is_leader v.mode)
    where
      by : (b : Bool) → Safe h s v g ((if b then doing.reply_all s (answers_by (failed v.leader_term) v.tasks.waiting) else []) ++ ChangesMode Candidate v.node.term ∷ []) Q
      by true = safe-answers h s v g _ (ChangesMode Candidate v.node.term ∷ []) Q (each-failed h U g.taken v.leader_term v.tasks.waiting) (λ b. (tt, q _))
      by false = λ b. (tt, q _)

  pub safe-becomes_candidate : (v : View) (g : Takes) → Safe h s v g (doing.becomes_candidate s v) (Stays h s)
  safe-becomes_candidate v g = safe-candidate v g (Stays h s) (λ node. stays-idle h s _ g refl refl refl)

  safe-once : (v : View) (g : Takes) → IsIdle (standing v) → Safe h s v g (doing.becomes_candidate_once s v) (Stays h s)
  safe-once v g i =
      safe-if h s v g (doing.is_candidate v.mode) [] (doing.becomes_candidate s v) (Stays h s)
      (λ e. idle-stays h s (standing v) g (not_leader v.mode e) i)
      (λ e. safe-becomes_candidate v g)

  pub safe-becomes_follower : (v : View) (g : Takes) (p : Id) → Stays h s (standing v) g → Safe h s v g (doing.becomes_follower s v p) (Stays h s)
  safe-becomes_follower v g p i =
      safe-if h s v g (doing.follows_node v.mode p) [] _ (Stays h s)
      (λ e. i)
      (λ e. safe-append h s v g _ (ChangesMode (Follower p) v.node.term ∷ []) IsBare (Stays h s)
      (safe-if h s v g (doing.is_leader v.mode) (doing.becomes_candidate s v) [] IsBare
      (λ l. safe-candidate v g IsBare (λ node. (refl, refl)))
      (λ l. i.stands.leads.idle l))
      (λ k b. (tt, stays-idle h s _ _ refl k.0 k.1)))

  pub safe-on_start_join : (v : View) (g : Takes) (c : Id) (t : ℕ) → Stays h s (standing v) g → Safe h s v g (doing.on_start_join s v c t) (Stays h s)
  safe-on_start_join v g c t i =
      let act : Act = StartJoin c t in
      λ b. (
        tt,
        safe-if h s (doing.after_act s v act) g (doing.takes s v act) _ [] (Stays h s)
            (λ e k. (tt, safe-once (doing.after_act s v act) g i.stands.leads.idle))
            (λ e. stays-refused h s v g act (doing.reply_now s v act) refl e i),
      )

  pub safe-raises_term : (v : View) (g : Takes) (c : Id) (t : ℕ) → Stays h s (standing v) g → Safe h s v g (doing.raises_term s v c t) (Stays h s)
  safe-raises_term v g c t i =
      safe-if h s v g (nat_lt v.node.term t) (doing.on_start_join s v c t) [] (Stays h s) (λ e. safe-on_start_join v g c t i) (λ e. i)
