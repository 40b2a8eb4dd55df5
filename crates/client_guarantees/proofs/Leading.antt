-- How a node stands between its events, and what an act makes of that.
use Rattle.std.proofs.Common.{◌≡◌, ◌<◌, Bool, true, false, Option, None, Some, List, [], refl, sym, ◌∙◌, ap, subst, arith}
use Rattle.std.specs.Prelude.{ℕ, is_some}
use Rattle.std.proofs.lemmas.Bool.{both_ways}
use Rattle.voting_config.specs.Ids.{Id}
use Rattle.exclusions.specs.Exclusions.{may_win_of}
use Rattle.cluster_state.specs.declared.state.ClusterValue.{ClusterValue}
use Rattle.cluster_state.specs.declared.messages.Join.{Join}
use Rattle.cluster_state.specs.declared.messages.PublishRequest.{PublishRequest}
use Rattle.cluster_state.specs.declared.messages.PublishResponse.{PublishResponse}
use Rattle.cluster_state.specs.declared.messages.ApplyCommit.{ApplyCommit}
use Rattle.publication.specs.Publications.{Publication}
use Rattle.master_tasks.specs.declared.waiting.Waiting.{Waiting}
use Rattle.world_model.specs.declared.acts.Act.{Act}
use Rattle.world_model.specs.declared.acts.ActReply.{ActReply}
use Rattle.world_model.specs.declared.acts.Act.TheVariants.{Bootstrap, StartJoin, TakeJoin, Value, Publish, Response, Commit, Open}
use Rattle.world_model.specs.declared.acts.Outcome.TheVariants.{Answered}
use Rattle.world_model.specs.declared.acts.ActReply.TheVariants.{Taken, Refused, Stopped}
use Rattle.world_model.specs.NodeState.{NodeState}
use Rattle.world_model.specs.Replies.{is_taken}
use Rattle.world_model.specs.Moves.{is_opening}
use Rattle.world_model.specs.Histories.{History}
use Rattle.policy_model.specs.declared.settings.Settings.{Settings}
use Rattle.policy_model.specs.Events.{Acts}
use Rattle.policy_model.specs.Parts.{responded, finished}
use Rattle.policy_model.specs.Views.{View}
use Rattle.policy_model.specs.Moves.{moved}
use Rattle.policy_model.specs.Doing.{is_leader}
use Rattle.policy_model.specs.Joins.{wins_now}
use Rattle.client_guarantees.specs.Replies.{HasCommitted}
use Rattle.client_guarantees.proofs.Backing.{Backs, IsNewWinner, HasAcceptedLast, TakesCommit}
use Rattle.client_guarantees.proofs.Steady.{Standing, standing}

-- the accepted state is committed, and is the last one that the node published; so its configuration is the committed one
pub record IsDone (h : History) (p : NodeState) : Type 0 where
  pub committed : HasCommitted h p.accepted
  pub last : HasAcceptedLast p
  pub settled : p.committed ≡ p.accepted.config

-- a node that is no leader has published nothing, and nobody waits for it
abbrev pub IsIdle : Standing → Type 0
IsIdle x = is_leader x.mode ≡ false → (x.publication ≡ None) × (x.waiting ≡ [])

-- a leader has won. Before its first publication its accepted state is of an earlier term; where its publication is finished, that is its accepted state, and it is committed
pub record Leads (h : History) (x : Standing) : Type 0 where
  pub idle : IsIdle x
  pub won : is_leader x.mode ≡ true → x.node.election_won ≡ true
  pub new : is_leader x.mode ≡ true → x.publication ≡ None → IsNewWinner x.node
  pub done : is_leader x.mode ≡ true → (p : Publication) → x.publication ≡ Some p → p.finished ≡ true → IsDone h x.node

abbrev pub may_win_at : Settings → NodeState → Bool
may_win_at s p = may_win_of s.me p.committed p.accepted.config p.accepted.value.exclusions

-- between events: a leader that has published nothing may not win
pub record Stands (h : History) (s : Settings) (x : Standing) : Type 0 where
  pub leads : Leads h x
  pub barred : is_leader x.mode ≡ true → x.publication ≡ None → may_win_at s x.node ≡ false

-- before it goes on: for a leader that may win and has published nothing nobody waits
pub record IsReady (h : History) (s : Settings) (x : Standing) : Type 0 where
  pub leads : Leads h x
  pub empty : is_leader x.mode ≡ true → x.publication ≡ None → may_win_at s x.node ≡ true → x.waiting ≡ []

-- a node that has just won
pub record HasWon (x : Standing) : Type 0 where
  pub unpublished : x.publication ≡ None
  pub empty : x.waiting ≡ []
  pub won : x.node.election_won ≡ true
  pub new : IsNewWinner x.node

-- what cannot be
differs : {A : Type 0} → true ≡ false → A
differs e = cc

is_none : {A : Type 0} (p : Publication) → Some p ≡ None → A
is_none p e = cc

not_both : {A : Type 0} (t u : ℕ) → t ≡ u → t < u → A
not_both t u e l = absurd (omega arith)

finished-none : (o : Option Publication) → finished o ≡ None → o ≡ None
finished-none None e = refl
finished-none (Some p) e = is_none _ e

responded-none : (o : Option Publication) (source : Id) (commits : Bool) → responded o source commits ≡ None → o ≡ None
responded-none None source commits e = refl
responded-none (Some p) source commits e = is_none _ e

-- a response finishes no publication
pub record WasFinished (o : Option Publication) : Type 0 where
  pub before : Publication
  pub is : o ≡ Some before
  pub finished : before.finished ≡ true

responded-finished : (o : Option Publication) (source : Id) (commits : Bool) (p : Publication) → responded o source commits ≡ Some p → p.finished ≡ true → WasFinished o
responded-finished None source commits p e f = is_none p (sym e)
responded-finished (Some q) source true p e f = record { before = q; is = refl; finished = ap was e ∙ f }
  where
    was : Option Publication → Bool
    was None = true
    was (Some r) = r.finished
responded-finished (Some q) source false p e f = record { before = q; is = refl; finished = ap was e ∙ f }
  where
    was : Option Publication → Bool
    was None = true
    was (Some r) = r.finished

module _ (h : History) (s : Settings) where
  pub stands-idle : (x : Standing) → is_leader x.mode ≡ false → x.publication ≡ None → x.waiting ≡ [] → Stands h s x
  stands-idle x e p w = record {
    leads = record { idle = λ f. (p, w); won = λ l. absurd (both_ways _ e l); new = λ l. absurd (both_ways _ e l); done = λ l. absurd (both_ways _ e l) };
    barred = λ l. absurd (both_ways _ e l);
  }

  pub ready-stands : (x : Standing) → Stands h s x → IsReady h s x
  ready-stands x i = record { leads = i.leads; empty = λ l n m. absurd (both_ways _ (i.barred l n) m) }

  -- who waits plays no part but where nobody does
  pub leads-waiting : (x : Standing) (ws : List Waiting) → (x.waiting ≡ [] → ws ≡ []) → Leads h x → Leads h (record x { waiting = ws })
  leads-waiting x ws e i = record { idle = λ f. ((i.idle f).0, e (i.idle f).1); won = i.won; new = i.new; done = i.done }

  pub stands-waiting : (x : Standing) (ws : List Waiting) → (x.waiting ≡ [] → ws ≡ []) → Stands h s x → Stands h s (record x { waiting = ws })
  stands-waiting x ws e i = record { leads = leads-waiting x ws e i.leads; barred = i.barred }

  -- an act that is refused leaves all as it is
  pub refused-stands : (v : View) (act : Act) (r : ActReply) → is_opening act ≡ false → is_taken r ≡ false → standing (moved s v (Acts act (Answered r))) ≡ standing v
  refused-stands v act (Taken sends wins) o e = differs e
  refused-stands v (Bootstrap config) (Refused c) o e = refl
  refused-stands v (StartJoin candidate term) (Refused c) o e = refl
  refused-stands v (TakeJoin join) (Refused c) o e = refl
  refused-stands v (Value version config value) (Refused c) o e = refl
  refused-stands v (Publish request) (Refused c) o e = refl
  refused-stands v (Response response) (Refused c) o e = refl
  refused-stands v (Commit commit) (Refused c) o e = refl
  refused-stands v (Open found) (Refused c) o e = differs o
  refused-stands v (Bootstrap config) Stopped o e = refl
  refused-stands v (StartJoin candidate term) Stopped o e = refl
  refused-stands v (TakeJoin join) Stopped o e = refl
  refused-stands v (Value version config value) Stopped o e = refl
  refused-stands v (Publish request) Stopped o e = refl
  refused-stands v (Response response) Stopped o e = refl
  refused-stands v (Commit commit) Stopped o e = refl
  refused-stands v (Open found) Stopped o e = differs o

  pub stands-refused : (v : View) (act : Act) (r : ActReply) → is_opening act ≡ false → is_taken r ≡ false → Stands h s (standing v) → Stands h s (standing (moved s v (Acts act (Answered r))))
  stands-refused v act r o e i = subst (Stands h s) (sym (refused-stands v act r o e)) i

  pub stands-publish : (v : View) (q : PublishRequest) (r : ActReply) → Backs h v.node (Publish q) r → Stands h s (standing v) → Stands h s (standing (moved s v (Acts (Publish q) (Answered r))))
  stands-publish v q (Taken sends wins) b i =
      record {
        leads = record {
          idle = i.leads.idle;
          won = i.leads.won;
          new = λ l n. absurd ((b refl (i.leads.won l)).not_new (i.leads.new l n));
          done = λ l p e f. absurd ((b refl (i.leads.won l)).not_last (i.leads.done l p e f).last);
        };
        barred = λ l n. absurd ((b refl (i.leads.won l)).not_new (i.leads.new l n));
      }
  stands-publish v q (Refused c) b i = stands-refused v (Publish q) (Refused c) refl refl i
  stands-publish v q Stopped b i = stands-refused v (Publish q) Stopped refl refl i

  -- no commit is taken before the first publication
  not_before : (p : NodeState) {A : Type 0} → TakesCommit h p → IsNewWinner p → A
  not_before p t n = not_both p.accepted.term p.term t.term n.older

  pub stands-commit : (v : View) (c : ApplyCommit) (r : ActReply) → Backs h v.node (Commit c) r → Stands h s (standing v) → Stands h s (standing (moved s v (Acts (Commit c) (Answered r))))
  stands-commit v c (Taken sends wins) b i =
      record {
        leads = record {
          idle = λ e. (ap finished (i.leads.idle e).0, (i.leads.idle e).1);
          won = i.leads.won;
          new = λ l n. not_before v.node (b refl) (i.leads.new l (finished-none v.publication n));
          done = λ l p e f. record { committed = (b refl).committed; last = record { term = (b refl).term; version = (b refl).version (i.leads.won l) }; settled = refl };
        };
        barred = λ l n. not_before v.node (b refl) (i.leads.new l (finished-none v.publication n));
      }
  stands-commit v c (Refused x) b i = stands-refused v (Commit c) (Refused x) refl refl i
  stands-commit v c Stopped b i = stands-refused v (Commit c) Stopped refl refl i

  new_again : (p q : NodeState) → p.accepted ≡ q.accepted → p.term ≡ q.term → p.published_version ≡ q.published_version → IsNewWinner p → IsNewWinner q
  new_again p q a t v n =
      let term : p.accepted.term ≡ q.accepted.term = ap (λ x. x.term) a in
      let version : p.accepted.version ≡ q.accepted.version = ap (λ x. x.version) a in
      record { older = omega (arith, n.older); none = omega (arith, n.none) }

  done_again : (p q : NodeState) → p.accepted ≡ q.accepted → p.term ≡ q.term → p.published_version ≡ q.published_version → p.committed ≡ q.committed → IsDone h p → IsDone h q
  done_again p q a t v c d =
      let term : p.accepted.term ≡ q.accepted.term = ap (λ x. x.term) a in
      let version : p.accepted.version ≡ q.accepted.version = ap (λ x. x.version) a in
      record { committed = subst (HasCommitted h) a d.committed; last = record { term = omega (arith, d.last.term); version = omega (arith, d.last.version) }; settled = sym c ∙ d.settled ∙ ap (λ x. x.config) a }

  pub stands-response : (v : View) (q : PublishResponse) (r : ActReply) → Stands h s (standing v) → Stands h s (standing (moved s v (Acts (Response q) (Answered r))))
  stands-response v q (Taken sends wins) i =
      record {
        leads = record {
          idle = λ e. (ap (λ (o : Option Publication). responded o q.source (is_some sends)) (i.leads.idle e).0, (i.leads.idle e).1);
          won = i.leads.won;
          new = λ l n. new_again v.node _ refl refl refl (i.leads.new l (responded-none v.publication q.source (is_some sends) n));
          done = λ l p e f.
              let w = responded-finished v.publication q.source (is_some sends) p e f in
              done_again v.node _ refl refl refl refl (i.leads.done l w.before w.is w.finished);
        };
        barred = λ l n. i.barred l (responded-none v.publication q.source (is_some sends) n);
      }
  stands-response v q (Refused c) i = stands-refused v (Response q) (Refused c) refl refl i
  stands-response v q Stopped i = stands-refused v (Response q) Stopped refl refl i

  -- a join that does not win
  pub stands-join : (v : View) (j : Join) (r : ActReply) → wins_now r ≡ false → Stands h s (standing v) → Stands h s (standing (moved s v (Acts (TakeJoin j) (Answered r))))
  stands-join v j (Taken sends true) e i = differs e
  stands-join v j (Taken sends false) e i =
      record {
        leads = record {
          idle = i.leads.idle;
          won = i.leads.won;
          new = λ l n. new_again v.node _ refl refl refl (i.leads.new l n);
          done = λ l p q f. done_again v.node _ refl refl refl refl (i.leads.done l p q f);
        };
        barred = i.barred;
      }
  stands-join v j (Refused c) e i = stands-refused v (TakeJoin j) (Refused c) refl refl i
  stands-join v j Stopped e i = stands-refused v (TakeJoin j) Stopped refl refl i

  -- one that wins
  pub won-join : (v : View) (j : Join) (r : ActReply) → wins_now r ≡ true → Backs h v.node (TakeJoin j) r → Stands h s (standing v) → HasWon (standing (moved s v (Acts (TakeJoin j) (Answered r))))
  won-join v j (Taken sends false) e b i = differs (sym e)
  won-join v j (Taken sends true) e b i = from (is_leader v.mode) refl
    where
      from : (t : Bool) → is_leader v.mode ≡ t → HasWon (standing (moved s v (Acts (TakeJoin j) (Answered (Taken sends true)))))
      from true l = absurd (both_ways _ (b refl).not_yet (i.leads.won l))
      from false l = record {
        unpublished = (i.leads.idle l).0;
        empty = (i.leads.idle l).1;
        won = refl;
        new = record { older = (b refl).older; none = refl };
      }
  won-join v j (Refused c) e b i = differs (sym e)
  won-join v j Stopped e b i = differs (sym e)

  -- a publication begins
  pub stands-value : (v : View) (version : ℕ) (config : List Id) (value : ClusterValue) (r : ActReply) → is_taken r ≡ true → is_leader v.mode ≡ true → v.node.election_won ≡ true
      → Stands h s (standing (moved s v (Acts (Value version config value) (Answered r))))
  stands-value v version config value (Taken sends wins) t l won =
      record {
        leads = record {
          idle = λ e. absurd (both_ways _ e l);
          won = λ e. won;
          new = λ e n. is_none _ n;
          done = λ e p q f. absurd (both_ways _ refl (ap was q ∙ f));
        };
        barred = λ e n. is_none _ n;
      }
    where
      was : Option Publication → Bool
      was None = false
      was (Some p) = p.finished
  stands-value v version config value (Refused c) t l won = differs (sym t)
  stands-value v version config value Stopped t l won = differs (sym t)
