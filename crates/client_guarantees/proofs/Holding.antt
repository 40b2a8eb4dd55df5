-- How a node stands between its events: what it published last has what was processed, and what an act makes of that.
use Rattle.std.proofs.Common.{◌≡◌, ℕ, Bool, true, false, true≢false, Option, None, Some, List, [], ◌∷◌, ◌++◌, refl, sym, ◌∙◌, ap, subst}
use Rattle.std.specs.Prelude.{is_some, is_none, if◌then◌else◌}
use Rattle.std.proofs.lemmas.Bool.{both_ways}
use Rattle.std.specs.List.{Contains}
use Rattle.voting_config.specs.Ids.{Id}
use Rattle.cluster_state.specs.States.{id_of}
use Rattle.cluster_state.specs.declared.state.ClusterState.{ClusterState}
use Rattle.cluster_state.specs.declared.state.ClusterValue.{ClusterValue}
use Rattle.cluster_state.specs.declared.state.StateId.{StateId}
use Rattle.cluster_state.specs.declared.messages.Join.{Join}
use Rattle.cluster_state.specs.declared.messages.PublishRequest.{PublishRequest}
use Rattle.cluster_state.specs.declared.messages.PublishResponse.{PublishResponse}
use Rattle.cluster_state.specs.declared.messages.ApplyCommit.{ApplyCommit}
use Rattle.cluster_state.specs.declared.reply.Answer.{Answer}
use Rattle.cluster_state.specs.declared.request.Request.{Request}
use Rattle.publication.specs.Publications.{Publication}
use Rattle.master_tasks.specs.declared.waiting.Waiting.{Waiting}
use Rattle.master_tasks.specs.Answering.{left_by}
use Rattle.world_model.specs.declared.acts.Act.{Act}
use Rattle.world_model.specs.declared.acts.ActReply.{ActReply}
use Rattle.world_model.specs.declared.acts.Act.TheVariants.{TakeJoin, Value, Publish, Response, Commit}
use Rattle.world_model.specs.declared.acts.Outcome.TheVariants.{Answered}
use Rattle.world_model.specs.declared.acts.ActReply.TheVariants.{Taken, Refused, Stopped}
use Rattle.world_model.specs.Replies.{is_taken}
use Rattle.world_model.specs.Moves.{is_opening}
use Rattle.world_model.specs.Histories.{History}
use Rattle.world_model.specs.Safety.{Published, published}
use Rattle.policy_model.specs.declared.settings.Settings.{Settings}
use Rattle.policy_model.specs.Events.{Acts}
use Rattle.policy_model.specs.Parts.{published_id, responded, finished}
use Rattle.policy_model.specs.Views.{View}
use Rattle.policy_model.specs.Moves.{moved}
use Rattle.policy_model.specs.Doing.{is_leader}
use Rattle.policy_model.specs.Joins.{wins_now}
use Rattle.client_guarantees.specs.Asked.{MeetsEach}
use Rattle.client_guarantees.proofs.Steady.{Standing}
use Rattle.client_guarantees.proofs.Leading.{IsIdle, Stands, IsReady, stands-idle, ready-stands, stands-waiting, refused-stands, stands-publish, stands-commit, stands-response, stands-join, stands-value}
use Rattle.client_guarantees.proofs.Folding.{Each, each-map, IsAmong, Of}
use Rattle.client_guarantees.proofs.Backing.{Backs}
use Rattle.client_guarantees.proofs.Telling.{Basis, IsNewFor, Place, place}

-- The state that a node published last is published, and has what was processed since some moment, unless a later request may have undone it. The requests that wait and are processed were processed since, and the
-- state is new for them.
pub record IsMade (h : History) (s : Settings) (P : Basis) (x : Place) : Type 0 where
  pub as_published : Published
  pub is_in : Contains (published h) as_published
  pub is_id : id_of as_published.state ≡ published_id x.stands.node
  pub older : List Waiting
  pub done : List Waiting
  pub processed : x.processed ≡ older ++ done
  pub had : MeetsEach as_published.state.value done
  pub among : Each (λ w. w.processed ≡ true → IsAmong done w) x.stands.waiting
  pub new : Each (λ w. w.processed ≡ true → IsNewFor s P (published_id x.stands.node) w) x.stands.waiting

abbrev pub WhereMade : History → Settings → Basis → Place → Type 0
WhereMade h s P x = is_leader x.stands.mode ≡ true → is_some x.stands.publication ≡ true → IsMade h s P x

-- between events: who waits came, too
pub record Holds (h : History) (s : Settings) (P : Basis) (x : Place) : Type 0 where
  pub stands : Stands h s x.stands
  pub made : WhereMade h s P x
  pub came : Each (Of P.came) x.stands.waiting

-- before a leader goes on
pub record IsReadyToGo (h : History) (s : Settings) (P : Basis) (x : Place) : Type 0 where
  pub ready : IsReady h s x.stands
  pub made : WhereMade h s P x
  pub came : Each (Of P.came) x.stands.waiting

-- requests that are left
pub each-if : (P : Waiting → Type 0) (b : Bool) (xs ys : List Waiting) → Each P xs → Each P ys → Each P (if b then xs else ys)
each-if P true xs ys e f = e
each-if P false xs ys e f = f

pub each-left : (P : Waiting → Type 0) (decide : Waiting → Option Answer) (ws : List Waiting) → Each P ws → Each P (left_by decide ws)
each-left P decide [] e = tt
each-left P decide (w ∷ ws) e = each-if P (is_none (decide w)) (w ∷ left_by decide ws) (left_by decide ws) (e.0, each-left P decide ws e.1) (each-left P decide ws e.1)

some_responded : (o : Option Publication) (source : Id) (commits : Bool) → is_some (responded o source commits) ≡ true → is_some o ≡ true
some_responded None source commits e = e
some_responded (Some p) source commits e = refl

some_finished : (o : Option Publication) → is_some (finished o) ≡ true → is_some o ≡ true
some_finished None e = e
some_finished (Some p) e = refl

none_is : (o : Option Publication) {A : Type 0} → o ≡ None → is_some o ≡ true → A
none_is o n e = absurd (true≢false (sym e ∙ ap is_some n))

module _ (h : History) (s : Settings) (P : Basis) where
  pub holds-idle : (x : Place) → is_leader x.stands.mode ≡ false → x.stands.publication ≡ None → x.stands.waiting ≡ [] → Holds h s P x
  holds-idle x e p w = record { stands = stands-idle h s x.stands e p w; made = λ l. absurd (both_ways _ e l); came = subst (Each (Of P.came)) (sym w) tt }

  pub idle-holds : (x : Place) → is_leader x.stands.mode ≡ false → IsIdle x.stands → Holds h s P x
  idle-holds x e i = holds-idle x e (i e).0 (i e).1

  pub ready-holds : (x : Place) → Holds h s P x → IsReadyToGo h s P x
  ready-holds x i = record { ready = ready-stands h s x.stands i.stands; made = i.made; came = i.came }

  -- where more came
  pub holds-more : (R : Basis) → ((conn : ℕ) (r : Request) → R.came conn r → P.came conn r) → ((w : Waiting) (id : StateId) → R.anew w id → P.anew w id) → (x : Place) → Holds h s R x → Holds h s P x
  holds-more R f n x i = record {
    stands = i.stands;
    made = λ l p.
        let m = i.made l p in
        record {
          as_published = m.as_published;
          is_in = m.is_in;
          is_id = m.is_id;
          older = m.older;
          done = m.done;
          processed = m.processed;
          had = m.had;
          among = m.among;
          new = each-map (λ w. w.processed ≡ true → IsNewFor s R (published_id x.stands.node) w) (λ w. w.processed ≡ true → IsNewFor s P (published_id x.stands.node) w) (λ w k t y. n w (published_id x.stands.node) (k t y)) x.stands.waiting m.new;
        };
    came = each-map (Of R.came) (Of P.came) (λ w q. f w.conn w.request q) x.stands.waiting i.came;
  }

  -- what the claim of the last published state rests on
  pub made-again : (x y : Place) → published_id y.stands.node ≡ published_id x.stands.node → y.processed ≡ x.processed
      → ((R : Waiting → Type 0) → Each R x.stands.waiting → Each R y.stands.waiting) → IsMade h s P x → IsMade h s P y
  made-again x y n g w m = record {
    as_published = m.as_published;
    is_in = m.is_in;
    is_id = m.is_id ∙ sym n;
    older = m.older;
    done = m.done;
    processed = g ∙ m.processed;
    had = m.had;
    among = w (λ v. v.processed ≡ true → IsAmong m.done v) m.among;
    new = w (λ v. v.processed ≡ true → IsNewFor s P (published_id y.stands.node) v) (subst (λ (id : StateId). Each (λ v. v.processed ≡ true → IsNewFor s P id v) x.stands.waiting) (sym n) m.new);
  }

  pub holds-waiting : (x : Place) (ws : List Waiting) → (x.stands.waiting ≡ [] → ws ≡ []) → ((R : Waiting → Type 0) → Each R x.stands.waiting → Each R ws)
      → Holds h s P x → Holds h s P (record { stands = record x.stands { waiting = ws }; processed = x.processed })
  holds-waiting x ws e w i = record {
    stands = stands-waiting h s x.stands ws e i.stands;
    made = λ l p. made-again x (record { stands = record x.stands { waiting = ws }; processed = x.processed }) refl refl w (i.made l p);
    came = w (Of P.came) i.came;
  }

  pub holds-refused : (v : View) (g : List Waiting) (act : Act) (r : ActReply) → is_opening act ≡ false → is_taken r ≡ false → Holds h s P (place v g) → Holds h s P (place (moved s v (Acts act (Answered r))) g)
  holds-refused v g act r o e i = subst (λ (x : Standing). Holds h s P (record { stands = x; processed = g })) (sym (refused-stands h s v act r o e)) i

  pub holds-publish : (v : View) (g : List Waiting) (q : PublishRequest) (r : ActReply) → Backs h v.node (Publish q) r → Holds h s P (place v g) → Holds h s P (place (moved s v (Acts (Publish q) (Answered r))) g)
  holds-publish v g q (Taken sends wins) b i =
      record { stands = stands-publish h s v q (Taken sends wins) b i.stands; made = λ l p. made-again (place v g) _ refl refl (λ R e. e) (i.made l p); came = i.came }
  holds-publish v g q (Refused c) b i = holds-refused v g (Publish q) (Refused c) refl refl i
  holds-publish v g q Stopped b i = holds-refused v g (Publish q) Stopped refl refl i

  pub holds-commit : (v : View) (g : List Waiting) (c : ApplyCommit) (r : ActReply) → Backs h v.node (Commit c) r → Holds h s P (place v g) → Holds h s P (place (moved s v (Acts (Commit c) (Answered r))) g)
  holds-commit v g c (Taken sends wins) b i =
      record { stands = stands-commit h s v c (Taken sends wins) b i.stands; made = λ l p. made-again (place v g) _ refl refl (λ R e. e) (i.made l (some_finished v.publication p)); came = i.came }
  holds-commit v g c (Refused x) b i = holds-refused v g (Commit c) (Refused x) refl refl i
  holds-commit v g c Stopped b i = holds-refused v g (Commit c) Stopped refl refl i

  pub holds-response : (v : View) (g : List Waiting) (q : PublishResponse) (r : ActReply) → Holds h s P (place v g) → Holds h s P (place (moved s v (Acts (Response q) (Answered r))) g)
  holds-response v g q (Taken sends wins) i =
      record { stands = stands-response h s v q (Taken sends wins) i.stands; made = λ l p. made-again (place v g) _ refl refl (λ R e. e) (i.made l (some_responded v.publication q.source (is_some sends) p)); came = i.came }
  holds-response v g q (Refused c) i = holds-refused v g (Response q) (Refused c) refl refl i
  holds-response v g q Stopped i = holds-refused v g (Response q) Stopped refl refl i

  -- a join that does not win
  pub holds-join : (v : View) (g : List Waiting) (j : Join) (r : ActReply) → wins_now r ≡ false → Holds h s P (place v g) → Holds h s P (place (moved s v (Acts (TakeJoin j) (Answered r))) g)
  holds-join v g j (Taken sends true) e i = absurd (true≢false e)
  holds-join v g j (Taken sends false) e i =
      record { stands = stands-join h s v j (Taken sends false) e i.stands; made = λ l p. made-again (place v g) _ refl refl (λ R k. k) (i.made l p); came = i.came }
  holds-join v g j (Refused c) e i = holds-refused v g (TakeJoin j) (Refused c) refl refl i
  holds-join v g j Stopped e i = holds-refused v g (TakeJoin j) Stopped refl refl i

  -- a publication begins, of a value that has what was processed
  pub holds-value : (v : View) (g older done : List Waiting) (version : ℕ) (config : List Id) (value : ClusterValue) (r : ActReply) → is_taken r ≡ true → is_leader v.mode ≡ true → v.node.election_won ≡ true
      → Backs h v.node (Value version config value) r → Each (λ w. w.processed ≡ true → IsNewFor s P (record { term = v.node.term; version = version }) w) v.tasks.waiting
      → g ≡ older ++ done → MeetsEach value done → Each (λ w. w.processed ≡ true → IsAmong done w) v.tasks.waiting → Each (Of P.came) v.tasks.waiting
      → Holds h s P (place (moved s v (Acts (Value version config value) (Answered r))) g)
  holds-value v g older done version config value (Taken sends wins) t l won b n e a w c =
      let p = b refl in
      record {
        stands = stands-value h s v version config value (Taken sends wins) t l won;
        made = λ m q. record {
          as_published = p.as_published;
          is_in = p.is_in;
          is_id = ap id_of p.is_state;
          older = older;
          done = done;
          processed = e;
          had = subst (λ (x : ClusterState). MeetsEach x.value done) (sym p.is_state) a;
          among = w;
          new = n;
        };
        came = c;
      }
  holds-value v g older done version config value (Refused x) t l won b n e a w c = absurd (true≢false (sym t))
  holds-value v g older done version config value Stopped t l won b n e a w c = absurd (true≢false (sym t))
