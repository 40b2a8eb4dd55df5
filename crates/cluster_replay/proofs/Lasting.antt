-- Each published state was made by a run, and so what is acknowledged lasts.
use Rattle.std.proofs.Common.{◌≡◌, ◌≢◌, ℕ, Bool, true, false, true≢false, cond, Option, None, Some, List, [], ◌∷◌, refl, sym, ◌∙◌, ap, subst, ◌⊎◌, inl, inr}
use Rattle.std.specs.List.{Contains}
use Rattle.std.proofs.lemmas.Bool.{and_parts}
use Rattle.voting_config.specs.Ids.{Id, has, same}
use Rattle.voting_config.proofs.Sets.{same_is}
use Rattle.cluster_state.specs.declared.state.ClusterValue.{ClusterValue}
use Rattle.cluster_state.specs.declared.state.Kept.{Kept}
use Rattle.master_tasks.specs.NextState.{next_value}
use Rattle.world_model.specs.declared.acts.Act.{Act}
use Rattle.world_model.specs.declared.acts.Act.TheVariants.{Value, Open}
use Rattle.world_model.specs.declared.acts.Message.TheVariants.{Publish as PublishMessage}
use Rattle.world_model.specs.declared.acts.ActReply.TheVariants.{Taken}
use Rattle.world_model.specs.declared.acts.Outcome.{Outcome}
use Rattle.world_model.specs.declared.acts.Outcome.TheVariants.{Answered}
use Rattle.world_model.specs.Acts.{NodeHistory, NoActs, Then}
use Rattle.world_model.specs.NodeState.{NodeState, accepted_of, durable_of}
use Rattle.world_model.specs.Replies.{IsOutcome}
use Rattle.world_model.specs.Histories.{History, node_history, IsLegal, IsPrefix, NoEntries, Next}
use Rattle.world_model.specs.Local.{then_run, OpensWith}
use Rattle.world_model.specs.Safety.{Published, published, published_by}
use Rattle.world_model.proofs.Legal.{listed, one_of, none_of, act_begins}
use Rattle.world_model.proofs.Moments.{Begins as IsBeginning, begins_trans}
use Rattle.world_model.proofs.System.{origin}
use Rattle.policy_model.specs.declared.settings.Settings.{Settings}
use Rattle.policy_model.specs.declared.events.Event.{Event}
use Rattle.policy_model.specs.Events.{Met, Heard, PeersAsked, ElectionOff, ElectionSet, RoundBegun, RoundAnswered, RoundEnded, Joined, FollowersChecked, FollowerAnswered, LeaderChecked, LeaderAnswered, Queued, ExclusionsTimedOut, CommitAcked, AppliedAnswered, StateMade, HandedOver, PeerLost, LeaderLost, Item, Opens, Begins, Acts, ChangesMode, Drops, Sends, Replies, Notes, Log, And, added, acts_of}
use Rattle.policy_model.specs.Entries.{Life, NotBegun, Opened, Lived, Did, Gone, Bad, NoMemory, Unread, log_of}
use Rattle.policy_model.specs.Follows.{Follows, items_of}
use Rattle.policy_model.specs.LookBacks.{node_of, tasks_of, master_of}
use Rattle.policy_model.specs.Moves.{moved, is_own, are_own, view_of-And}
use Rattle.policy_model.specs.Views.{View, view_of, master_now}
use Rattle.policy_model.proofs.Answering.{answered-next}
use Rattle.policy_model.proofs.Standing.{own-answered}
use Rattle.client_guarantees.specs.Lasting.{IsPartOf}
use Rattle.client_guarantees.specs.Processed.{processed_into_next}
use Rattle.client_guarantees.proofs.Lasting.{part-self, part-added, WasMade, legal_descends, settings_last, ack_lasts}
use Rattle.client_guarantees.proofs.Making.{IsMadeOf, IsMadeItem, made_by, AreMade, made-next}
use Rattle.client_guarantees.proofs.Running.{begins-run, node-within}
use Rattle.world_model.specs.Restarts.{IsLegalFrom}
use Rattle.system_laws.specs.RestartedSystems.{IsSystemFrom}
use Rattle.system_laws.specs.Messages.{comes_with}
use Rattle.system_laws.specs.Systems.{System, Nothing, Starts, Lives, Dies, Runs, run_of, history_of, then_acts, IsDoneOf, Killed, InAct, Also, Unsent, Unanswered, IsSystem}
use Rattle.system_laws.proofs.Assembly.{lives_assemble, lives_assemble_from, restarted_lost}
use Rattle.system_laws.proofs.Done.{event-meant, event-done, done-own}
use Rattle.system_laws.proofs.RunsKept.{AreGoing, going, going-from, own-acts, opens-added, IsNow, is-now, runs-now}
use Rattle.system_laws.proofs.Stepping.{others-stay}
use Rattle.schedule_text.specs.declared.schedule.Schedule.{Schedule}
use Rattle.replay_node.specs.Clusters.{settings_of, replayed_history, replayed_life}
use Rattle.cluster_replay.specs.Laws.{IsWellFormed}
use Rattle.cluster_replay.specs.Lasting.{IsSeenIn, HadSeen, HadSeenIn, LawClusterAcksLast, LawClusterSettingsLast, LawSystemSettingsLast, LawSystemAcksLast, LawRestartedSettingsLast, LawRestartedAcksLast}
use Rattle.cluster_replay.proofs.Outside.{idle-outside}
use Rattle.cluster_replay.proofs.Schedules.{cluster_replay_is_legal, lives_follow}

-- ---- where a value was made

-- a value that a node took after these acts was made at this moment of the log
record WasMadeIn (s : Settings) (log : Log) (g : NodeHistory) (value : ClusterValue) : Type 0 where
  moment : Log
  part : IsPartOf moment log
  acts : acts_of moment ≡ g
  is : value ≡ next_value (master_of s moment) (tasks_of s moment)

grown : (s : Settings) (l : Log) (is : List Item) (g : NodeHistory) (value : ClusterValue) → WasMadeIn s l g value → WasMadeIn s (added l is) g value
grown s l is g value m = record { moment = m.moment; part = part-added m.moment l is m.part; acts = m.acts; is = m.is }

-- the note that a state is made is the last item, and the node then was so
record IsNoted (s : Settings) (l : Log) (v : View) : Type 0 where
  before : Log
  is : l ≡ And before (Notes StateMade)
  view : v ≡ view_of s before

abbrev IsLast : Settings → Log → Option View → Type 0
IsLast s l None = Unit {0}
IsLast s l (Some v) = IsNoted s l v

last_after : (s : Settings) (l : Log) (v : View) (i : Item) → v ≡ view_of s l → IsLast s (And l i) (made_by v i)
last_after s l v (Opens found) e = tt
last_after s l v (Begins event) e = tt
last_after s l v (Acts act u) e = tt
last_after s l v (ChangesMode mode term) e = tt
last_after s l v (Drops member cause) e = tt
last_after s l v (Sends frame) e = tt
last_after s l v (Replies answer) e = tt
last_after s l v (Notes StateMade) e = record { before = l; is = refl; view = e }
last_after s l v (Notes (Met ids)) e = tt
last_after s l v (Notes (Heard peer master)) e = tt
last_after s l v (Notes PeersAsked) e = tt
last_after s l v (Notes ElectionOff) e = tt
last_after s l v (Notes (ElectionSet word)) e = tt
last_after s l v (Notes (RoundBegun word)) e = tt
last_after s l v (Notes (RoundAnswered source term last)) e = tt
last_after s l v (Notes RoundEnded) e = tt
last_after s l v (Notes (Joined ids)) e = tt
last_after s l v (Notes FollowersChecked) e = tt
last_after s l v (Notes (FollowerAnswered from good applied)) e = tt
last_after s l v (Notes LeaderChecked) e = tt
last_after s l v (Notes (LeaderAnswered good)) e = tt
last_after s l v (Notes (Queued conn request)) e = tt
last_after s l v (Notes ExclusionsTimedOut) e = tt
last_after s l v (Notes CommitAcked) e = tt
last_after s l v (Notes AppliedAnswered) e = tt
last_after s l v (Notes HandedOver) e = tt
last_after s l v (Notes (PeerLost id)) e = tt
last_after s l v (Notes LeaderLost) e = tt

here : (s : Settings) (l : Log) (made : Option View) (act : Act) (u : Outcome) (g : NodeHistory) (version : ℕ) (config : List Id) (value : ClusterValue) (o : Outcome)
    → IsLast s l made → IsMadeOf s made act → Then g (Value version config value) o ≡ Then (acts_of l) act u → WasMadeIn s (And l (Acts act u)) g value
here s l None act u g version config value o last of e =
    let same : act ≡ Value version config value = cc in
    absurd (subst (IsMadeOf s None) same of)
here s l (Some v) act u g version config value o last of e =
    let same : act ≡ Value version config value = cc in
    let acts : g ≡ acts_of l = cc in
    let made : value ≡ next_value (master_now s v) v.tasks = subst (IsMadeOf s (Some v)) same of in
    record {
      moment = last.before;
      part = inr (subst (IsPartOf last.before) (sym last.is) (inr (part-self last.before)));
      acts = sym (acts ∙ ap acts_of last.is);
      is = subst (λ (x : View). value ≡ next_value (master_now s x) x.tasks) last.view made;
    }

-- one item more
within : (s : Settings) (l : Log) (made : Option View) (i : Item) (is : List Item) (g : NodeHistory) (version : ℕ) (config : List Id) (value : ClusterValue) (o : Outcome)
    → is_own i ≡ true → IsLast s l made → IsMadeItem s made i → IsBeginning (Then g (Value version config value) o) (acts_of (And l i))
    → IsBeginning (Then g (Value version config value) o) (acts_of l) ⊎ WasMadeIn s (added (And l i) is) g value
within s l made (Opens found) is g version config value o own last of b = absurd (true≢false (sym own))
within s l made (Acts act u) is g version config value o own last of (inl e) = inr (grown s (And l (Acts act u)) is g value (here s l made act u g version config value o last of e))
within s l made (Acts act u) is g version config value o own last of (inr b) = inl b
within s l made (Begins event) is g version config value o own last of b = inl b
within s l made (ChangesMode mode term) is g version config value o own last of b = inl b
within s l made (Drops member cause) is g version config value o own last of b = inl b
within s l made (Sends frame) is g version config value o own last of b = inl b
within s l made (Replies answer) is g version config value o own last of b = inl b
within s l made (Notes note) is g version config value o own last of b = inl b

-- what was done of some items
walk : (s : Settings) (l : Log) (made : Option View) (v : View) (is done : List Item) → v ≡ view_of s l → IsLast s l made → are_own is ≡ true → AreMade s made v is → IsDoneOf is done
    → (g : NodeHistory) (version : ℕ) (config : List Id) (value : ClusterValue) (o : Outcome) → IsBeginning (Then g (Value version config value) o) (acts_of (added l done))
    → IsBeginning (Then g (Value version config value) o) (acts_of l) ⊎ WasMadeIn s (added l done) g value
walk s l made v is done e last own a (Killed is') g version config value o b = inl b
walk s l made v is done e last own a (InAct act sends wins rest fault w f) g version config value o (inl same) = inr (here s l made act fault g version config value o last a.0 same)
walk s l made v is done e last own a (InAct act sends wins rest fault w f) g version config value o (inr b) = inl b
walk s l made v is done e last own a (Also i rest some d) g version config value o b =
    let parts = and_parts (is_own i) (are_own rest) own in
    from parts.0 (walk s (And l i) (made_by v i) (moved s v i) rest some (ap (λ (x : View). moved s x i) e ∙ sym (view_of-And s l i parts.0)) (last_after s l v i e) parts.1 a.1 d g version config value o b)
  where
    from : is_own i ≡ true → IsBeginning (Then g (Value version config value) o) (acts_of (And l i)) ⊎ WasMadeIn s (added (And l i) some) g value
        → IsBeginning (Then g (Value version config value) o) (acts_of l) ⊎ WasMadeIn s (added l (i ∷ some)) g value
    from p (inl c) = within s l made i some g version config value o p last a.0 c
    from p (inr m) = inr m
walk s l made v is done e last own a (Unsent frame rest some d) g version config value o b = walk s l None v rest some e tt own a.1 d g version config value o b
walk s l made v is done e last own a (Unanswered answer rest some d) g version config value o b = walk s l None v rest some e tt own a.1 d g version config value o b

-- what was done of an event
event-made : (s : Settings) (life : Life) (e : Event) (done : List Item) → IsDoneOf (items_of s (log_of life) e) done
    → (g : NodeHistory) (version : ℕ) (config : List Id) (value : ClusterValue) (o : Outcome) → IsBeginning (Then g (Value version config value) o) (acts_of (added (And (log_of life) (Begins e)) done))
    → IsBeginning (Then g (Value version config value) o) (acts_of (log_of life)) ⊎ WasMadeIn s (added (And (log_of life) (Begins e)) done) g value
event-made s life e done d =
    let v = view_of s (And (log_of life) (Begins e)) in
    walk s (And (log_of life) (Begins e)) None v (items_of s (log_of life) e) done refl tt (own-answered s v (items_of s (log_of life) e) (answered-next s v e)) (made-next s v e) d

-- ---- a life

life-made : (s : Settings) (life : Life) → Follows s life → (g : NodeHistory) (version : ℕ) (config : List Id) (value : ClusterValue) (o : Outcome)
    → IsBeginning (Then g (Value version config value) o) (acts_of (log_of life)) → WasMadeIn s (log_of life) g value
life-made s NotBegun f g version config value o b = absurd (let none : Then g (Value version config value) o ≡ NoActs = b in cc)
life-made s (Opened life found) f g version config value o (inl e) = absurd (cc)
life-made s (Opened life found) f g version config value o (inr b) = grown s (log_of life) (Opens found ∷ []) g value (life-made s life f.0 g version config value o b)
life-made s (Lived life (Did e is)) f g version config value o b =
    from (life-made s life f.0 g version config value o) (event-made s life e is (event-done s life e is f.1) g version config value o b)
  where
    from : (IsBeginning (Then g (Value version config value) o) (acts_of (log_of life)) → WasMadeIn s (log_of life) g value)
        → IsBeginning (Then g (Value version config value) o) (acts_of (log_of life)) ⊎ WasMadeIn s (added (And (log_of life) (Begins e)) is) g value → WasMadeIn s (added (And (log_of life) (Begins e)) is) g value
    from before (inl c) = grown s (log_of life) (Begins e ∷ is) g value (before c)
    from before (inr m) = m
life-made s (Lived life (Gone conn)) f g version config value o b = life-made s life f.0 g version config value o b
life-made s (Lived life (Bad conn fault)) f g version config value o b = life-made s life f.0 g version config value o b
life-made s (Lived life NoMemory) f g version config value o b = life-made s life f.0 g version config value o b
life-made s (Lived life (Unread conn)) f g version config value o b = life-made s life f.0 g version config value o b

-- ---- a published state

record IsPublishedBy (g : NodeHistory) (p : Published) : Type 0 where
  before : NodeHistory
  version : ℕ
  config : List Id
  outcome : Outcome
  begins : IsBeginning (Then before (Value version config p.state.value) outcome) g
  parent : p.parent ≡ accepted_of before

published_so : (before : History) (n : Id) (a : Act) (o : Outcome) (g : Id → NodeHistory) (p : Published) → IsOutcome n (node_history before n) a o → IsBeginning (Then (node_history before n) a o) (g n)
    → Contains (published_by before n o) p → IsPublishedBy (g p.publisher) p
published_so before n a (Answered (Taken (Some (PublishMessage r)) w)) g p f b c =
    subst (λ (x : Published). IsPublishedBy (g x.publisher) x) (one_of _ p c) (record {
      before = node_history before n;
      version = r.state.version;
      config = r.state.config;
      outcome = Answered (Taken (Some (PublishMessage r)) w);
      begins = subst (λ (x : Act). IsBeginning (Then (node_history before n) x (Answered (Taken (Some (PublishMessage r)) w))) (g n)) (origin n (node_history before n) a (PublishMessage r) w f).act_is b;
      parent = refl;
    })
published_so before n a o g p f b c = none_of p c

-- each act of a history is what its node may do
abbrev AreAnswered : History → Type 0
AreAnswered h = (before : History) (n : Id) (a : Act) (o : Outcome) → IsPrefix (Next before n a o) h → IsOutcome n (node_history before n) a o

answered : (initial : List Id) (h : History) → IsLegal initial h → AreAnswered h
answered initial NoEntries l before n a o i = absurd (let none : Next before n a o ≡ NoEntries = i in cc)
answered initial (Next h m b u) l before n a o (inl e) =
    let same_history : before ≡ h = cc in
    let same_node : n ≡ m = cc in
    let same_act : a ≡ b = cc in
    let same_end : o ≡ u = cc in
    subst (λ (g : History). IsOutcome n (node_history g n) a o) (sym same_history)
    (subst (λ (x : Id). IsOutcome x (node_history h x) a o) (sym same_node)
    (subst (λ (x : Act). IsOutcome m (node_history h m) x o) (sym same_act) (subst (λ (x : Outcome). IsOutcome m (node_history h m) b x) (sym same_end) l.1.follows.follows)))
answered initial (Next h m b u) l before n a o (inr i) = answered initial h l.0 before n a o i

answered_from : (first : Id) (kept : Kept) (h : History) → IsLegalFrom first kept h → AreAnswered h
answered_from first kept NoEntries l before n a o i = absurd (let none : Next before n a o ≡ NoEntries = i in cc)
answered_from first kept (Next h m b u) l before n a o (inl e) =
    let same_history : before ≡ h = cc in
    let same_node : n ≡ m = cc in
    let same_act : a ≡ b = cc in
    let same_end : o ≡ u = cc in
    subst (λ (g : History). IsOutcome n (node_history g n) a o) (sym same_history)
    (subst (λ (x : Id). IsOutcome x (node_history h x) a o) (sym same_node)
    (subst (λ (x : Act). IsOutcome m (node_history h m) x o) (sym same_act) (subst (λ (x : Outcome). IsOutcome m (node_history h m) b x) (sym same_end) l.1.follows.follows)))
answered_from first kept (Next h m b u) l before n a o (inr i) = answered_from first kept h l.0 before n a o i

published_at : (h : History) → AreAnswered h → (p : Published) → Contains (published h) p → IsPublishedBy (node_history h p.publisher) p
published_at h answers p c =
    let at = listed published (λ q n a o. published_by q n o) refl (λ q n a o. refl) h p c in
    published_so at.before at.node at.act at.outcome (node_history h) p (answers at.before at.node at.act at.outcome at.is_in) (act_begins at.before h at.node at.act at.outcome at.is_in) at.adds

-- ---- the nodes of a schedule

schedule-made : (schedule : Schedule) → IsWellFormed schedule → (p : Published) → Contains (published (replayed_history schedule)) p → WasMade (HadSeenIn schedule) (replayed_history schedule) p
schedule-made schedule is p c = from (has p.publisher schedule.nodes) refl
  where
    at : IsPublishedBy (node_history (replayed_history schedule) p.publisher) p
    at = published_at (replayed_history schedule) (answered schedule.initial (replayed_history schedule) (cluster_replay_is_legal schedule is)) p c

    from : (b : Bool) → has p.publisher schedule.nodes ≡ b → WasMade (HadSeenIn schedule) (replayed_history schedule) p
    from true listed =
        let s : Settings = settings_of schedule.nodes schedule.initial schedule.voting_only schedule.second p.publisher in
        let life = lives_follow schedule is p.publisher listed in
        let w : WasMadeIn (settings_of schedule.nodes schedule.initial schedule.voting_only schedule.second p.publisher) (log_of (replayed_life schedule p.publisher)) at.before p.state.value =
        life-made s (replayed_life schedule p.publisher) life.follows at.before at.version at.config p.state.value at.outcome
        (subst (IsBeginning (Then at.before (Value at.version at.config p.state.value) at.outcome)) life.acts at.begins) in
        record {
          settings = s;
          moment = w.moment;
          requests = processed_into_next (master_of s w.moment) (tasks_of s w.moment);
          seen = record { node = p.publisher; is_node = listed; settings = refl; part = w.part };
          made = record { publisher = refl; parent = at.parent ∙ ap accepted_of (sym w.acts); value = w.is; processed = refl };
        }
    from false outside =
        absurd (let none : Then at.before (Value at.version at.config p.state.value) at.outcome ≡ NoActs = subst (IsBeginning (Then at.before (Value at.version at.config p.state.value) at.outcome)) (idle-outside schedule is p.publisher outside) at.begins in cc)

pub cluster_settings_last : LawClusterSettingsLast
cluster_settings_last schedule is = settings_last (HadSeenIn schedule) (replayed_history schedule) (legal_descends schedule.initial (replayed_history schedule) (cluster_replay_is_legal schedule is)) (schedule-made schedule is)

pub cluster_acks_last : LawClusterAcksLast
cluster_acks_last schedule is = ack_lasts (HadSeenIn schedule) (replayed_history schedule) (legal_descends schedule.initial (replayed_history schedule) (cluster_replay_is_legal schedule is)) (schedule-made schedule is)

-- ---- the runs of a system

-- it was made by a run of the system
record WasMadeBy (h : System) (n : Id) (g : NodeHistory) (value : ClusterValue) : Type 0 where
  settings : Settings
  moment : Log
  me : settings.me ≡ n
  seen : HadSeen h settings moment
  accepted : accepted_of g ≡ (node_of moment).accepted
  is : value ≡ next_value (master_of settings moment) (tasks_of settings moment)

-- an act after some others is one of these, or one of the run
data IsSplit (g before r : NodeHistory) (a : Act) (o : Outcome) : Type 0 where
  Earlier : IsBeginning (Then g a o) before → IsSplit g before r a o
  InRun : (inner : NodeHistory) → g ≡ then_run before inner → IsBeginning (Then inner a o) r → IsSplit g before r a o

split-run : (g before r : NodeHistory) (a : Act) (o : Outcome) → IsBeginning (Then g a o) (then_run before r) → IsSplit g before r a o
split-run g before NoActs a o b = Earlier b
split-run g before (Then r c u) a o (inl e) =
    let acts : g ≡ then_run before r = cc in
    let same : a ≡ c = cc in
    let ends : o ≡ u = cc in
    InRun r acts (inl (λ i. Then r (same i) (ends i)))
split-run g before (Then r c u) a o (inr b) = from (split-run g before r a o b)
  where
    from : IsSplit g before r a o → IsSplit g before (Then r c u) a o
    from (Earlier k) = Earlier k
    from (InRun inner e k) = InRun inner e (inr k)

module _ (initial : List Id) where
  -- an event of a run, or a part of one
  run-made : (h : System) → AreGoing h → (m : Id) (e : Event) (done : List Item) (s : Settings) (life : Life) → run_of h m ≡ Runs s life → IsDoneOf (items_of s (log_of life) e) done
      → (g : NodeHistory) (version : ℕ) (config : List Id) (value : ClusterValue) (o : Outcome) → IsBeginning (Then g (Value version config value) o) (node_history (then_acts (history_of h) m done) m)
      → (later : System) → ((t : Settings) (l : Log) → IsSeenIn h m e done t l ⊎ HadSeen h t l → HadSeen later t l)
      → (IsBeginning (Then g (Value version config value) o) (node_history (history_of h) m) → WasMadeBy h m g value) → WasMadeBy later m g value
  run-made h l m e done s life runs d g version config value o b later seen rest =
      by (split-run g now.before (acts_of (added (And (log_of life) (Begins e)) done)) (Value version config value) o (subst (IsBeginning (Then g (Value version config value) o)) acts b))
    where
      now : IsNow (node_history (history_of h) m) m s life
      now = is-now (history_of h) m (run_of h m) s life runs (runs-now initial h l m)

      acts : node_history (then_acts (history_of h) m done) m ≡ then_run now.before (acts_of (added (And (log_of life) (Begins e)) done))
      acts = own-acts (history_of h) m now.before (And (log_of life) (Begins e)) done (done-own s (comes_with e) [] _ _ done (event-meant s life e) d) now.acts

      opens : now.before ≢ NoActs → OpensWith (durable_of now.before) (acts_of (added (And (log_of life) (Begins e)) done))
      opens some = opens-added (durable_of now.before) (And (log_of life) (Begins e)) done (now.opens some)

      before : IsBeginning (Then g (Value version config value) o) now.before → WasMadeBy later m g value
      before k =
          let w = rest (subst (IsBeginning (Then g (Value version config value) o)) (sym now.acts) (begins_trans (Then g (Value version config value) o) now.before (then_run now.before (acts_of (log_of life))) k (begins-run now.before (acts_of (log_of life))))) in
          record { settings = w.settings; moment = w.moment; me = w.me; seen = seen w.settings w.moment (inr w.seen); accepted = w.accepted; is = w.is }

      in_run : (inner : NodeHistory) → g ≡ then_run now.before inner → IsBeginning (Then inner (Value version config value) o) (acts_of (added (And (log_of life) (Begins e)) done))
          → WasMadeIn s (added (And (log_of life) (Begins e)) done) inner value → WasMadeBy later m g value
      in_run inner is_split k w = record {
        settings = s;
        moment = w.moment;
        me = now.me;
        seen = seen s w.moment (inl (record { life = life; runs = runs; part = w.part }));
        accepted =
            ap accepted_of is_split
            ∙ ap (λ (p : NodeState). p.accepted) (node-within now.before (acts_of (added (And (log_of life) (Begins e)) done)) inner (Value version config value) o opens refl k)
            ∙ ap accepted_of (sym w.acts);
        is = w.is;
      }

      by_event : (inner : NodeHistory) → g ≡ then_run now.before inner → IsBeginning (Then inner (Value version config value) o) (acts_of (added (And (log_of life) (Begins e)) done))
          → IsBeginning (Then inner (Value version config value) o) (acts_of (log_of life)) ⊎ WasMadeIn s (added (And (log_of life) (Begins e)) done) inner value → WasMadeBy later m g value
      by_event inner is_split k (inl c) = in_run inner is_split k (grown s (log_of life) (Begins e ∷ done) inner value (life-made s life now.follows inner version config value o c))
      by_event inner is_split k (inr w) = in_run inner is_split k w

      by : IsSplit g now.before (acts_of (added (And (log_of life) (Begins e)) done)) (Value version config value) o → WasMadeBy later m g value
      by (Earlier k) = before k
      by (InRun inner is_split k) = by_event inner is_split k (event-made s life e done d inner version config value o k)

  -- of another system that has seen what this one had
  lift : (h later : System) (n : Id) (g : NodeHistory) (value : ClusterValue) → ((t : Settings) (l : Log) → HadSeen h t l → HadSeen later t l) → WasMadeBy h n g value → WasMadeBy later n g value
  lift h later n g value seen w = record { settings = w.settings; moment = w.moment; me = w.me; seen = seen w.settings w.moment w.seen; accepted = w.accepted; is = w.is }

  made-by : (h : System) → AreGoing h → (n : Id) (g : NodeHistory) (version : ℕ) (config : List Id) (value : ClusterValue) (o : Outcome)
      → IsBeginning (Then g (Value version config value) o) (node_history (history_of h) n) → WasMadeBy h n g value
  made-by Nothing l n g version config value o b = absurd (let none : Then g (Value version config value) o ≡ NoActs = b in cc)
  made-by (Starts h s found) l n g version config value o b = from (same s.me n) b (made-by h l.0 n g version config value o)
    where
      from : (t : Bool) → IsBeginning (Then g (Value version config value) o) (cond t (Then (node_history (history_of h) n) (Open found) (Answered (Taken None false))) (node_history (history_of h) n))
          → (IsBeginning (Then g (Value version config value) o) (node_history (history_of h) n) → WasMadeBy h n g value) → WasMadeBy (Starts h s found) n g value
      from true (inl e) rest = absurd (cc)
      from true (inr k) rest = lift h (Starts h s found) n g value (λ t q x. x) (rest k)
      from false k rest = lift h (Starts h s found) n g value (λ t q x. x) (rest k)
  made-by (Lives h m (Did e items)) l n g version config value o b = from (same m n) refl (made-by h l.0 n g version config value o)
    where
      from : (t : Bool) → same m n ≡ t → (IsBeginning (Then g (Value version config value) o) (node_history (history_of h) n) → WasMadeBy h n g value) → WasMadeBy (Lives h m (Did e items)) n g value
      from true is rest =
          let k : m ≡ n = same_is m n is in
          subst (λ (x : Id). WasMadeBy (Lives h m (Did e items)) x g value) k
          (run-made h l.0 m e items l.1.settings l.1.life l.1.runs (event-done l.1.settings l.1.life e items l.1.follows.1) g version config value o
          (subst (λ (x : Id). IsBeginning (Then g (Value version config value) o) (node_history (then_acts (history_of h) m items) x)) (sym k) b) (Lives h m (Did e items)) (λ t q x. x)
          (λ c. subst (λ (x : Id). WasMadeBy h x g value) (sym k) (rest (subst (λ (x : Id). IsBeginning (Then g (Value version config value) o) (node_history (history_of h) x)) k c))))
      from false is rest = lift h (Lives h m (Did e items)) n g value (λ t q x. inr x) (rest (subst (IsBeginning (Then g (Value version config value) o)) (others-stay (history_of h) m n items is) b))
  made-by (Lives h m (Gone conn)) l n g version config value o b = lift h (Lives h m (Gone conn)) n g value (λ t q x. x) (made-by h l.0 n g version config value o b)
  made-by (Lives h m (Bad conn fault)) l n g version config value o b = lift h (Lives h m (Bad conn fault)) n g value (λ t q x. x) (made-by h l.0 n g version config value o b)
  made-by (Lives h m NoMemory) l n g version config value o b = lift h (Lives h m NoMemory) n g value (λ t q x. x) (made-by h l.0 n g version config value o b)
  made-by (Lives h m (Unread conn)) l n g version config value o b = lift h (Lives h m (Unread conn)) n g value (λ t q x. x) (made-by h l.0 n g version config value o b)
  made-by (Dies h m e items) l n g version config value o b = from (same m n) refl (made-by h l.0 n g version config value o)
    where
      from : (t : Bool) → same m n ≡ t → (IsBeginning (Then g (Value version config value) o) (node_history (history_of h) n) → WasMadeBy h n g value) → WasMadeBy (Dies h m e items) n g value
      from true is rest =
          let k : m ≡ n = same_is m n is in
          subst (λ (x : Id). WasMadeBy (Dies h m e items) x g value) k
          (run-made h l.0 m e items l.1.settings l.1.life l.1.runs l.1.did g version config value o
          (subst (λ (x : Id). IsBeginning (Then g (Value version config value) o) (node_history (then_acts (history_of h) m items) x)) (sym k) b) (Dies h m e items) (λ t q x. x)
          (λ c. subst (λ (x : Id). WasMadeBy h x g value) (sym k) (rest (subst (λ (x : Id). IsBeginning (Then g (Value version config value) o) (node_history (history_of h) x)) k c))))
      from false is rest = lift h (Dies h m e items) n g value (λ t q x. inr x) (rest (subst (IsBeginning (Then g (Value version config value) o)) (others-stay (history_of h) m n items is) b))

  system-made : (h : System) → AreGoing h → AreAnswered (history_of h) → (p : Published) → Contains (published (history_of h)) p → WasMade (HadSeen h) (history_of h) p
  system-made h runs answers p c =
      let at = published_at (history_of h) answers p c in
      let w : WasMadeBy h p.publisher at.before p.state.value = made-by h runs p.publisher at.before at.version at.config p.state.value at.outcome at.begins in
      record {
        settings = w.settings;
        moment = w.moment;
        requests = processed_into_next (master_of w.settings w.moment) (tasks_of w.settings w.moment);
        seen = w.seen;
        made = record { publisher = sym w.me; parent = at.parent ∙ w.accepted; value = w.is; processed = refl };
      }

in-system : (initial : List Id) (h : System) → IsSystem initial h → (p : Published) → Contains (published (history_of h)) p → WasMade (HadSeen h) (history_of h) p
in-system initial h is = system-made initial h (going initial h is.runs) (answered initial (history_of h) (lives_assemble initial h is))

pub system_settings_last : LawSystemSettingsLast
system_settings_last initial h is = settings_last (HadSeen h) (history_of h) (legal_descends initial (history_of h) (lives_assemble initial h is)) (in-system initial h is)

pub system_acks_last : LawSystemAcksLast
system_acks_last initial h is = ack_lasts (HadSeen h) (history_of h) (legal_descends initial (history_of h) (lives_assemble initial h is)) (in-system initial h is)

-- ---- from the restart of one node on

in-restarted : (first : Id) (kept : Kept) (h : System) → IsSystemFrom first kept h → (p : Published) → Contains (published (history_of h)) p → WasMade (HadSeen h) (history_of h) p
in-restarted first kept h is = system-made [] h (going-from first kept h is.runs) (answered_from first kept (history_of h) (lives_assemble_from first kept h is))

pub restarted_settings_last : LawRestartedSettingsLast
restarted_settings_last first kept h alone is =
    settings_last (HadSeen h) (history_of h) (restarted_lost first kept (history_of h) alone (lives_assemble_from first kept h is)).descends (in-restarted first kept h is)

pub restarted_acks_last : LawRestartedAcksLast
restarted_acks_last first kept h alone is =
    ack_lasts (HadSeen h) (history_of h) (restarted_lost first kept (history_of h) alone (lives_assemble_from first kept h is)).descends (in-restarted first kept h is)
