-- Each run of a system stands among the acts of its node: what was done before it, then its own acts, then what was done after it.
use Rattle.std.proofs.Common.{◌≡◌, ◌≢◌, Bool, true, false, not, cond, inl, inr, None, List, [], ◌∷◌, refl, sym, ◌∙◌, ap, subst}
use Rattle.std.proofs.lemmas.Bool.{and_parts}
use Rattle.voting_config.specs.Ids.{Id, same}
use Rattle.voting_config.proofs.Sets.{same_is}
use Rattle.cluster_state.specs.declared.state.Kept.{Kept}
use Rattle.world_model.specs.declared.acts.Act.{Act}
use Rattle.world_model.specs.declared.acts.Act.TheVariants.{Open}
use Rattle.world_model.specs.declared.acts.ActReply.TheVariants.{Taken}
use Rattle.world_model.specs.declared.acts.Outcome.{Outcome}
use Rattle.world_model.specs.declared.acts.Outcome.TheVariants.{Answered}
use Rattle.world_model.specs.Acts.{NodeHistory, NoActs, Then, is_opening}
use Rattle.world_model.specs.NodeState.{durable_of}
use Rattle.world_model.specs.Histories.{History, Next, node_history, IsPrefix}
use Rattle.world_model.specs.Local.{then_run, OpensWith}
use Rattle.world_model.specs.Restarts.{ContinuesFrom}
use Rattle.world_model.proofs.Moments.{Begins as IsBeginning, begins_self, begins_trans}
use Rattle.world_model.proofs.Legal.{own_deeds, deeds_begin, prefix_self, prefix_trans}
use Rattle.policy_model.specs.declared.settings.Settings.{Settings}
use Rattle.policy_model.specs.declared.events.Event.{Event}
use Rattle.policy_model.specs.Events.{Item, Opens, Begins, Acts, ChangesMode, Drops, Sends, Replies, Notes, Log, And, added, acts_of}
use Rattle.policy_model.specs.Entries.{Entry, Did, Gone, Bad, NoMemory, Unread, Life, NotBegun, Opened, Lived, log_of}
use Rattle.policy_model.specs.Moves.{are_own}
use Rattle.policy_model.specs.Follows.{Follows, is_struck, is_start, starts_next, items_of}
use Rattle.system_laws.specs.Messages.{comes_with}
use Rattle.system_laws.specs.Systems.{System, Nothing, Starts, Lives, Dies, Run, Down, Runs, lives_on, run_of, history_of, then_acts, IsDoneOf, MayLive, MayDie, AreRuns}
use Rattle.system_laws.specs.RestartedSystems.{AreRunsFrom}
use Rattle.system_laws.specs.Moments.{IsKilledAfterActs, HadLived, IsKilledIn, WasKilled}
use Rattle.system_laws.proofs.Done.{event-meant, event-done, done-own}
use Rattle.system_laws.proofs.Stepping.{others-stay}

-- ---- the acts of a run at the end of those of its node

pub own-acts : (h : History) (n : Id) (b : NodeHistory) (l : Log) (is : List Item) → are_own is ≡ true → node_history h n ≡ then_run b (acts_of l) → node_history (then_acts h n is) n ≡ then_run b (acts_of (added l is))
own-acts h n b l [] own e = e
own-acts h n b l (Acts act o ∷ is) own e =
    let parts = and_parts (not (is_opening act)) (are_own is) own in
    own-acts (Next h n act o) n b (And l (Acts act o)) is parts.1 (own_deeds h n act o ∙ ap (λ (g : NodeHistory). Then g act o) e)
own-acts h n b l (Opens found ∷ is) own e = absurd (cc)
own-acts h n b l (Begins event ∷ is) own e = own-acts h n b (And l (Begins event)) is own e
own-acts h n b l (ChangesMode mode term ∷ is) own e = own-acts h n b (And l (ChangesMode mode term)) is own e
own-acts h n b l (Drops member cause ∷ is) own e = own-acts h n b (And l (Drops member cause)) is own e
own-acts h n b l (Sends frame ∷ is) own e = own-acts h n b (And l (Sends frame)) is own e
own-acts h n b l (Replies answer ∷ is) own e = own-acts h n b (And l (Replies answer)) is own e
own-acts h n b l (Notes note ∷ is) own e = own-acts h n b (And l (Notes note)) is own e

opens-then : (k : Kept) (r : NodeHistory) (a : Act) (o : Outcome) → OpensWith k r → OpensWith k (Then r a o)
opens-then k NoActs a o w = absurd w
opens-then k (Then r b u) a o w = w

pub opens-added : (k : Kept) (l : Log) (is : List Item) → OpensWith k (acts_of l) → OpensWith k (acts_of (added l is))
opens-added k l [] w = w
opens-added k l (Opens found ∷ is) w = opens-added k (And l (Opens found)) is (opens-then k (acts_of l) (Open found) (Answered (Taken None false)) w)
opens-added k l (Begins event ∷ is) w = opens-added k (And l (Begins event)) is w
opens-added k l (Acts act o ∷ is) w = opens-added k (And l (Acts act o)) is (opens-then k (acts_of l) act o w)
opens-added k l (ChangesMode mode term ∷ is) w = opens-added k (And l (ChangesMode mode term)) is w
opens-added k l (Drops member cause ∷ is) w = opens-added k (And l (Drops member cause)) is w
opens-added k l (Sends frame ∷ is) w = opens-added k (And l (Sends frame)) is w
opens-added k l (Replies answer ∷ is) w = opens-added k (And l (Replies answer)) is w
opens-added k l (Notes note ∷ is) w = opens-added k (And l (Notes note)) is w

-- ---- the runs of a system, which begin with what their nodes kept where these did something

abbrev pub AreGoing : System → Type 0
AreGoing Nothing = Unit {0}
AreGoing (Starts h s found) = AreGoing h × (node_history (history_of h) s.me ≢ NoActs → found ≡ durable_of (node_history (history_of h) s.me))
AreGoing (Lives h n entry) = AreGoing h × MayLive h n entry
AreGoing (Dies h n event items) = AreGoing h × MayDie h n event items

pub going : (initial : List Id) (h : System) → AreRuns initial h → AreGoing h
going initial Nothing l = tt
going initial (Starts h s found) l = (going initial h l.0, λ some. l.1.kept)
going initial (Lives h n entry) l = (going initial h l.0, l.1)
going initial (Dies h n event items) l = (going initial h l.0, l.1)

continues-found : (first : Id) (kept : Kept) (n : Id) (g : NodeHistory) (found : Kept) → ContinuesFrom first kept n g (Open found) → g ≢ NoActs → found ≡ durable_of g
continues-found first kept n NoActs found c some = absurd (some refl)
continues-found first kept n (Then g a o) found c some = c

pub going-from : (first : Id) (kept : Kept) (h : System) → AreRunsFrom first kept h → AreGoing h
going-from first kept Nothing l = tt
going-from first kept (Starts h s found) l = (going-from first kept h l.0, continues-found first kept s.me (node_history (history_of h) s.me) found l.1.continues)
going-from first kept (Lives h n entry) l = (going-from first kept h l.0, l.1)
going-from first kept (Dies h n event items) l = (going-from first kept h l.0, l.1)

-- ---- the run that a node lives now

pub record IsNow (g : NodeHistory) (n : Id) (s : Settings) (life : Life) : Type 0 where
  pub me : s.me ≡ n
  pub follows : Follows s life
  pub before : NodeHistory
  pub acts : g ≡ then_run before (acts_of (log_of life))
  pub opens : before ≢ NoActs → OpensWith (durable_of before) (acts_of (log_of life))

abbrev pub IsRunNow : NodeHistory → Id → Run → Type 0
IsRunNow g n Down = Unit {0}
IsRunNow g n (Runs s life) = IsNow g n s life

-- after what was done of an event
now-done : (h : History) (n : Id) (s : Settings) (life : Life) (e : Event) (done items : List Item) → IsNow (node_history h n) n s life → IsDoneOf (items_of s (log_of life) e) done
    → Follows s (Lived life (Did e items)) → acts_of (log_of (Lived life (Did e done))) ≡ acts_of (log_of (Lived life (Did e items))) → IsNow (node_history (then_acts h n done) n) n s (Lived life (Did e items))
now-done h n s life e done items now d follows same_acts = record {
  me = now.me;
  follows = follows;
  before = now.before;
  acts =
      own-acts h n now.before (And (log_of life) (Begins e)) done (done-own s (comes_with e) [] _ _ done (event-meant s life e) d) now.acts
      ∙ ap (λ (r : NodeHistory). then_run now.before r) same_acts;
  opens = λ some. opens-added (durable_of now.before) (And (log_of life) (Begins e)) items (now.opens some);
}

now-idle : (g : NodeHistory) (n : Id) (s : Settings) (life : Life) (entry : Entry) → IsNow g n s life → Follows s (Lived life entry) → log_of (Lived life entry) ≡ log_of life → IsNow g n s (Lived life entry)
now-idle g n s life entry now follows e = record {
  me = now.me;
  follows = follows;
  before = now.before;
  acts = now.acts ∙ ap (λ (l : Log). then_run now.before (acts_of l)) (sym e);
  opens = λ some. subst (λ (l : Log). OpensWith (durable_of now.before) (acts_of l)) (sym e) (now.opens some);
}

-- the node itself, or another one
either-now : (h k : History) (m n : Id) (own : Id → Run) (other : Run) → IsRunNow (node_history k m) m (own m) → (same m n ≡ false → node_history k n ≡ node_history h n) → IsRunNow (node_history h n) n other
    → IsRunNow (node_history k n) n (cond (same m n) (own n) other)
either-now h k m n own other mine stays theirs = from (same m n) refl
  where
    from : (b : Bool) → same m n ≡ b → IsRunNow (node_history k n) n (cond b (own n) other)
    from true e = subst (λ (x : Id). IsRunNow (node_history k x) x (own x)) (same_is m n e) mine
    from false e = subst (λ (g : NodeHistory). IsRunNow g n other) (sym (stays e)) theirs

lives-now : (k : History) (m : Id) (r : Run) (entry : Entry) (s : Settings) (life : Life) → r ≡ Runs s life → IsNow (node_history k m) m s (Lived life entry) → IsRunNow (node_history k m) m (lives_on r entry)
lives-now k m r entry s life e now = subst (λ (x : Run). IsRunNow (node_history k m) m (lives_on x entry)) (sym e) now

pub is-now : (h : History) (m : Id) (r : Run) (s : Settings) (life : Life) → r ≡ Runs s life → IsRunNow (node_history h m) m r → IsNow (node_history h m) m s life
is-now h m r s life e now = subst (IsRunNow (node_history h m) m) e now

-- an entry of no event
idle-now : (initial : List Id) (h : System) (m : Id) (entry : Entry) → MayLive h m entry → IsRunNow (node_history (history_of h) m) m (run_of h m) → ((life : Life) → log_of (Lived life entry) ≡ log_of life)
    → (n : Id) → IsRunNow (node_history (history_of h) n) n (run_of h n) → IsRunNow (node_history (history_of h) n) n (cond (same m n) (lives_on (run_of h n) entry) (run_of h n))
idle-now initial h m entry may mine logs n theirs =
    let now : IsNow (node_history (history_of h) m) m may.settings may.life = is-now (history_of h) m (run_of h m) may.settings may.life may.runs mine in
    either-now (history_of h) (history_of h) m n (λ x. lives_on (run_of h x) entry) (run_of h n)
    (lives-now (history_of h) m (run_of h m) entry may.settings may.life may.runs (now-idle (node_history (history_of h) m) m may.settings may.life entry now may.follows (logs may.life)))
    (λ e. refl) theirs

pub runs-now : (initial : List Id) (h : System) → AreGoing h → (n : Id) → IsRunNow (node_history (history_of h) n) n (run_of h n)
runs-now initial Nothing l n = tt
runs-now initial (Starts h s found) l n =
    let k : History = history_of h in
    let open_now : History = Next k s.me (Open found) (Answered (Taken None false)) in
    either-now k open_now s.me n (λ x. Runs s (Opened NotBegun found)) (run_of h n)
    (record { me = refl; follows = (tt, tt); before = node_history k s.me; acts = own_deeds k s.me (Open found) (Answered (Taken None false)); opens = l.1 })
    (λ e. ap (λ (b : Bool). cond b (Then (node_history k n) (Open found) (Answered (Taken None false))) (node_history k n)) e)
    (runs-now initial h l.0 n)
runs-now initial (Lives h m (Did e items)) l n =
    let may = l.1 in
    let k : History = then_acts (history_of h) m items in
    either-now (history_of h) k m n (λ x. lives_on (run_of h x) (Did e items)) (run_of h n)
    (lives-now k m (run_of h m) (Did e items) may.settings may.life may.runs
    (now-done (history_of h) m may.settings may.life e items items (is-now (history_of h) m (run_of h m) may.settings may.life may.runs (runs-now initial h l.0 m)) (event-done may.settings may.life e items may.follows.1) may.follows refl))
    (others-stay (history_of h) m n items) (runs-now initial h l.0 n)
runs-now initial (Lives h m (Gone conn)) l n = idle-now initial h m (Gone conn) l.1 (runs-now initial h l.0 m) (λ x. refl) n (runs-now initial h l.0 n)
runs-now initial (Lives h m (Bad conn fault)) l n = idle-now initial h m (Bad conn fault) l.1 (runs-now initial h l.0 m) (λ x. refl) n (runs-now initial h l.0 n)
runs-now initial (Lives h m NoMemory) l n = idle-now initial h m NoMemory l.1 (runs-now initial h l.0 m) (λ x. refl) n (runs-now initial h l.0 n)
runs-now initial (Lives h m (Unread conn)) l n = idle-now initial h m (Unread conn) l.1 (runs-now initial h l.0 m) (λ x. refl) n (runs-now initial h l.0 n)
runs-now initial (Dies h m e items) l n = either-now (history_of h) (then_acts (history_of h) m items) m n (λ x. Down) (run_of h n) tt (others-stay (history_of h) m n items) (runs-now initial h l.0 n)

-- ---- a run at any moment

pub record IsOfNode (g : NodeHistory) (n : Id) (s : Settings) (life : Life) : Type 0 where
  pub me : s.me ≡ n
  pub follows : Follows s life
  pub before : NodeHistory
  pub begins : IsBeginning (then_run before (acts_of (log_of life))) g
  pub opens : before ≢ NoActs → OpensWith (durable_of before) (acts_of (log_of life))

of-now : (g : NodeHistory) (n : Id) (s : Settings) (life : Life) → IsNow g n s life → IsOfNode g n s life
of-now g n s life now = record {
  me = now.me;
  follows = now.follows;
  before = now.before;
  begins = subst (IsBeginning (then_run now.before (acts_of (log_of life)))) (sym now.acts) (begins_self (then_run now.before (acts_of (log_of life))));
  opens = now.opens;
}

-- the history only grows
then-acts_prefix : (h : History) (n : Id) (is : List Item) → IsPrefix h (then_acts h n is)
then-acts_prefix h n [] = prefix_self h
then-acts_prefix h n (Acts act o ∷ is) = prefix_trans h (Next h n act o) (then_acts (Next h n act o) n is) (inr (prefix_self h)) (then-acts_prefix (Next h n act o) n is)
then-acts_prefix h n (Opens found ∷ is) = then-acts_prefix h n is
then-acts_prefix h n (Begins event ∷ is) = then-acts_prefix h n is
then-acts_prefix h n (ChangesMode mode term ∷ is) = then-acts_prefix h n is
then-acts_prefix h n (Drops member cause ∷ is) = then-acts_prefix h n is
then-acts_prefix h n (Sends frame ∷ is) = then-acts_prefix h n is
then-acts_prefix h n (Replies answer ∷ is) = then-acts_prefix h n is
then-acts_prefix h n (Notes note ∷ is) = then-acts_prefix h n is

of-later : (h k : History) (n : Id) (s : Settings) (life : Life) → IsPrefix h k → IsOfNode (node_history h n) n s life → IsOfNode (node_history k n) n s life
of-later h k n s life i r = record {
  me = r.me;
  follows = r.follows;
  before = r.before;
  begins = begins_trans (then_run r.before (acts_of (log_of life))) (node_history h n) (node_history k n) r.begins (deeds_begin h k n i);
  opens = r.opens;
}

-- a run within an event, of which some items were done
record IsWithin (s : Settings) (life : Life) (e : Event) (items : List Item) : Type 0 where
  up : is_struck life ≡ false
  start : is_start e ≡ starts_next life
  did : IsDoneOf (items_of s (log_of life) e) items

abbrev IsUpIn : Run → Event → List Item → Type 0
IsUpIn Down e items = Unit {0}
IsUpIn (Runs s life) e items = IsWithin s life e items

module _ (initial : List Id) where
  now-lived : (h : System) → AreGoing h → (n : Id) (s : Settings) (life : Life) → run_of h n ≡ Runs s life → IsOfNode (node_history (history_of h) n) n s life
  now-lived h l n s life e = of-now (node_history (history_of h) n) n s life (is-now (history_of h) n (run_of h n) s life e (runs-now initial h l n))

  -- killed when all acts of the event were done
  killed-lived : (h : System) (m : Id) (e : Event) (items : List Item) → AreGoing h → MayDie h m e items → (n : Id) (s : Settings) (life : Life) → IsKilledAfterActs h m e items n s life
      → IsOfNode (node_history (then_acts (history_of h) m items) n) n s life
  killed-lived h m e items l may n s life k =
      let r : Run = run_of h m in
      let same_run : Runs may.settings may.life ≡ Runs s k.before = sym may.runs ∙ k.runs in
      let up = subst (λ (x : Run). IsUpIn x e items) same_run (record { up = may.up; start = may.start; did = may.did }) in
      let whole : List Item = items_of s (log_of k.before) e in
      let now : IsNow (node_history (history_of h) m) m s k.before = is-now (history_of h) m r s k.before k.runs (runs-now initial h l m) in
      let follows : Follows s (Lived k.before (Did e (items_of s (log_of k.before) e))) = (now.follows, record { up = up.up; start = up.start; does = inl refl }) in
      let after = of-now _ m s (Lived k.before (Did e (items_of s (log_of k.before) e))) (now-done (history_of h) m s k.before e items (items_of s (log_of k.before) e) now up.did follows k.acts) in
      subst (λ (x : Life). IsOfNode (node_history (then_acts (history_of h) m items) n) n s x) (sym k.lived)
      (subst (λ (x : Id). IsOfNode (node_history (then_acts (history_of h) m items) x) x s (Lived k.before (Did e (items_of s (log_of k.before) e)))) k.node after)

  pub had-lived : (h : System) → AreGoing h → (n : Id) (s : Settings) (life : Life) → HadLived h n s life → IsOfNode (node_history (history_of h) n) n s life
  had-lived Nothing l n s life w = absurd w
  had-lived (Starts h t found) l n s life (inl e) = now-lived (Starts h t found) l n s life e
  had-lived (Starts h t found) l n s life (inr w) = of-later (history_of h) (history_of (Starts h t found)) n s life (inr (prefix_self (history_of h))) (had-lived h l.0 n s life w)
  had-lived (Lives h m (Did e items)) l n s life (inl r) = now-lived (Lives h m (Did e items)) l n s life r
  had-lived (Lives h m (Did e items)) l n s life (inr w) = of-later (history_of h) (then_acts (history_of h) m items) n s life (then-acts_prefix (history_of h) m items) (had-lived h l.0 n s life w)
  had-lived (Lives h m (Gone conn)) l n s life (inl r) = now-lived (Lives h m (Gone conn)) l n s life r
  had-lived (Lives h m (Gone conn)) l n s life (inr w) = had-lived h l.0 n s life w
  had-lived (Lives h m (Bad conn fault)) l n s life (inl r) = now-lived (Lives h m (Bad conn fault)) l n s life r
  had-lived (Lives h m (Bad conn fault)) l n s life (inr w) = had-lived h l.0 n s life w
  had-lived (Lives h m NoMemory) l n s life (inl r) = now-lived (Lives h m NoMemory) l n s life r
  had-lived (Lives h m NoMemory) l n s life (inr w) = had-lived h l.0 n s life w
  had-lived (Lives h m (Unread conn)) l n s life (inl r) = now-lived (Lives h m (Unread conn)) l n s life r
  had-lived (Lives h m (Unread conn)) l n s life (inr w) = had-lived h l.0 n s life w
  had-lived (Dies h m e items) l n s life (inl k) = killed-lived h m e items l.0 l.1 n s life k
  had-lived (Dies h m e items) l n s life (inr w) = of-later (history_of h) (then_acts (history_of h) m items) n s life (then-acts_prefix (history_of h) m items) (had-lived h l.0 n s life w)

-- ---- a run that was killed

pub record IsKilledOf (g : NodeHistory) (n : Id) (s : Settings) (life : Life) (e : Event) (done : List Item) : Type 0 where
  pub me : s.me ≡ n
  pub follows : Follows s (Lived life (Did e (items_of s (log_of life) e)))
  pub did : IsDoneOf (items_of s (log_of life) e) done
  pub before : NodeHistory
  pub begins : IsBeginning (then_run before (acts_of (added (And (log_of life) (Begins e)) done))) g
  pub opens : before ≢ NoActs → OpensWith (durable_of before) (acts_of (added (And (log_of life) (Begins e)) done))

killed-of-later : (h k : History) (n : Id) (s : Settings) (life : Life) (e : Event) (done : List Item) → IsPrefix h k → IsKilledOf (node_history h n) n s life e done → IsKilledOf (node_history k n) n s life e done
killed-of-later h k n s life e done i r = record {
  me = r.me;
  follows = r.follows;
  did = r.did;
  before = r.before;
  begins = begins_trans (then_run r.before (acts_of (added (And (log_of life) (Begins e)) done))) (node_history h n) (node_history k n) r.begins (deeds_begin h k n i);
  opens = r.opens;
}

module _ (initial : List Id) where
  killed-now : (h : System) (m : Id) (e : Event) (done : List Item) → AreGoing h → MayDie h m e done → (s : Settings) (life : Life) → run_of h m ≡ Runs s life
      → IsKilledOf (node_history (then_acts (history_of h) m done) m) m s life e done
  killed-now h m e done l may s life runs =
      let same_run : Runs may.settings may.life ≡ Runs s life = sym may.runs ∙ runs in
      let up = subst (λ (x : Run). IsUpIn x e done) same_run (record { up = may.up; start = may.start; did = may.did }) in
      let now : IsNow (node_history (history_of h) m) m s life = is-now (history_of h) m (run_of h m) s life runs (runs-now initial h l m) in
      let acts = own-acts (history_of h) m now.before (And (log_of life) (Begins e)) done (done-own s (comes_with e) [] _ _ done (event-meant s life e) up.did) now.acts in
      record {
        me = now.me;
        follows = (now.follows, record { up = up.up; start = up.start; does = inl refl });
        did = up.did;
        before = now.before;
        begins = subst (IsBeginning (then_run now.before (acts_of (added (And (log_of life) (Begins e)) done)))) (sym acts) (begins_self (then_run now.before (acts_of (added (And (log_of life) (Begins e)) done))));
        opens = λ some. opens-added (durable_of now.before) (And (log_of life) (Begins e)) done (now.opens some);
      }

  killed-in : (h : System) (m : Id) (came : Event) (items : List Item) → AreGoing h → MayDie h m came items → (n : Id) (s : Settings) (life : Life) (e : Event) (done : List Item) → IsKilledIn h m came items n s life e done
      → IsKilledOf (node_history (then_acts (history_of h) m items) n) n s life e done
  killed-in h m came items l may n s life e done k =
      subst (λ (x : Id). IsKilledOf (node_history (then_acts (history_of h) m items) x) x s life e done) k.node
      (subst (λ (x : List Item). IsKilledOf (node_history (then_acts (history_of h) m items) m) m s life e x) k.did
      (subst (λ (x : Event). IsKilledOf (node_history (then_acts (history_of h) m items) m) m s life x items) k.within (killed-now h m came items l may s life k.runs)))

  pub was-killed : (h : System) → AreGoing h → (n : Id) (s : Settings) (life : Life) (e : Event) (done : List Item) → WasKilled h n s life e done → IsKilledOf (node_history (history_of h) n) n s life e done
  was-killed Nothing l n s life e done w = absurd w
  was-killed (Starts h t found) l n s life e done w = killed-of-later (history_of h) (history_of (Starts h t found)) n s life e done (inr (prefix_self (history_of h))) (was-killed h l.0 n s life e done w)
  was-killed (Lives h m (Did came items)) l n s life e done w = killed-of-later (history_of h) (then_acts (history_of h) m items) n s life e done (then-acts_prefix (history_of h) m items) (was-killed h l.0 n s life e done w)
  was-killed (Lives h m (Gone conn)) l n s life e done w = was-killed h l.0 n s life e done w
  was-killed (Lives h m (Bad conn fault)) l n s life e done w = was-killed h l.0 n s life e done w
  was-killed (Lives h m NoMemory) l n s life e done w = was-killed h l.0 n s life e done w
  was-killed (Lives h m (Unread conn)) l n s life e done w = was-killed h l.0 n s life e done w
  was-killed (Dies h m came items) l n s life e done (inl k) = killed-in h m came items l.0 l.1 n s life e done k
  was-killed (Dies h m came items) l n s life e done (inr w) = killed-of-later (history_of h) (then_acts (history_of h) m items) n s life e done (then-acts_prefix (history_of h) m items) (was-killed h l.0 n s life e done w)
