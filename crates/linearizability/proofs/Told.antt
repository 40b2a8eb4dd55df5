-- Each reply of a system that speaks of a committed state has its place.
use Rattle.std.proofs.Common.{◌≡◌, ◌≢◌, true, false, List, [], ◌++◌, refl, sym, ◌∙◌, ap, subst, arith, ◌⊎◌, inl, inr}
use Rattle.voting_config.specs.Ids.{Id}
use Rattle.cluster_state.specs.Initial.{initial_state}
use Rattle.cluster_state.specs.declared.request.Request.{Request}
use Rattle.cluster_state.specs.declared.state.ClusterState.{ClusterState}
use Rattle.world_model.specs.Acts.{NodeHistory, NoActs}
use Rattle.world_model.specs.NodeState.{durable_of}
use Rattle.world_model.specs.Histories.{History, node_history}
use Rattle.world_model.specs.Local.{then_run, OpensWith}
use Rattle.world_model.proofs.Legal.{IsGrounded, none_of, grounded_before, grounded_of_legal, system_of_grounded}
use Rattle.world_model.proofs.Restarted.{grounded_of_restarted}
use Rattle.world_model.proofs.Moments.{Begins as IsBeginning, begins_self}
use Rattle.agreement.proofs.Laws.{safe_of_legal}
use Rattle.policy_model.specs.declared.settings.Settings.{Settings}
use Rattle.policy_model.specs.declared.events.Event.{Event}
use Rattle.policy_model.specs.Events.{Item, Begins, And, acts_of}
use Rattle.policy_model.specs.Entries.{Entry, Did, Gone, Bad, NoMemory, Unread, Life, Lived, log_of}
use Rattle.policy_model.specs.Follows.{is_struck, items_of}
use Rattle.client_guarantees.proofs.InTime.{legal_follow_time, restarted_follow_time}
use Rattle.system_laws.specs.Messages.{comes_with}
use Rattle.system_laws.specs.Systems.{System, Nothing, Starts, Lives, Dies, Down, Runs, run_of, history_of, then_acts, IsDoneOf}
use Rattle.system_laws.proofs.Assembly.{lives_assemble, lives_assemble_from, restarted_is_safe, restarted_lost}
use Rattle.system_laws.proofs.Done.{event-done, event-meant, done-own}
use Rattle.system_laws.proofs.RunsKept.{AreGoing, going, going-from, own-acts, opens-added, IsNow, is-now, runs-now}
use Rattle.linearizability.specs.Linearizations.{Operation, Came, Response, IsReplyOf, Sent, IsUpTo, RunsOn, IsDone, LawSystemIsLinearizable, LawRestartedSystemIsLinearizable}
use Rattle.linearizability.proofs.Numbers.{taken_of}
use Rattle.linearizability.proofs.Moments.{size, upto-self, upto-prefix, upto-trans, came-smaller}
use Rattle.linearizability.proofs.Accounts.{EachOf, IsIn, each-in, in-left, Op, IsOp, HasOp, Account, published_within}
use Rattle.linearizability.proofs.Accounting.{started, started-ops, idled, idled-ops, lives-account, lives-ops, dies-account, dies-ops, counted-lives, counted-dies}
use Rattle.linearizability.proofs.Linear.{IsPlaced, linear}
use Rattle.linearizability.proofs.Places.{Speaks, HasPlace}
use Rattle.linearizability.proofs.Placed.{placed}

-- ---- an event

-- an event of a run, of which so much was done, and what the system has taken by the end of it
module _ (root : ClusterState) (h : System) (runs_go : AreGoing h) (n : Id) (s : Settings) (life : Life) (runs : run_of h n ≡ Runs s life)
    (e : Event) (done : List Item) (did : IsDoneOf (items_of s (log_of life) e) done) (up : is_struck life ≡ false)
    (after : System) (history : history_of after ≡ then_acts (history_of h) n done) (grounded : IsGrounded root (history_of after))
    (ops : List Op) (each : EachOf (IsOp after (history_of after)) ops) (has : EachOf (HasOp after n ops) (taken_of s (log_of (Lived life (Did e done))))) where
  abbrev run_acts : NodeHistory
  run_acts = acts_of (log_of (Lived life (Did e done)))

  now : IsNow (node_history (history_of h) n) n s life
  now = is-now (history_of h) n (run_of h n) s life runs (runs-now [] h runs_go n)

  acts : node_history (history_of after) n ≡ then_run now.before run_acts
  acts =
      ap (λ (x : History). node_history x n) history
      ∙ own-acts (history_of h) n now.before (And (log_of life) (Begins e)) done (done-own s (comes_with e) [] _ _ done (event-meant s life e) did) now.acts

  opens : now.before ≢ NoActs → OpensWith (durable_of now.before) run_acts
  opens some = opens-added (durable_of now.before) (And (log_of life) (Begins e)) done (now.opens some)

  begins : IsBeginning (then_run now.before run_acts) (node_history (history_of after) s.me)
  begins =
      subst (λ (m : Id). IsBeginning (then_run now.before run_acts) (node_history (history_of after) m)) (sym now.me)
      (subst (IsBeginning (then_run now.before run_acts)) (sym acts) (begins_self (then_run now.before run_acts)))

  -- a reply to a request that the run has taken, and that the system has so
  by-place : (r : Response) → IsReplyOf h after n done r → (p : HasPlace (history_of after) s (log_of (Lived life (Did e done))) r.conn r.number r.answer)
      → (k : HasOp after n ops p.tagged) → IsOp after (history_of after) k.op → IsPlaced after ops r
  by-place r of p k o =
      let low = came-smaller after k.op.operation o.came in
      record {
        op = k.op;
        is_in = k.is_in;
        replied = record {
          node = of.node ∙ sym k.is_node;
          conn = sym p.has_conn ∙ sym k.is_conn;
          number = sym p.has_number ∙ sym (ap (λ (x : Request). x.id) k.is_request);
          began = λ same. let one : size after ≡ size k.op.operation.came = ap size (sym of.sent ∙ same) in omega (arith, low, one);
          run = subst (λ (x : System). RunsOn k.op.operation.came k.op.operation.node x) (sym of.sent) (subst (λ (m : Id). RunsOn k.op.operation.came m after) (sym k.is_node) k.on);
        };
        sent = subst (λ (x : System). IsUpTo x after) (sym of.sent) (upto-self after);
        as_published = p.as_published;
        is_published = p.is_published;
        is_id = p.is_id ∙ sym k.is_id;
        speaks =
            subst (λ (x : System). Speaks (history_of x) p.as_published.state k.op.operation.request.ask r.answer) (sym of.sent)
            (subst (λ (x : Request). Speaks (history_of after) p.as_published.state x.ask r.answer) (sym k.is_request) p.speaks);
      }

  -- each of its replies has its place
  replied : (r : Response) → IsReplyOf h after n done r → IsDone r.answer → IsPlaced after ops r
  replied r of is_done =
      let same_run : Runs of.settings of.life ≡ Runs s life = sym of.runs ∙ runs in
      let settings : of.settings ≡ s = cc in
      let second = subst (λ (x : Settings). x.policy.second ≡ true) settings of.second in
      let p : HasPlace (history_of after) s (log_of (Lived life (Did e done))) r.conn r.number r.answer =
      placed (history_of after) root (system_of_grounded root (history_of after) grounded) s second now.before life e done now.follows up did opens begins r.conn r.number r.answer of.is_in is_done in
      let k : HasOp after n ops p.tagged = each-in (HasOp after n ops) (taken_of s (log_of (Lived life (Did e done)))) p.tagged has p.is_in in
      by-place r of p k (each-in (IsOp after (history_of after)) ops k.op each k.is_in)

-- ---- a system

-- so it stays
later-placed : (h after : System) (ops more : List Op) → IsUpTo h after → ((k : Op) → IsIn ops k → IsIn more k) → (r : Response) → IsPlaced h ops r → IsPlaced after more r
later-placed h after ops more upto in_more r p = record {
  op = p.op;
  is_in = in_more p.op p.is_in;
  replied = p.replied;
  sent = upto-trans r.sent h after p.sent upto;
  as_published = p.as_published;
  is_published = published_within (history_of h) (history_of after) (upto-prefix h after upto) p.as_published p.is_published;
  is_id = p.is_id;
  speaks = p.speaks;
}

abbrev AllPlaced : System → List Op → Type 0
AllPlaced h ops = (r : Response) → Sent h r → IsDone r.answer → IsPlaced h ops r

-- what the system has taken, and that each of its replies has its place
record Tale (h : System) : Type 0 where
  account : Account h
  placed : AllPlaced h account.ops

same-ops : (h after : System) → IsUpTo h after → ((r : Response) → Sent after r → Sent h r) → (t : Tale h) (a : Account after) → a.ops ≡ t.account.ops → Tale after
same-ops h after upto sent t a same = record {
  account = a;
  placed = λ r s done.
      later-placed h after t.account.ops a.ops upto (λ k i. subst (λ (ks : List Op). IsIn ks k) (sym same) i) r (t.placed r (sent r s) done);
}

more-ops : (h after : System) (n : Id) (done : List Item) → IsUpTo h after → ((r : Response) → Sent after r → IsReplyOf h after n done r ⊎ Sent h r) → (t : Tale h) (a : Account after) (new : List Op)
    → a.ops ≡ t.account.ops ++ new → ((r : Response) → IsReplyOf h after n done r → IsDone r.answer → IsPlaced after a.ops r) → Tale after
more-ops h after n done upto sent t a new same own = record { account = a; placed = λ r s is_done. from r is_done (sent r s) }
  where
    from : (r : Response) → IsDone r.answer → IsReplyOf h after n done r ⊎ Sent h r → IsPlaced after a.ops r
    from r is_done (inl of) = own r of is_done
    from r is_done (inr s) =
        later-placed h after t.account.ops a.ops upto (λ k i. subst (λ (ks : List Op). IsIn ks k) (sym same) (in-left t.account.ops new k i)) r (t.placed r s is_done)

module _ (root : ClusterState) where
  lives-tale : (h : System) (n : Id) (e : Event) (items : List Item) (go : AreGoing (Lives h n (Did e items))) → IsGrounded root (history_of (Lives h n (Did e items))) → Tale h → Tale (Lives h n (Did e items))
  lives-tale h n e items go grounded t =
      let c = counted-lives root h n e items go grounded t.account in
      let a : Account (Lives h n (Did e items)) = lives-account h n e items go.1.settings go.1.life go.1.runs t.account c in
      let same : (lives-account h n e items go.1.settings go.1.life go.1.runs t.account (counted-lives root h n e items go grounded t.account)).ops ≡ t.account.ops ++ c.new = lives-ops h n e items go.1.settings go.1.life go.1.runs t.account c in
      more-ops h (Lives h n (Did e items)) n items (inr (upto-self h)) (λ r x. x) t a c.new same
      (replied root h go.0 n go.1.settings go.1.life go.1.runs e items (event-done go.1.settings go.1.life e items go.1.follows.1) go.1.follows.1.up (Lives h n (Did e items)) refl grounded
      a.ops a.each (subst (λ (ks : List Op). EachOf (HasOp (Lives h n (Did e items)) n ks) (taken_of go.1.settings (log_of (Lived go.1.life (Did e items))))) (sym same) c.has))

  dies-tale : (h : System) (n : Id) (e : Event) (items : List Item) (go : AreGoing (Dies h n e items)) → IsGrounded root (history_of (Dies h n e items)) → Tale h → Tale (Dies h n e items)
  dies-tale h n e items go grounded t =
      let c = counted-dies root h n e items go grounded t.account in
      let a : Account (Dies h n e items) = dies-account h n e items go.1.settings go.1.life go.1.runs t.account c in
      let same : (dies-account h n e items go.1.settings go.1.life go.1.runs t.account (counted-dies root h n e items go grounded t.account)).ops ≡ t.account.ops ++ c.new = dies-ops h n e items go.1.settings go.1.life go.1.runs t.account c in
      more-ops h (Dies h n e items) n items (inr (upto-self h)) (λ r x. x) t a c.new same
      (replied root h go.0 n go.1.settings go.1.life go.1.runs e items go.1.did go.1.up (Dies h n e items) refl grounded
      a.ops a.each (subst (λ (ks : List Op). EachOf (HasOp (Dies h n e items) n ks) (taken_of go.1.settings (log_of (Lived go.1.life (Did e items))))) (sym same) c.has))

  idle-tale : (h : System) (n : Id) (entry : Entry) → ((life : Life) → log_of (Lived life entry) ≡ log_of life) → ((o : Operation) → Came h o → Came (Lives h n entry) o)
      → ((r : Response) → Sent (Lives h n entry) r → Sent h r) → history_of (Lives h n entry) ≡ history_of h → Tale h → Tale (Lives h n entry)
  idle-tale h n entry logs later sent same t =
      same-ops h (Lives h n entry) (inr (upto-self h)) sent t (idled h n entry logs later same t.account) (idled-ops h n entry logs later same t.account)

  tale : (h : System) → AreGoing h → IsGrounded root (history_of h) → Tale h
  tale Nothing go grounded = record {
    account = record { ops = []; each = tt; once = tt; within = tt; current = λ n s life e. absurd (let none : Down ≡ Runs s life = e in cc); folds = λ p c. none_of p c };
    placed = λ r s done. absurd s;
  }
  tale (Starts h s found) go grounded =
      let t = tale h go.0 grounded.0 in
      same-ops h (Starts h s found) (inr (upto-self h)) (λ r x. x) t (started h s found t.account) (started-ops h s found t.account)
  tale (Lives h n (Did e items)) go grounded =
      lives-tale h n e items go grounded (tale h go.0 (grounded_before root (history_of h) (history_of (Lives h n (Did e items))) grounded (upto-prefix h (Lives h n (Did e items)) (inr (upto-self h)))))
  tale (Lives h n (Gone conn)) go grounded = idle-tale h n (Gone conn) (λ life. refl) (λ o c. c) (λ r x. x) refl (tale h go.0 grounded)
  tale (Lives h n (Bad conn fault)) go grounded = idle-tale h n (Bad conn fault) (λ life. refl) (λ o c. c) (λ r x. x) refl (tale h go.0 grounded)
  tale (Lives h n NoMemory) go grounded = idle-tale h n NoMemory (λ life. refl) (λ o c. c) (λ r x. x) refl (tale h go.0 grounded)
  tale (Lives h n (Unread conn)) go grounded = idle-tale h n (Unread conn) (λ life. refl) (λ o c. c) (λ r x. x) refl (tale h go.0 grounded)
  tale (Dies h n e items) go grounded =
      dies-tale h n e items go grounded (tale h go.0 (grounded_before root (history_of h) (history_of (Dies h n e items)) grounded (upto-prefix h (Dies h n e items) (inr (upto-self h)))))

-- ---- the laws

pub system_is_linearizable : LawSystemIsLinearizable
system_is_linearizable initial h is =
    let legal = lives_assemble initial h is in
    let grounded = grounded_of_legal initial (history_of h) legal in
    let safe = safe_of_legal initial (history_of h) legal in
    let t = tale (initial_state initial) h (going initial h is.runs) grounded in
    linear h (initial_state initial) grounded safe.0 safe.1 (legal_follow_time initial (history_of h) legal) t.account t.placed

pub restarted_system_is_linearizable : LawRestartedSystemIsLinearizable
restarted_system_is_linearizable first kept h alone is =
    let legal = lives_assemble_from first kept h is in
    let grounded = grounded_of_restarted first kept alone (history_of h) legal in
    let t = tale kept.accepted h (going-from first kept h is.runs) grounded in
    linear h kept.accepted grounded (restarted_is_safe first kept h alone is) (restarted_lost first kept (history_of h) alone legal).descends
    (restarted_follow_time first kept (history_of h) alone legal) t.account t.placed
