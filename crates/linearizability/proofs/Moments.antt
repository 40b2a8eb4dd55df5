-- When a line came, in a system: each moment is told by all that had happened before.
use Rattle.std.proofs.Common.{◌≡◌, ◌≢◌, ◌<◌, ◌≤◌, ◌+◌, ℕ, Bool, true, false, true≢false, cond, List, [], ◌∷◌, refl, sym, ◌∙◌, ap, subst, arith, inl, inr}
use Rattle.voting_config.specs.Ids.{Id, same}
use Rattle.voting_config.proofs.Sets.{same_is, same_self}
use Rattle.cluster_state.specs.declared.request.Request.{Request}
use Rattle.world_model.specs.Histories.{History, Next, IsPrefix}
use Rattle.world_model.proofs.Legal.{prefix_self, prefix_trans}
use Rattle.policy_model.specs.declared.settings.Settings.{Settings}
use Rattle.policy_model.specs.Events.{Item, Opens, Begins, Acts, ChangesMode, Drops, Sends, Replies, Notes}
use Rattle.policy_model.specs.Entries.{Entry, Did, Gone, Bad, NoMemory, Unread, Life, NotBegun, Opened, Lived}
use Rattle.client_guarantees.specs.InTime.{CameAfter}
use Rattle.system_laws.specs.Systems.{System, Nothing, Starts, Lives, Dies, Run, Down, Runs, lives_on, run_of, history_of, then_acts}
use Rattle.linearizability.specs.Linearizations.{Operation, Came, IsUpTo, RunsOn}

-- ---- how much had happened

abbrev pub size : System → ℕ
size Nothing = 0
size (Starts h s found) = size h + 1
size (Lives h n entry) = size h + 1
size (Dies h n event items) = size h + 1

pub upto-self : (h : System) → IsUpTo h h
upto-self Nothing = refl
upto-self (Starts h s found) = inl refl
upto-self (Lives h n entry) = inl refl
upto-self (Dies h n event items) = inl refl

-- ---- the history only grows

then-prefix : (h : History) (n : Id) (is : List Item) → IsPrefix h (then_acts h n is)
then-prefix h n [] = prefix_self h
then-prefix h n (Acts act o ∷ is) = prefix_trans h (Next h n act o) (then_acts (Next h n act o) n is) (inr (prefix_self h)) (then-prefix (Next h n act o) n is)
then-prefix h n (Opens found ∷ is) = then-prefix h n is
then-prefix h n (Begins event ∷ is) = then-prefix h n is
then-prefix h n (ChangesMode mode term ∷ is) = then-prefix h n is
then-prefix h n (Drops member cause ∷ is) = then-prefix h n is
then-prefix h n (Sends frame ∷ is) = then-prefix h n is
then-prefix h n (Replies answer ∷ is) = then-prefix h n is
then-prefix h n (Notes note ∷ is) = then-prefix h n is

pub upto-prefix : (g h : System) → IsUpTo g h → IsPrefix (history_of g) (history_of h)
upto-prefix g Nothing u = subst (λ (x : System). IsPrefix (history_of g) (history_of x)) u (prefix_self (history_of g))
upto-prefix g (Starts h s found) (inl e) = subst (λ (x : System). IsPrefix (history_of g) (history_of x)) e (prefix_self (history_of g))
upto-prefix g (Starts h s found) (inr u) = inr (upto-prefix g h u)
upto-prefix g (Lives h n entry) (inl e) = subst (λ (x : System). IsPrefix (history_of g) (history_of x)) e (prefix_self (history_of g))
upto-prefix g (Lives h n (Did event items)) (inr u) = prefix_trans (history_of g) (history_of h) (then_acts (history_of h) n items) (upto-prefix g h u) (then-prefix (history_of h) n items)
upto-prefix g (Lives h n (Gone conn)) (inr u) = upto-prefix g h u
upto-prefix g (Lives h n (Bad conn fault)) (inr u) = upto-prefix g h u
upto-prefix g (Lives h n NoMemory) (inr u) = upto-prefix g h u
upto-prefix g (Lives h n (Unread conn)) (inr u) = upto-prefix g h u
upto-prefix g (Dies h n event items) (inl e) = subst (λ (x : System). IsPrefix (history_of g) (history_of x)) e (prefix_self (history_of g))
upto-prefix g (Dies h n event items) (inr u) = prefix_trans (history_of g) (history_of h) (then_acts (history_of h) n items) (upto-prefix g h u) (then-prefix (history_of h) n items)

pub upto-trans : (f g h : System) → IsUpTo f g → IsUpTo g h → IsUpTo f h
upto-trans f g Nothing u v = subst (IsUpTo f) v u
upto-trans f g (Starts h s found) u (inl e) = subst (IsUpTo f) e u
upto-trans f g (Starts h s found) u (inr v) = inr (upto-trans f g h u v)
upto-trans f g (Lives h n entry) u (inl e) = subst (IsUpTo f) e u
upto-trans f g (Lives h n entry) u (inr v) = inr (upto-trans f g h u v)
upto-trans f g (Dies h n event items) u (inl e) = subst (IsUpTo f) e u
upto-trans f g (Dies h n event items) u (inr v) = inr (upto-trans f g h u v)

-- ---- a line came once

pub came-smaller : (h : System) (o : Operation) → Came h o → size o.came < size h
came-smaller Nothing o c = absurd c
came-smaller (Starts h s found) o c = let k = came-smaller h o c in omega (arith, k)
came-smaller (Lives h n (Did event items)) o (inl l) = let k = ap size l.came in omega (arith, k)
came-smaller (Lives h n (Did event items)) o (inr c) = let k = came-smaller h o c in omega (arith, k)
came-smaller (Lives h n (Gone conn)) o c = let k = came-smaller h o c in omega (arith, k)
came-smaller (Lives h n (Bad conn fault)) o c = let k = came-smaller h o c in omega (arith, k)
came-smaller (Lives h n NoMemory) o c = let k = came-smaller h o c in omega (arith, k)
came-smaller (Lives h n (Unread conn)) o c = let k = came-smaller h o c in omega (arith, k)
came-smaller (Dies h n event items) o (inl l) = let k = ap size l.came in omega (arith, k)
came-smaller (Dies h n event items) o (inr c) = let k = came-smaller h o c in omega (arith, k)

pub came-upto : (h : System) (o : Operation) → Came h o → IsUpTo o.came h
came-upto Nothing o c = absurd c
came-upto (Starts h s found) o c = inr (came-upto h o c)
came-upto (Lives h n (Did event items)) o (inl l) = inr (subst (λ (x : System). IsUpTo x h) (sym l.came) (upto-self h))
came-upto (Lives h n (Did event items)) o (inr c) = inr (came-upto h o c)
came-upto (Lives h n (Gone conn)) o c = inr (came-upto h o c)
came-upto (Lives h n (Bad conn fault)) o c = inr (came-upto h o c)
came-upto (Lives h n NoMemory) o c = inr (came-upto h o c)
came-upto (Lives h n (Unread conn)) o c = inr (came-upto h o c)
came-upto (Dies h n event items) o (inl l) = inr (subst (λ (x : System). IsUpTo x h) (sym l.came) (upto-self h))
came-upto (Dies h n event items) o (inr c) = inr (came-upto h o c)

-- what came at one moment came to one node
pub came-node : (h : System) (o p : Operation) → Came h o → Came h p → o.came ≡ p.came → o.node ≡ p.node
came-node Nothing o p c d e = absurd c
came-node (Starts h s found) o p c d e = came-node h o p c d e
came-node (Lives h n (Did event items)) o p (inl c) (inl d) e = c.node ∙ sym d.node
came-node (Lives h n (Did event items)) o p (inl c) (inr d) e = let k = came-smaller h p d in let same_size : size h ≡ size p.came = ap size (sym c.came ∙ e) in absurd (omega (arith, k, same_size))
came-node (Lives h n (Did event items)) o p (inr c) (inl d) e = let k = came-smaller h o c in let same_size : size o.came ≡ size h = ap size (e ∙ d.came) in absurd (omega (arith, k, same_size))
came-node (Lives h n (Did event items)) o p (inr c) (inr d) e = came-node h o p c d e
came-node (Lives h n (Gone conn)) o p c d e = came-node h o p c d e
came-node (Lives h n (Bad conn fault)) o p c d e = came-node h o p c d e
came-node (Lives h n NoMemory) o p c d e = came-node h o p c d e
came-node (Lives h n (Unread conn)) o p c d e = came-node h o p c d e
came-node (Dies h n event items) o p (inl c) (inl d) e = c.node ∙ sym d.node
came-node (Dies h n event items) o p (inl c) (inr d) e = let k = came-smaller h p d in let same_size : size h ≡ size p.came = ap size (sym c.came ∙ e) in absurd (omega (arith, k, same_size))
came-node (Dies h n event items) o p (inr c) (inl d) e = let k = came-smaller h o c in let same_size : size o.came ≡ size h = ap size (e ∙ d.came) in absurd (omega (arith, k, same_size))
came-node (Dies h n event items) o p (inr c) (inr d) e = came-node h o p c d e

-- ---- a run that goes on

pub runs_on-self : (h : System) (n : Id) → RunsOn h n h
runs_on-self Nothing n = refl
runs_on-self (Starts h s found) n = inl refl
runs_on-self (Lives h m entry) n = inl refl
runs_on-self (Dies h m event items) n = inl refl

-- the line of a run, by what it had lived as the line came
pub record CameAt (h : System) (n : Id) (s : Settings) (conn : ℕ) (request : Request) (so_far : Life) : Type 0 where
  pub moment : System
  pub came : Came h (record { came = moment; node = n; conn = conn; request = request })
  pub on : RunsOn moment n h
  pub runs : run_of moment n ≡ Runs s so_far

came-next : (h : System) (m n : Id) (entry : Entry) (s : Settings) (conn : ℕ) (request : Request) (so_far : Life) → CameAt h n s conn request so_far
    → ((o : Operation) → Came h o → Came (Lives h m entry) o) → CameAt (Lives h m entry) n s conn request so_far
came-next h m n entry s conn request so_far c f = record { moment = c.moment; came = f (record { came = c.moment; node = n; conn = conn; request = request }) c.came; on = inr c.on; runs = c.runs }

any-came : (h : System) (m : Id) (entry : Entry) (o : Operation) → Came h o → Came (Lives h m entry) o
any-came h m (Did event items) o c = inr c
any-came h m (Gone conn) o c = c
any-came h m (Bad conn fault) o c = c
any-came h m NoMemory o c = c
any-came h m (Unread conn) o c = c

-- the run that lives on is one that was there
pub record WasOn (r : Run) (entry : Entry) (s : Settings) (life : Life) : Type 0 where
  pub before : Life
  pub was : r ≡ Runs s before
  pub is : life ≡ Lived before entry

pub was_on : (r : Run) (entry : Entry) (s : Settings) (life : Life) → lives_on r entry ≡ Runs s life → WasOn r entry s life
was_on Down entry s life e = absurd (cc)
was_on (Runs t before) entry s life e =
    let settings : t ≡ s = cc in
    let lived : Lived before entry ≡ life = cc in
    record { before = before; was = λ i. Runs (settings i) before; is = sym lived }

pub came_at : (h : System) (n : Id) (s : Settings) (life : Life) → run_of h n ≡ Runs s life → (conn : ℕ) (request : Request) (so_far : Life) → CameAfter life conn request so_far → CameAt h n s conn request so_far
came_at Nothing n s life e conn request so_far c = absurd (let none : Down ≡ Runs s life = e in cc)
came_at (Starts h t found) n s life e conn request so_far c = from (same t.me n) refl e (λ k. came_at h n s life k conn request so_far c)
  where
    from : (b : Bool) → same t.me n ≡ b → cond b (Runs t (Opened NotBegun found)) (run_of h n) ≡ Runs s life → (run_of h n ≡ Runs s life → CameAt h n s conn request so_far) → CameAt (Starts h t found) n s conn request so_far
    from true is k rest = absurd (let opened : Opened NotBegun found ≡ life = cc in subst (λ (x : Life). CameAfter x conn request so_far) (sym opened) c)
    from false is k rest =
        let r = rest k in
        record { moment = r.moment; came = r.came; on = inr ((λ other. both-false is other), r.on); runs = r.runs }
      where
        both-false : same t.me n ≡ false → t.me ≢ n
        both-false off one = true≢false (sym (subst (λ (x : Id). same t.me x ≡ true) one (same_self t.me)) ∙ off)
came_at (Lives h m entry) n s life e conn request so_far c = from (same m n) refl e (λ x k d. came_at h n s x k conn request so_far d)
  where
    own : (entry' : Entry) (before : Life) → run_of h n ≡ Runs s before → m ≡ n → CameAfter (Lived before entry') conn request so_far
        → ((x : Life) → run_of h n ≡ Runs s x → CameAfter x conn request so_far → CameAt h n s conn request so_far) → CameAt (Lives h m entry') n s conn request so_far
    own (Did event items) before was is (inl k) rest =
        record { moment = h; came = inl (record { came = refl; node = sym is; line = k.0 }); on = inr (runs_on-self h n); runs = was ∙ ap (λ (x : Life). Runs s x) (sym k.1) }
    own (Did event items) before was is (inr k) rest = came-next h m n (Did event items) s conn request so_far (rest before was k) (any-came h m (Did event items))
    own (Gone x) before was is k rest = came-next h m n (Gone x) s conn request so_far (rest before was k) (any-came h m (Gone x))
    own (Bad x fault) before was is k rest = came-next h m n (Bad x fault) s conn request so_far (rest before was k) (any-came h m (Bad x fault))
    own NoMemory before was is k rest = came-next h m n NoMemory s conn request so_far (rest before was k) (any-came h m NoMemory)
    own (Unread x) before was is k rest = came-next h m n (Unread x) s conn request so_far (rest before was k) (any-came h m (Unread x))

    from : (b : Bool) → same m n ≡ b → cond b (lives_on (run_of h n) entry) (run_of h n) ≡ Runs s life
        → ((x : Life) → run_of h n ≡ Runs s x → CameAfter x conn request so_far → CameAt h n s conn request so_far) → CameAt (Lives h m entry) n s conn request so_far
    from true is k rest =
        let w = was_on (run_of h n) entry s life k in
        own entry w.before w.was (same_is m n is) (subst (λ (x : Life). CameAfter x conn request so_far) w.is c) rest
    from false is k rest = came-next h m n entry s conn request so_far (rest life k c) (any-came h m entry)
came_at (Dies h m event items) n s life e conn request so_far c = from (same m n) e (λ k. came_at h n s life k conn request so_far c)
  where
    from : (b : Bool) → cond b Down (run_of h n) ≡ Runs s life → (run_of h n ≡ Runs s life → CameAt h n s conn request so_far) → CameAt (Dies h m event items) n s conn request so_far
    from true k rest = absurd (let none : Down ≡ Runs s life = k in cc)
    from false k rest = let r = rest k in record { moment = r.moment; came = inr r.came; on = inr r.on; runs = r.runs }
