-- What a run leaves for the next one of its node.
use Rattle.std.proofs.Common.{◌≡◌, Bool, true, false, ◌⊎◌, inl, inr, Option, List, [], ◌∷◌, ◌++◌, refl, sym, ◌∙◌, ap, subst}
use Rattle.std.specs.List.{flat_map}
use Rattle.std.proofs.lemmas.Bool.{both_ways}
use Rattle.voting_config.specs.Ids.{Id}
use Rattle.cluster_state.specs.declared.state.Kept.{Kept}
use Rattle.world_model.specs.declared.acts.Act.{Act}
use Rattle.world_model.specs.declared.acts.Act.TheVariants.{Bootstrap, StartJoin, TakeJoin, Value, Publish, Response, Commit, Open}
use Rattle.world_model.specs.declared.acts.Message.{Message}
use Rattle.world_model.specs.declared.acts.ActReply.{ActReply}
use Rattle.world_model.specs.declared.acts.ActReply.TheVariants.{Taken, Refused, Stopped}
use Rattle.world_model.specs.declared.acts.Outcome.{Outcome}
use Rattle.world_model.specs.declared.acts.Outcome.TheVariants.{Answered, Disk, Crashed}
use Rattle.world_model.specs.Acts.{NodeHistory, Then, is_ok}
use Rattle.world_model.specs.NodeState.{NodeState, durable_of}
use Rattle.world_model.specs.Replies.{writes}
use Rattle.world_model.specs.Histories.{node_history, sent_by}
use Rattle.world_model.specs.Moves.{is_opening}
use Rattle.policy_model.specs.declared.settings.Settings.{Settings}
use Rattle.policy_model.specs.declared.events.Event.{Event}
use Rattle.policy_model.specs.Events.{Item, Opens, Begins, Acts, ChangesMode, Drops, Sends, Replies, Notes, Log, And, added, acts_of}
use Rattle.policy_model.specs.Entries.{Did, Life, Lived, log_of, frames_in, by_receiver, replies_of}
use Rattle.policy_model.specs.Views.{View, view_of}
use Rattle.policy_model.specs.Moves.{moved}
use Rattle.policy_model.specs.Follows.{Follows, IsNext, IsStruck, Here, Later, is_struck, starts_next, is_start, has_fault, items_of}
use Rattle.policy_model.specs.Struck.{settled_item, settled_items, settled_acts}
use Rattle.policy_model.proofs.Faults.{next-fault, struck-frames, struck-replies}
use Rattle.system_laws.specs.Messages.{comes_with}
use Rattle.system_laws.specs.Systems.{System, Runs, run_of, history_of, IsDoneOf, Killed, InAct, Also, Unsent, Unanswered, IsSystem}
use Rattle.system_laws.specs.Restarts.{IsSettled, IsLeftAmong, IsKilled}
use Rattle.system_laws.proofs.Done.{AreMeant, event-meant}
use Rattle.system_laws.proofs.Assembly.{IsAlive, IsRun, sound, node-after}
use Rattle.system_laws.proofs.Stepping.{legal_rule}

abbrev kept_of : NodeState → Kept
kept_of p = record { term = p.term; accepted = p.accepted; committed = p.committed }

pub last_run_is_kept : (initial : List Id) (h : System) → IsSystem initial h → (n : Id) (s : Settings) (life : Life) → run_of h n ≡ Runs s life
    → durable_of (node_history (history_of h) n) ≡ durable_of (acts_of (log_of life))
last_run_is_kept initial h l n s life runs =
    let alive : IsAlive initial (history_of h) n s life = subst (IsRun initial (history_of h) n) runs ((sound initial h l).runs n) in
    ap kept_of (sym alive.node)

-- an event that was struck

settled-answered : (kept : Bool) (act : Act) (o : Outcome) (r : ActReply) → o ≡ Answered r → settled_item kept (Acts act o) ≡ Acts act o
settled-answered kept act (Answered x) r e = refl
settled-answered kept act (Disk was) r e = absurd (cc)
settled-answered kept act (Crashed was) r e = absurd (cc)

settled-here : (kept : Bool) (act : Act) (sends : Option Message) (wins : Bool) (rest : List Item) (fault : Outcome) → writes act ≡ true → (f : _) → IsStruck (Acts act (Answered (Taken sends wins)) ∷ rest) (Acts act fault ∷ []) → has_fault (Acts act fault ∷ []) ≡ f → f ≡ true
    → IsStruck (Acts act (Answered (Taken sends wins)) ∷ rest) (settled_item kept (Acts act fault) ∷ [])
settled-here kept act sends wins rest (Answered r) w f q e t = absurd (cc)
settled-here kept act sends wins rest (Disk was) w f q e t = Here act sends wins rest (Disk kept) w refl
settled-here kept act sends wins rest (Crashed was) w f q e t = Here act sends wins rest (Crashed kept) w refl

settled-struck : (kept : Bool) (s : Settings) (came : Option Message) (ms : List Message) (v : View) (is left : List Item) → AreMeant s came ms v is → IsStruck is left → IsStruck is (settled_items kept left)
settled-struck kept s came ms v is left a (Here act sends wins rest fault w f) = settled-here kept act sends wins rest fault w _ (Here act sends wins rest fault w f) refl (rw f refl)
settled-struck kept s came ms v is left a (Later (Opens found) rest some q) = absurd a
settled-struck kept s came ms v is left a (Later (Begins event) rest some q) = absurd a
settled-struck kept s came ms v is left a (Later (Acts act o) rest some q) =
    subst (λ (i : Item). IsStruck (Acts act o ∷ rest) (i ∷ settled_items kept some)) (sym (settled-answered kept act o _ a.0.answered))
    (Later (Acts act o) rest (settled_items kept some) (settled-struck kept s came (ms ++ sent_by o) (moved s v (Acts act o)) rest some a.1 q))
settled-struck kept s came ms v is left a (Later (ChangesMode mode term) rest some q) = Later (ChangesMode mode term) rest (settled_items kept some) (settled-struck kept s came ms (moved s v (ChangesMode mode term)) rest some a q)
settled-struck kept s came ms v is left a (Later (Drops member cause) rest some q) = Later (Drops member cause) rest (settled_items kept some) (settled-struck kept s came ms (moved s v (Drops member cause)) rest some a q)
settled-struck kept s came ms v is left a (Later (Sends frame) rest some q) = Later (Sends frame) rest (settled_items kept some) (settled-struck kept s came ms v rest some a.1 q)
settled-struck kept s came ms v is left a (Later (Replies answer) rest some q) = Later (Replies answer) rest (settled_items kept some) (settled-struck kept s came ms v rest some a q)
settled-struck kept s came ms v is left a (Later (Notes note) rest some q) = Later (Notes note) rest (settled_items kept some) (settled-struck kept s came ms (moved s v (Notes note)) rest some a q)

settled-next : (kept : Bool) (s : Settings) (life : Life) (e : Event) (items : List Item) → has_fault items ≡ true → IsNext s life e items → IsNext s life e (settled_items kept items)
settled-next kept s life e items f n = record { up = n.up; start = n.start; does = from n.does }
  where
    from : (items ≡ items_of s (log_of life) e) ⊎ IsStruck (items_of s (log_of life) e) items → (settled_items kept items ≡ items_of s (log_of life) e) ⊎ IsStruck (items_of s (log_of life) e) (settled_items kept items)
    from (inl whole) = absurd (both_ways _ (ap has_fault whole ∙ next-fault s (view_of s (And (log_of life) (Begins e))) e) f)
    from (inr struck) = inr (settled-struck kept s (comes_with e) [] _ (items_of s (log_of life) e) items (event-meant s life e) struck)

-- the acts up to the one that was struck, and that one settled
settled-acts : (kept : Bool) (s : Settings) (came : Option Message) (ms : List Message) (v : View) (l : Log) (is left : List Item) → AreMeant s came ms v is → IsStruck is left → acts_of (added l (settled_items kept left)) ≡ settled_acts kept (acts_of (added l left))
settled-acts kept s came ms v l is left a (Here act sends wins rest fault w f) = one fault
  where
    one : (o : Outcome) → acts_of (added l (settled_item kept (Acts act o) ∷ [])) ≡ settled_acts kept (Then (acts_of l) act o)
    one (Answered reply) = refl
    one (Disk was) = refl
    one (Crashed was) = refl
settled-acts kept s came ms v l is left a (Later (Opens found) rest some q) = absurd a
settled-acts kept s came ms v l is left a (Later (Begins event) rest some q) = absurd a
settled-acts kept s came ms v l is left a (Later (Acts act o) rest some q) =
    ap (λ (i : Item). acts_of (added l (i ∷ settled_items kept some))) (settled-answered kept act o _ a.0.answered)
    ∙ settled-acts kept s came (ms ++ sent_by o) (moved s v (Acts act o)) (And l (Acts act o)) rest some a.1 q
settled-acts kept s came ms v l is left a (Later (ChangesMode mode term) rest some q) = settled-acts kept s came ms (moved s v (ChangesMode mode term)) (And l (ChangesMode mode term)) rest some a q
settled-acts kept s came ms v l is left a (Later (Drops member cause) rest some q) = settled-acts kept s came ms (moved s v (Drops member cause)) (And l (Drops member cause)) rest some a q
settled-acts kept s came ms v l is left a (Later (Sends frame) rest some q) = settled-acts kept s came ms v l rest some a.1 q
settled-acts kept s came ms v l is left a (Later (Replies answer) rest some q) = settled-acts kept s came ms v l rest some a q
settled-acts kept s came ms v l is left a (Later (Notes note) rest some q) = settled-acts kept s came ms (moved s v (Notes note)) (And l (Notes note)) rest some a q

pub fault_is_settled : (s : Settings) (life : Life) (e : Event) (items : List Item) → Follows s (Lived life (Did e items)) → has_fault items ≡ true → (kept : Bool) → IsSettled s life e items kept
fault_is_settled s life e items follows f kept = from follows.1.does
  where
    from : (items ≡ items_of s (log_of life) e) ⊎ IsStruck (items_of s (log_of life) e) items → IsSettled s life e items kept
    from (inl whole) = absurd (both_ways _ (ap has_fault whole ∙ next-fault s (view_of s (And (log_of life) (Begins e))) e) f)
    from (inr struck) =
        let left : IsStruck (items_of s (log_of life) e) (settled_items kept items) = settled-struck kept s (comes_with e) [] _ (items_of s (log_of life) e) items (event-meant s life e) struck in
        record {
          follows = (follows.0, settled-next kept s life e items f follows.1);
          acts = settled-acts kept s (comes_with e) [] _ (And (log_of life) (Begins e)) (items_of s (log_of life) e) items (event-meant s life e) struck;
          silent = ap by_receiver (struck-frames (items_of s (log_of life) e) (settled_items kept items) left);
          unanswered = struck-replies (items_of s (log_of life) e) (settled_items kept items) left;
        }

-- within an event

pub record CutTo (l : Log) (is : List Item) (found : Kept) : Type 0 where
  pub done : List Item
  pub did : IsDoneOf is done
  pub silent : flat_map frames_in done ≡ []
  pub unanswered : replies_of done ≡ []
  pub is_left : found ≡ durable_of (acts_of (added l done))

at-once : (l : Log) (is : List Item) (found : Kept) → found ≡ durable_of (acts_of l) → CutTo l is found
at-once l is found e = record { done = []; did = Killed is; silent = refl; unanswered = refl; is_left = e }

in-act : (l : Log) (act : Act) (o : Outcome) (is : List Item) (found : Kept) → writes act ≡ true → is_ok o ≡ true → found ≡ durable_of (Then (acts_of l) act (Crashed true)) → CutTo l (Acts act o ∷ is) found
in-act l act (Answered (Taken sends wins)) is found w ok e = record { done = Acts act (Crashed true) ∷ []; did = InAct act sends wins is (Crashed true) w refl; silent = refl; unanswered = refl; is_left = e }
in-act l act (Answered (Refused cause)) is found w ok e = absurd (cc)
in-act l act (Answered Stopped) is found w ok e = absurd (cc)
in-act l act (Disk kept) is found w ok e = absurd (cc)
in-act l act (Crashed kept) is found w ok e = absurd (cc)

-- an act that writes nothing changes nothing of what is kept
keeps-nothing : (g : NodeHistory) (act : Act) → writes act ≡ false → is_opening act ≡ false → durable_of (Then g act (Crashed true)) ≡ durable_of g
keeps-nothing g (Bootstrap config) w c = absurd (cc)
keeps-nothing g (StartJoin candidate term) w c = absurd (cc)
keeps-nothing g (TakeJoin join) w c = refl
keeps-nothing g (Value version config value) w c = refl
keeps-nothing g (Publish request) w c = absurd (cc)
keeps-nothing g (Response response) w c = refl
keeps-nothing g (Commit commit) w c = absurd (cc)
keeps-nothing g (Open found) w c = absurd (cc)

with-act : (l : Log) (act : Act) (o : Outcome) (is : List Item) (found : Kept) → is_opening act ≡ false → is_ok o ≡ true → found ≡ durable_of (Then (acts_of l) act (Crashed true)) → CutTo l (Acts act o ∷ is) found
with-act l act o is found c ok e = from (writes act) refl
  where
    from : (b : Bool) → writes act ≡ b → CutTo l (Acts act o ∷ is) found
    from true w = in-act l act o is found w ok e
    from false w = at-once l (Acts act o ∷ is) found (e ∙ keeps-nothing (acts_of l) act w c)

pub cut-to : (s : Settings) (came : Option Message) (ms : List Message) (v : View) (l : Log) (is : List Item) (found : Kept) → AreMeant s came ms v is → IsLeftAmong (acts_of l) is found → CutTo l is found
cut-to s came ms v l [] found a k = at-once l [] found k
cut-to s came ms v l (Opens kept ∷ is) found a k = absurd a
cut-to s came ms v l (Begins event ∷ is) found a k = absurd a
cut-to s came ms v l (Acts act o ∷ is) found a (inl (inl e)) = at-once l (Acts act o ∷ is) found e
cut-to s came ms v l (Acts act o ∷ is) found a (inl (inr e)) = with-act l act o is found a.0.closed e.0 e.1
cut-to s came ms v l (Acts act o ∷ is) found a (inr k) =
    let r = cut-to s came (ms ++ sent_by o) (moved s v (Acts act o)) (And l (Acts act o)) is found a.1 k in
    record { done = Acts act o ∷ r.done; did = Also (Acts act o) is r.done r.did; silent = r.silent; unanswered = r.unanswered; is_left = r.is_left }
cut-to s came ms v l (ChangesMode mode term ∷ is) found a k =
    let r = cut-to s came ms (moved s v (ChangesMode mode term)) (And l (ChangesMode mode term)) is found a k in
    record { done = ChangesMode mode term ∷ r.done; did = Also (ChangesMode mode term) is r.done r.did; silent = r.silent; unanswered = r.unanswered; is_left = r.is_left }
cut-to s came ms v l (Drops member cause ∷ is) found a k =
    let r = cut-to s came ms (moved s v (Drops member cause)) (And l (Drops member cause)) is found a k in
    record { done = Drops member cause ∷ r.done; did = Also (Drops member cause) is r.done r.did; silent = r.silent; unanswered = r.unanswered; is_left = r.is_left }
cut-to s came ms v l (Sends frame ∷ is) found a k =
    let r = cut-to s came ms v l is found a.1 k in
    record { done = r.done; did = Unsent frame is r.done r.did; silent = r.silent; unanswered = r.unanswered; is_left = r.is_left }
cut-to s came ms v l (Replies answer ∷ is) found a k =
    let r = cut-to s came ms v l is found a k in
    record { done = r.done; did = Unanswered answer is r.done r.did; silent = r.silent; unanswered = r.unanswered; is_left = r.is_left }
cut-to s came ms v l (Notes note ∷ is) found a k =
    let r = cut-to s came ms (moved s v (Notes note)) (And l (Notes note)) is found a k in
    record { done = Notes note ∷ r.done; did = Also (Notes note) is r.done r.did; silent = r.silent; unanswered = r.unanswered; is_left = r.is_left }

pub kill_leaves : (initial : List Id) (h : System) → IsSystem initial h → (n : Id) (s : Settings) (life : Life) → run_of h n ≡ Runs s life → is_struck life ≡ false
    → (e : Event) → is_start e ≡ starts_next life → (found : Kept) → IsLeftAmong (acts_of (log_of life)) (items_of s (log_of life) e) found → IsKilled h n e found
kill_leaves initial h l n s life runs up e first found left =
    let c = cut-to s (comes_with e) [] (view_of s (And (log_of life) (Begins e))) (And (log_of life) (Begins e)) (items_of s (log_of life) e) found (event-meant s life e) left in
    record {
      items = c.done;
      may = record { settings = s; life = life; runs = runs; up = up; start = first; did = c.did };
      silent = ap by_receiver c.silent;
      unanswered = c.unanswered;
      kept = c.is_left ∙ ap kept_of (node-after initial (legal_rule initial) h (sound initial h l) n s life runs e c.done c.did);
    }
