-- What a crash leaves at a moment of an event is what a kill leaves.
use Rattle.std.proofs.Common.{◌≡◌, ◌≤◌, ◌⊎◌, inl, inr, ⊎_elim, ℕ, Bool, true, false, Option, Some, List, [], ◌∷◌, refl, sym, ◌∙◌, ap, subst, arith}
use Rattle.voting_config.specs.Ids.{Id}
use Rattle.cluster_state.specs.declared.state.Kept.{Kept}
use Rattle.world_model.specs.declared.acts.Act.{Act}
use Rattle.world_model.specs.declared.acts.Act.TheVariants.{Bootstrap, StartJoin, TakeJoin, Value, Publish, Response, Commit, Open}
use Rattle.world_model.specs.declared.acts.ActReply.TheVariants.{Taken, Refused, Stopped}
use Rattle.world_model.specs.declared.acts.Outcome.{Outcome}
use Rattle.world_model.specs.declared.acts.Outcome.TheVariants.{Answered, Disk, Crashed}
use Rattle.world_model.specs.Acts.{NodeHistory, Then, is_effective, is_opening}
use Rattle.world_model.specs.NodeState.{durable_of}
use Rattle.world_model.specs.Histories.{node_history}
use Rattle.zen_disk.specs.declared.disks.Disks.{Ghosts as Disks}
use Rattle.state_journal.specs.Changes.{IsEither}
use Rattle.coord_state.specs.Writes.{IsDuring}
use Rattle.coordinator.specs.CoreActs.{IsAlong, IsDuringAs}
use Rattle.policy_model.specs.declared.settings.Settings.{Settings}
use Rattle.policy_model.specs.declared.events.Event.{Event}
use Rattle.policy_model.specs.Events.{Item, Opens, Begins, Acts, ChangesMode, Drops, Sends, Replies, Notes, Log, And, acts_of}
use Rattle.policy_model.specs.Entries.{Entry, Did, Gone, Bad, NoMemory, Unread, Life, Lived, log_of, by_receiver}
use Rattle.policy_model.specs.Views.{View, view_of}
use Rattle.policy_model.specs.Moves.{moved}
use Rattle.policy_model.specs.Follows.{Follows, EntryFollows, IsNext, IsStruck, Here, Later, is_fault, is_struck, has_fault, items_of}
use Rattle.policy_model.specs.Struck.{settled_acts}
use Rattle.system_laws.specs.Messages.{comes_with}
use Rattle.system_laws.specs.Systems.{System, Runs, run_of, history_of, IsSystem}
use Rattle.system_laws.specs.Restarts.{IsSettled, IsKilled, IsLeftIn, IsLeftAmong}
use Rattle.system_laws.proofs.Done.{AreMeant, event-meant}
use Rattle.system_laws.proofs.Restarting.{last_run_is_kept, fault_is_settled, kill_leaves, cut-to}
use Rattle.node_loop.specs.Crashes.{IsLeftBy, Along, IsLastRecord, IsRecordOf}
use Rattle.node_loop.specs.Reports.{lived, EntriesFollow}
use Rattle.node_loop.specs.Running.{StoodOn, LeavesLastOn}
use Rattle.node_loop.specs.Killed.{LawMomentIsCut, IsCutBetween, IsSettledAs, IsEnd}

some-is : (x y : Kept) → Some x ≡ Some y → x ≡ y
some-is x y e = cc

-- ---- an act that met a fault is kept or not

not-kept : (g : NodeHistory) (act : Act) (o : Outcome) → is_opening act ≡ false → is_effective o ≡ false → durable_of (Then g act o) ≡ durable_of g
not-kept g (Bootstrap config) o c e = rw e refl
not-kept g (StartJoin candidate term) o c e = rw e refl
not-kept g (TakeJoin join) o c e = refl
not-kept g (Value version config value) o c e = refl
not-kept g (Publish request) o c e = rw e refl
not-kept g (Response response) o c e = refl
not-kept g (Commit commit) o c e = rw e refl
not-kept g (Open found) o c e = absurd (cc)

is-kept : (g : NodeHistory) (act : Act) (o : Outcome) → is_opening act ≡ false → is_effective o ≡ true → durable_of (Then g act o) ≡ durable_of (Then g act (Crashed true))
is-kept g (Bootstrap config) o c e = rw e refl
is-kept g (StartJoin candidate term) o c e = rw e refl
is-kept g (TakeJoin join) o c e = refl
is-kept g (Value version config value) o c e = refl
is-kept g (Publish request) o c e = rw e refl
is-kept g (Response response) o c e = refl
is-kept g (Commit commit) o c e = rw e refl
is-kept g (Open found) o c e = absurd (cc)

-- ---- within an event

-- in the midst of an act that is taken
in-taken : (g : NodeHistory) (act : Act) (sends : _) (wins : Bool) (found : Kept) → IsDuring g act (Some found) → IsLeftIn g act (Answered (Taken sends wins)) found
in-taken g act sends wins found d = ⊎_elim (λ p. inl (some-is found (durable_of g) p)) (λ p. inr (refl, some-is found (durable_of (Then g act (Crashed true))) p)) d

left-in : (g : NodeHistory) (act : Act) (o : Outcome) (found : Kept) → IsDuringAs g act o (Some found) → (x : _) → o ≡ Answered x → IsLeftIn g act o found
left-in g act (Answered (Taken sends wins)) found d x e = in-taken g act sends wins found d
left-in g act (Answered (Refused cause)) found d x e = inl (some-is found (durable_of g) d)
left-in g act (Answered Stopped) found d x e = inl (some-is found (durable_of g) d)
left-in g act (Disk kept) found d x e = absurd (cc)
left-in g act (Crashed kept) found d x e = absurd (cc)

-- at a moment of a whole event
left-among : (s : Settings) (came : _) (ms : _) (v : View) (g : NodeHistory) (is : List Item) (found : Kept) → AreMeant s came ms v is → IsAlong g is (Some found) → IsLeftAmong g is found
left-among s came ms v g [] found a k = some-is found (durable_of g) k
left-among s came ms v g (Opens kept ∷ is) found a k = absurd a
left-among s came ms v g (Begins event ∷ is) found a k = absurd a
left-among s came ms v g (Acts act o ∷ is) found a (inl d) = inl (left-in g act o found d _ a.0.answered)
left-among s came ms v g (Acts act o ∷ is) found a (inr k) = inr (left-among s came _ (moved s v (Acts act o)) (Then g act o) is found a.1 k)
left-among s came ms v g (ChangesMode mode term ∷ is) found a k = left-among s came ms (moved s v (ChangesMode mode term)) g is found a k
left-among s came ms v g (Drops member cause ∷ is) found a k = left-among s came ms (moved s v (Drops member cause)) g is found a k
left-among s came ms v g (Sends frame ∷ is) found a k = left-among s came ms v g is found a.1 k
left-among s came ms v g (Replies answer ∷ is) found a k = left-among s came ms v g is found a k
left-among s came ms v g (Notes note ∷ is) found a k = left-among s came ms (moved s v (Notes note)) g is found a k

-- at or after an act that met a fault
left-fault : (g : NodeHistory) (act : Act) (sends : _) (wins : Bool) (fault : Outcome) (found : Kept) → is_opening act ≡ false → is_fault fault ≡ true → IsAlong g (Acts act fault ∷ []) (Some found) → IsLeftIn g act (Answered (Taken sends wins)) found
left-fault g act sends wins (Answered reply) found c f k = absurd (cc)
left-fault g act sends wins (Disk kept) found c f (inl d) = in-taken g act sends wins found d
left-fault g act sends wins (Disk false) found c f (inr e) = inl (some-is found _ e ∙ not-kept g act (Disk false) c refl)
left-fault g act sends wins (Disk true) found c f (inr e) = inr (refl, some-is found _ e ∙ is-kept g act (Disk true) c refl)
left-fault g act sends wins (Crashed kept) found c f (inl d) = in-taken g act sends wins found d
left-fault g act sends wins (Crashed false) found c f (inr e) = inl (some-is found _ e ∙ not-kept g act (Crashed false) c refl)
left-fault g act sends wins (Crashed true) found c f (inr e) = inr (refl, some-is found _ e ∙ is-kept g act (Crashed true) c refl)

-- at a moment of an event that was struck
left-struck : (s : Settings) (came : _) (ms : _) (v : View) (g : NodeHistory) (is left : List Item) (found : Kept) → AreMeant s came ms v is → IsStruck is left → IsAlong g left (Some found) → IsLeftAmong g is found
left-struck s came ms v g is left found a (Here act sends wins rest fault w f) k = inl (left-fault g act sends wins fault found a.0.closed f k)
left-struck s came ms v g is left found a (Later (Opens kept) rest some q) k = absurd a
left-struck s came ms v g is left found a (Later (Begins event) rest some q) k = absurd a
left-struck s came ms v g is left found a (Later (Acts act o) rest some q) (inl d) = inl (left-in g act o found d _ a.0.answered)
left-struck s came ms v g is left found a (Later (Acts act o) rest some q) (inr k) = inr (left-struck s came _ (moved s v (Acts act o)) (Then g act o) rest some found a.1 q k)
left-struck s came ms v g is left found a (Later (ChangesMode mode term) rest some q) k = left-struck s came ms (moved s v (ChangesMode mode term)) g rest some found a q k
left-struck s came ms v g is left found a (Later (Drops member cause) rest some q) k = left-struck s came ms (moved s v (Drops member cause)) g rest some found a q k
left-struck s came ms v g is left found a (Later (Sends frame) rest some q) k = left-struck s came ms v g rest some found a.1 q k
left-struck s came ms v g is left found a (Later (Replies answer) rest some q) k = left-struck s came ms v g rest some found a q k
left-struck s came ms v g is left found a (Later (Notes note) rest some q) k = left-struck s came ms (moved s v (Notes note)) g rest some found a q k

left-next : (s : Settings) (life : Life) (e : Event) (items : List Item) (found : Kept) → IsNext s life e items → IsAlong (acts_of (log_of life)) items (Some found) → IsLeftAmong (acts_of (log_of life)) (items_of s (log_of life) e) found
left-next s life e items found next k = from next.does
  where
    from : (items ≡ items_of s (log_of life) e) ⊎ IsStruck (items_of s (log_of life) e) items → IsLeftAmong (acts_of (log_of life)) (items_of s (log_of life) e) found
    from (inl same) =
        left-among s (comes_with e) [] (view_of s (And (log_of life) (Begins e))) (acts_of (log_of life)) (items_of s (log_of life) e) found (event-meant s life e)
        (subst (λ (is : List Item). IsAlong (acts_of (log_of life)) is (Some found)) same k)
    from (inr struck) = left-struck s (comes_with e) [] (view_of s (And (log_of life) (Begins e))) (acts_of (log_of life)) (items_of s (log_of life) e) items found (event-meant s life e) struck k

pub crash_is_kill : (initial : List Id) (h : System) → IsSystem initial h → (n : Id) (s : Settings) (life : Life) → run_of h n ≡ Runs s life
    → (e : Event) (items : List Item) → Follows s (Lived life (Did e items)) → (found : Kept) → IsLeftBy life (Did e items) (Some found) → IsKilled h n e found
crash_is_kill initial h l n s life runs e items follows found k =
    kill_leaves initial h l n s life runs follows.1.up e follows.1.start found (left-next s life e items found follows.1 k)

-- ---- along a life

left-either : (a b : Kept) (found : Option Kept) → IsEither a b found → (kept : Kept) × (found ≡ Some kept)
left-either a b found (inl e) = (a, e)
left-either a b found (inr e) = (b, e)

left-during : (g : NodeHistory) (act : Act) (o : Outcome) (found : Option Kept) → IsDuringAs g act o found → (kept : Kept) × (found ≡ Some kept)
left-during g act (Answered (Taken sends wins)) found d = left-either (durable_of g) (durable_of (Then g act (Crashed true))) found d
left-during g act (Answered (Refused cause)) found d = (durable_of g, d)
left-during g act (Answered Stopped) found d = (durable_of g, d)
left-during g act (Disk kept) found d = left-either (durable_of g) (durable_of (Then g act (Crashed true))) found d
left-during g act (Crashed kept) found d = left-either (durable_of g) (durable_of (Then g act (Crashed true))) found d

-- a crash leaves a record
left-record : (g : NodeHistory) (is : List Item) (found : Option Kept) → IsAlong g is found → (kept : Kept) × (found ≡ Some kept)
left-record g [] found k = (durable_of g, k)
left-record g (Acts act o ∷ is) found (inl d) = left-during g act o found d
left-record g (Acts act o ∷ is) found (inr k) = left-record (Then g act o) is found k
left-record g (Opens kept ∷ is) found k = left-record g is found k
left-record g (Begins event ∷ is) found k = left-record g is found k
left-record g (ChangesMode mode term ∷ is) found k = left-record g is found k
left-record g (Drops member cause ∷ is) found k = left-record g is found k
left-record g (Sends frame ∷ is) found k = left-record g is found k
left-record g (Replies answer ∷ is) found k = left-record g is found k
left-record g (Notes note ∷ is) found k = left-record g is found k

cut-within : (s : Settings) (life : Life) (event : Event) (items : List Item) (rest : List Entry) (found : Option Kept) → IsNext s life event items → IsAlong (acts_of (log_of life)) items found
    → IsCutBetween s life (lived (Lived life (Did event items)) rest) found
cut-within s life event items rest found next k =
    let l : Log = And (log_of life) (Begins event) in
    let r = left-record (acts_of (log_of life)) items found k in
    let c = cut-to s (comes_with event) [] (view_of s l) l (items_of s (log_of life) event) r.0 (event-meant s life event)
    (left-next s life event items r.0 next (subst (λ (f : Option Kept). IsAlong (acts_of (log_of life)) items f) r.1 k)) in
    record {
      prefix = [];
      event = event;
      items = items;
      rest = rest;
      goes = refl;
      done = c.done;
      did = c.did;
      silent = ap by_receiver c.silent;
      unanswered = c.unanswered;
      kept = r.1 ∙ ap Some c.is_left;
    }

cut-by : (s : Settings) (life : Life) (e : Entry) (rest : List Entry) (found : Option Kept) → EntryFollows s life e → IsLeftBy life e found → IsCutBetween s life (lived (Lived life e) rest) found
cut-by s life (Did event items) rest found next k = cut-within s life event items rest found next k
cut-by s life (Gone conn) rest found next k = absurd k
cut-by s life (Bad conn fault) rest found next k = absurd k
cut-by s life NoMemory rest found next k = absurd k
cut-by s life (Unread conn) rest found next k = absurd k

cut-later : (s : Settings) (life : Life) (e : Entry) (new : Life) (found : Option Kept) → IsCutBetween s (Lived life e) new found → IsCutBetween s life new found
cut-later s life e new found cut = record {
  prefix = e ∷ cut.prefix;
  event = cut.event;
  items = cut.items;
  rest = cut.rest;
  goes = cut.goes;
  done = cut.done;
  did = cut.did;
  silent = cut.silent;
  unanswered = cut.unanswered;
  kept = cut.kept;
}

follows-back : (s : Settings) (life : Life) (es : List Entry) → Follows s (lived life es) → Follows s life × EntriesFollow s life es
follows-back s life [] f = (f, tt)
follows-back s life (e ∷ es) f =
    let both = follows-back s (Lived life e) es f in
    let first : Follows s (Lived life e) = both.0 in
    (first.0, (first.1, both.1))

module _ {D : Type 0} (d : Disks D) where
  along-cut : (s : Settings) (old now : D) (life : Life) (es : List Entry) → d.told → EntriesFollow s life es → Along (LeavesLastOn d) d.told d.moment (StoodOn d) s old now life es
      → (t : ℕ) (found : Option Kept) → t ≤ d.moment old → StoodOn d now t found → StoodOn d old t found ⊎ IsCutBetween s life (lived life es) found
  along-cut s old now life [] told f still t found le left = ⊎_elim (λ was. inl was) (λ none. absurd none) ((still told).since t found le left)
  along-cut s old now life (e ∷ es) told f along t found le left =
      let first = along.1.any_moment told in
      ⊎_elim (λ was. ⊎_elim (λ before. inl before) (λ by. inr (cut-by s life e es found f.0 by)) (first.since t found le was))
      (λ cut. inr (cut-later s life e (lived life (e ∷ es)) found cut))
      (along-cut s along.0 now (Lived life e) es told f.1 along.2 t found (omega (arith, le, first.later)) left)

  pub moment_is_cut : LawMomentIsCut d
  moment_is_cut opened back s life new follows holds told t found le left =
      let follow = follows-back s life holds.entries (subst (λ (l : Life). Follows s l) (sym holds.reached) follows) in
      subst (λ (l : Life). StoodOn d opened t found ⊎ IsCutBetween s life l found) holds.reached
      (along-cut s opened back life holds.entries told follow.1 holds.along t found le left)

-- ---- the end of a run

settled-as : (s : Settings) (before : Life) (event : Event) (items : List Item) (found : Kept) (kept : Bool) → Follows s (Lived before (Did event items)) → has_fault items ≡ true
    → Some found ≡ Some (durable_of (settled_acts kept (acts_of (log_of (Lived before (Did event items)))))) → IsSettledAs s before event items found
settled-as s before event items found kept follows f e =
    let settled : IsSettled s before event items kept = fault_is_settled s before event items follows f kept in
    record { kept = kept; follows = settled.follows; record_is = some-is found _ e ∙ ap durable_of (sym settled.acts) }

pub end_is_kept : (initial : List Id) (h : System) → IsSystem initial h → (n : Id) (s : Settings) (life : Life) → run_of h n ≡ Runs s life → Follows s life
    → (found : Kept) → IsLastRecord life (Some found) → IsEnd h n s life found
end_is_kept initial h l n s life runs follows found last = record { unstruck = quiet (is_struck life) last; struck = faulty }
  where
    quiet : (b : Bool) → IsRecordOf b (acts_of (log_of life)) (Some found) → b ≡ false → found ≡ durable_of (node_history (history_of h) n)
    quiet true r e = absurd (cc)
    quiet false r e = some-is found (durable_of (acts_of (log_of life))) r ∙ sym (last_run_is_kept initial h l n s life runs)

    faulty : (before : Life) (event : Event) (items : List Item) → life ≡ Lived before (Did event items) → has_fault items ≡ true → IsSettledAs s before event items found
    faulty before event items is f = so_by (subst (λ (x : Life). Follows s x) is follows) (subst (λ (b : Bool). IsRecordOf b (acts_of (log_of (Lived before (Did event items)))) (Some found)) f (subst (λ (x : Life). IsLastRecord x (Some found)) is last))
      where
        so_by : Follows s (Lived before (Did event items)) → IsRecordOf true (acts_of (log_of (Lived before (Did event items)))) (Some found) → IsSettledAs s before event items found
        so_by fs (inl e) = settled-as s before event items found false fs f e
        so_by fs (inr e) = settled-as s before event items found true fs f e
