-- What the acts of an event come to, all together.
use Rattle.std.proofs.Common.{◌≡◌, ℕ, ◌≤◌, true, false, List, [], ◌∷◌, ◌++◌, arith, refl, sym, ap, subst, ◌∙◌}
use Rattle.std.proofs.lemmas.Bool.{and_parts, or_parts}
use Rattle.state_journal.specs.declared.keeper.Keeper.{Ghosts}
use Rattle.std.specs.Prelude.{Result, Ok, Err, max, min}
use Rattle.zen_disk.specs.Faults.{Rose}
use Rattle.zen_disk.specs.Moments.{LeavesOnly, quiet, leaves_also}
use Rattle.world_model.specs.declared.acts.Act.{Act}
use Rattle.world_model.specs.declared.acts.Act.TheVariants.{Bootstrap, StartJoin, TakeJoin, Value, Publish, Response, Commit, Open}
use Rattle.world_model.specs.declared.acts.Outcome.{Outcome}
use Rattle.world_model.specs.declared.acts.Outcome.TheVariants.{Answered, Disk, Crashed}
use Rattle.world_model.specs.Acts.{is_disk, is_crashed}
use Rattle.world_model.specs.Replies.{writes}
use Rattle.world_model.specs.NodeState.{NodeState}
use Rattle.world_model.specs.Moves.{node_state_after}
use Rattle.coord_state.specs.StandsFor.{fields_of}
use Rattle.coord_state.specs.declared.coord.CoordState.{CoordState}
use Rattle.policy_model.specs.declared.settings.Settings.{Settings}
use Rattle.policy_model.specs.declared.events.Event.{Event}
use Rattle.policy_model.specs.declared.events.Event.TheVariants.{Start, Tick, Frame as FrameCame, Client as LineCame, Disconnected as PeerGone}
use Rattle.policy_model.specs.Events.{acts_of, Item, Opens, Begins, Acts, ChangesMode, Drops, Sends, Replies, Notes, And, added}
use Rattle.policy_model.specs.Entries.{Life, log_of}
use Rattle.policy_model.specs.Views.{View, view_of}
use Rattle.policy_model.specs.Moves.{begun, moved_all, is_own, are_own, view_of-And}
use Rattle.policy_model.specs.Follows.{IsStruck, Here, Later, without_output, is_fault, has_fault, items_of}
use Rattle.policy_model.specs.Parts.{last_moment}
use Rattle.policy_model.specs.Rules.{next_of}
use Rattle.policy_model.proofs.Answering.{answered-next}
use Rattle.policy_model.proofs.Standing.{view_of-added, own-answered}
use Rattle.coordinator.specs.Does.{Goes, Makes, Fails, EndsAll, Leaves}
use Rattle.coordinator.specs.Showing.{Shown}
use Rattle.coordinator.specs.CoreActs.{CoreDid, IsAlong}
use Rattle.coordinator.specs.Lives.{StandsForLife, WroteAll, Passes, Brings, Breaks, EventEnds, Enters, Survives}
use Rattle.coordinator.specs.Views.{view_in, IsReady}
use Rattle.coordinator.specs.declared.coordinator.Coordinator.{Coordinator}
use Rattle.coordinator.specs.declared.coordinator.EventError.{EventError}
use Rattle.coordinator.specs.declared.coordinator.EventError.TheVariants as error
use Rattle.coordinator.proofs.Appending.{did_me}
use Rattle.coordinator.proofs.Leaving.{did_leaves, along_struck}

-- an act that writes is no opening
own_writing : (act : Act) (o : Outcome) → writes act ≡ true → is_own (Acts act o) ≡ true
own_writing (Bootstrap config) o w = refl
own_writing (StartJoin candidate term) o w = refl
own_writing (TakeJoin join) o w = refl
own_writing (Value version config value) o w = refl
own_writing (Publish request) o w = refl
own_writing (Response response) o w = refl
own_writing (Commit commit) o w = refl
own_writing (Open found) o w = cc

own_without : (i : Item) (left : List Item) → is_own i ≡ true → are_own left ≡ true → are_own (without_output i ++ left) ≡ true
own_without (Opens found) left i own = cc
own_without (Begins event) left i own = own
own_without (Acts act o) left i own = rw i own
own_without (ChangesMode mode term) left i own = own
own_without (Drops member cause) left i own = own
own_without (Sends frame) left i own = own
own_without (Replies answer) left i own = own
own_without (Notes note) left i own = own

-- what is left of items that are no openings are none
pub own_struck : (items left : List Item) → IsStruck items left → are_own items ≡ true → are_own left ≡ true
own_struck items left (Here act sends wins rest fault w f) own = rw (own_writing act fault w) refl
own_struck items left (Later i rest left' q) own =
    let parts = and_parts (is_own i) (are_own rest) own in
    own_without i left' parts.0 (own_struck rest left' q parts.1)

pub own_next : (s : Settings) (v : View) (event : Event) → are_own (next_of s v event) ≡ true
own_next s v event = own-answered s v (next_of s v event) (answered-next s v event)

halted_by : (p : NodeState) (act : Act) (o : Outcome) → writes act ≡ true → is_disk o ≡ true → (node_state_after p act o).halted ≡ true
halted_by p (Bootstrap config) o w d = rw d refl
halted_by p (StartJoin candidate term) o w d = rw d refl
halted_by p (TakeJoin join) o w d = cc
halted_by p (Value version config value) o w d = cc
halted_by p (Publish request) o w d = rw d refl
halted_by p (Response response) o w d = cc
halted_by p (Commit commit) o w d = rw d refl
halted_by p (Open found) o w d = cc

-- an act that met no fault leaves the node running
running_by : (p : NodeState) (act : Act) (o : Outcome) → is_fault o ≡ false → (node_state_after p act o).halted ≡ p.halted
running_by p (Bootstrap config) (Answered reply) f = refl
running_by p (StartJoin candidate term) (Answered reply) f = refl
running_by p (TakeJoin join) (Answered reply) f = refl
running_by p (Value version config value) (Answered reply) f = refl
running_by p (Publish request) (Answered reply) f = refl
running_by p (Response response) (Answered reply) f = refl
running_by p (Commit commit) (Answered reply) f = refl
running_by p (Open found) (Answered reply) f = refl
running_by p act (Disk b) f = cc
running_by p act (Crashed b) f = cc

capped : (before now last : ℕ) → before ≤ last → max before (min now last) ≤ last
capped before now last h = omega (arith, h)

-- no event begins beyond the last moment
begun_within : (v : View) (event : Event) → v.moment ≤ last_moment → (begun v event).moment ≤ last_moment
begun_within v Start h = h
begun_within v (Tick now word) h = capped v.moment now last_moment h
begun_within v (FrameCame frame) h = h
begun_within v (LineCame conn line) h = h
begun_within v (PeerGone peer) h = h

disk_of : (o : Outcome) → is_fault o ≡ true → is_crashed o ≡ false → is_disk o ≡ true
disk_of (Answered reply) f c = cc
disk_of (Disk b) f c = refl
disk_of (Crashed b) f c = cc

module _ {K : Type 0} (k : Ghosts K) where
  pub did_wrote : (old new : CoordState K) (is : List Item) → CoreDid k old new is → WroteAll k old.keeper is new.keeper
  did_wrote old new [] same = ap (λ (c : CoordState K). c.keeper) same
  did_wrote old new (Opens found ∷ is) did = absurd did
  did_wrote old new (Begins event ∷ is) did = absurd did
  did_wrote old new (Acts act o ∷ is) did = (did.0.keeper, did.1.wrote, did_wrote did.0 new is did.2)
  did_wrote old new (ChangesMode mode term ∷ is) did = did_wrote old new is did
  did_wrote old new (Drops member cause ∷ is) did = did_wrote old new is did
  did_wrote old new (Sends frame ∷ is) did = did_wrote old new is did
  did_wrote old new (Replies answer ∷ is) did = did_wrote old new is did
  did_wrote old new (Notes note ∷ is) did = did_wrote old new is did

  -- the count of faults never falls
  pub did_later : (old new : CoordState K) (is : List Item) → CoreDid k old new is → k.faults old.keeper ≤ k.faults new.keeper
  did_later old new [] same = rw same (omega arith)
  did_later old new (Opens found ∷ is) did = absurd did
  did_later old new (Begins event ∷ is) did = absurd did
  did_later old new (Acts act o ∷ is) did = omega (arith, did.1.acts.at.later, did_later did.0 new is did.2)
  did_later old new (ChangesMode mode term ∷ is) did = did_later old new is did
  did_later old new (Drops member cause ∷ is) did = did_later old new is did
  did_later old new (Sends frame ∷ is) did = did_later old new is did
  did_later old new (Replies answer ∷ is) did = did_later old new is did
  did_later old new (Notes note ∷ is) did = did_later old new is did

  later_rose : (a b c : ℕ) → a ≤ b → Rose b c → Rose a c
  later_rose a b c le rose = λ fell. rose (omega (arith, le, fell))

  -- and it rose where an act was struck
  pub did_rise : (old new : CoordState K) (items left : List Item) → IsStruck items left → CoreDid k old new left → Rose (k.faults old.keeper) (k.faults new.keeper)
  did_rise old new items left (Here act sends wins rest fault w f) did =
      subst (λ (c : CoordState K). Rose (k.faults old.keeper) (k.faults c.keeper)) (sym did.2) (did.1.acts.at.fault (disk_of fault f did.1.acts.at.runs))
  did_rise old new items left (Later (Opens found) rest left' q) did = absurd did
  did_rise old new items left (Later (Begins event) rest left' q) did = absurd did
  did_rise old new items left (Later (Acts act o) rest left' q) did = later_rose _ _ _ did.1.acts.at.later (did_rise did.0 new rest left' q did.2)
  did_rise old new items left (Later (ChangesMode mode term) rest left' q) did = did_rise old new rest left' q did
  did_rise old new items left (Later (Drops member cause) rest left' q) did = did_rise old new rest left' q did
  did_rise old new items left (Later (Sends frame) rest left' q) did = did_rise old new rest left' q did
  did_rise old new items left (Later (Replies answer) rest left' q) did = did_rise old new rest left' q did
  did_rise old new items left (Later (Notes note) rest left' q) did = did_rise old new rest left' q did

  -- the view as the event begins
  pub begun_of : (c : Coordinator K) (life : Life) (event : Event) → StandsForLife k c life → begun (view_in k c) event ≡ view_of c.settings (And (log_of life) (Begins event))
  begun_of c life event stands = ap (λ (v : View). begun v event) stands ∙ sym (view_of-And c.settings (log_of life) (Begins event) refl)

  -- the items of the rules are those of the node's life
  pub items_now : (c : Coordinator K) (life : Life) (event : Event) → StandsForLife k c life → next_of c.settings (begun (view_in k c) event) event ≡ items_of c.settings (log_of life) event
  items_now c life event stands = ap (λ (v : View). next_of c.settings v event) (begun_of c life event stands)

  -- the node stands for its life with this entry
  pub enters : (old new : Coordinator K) (event : Event) (items : List Item) → are_own items ≡ true → Passes k old new event items → Enters k old new event items
  enters old new event items own passes = record {
    settings = passes.settings;
    stands = λ life stands. passes.view
        ∙ ap (λ (v : View). moved_all old.settings v items) (begun_of old life event stands)
        ∙ sym (view_of-added old.settings (And (log_of life) (Begins event)) items own)
        ∙ ap (λ (s : Settings). view_of s (added (And (log_of life) (Begins event)) items)) (sym passes.settings);
    core = passes.core;
    wrote = did_wrote old.core new.core items passes.core;
    later = did_later old.core new.core items passes.core;
  }

  -- a node that met no fault runs on
  pub did_run : (old new : CoordState K) (is : List Item) → has_fault is ≡ false → CoreDid k old new is → k.has_stopped new.keeper ≡ k.has_stopped old.keeper
  did_run old new [] f same = ap (λ (c : CoordState K). k.has_stopped c.keeper) same
  did_run old new (Opens found ∷ is) f did = absurd did
  did_run old new (Begins event ∷ is) f did = absurd did
  did_run old new (Acts act o ∷ is) f did =
      let parts = or_parts (is_fault o) (has_fault is) f in
      did_run did.0 new is parts.1 did.2 ∙ ap (λ (n : NodeState). n.halted) did.1.acts.at.after ∙ running_by (fields_of k old) act o parts.0
  did_run old new (ChangesMode mode term ∷ is) f did = did_run old new is f did
  did_run old new (Drops member cause ∷ is) f did = did_run old new is f did
  did_run old new (Sends frame ∷ is) f did = did_run old new is f did
  did_run old new (Replies answer ∷ is) f did = did_run old new is f did
  did_run old new (Notes note ∷ is) f did = did_run old new is f did

  -- a struck node writes no more
  pub did_halts : (old new : CoordState K) (items left : List Item) → IsStruck items left → CoreDid k old new left → k.has_stopped new.keeper ≡ true
  did_halts old new items left (Here act sends wins rest fault w f) did =
      ap (λ (c : CoordState K). k.has_stopped c.keeper) did.2
      ∙ ap (λ (n : NodeState). n.halted) did.1.acts.at.after
      ∙ halted_by (fields_of k old) act fault w (disk_of fault f did.1.acts.at.runs)
  did_halts old new items left (Later (Opens found) rest left' q) did = absurd did
  did_halts old new items left (Later (Begins event) rest left' q) did = absurd did
  did_halts old new items left (Later (Acts act o) rest left' q) did = did_halts did.0 new rest left' q did.2
  did_halts old new items left (Later (ChangesMode mode term) rest left' q) did = did_halts old new rest left' q did
  did_halts old new items left (Later (Drops member cause) rest left' q) did = did_halts old new rest left' q did
  did_halts old new items left (Later (Sends frame) rest left' q) did = did_halts old new rest left' q did
  did_halts old new items left (Later (Replies answer) rest left' q) did = did_halts old new rest left' q did
  did_halts old new items left (Later (Notes note) rest left' q) did = did_halts old new rest left' q did

  -- the rules' items are the event's, from the moment on at which it begins
  passes_of : (old mid new : Coordinator K) (event : Event) (items : List Item) → mid.settings ≡ old.settings → mid.core ≡ old.core → view_in k mid ≡ begun (view_in k old) event
      → Goes k mid new items → Passes k old new event items
  passes_of old mid new event items settings core begins goes = record {
    settings = goes.settings ∙ settings;
    clock = goes.clock ∙ ap (λ (v : View). v.moment) begins;
    view = goes.view ∙ ap (λ (s : Settings). moved_all s (view_in k mid) items) settings ∙ ap (λ (v : View). moved_all old.settings v items) begins;
    core = subst (λ (c : CoordState K). CoreDid k c new.core items) core goes.core;
  }

  pub event_fine : (old mid new : Coordinator K) (event : Event) (o o_now : Shown) (items : List Item) → mid.settings ≡ old.settings → mid.core ≡ old.core → view_in k mid ≡ begun (view_in k old) event
      → Makes k mid new o o_now items → Brings k old new event o o_now items
  event_fine old mid new event o o_now items settings core begins makes = record { passes = passes_of old mid new event items settings core begins makes.goes; shown = makes.shown }

  pub event_struck : (old mid new : Coordinator K) (event : Event) (o o_now : Shown) (items : List Item) → mid.settings ≡ old.settings → mid.core ≡ old.core → view_in k mid ≡ begun (view_in k old) event
      → Fails k mid new o o_now items → Breaks k old new event o o_now items
  event_struck old mid new event o o_now items settings core begins fails = record {
    left = fails.left;
    struck = fails.struck;
    passes = passes_of old mid new event fails.left settings core begins fails.goes;
    deeds = fails.deeds;
    drops = fails.drops;
  }

  -- an event that does not change the moment is its rule
  pub event_rule : (r : Result (Unit {0}) EventError) (old new : Coordinator K) (event : Event) (o o_now : Shown) (items : List Item) → view_in k old ≡ begun (view_in k old) event
      → EndsAll k r old new o o_now items → EventEnds k r old new event o o_now items
  event_rule (Ok u) old new event o o_now items begins ends = event_fine old old new event o o_now items refl refl begins ends
  event_rule (Err error.Struck) old new event o o_now items begins ends = event_struck old old new event o o_now items refl refl begins ends
  event_rule (Err error.Memory) old new event o o_now items begins ends = ends

  passes_ready : (old new : Coordinator K) (event : Event) (items : List Item) → IsReady old → Passes k old new event items → IsReady new
  passes_ready old new event items ready passes = record {
    me = did_me k old.core new.core items passes.core ∙ ready.me ∙ ap (λ (s : Settings). s.me) (sym passes.settings);
    moment = rw passes.clock (begun_within (view_in k old) event ready.moment);
  }

  -- a node that is ready stays so
  pub event_ready : (r : Result (Unit {0}) EventError) (old new : Coordinator K) (event : Event) (o o_now : Shown) (items : List Item) → IsReady old → EventEnds k r old new event o o_now items → IsReady new
  event_ready (Ok u) old new event o o_now items ready ends = passes_ready old new event items ready ends.passes
  event_ready (Err error.Struck) old new event o o_now items ready ends = passes_ready old new event ends.left ready ends.passes
  event_ready (Err error.Memory) old new event o o_now items ready ends = subst (λ (c : Coordinator K). IsReady c) (sym ends) ready

  -- what a crash leaves of the event
  pub event_leaves : (r : Result (Unit {0}) EventError) (old new : Coordinator K) (event : Event) (o o_now : Shown) (items : List Item) → EventEnds k r old new event o o_now items → Leaves k old new items
  event_leaves (Ok u) old new event o o_now items ends t g s = did_leaves k old.core new.core items ends.passes.core t g s
  event_leaves (Err error.Struck) old new event o o_now items ends t g s =
      leaves_also k.moment k.left_since old.core.keeper new.core.keeper (IsAlong g ends.left) (IsAlong g items) (did_leaves k old.core new.core ends.left ends.passes.core t g s)
      (λ found a. along_struck g items ends.left ends.struck found a)
  event_leaves (Err error.Memory) old new event o o_now items same t g s =
      subst (λ (c : Coordinator K). LeavesOnly k.moment k.left_since old.core.keeper c.core.keeper (IsAlong g items)) (sym same) (quiet k.moment k.left_since old.core.keeper (IsAlong g items))

  -- the same, of the life that the node stood for
  pub life_leaves : (old new : Coordinator K) (event : Event) → Leaves k old new (next_of old.settings (begun (view_in k old) event) event) → Survives k old new event
  life_leaves old new event leaves life stands t =
      subst (λ (items : List Item). LeavesOnly k.moment k.left_since old.core.keeper new.core.keeper (IsAlong (acts_of (log_of life)) items)) (items_now old life event stands)
      (leaves t (acts_of (log_of life)) (ap (λ (v : View). v.node) stands))
