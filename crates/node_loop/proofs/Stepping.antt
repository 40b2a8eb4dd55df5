-- What a step of the coordinator is for the node's life.
use Rattle.std.proofs.Common.{◌≡◌, ◌≤◌, ℕ, true, false, inl, inr, Option, Some, List, [], ◌∷◌, refl, sym, ap, subst, ◌∙◌, arith}
use Rattle.zen_disk.specs.Moments.{LeavesOnly, quiet}
use Rattle.cluster_state.specs.declared.state.Kept.{Kept}
use Rattle.state_journal.specs.declared.keeper.Keeper.{Ghosts}
use Rattle.world_model.specs.declared.acts.Outcome.TheVariants.{Answered, Disk, Crashed}
use Rattle.coord_state.specs.declared.coord.CoordState.{CoordState}
use Rattle.coord_state.specs.StandsFor.{StandsFor}
use Rattle.coordinator.specs.declared.coordinator.Coordinator.{Coordinator}
use Rattle.coordinator.specs.declared.step.Entries.{Entries}
use Rattle.coordinator.specs.declared.step.Sealed.{Sealed}
use Rattle.coordinator.specs.Lives.{StandsForLife}
use Rattle.coordinator.specs.Steps.{Done as DoneBy, Failed}
use Rattle.coordinator.specs.CoreActs.{CoreDid}
use Rattle.coordinator.proofs.Leaving.{did_leaves}
use Rattle.policy_model.specs.declared.settings.Settings.{Settings}
use Rattle.policy_model.specs.declared.events.Event.{Event}
use Rattle.policy_model.specs.Events.{Item, Opens, Begins, Acts, ChangesMode, Drops, Sends, Replies, Notes, Log, And, added, acts_of}
use Rattle.policy_model.specs.Entries.{Life, Lived, Entry, Did, log_of, frames_of, by_receiver}
use Rattle.policy_model.specs.Follows.{IsStruck, has_fault, is_start, starts_next, items_of}
use Rattle.policy_model.specs.Views.{View, view_of}
use Rattle.policy_model.proofs.Locals.{struck_fault}
use Rattle.policy_model.proofs.Faults.{next-fault, struck-frames, struck-replies}
use Rattle.node_loop.specs.declared.lines.LastSent.{LastSent}
use Rattle.node_loop.specs.Crashes.{Holds, IsLeftBy, has_crashed}
use Rattle.node_loop.specs.Reporting.{Reports, AreLined, sent_of}
use Rattle.node_loop.specs.EventNodes.{Does, IsHalted}
use Rattle.node_loop.proofs.Lasting.{leaves_now, leaves_struck}

module _ {C K : Type 0} (k : Ghosts K)
    (only_kept : (keeper : K) (found : Option Kept) → k.told → k.has_stopped keeper ≡ false → k.left_since keeper (k.moment keeper) found → found ≡ Some (k.record_of keeper))
    (node_in : C → Coordinator K) (last_sent_in : C → Option LastSent) where
  -- the acts that the node's core stands for
  abbrev core_stands : (c : C) (life : Life) → StandsForLife k (node_in c) life → StandsFor k (node_in c).core (acts_of (log_of life))
  core_stands c life stands = ap (λ (v : View). v.node) stands

  abbrev stands_in : C → Settings → Life → Type 0
  stands_in c s life = Reports k (node_in c) (last_sent_in c) s life

  abbrev moment_in : C → ℕ
  moment_in c = k.moment (node_in c).core.keeper

  abbrev left_in : C → ℕ → Option Kept → Type 0
  left_in c = k.left_since (node_in c).core.keeper

  abbrev faults_in : C → ℕ
  faults_in c = k.faults (node_in c).core.keeper

  abbrev holds_in : C → Life → C → Settings → Life → Type 0
  holds_in old life now s new = Holds stands_in k.told moment_in left_in faults_in old now s life new

  -- a crash within what was done of the event
  left_within : (old new : C) (life : Life) (event : Event) (items : List Item) → StandsForLife k (node_in old) life → CoreDid k (node_in old).core (node_in new).core items → k.told
      → LeavesOnly moment_in left_in old new (IsLeftBy life (Did event items))
  left_within old new life event items stands core told =
      let only = did_leaves k (node_in old).core (node_in new).core items core told (acts_of (log_of life)) (core_stands old life stands) in
      record { later = only.later; since = only.since }

  -- no act of the core is told as a crash
  none_crashed : (old new : CoordState K) (l : Log) (items : List Item) → CoreDid k old new items → has_crashed (acts_of (added l items)) ≡ has_crashed (acts_of l)
  none_crashed old new l [] did = refl
  none_crashed old new l (Opens found ∷ is) did = absurd did
  none_crashed old new l (Begins event ∷ is) did = absurd did
  none_crashed old new l (Acts act (Answered reply) ∷ is) did = none_crashed did.0 new (And l (Acts act (Answered reply))) is did.2
  none_crashed old new l (Acts act (Disk kept) ∷ is) did = none_crashed did.0 new (And l (Acts act (Disk kept))) is did.2
  none_crashed old new l (Acts act (Crashed kept) ∷ is) did = absurd did.1.told
  none_crashed old new l (ChangesMode mode term ∷ is) did = none_crashed old new (And l (ChangesMode mode term)) is did
  none_crashed old new l (Drops member cause ∷ is) did = none_crashed old new (And l (Drops member cause)) is did
  none_crashed old new l (Sends frame ∷ is) did = none_crashed old new (And l (Sends frame)) is did
  none_crashed old new l (Replies answer ∷ is) did = none_crashed old new (And l (Replies answer)) is did
  none_crashed old new l (Notes note ∷ is) did = none_crashed old new (And l (Notes note)) is did

  -- nothing was done
  pub stayed : (old new : C) (s : Settings) (life : Life) → node_in new ≡ node_in old → last_sent_in new ≡ last_sent_in old → stands_in old s life → holds_in old life new s life
  stayed old new s life same told stands =
      let still : LeavesOnly k.moment k.left_since (node_in old).core.keeper (node_in new).core.keeper (λ found. ⊥) =
      subst (λ (n : Coordinator K). LeavesOnly k.moment k.left_since (node_in old).core.keeper n.core.keeper (λ found. ⊥)) (sym same) (quiet k.moment k.left_since (node_in old).core.keeper (λ found. ⊥)) in
      record {
        stands = subst (λ (n : Coordinator K). Reports k n (last_sent_in new) s life) (sym same) (subst (λ t. Reports k (node_in old) t s life) (sym told) stands);
        entries = [];
        reached = refl;
        along = λ t. record { later = still.later; since = still.since };
        later = subst (λ (n : Coordinator K). k.faults (node_in old).core.keeper ≤ k.faults n.core.keeper) (sym same) (omega arith);
        struck = λ up is. absurd (let never : true ≡ false = sym is ∙ up in cc);
        uncrashed = refl;
      }

  pub did : (text : Settings → Life → Entry → List ℕ) (old new : C) (s : Settings) (life : Life) (event : Event) (sealed : Sealed) (lines : Option (List ℕ))
      → stands_in old s life → is_start event ≡ starts_next life → k.has_stopped (node_in old).core.keeper ≡ false
      → DoneBy k (node_in old) (node_in new) event (items_of (node_in old).settings (log_of life) event) sealed
      → AreLined text s.me (last_sent_in old) sealed.entries sealed.sends.list sealed.replies.sent lines (last_sent_in new)
      → Does (holds_in old life) (text s) s life event new sent_of (record { sealed = sealed; lines = lines })
  did text old new s life event sealed lines r start runs done lined =
      let items = items_of (node_in old).settings (log_of life) event in
      let whole : has_fault items ≡ false = next-fault (node_in old).settings (view_of (node_in old).settings (And (log_of life) (Begins event))) event in
      let written = lined s life event items refl r.lines done.seals.entries done.seals.sends done.seals.replies in
      let after = Lived life (Did event items) in
      let stood : stands_in new s after = record {
        settings = done.enters.settings ∙ r.settings;
        stands = done.enters.stands life r.stands;
        stopped = done.runs ∙ sym whole;
        leaves = λ told. leaves_now k only_kept (node_in new).core after told done.runs whole (core_stands new after (done.enters.stands life r.stands));
        lines = written.1;
      } in
      record {
        items = items;
        next = record {
          up = sym r.stopped ∙ runs;
          start = start;
          does = inl (ap (λ x. items_of x (log_of life) event) r.settings);
        };
        whole = whole;
        stands = record {
          stands = stood;
          entries = Did event items ∷ [];
          reached = refl;
          along = (new, record { stands = stood; any_moment = left_within old new life event items r.stands done.enters.core }, λ t. quiet moment_in left_in new (λ found. ⊥));
          later = done.enters.later;
          struck = λ up is. absurd (let never : true ≡ false = sym is ∙ whole in cc);
          uncrashed = none_crashed (node_in old).core (node_in new).core (And (log_of life) (Begins event)) items done.enters.core;
        };
        said = written.0;
        sends = ap (λ l. record { frames = l; replies = sealed.replies.sent }) done.seals.sends ∙ ap (λ l. record { frames = frames_of items; replies = l }) done.seals.replies;
      }

  pub broke : (text : Settings → Life → Entry → List ℕ) (old new : C) (s : Settings) (life : Life) (event : Event) (told : Entries) (lines : Option (List ℕ))
      → stands_in old s life → is_start event ≡ starts_next life → k.has_stopped (node_in old).core.keeper ≡ false
      → Failed k (node_in old) (node_in new) event (items_of (node_in old).settings (log_of life) event) told
      → AreLined text s.me (last_sent_in old) told [] [] lines (last_sent_in new)
      → IsHalted (holds_in old life) (text s) s life event new lines
  broke text old new s life event told lines r start runs failed lined =
      let items = items_of (node_in old).settings (log_of life) event in
      let whole : has_fault items ≡ false = next-fault (node_in old).settings (view_of (node_in old).settings (And (log_of life) (Begins event))) event in
      let fault : has_fault failed.left ≡ true = struck_fault items failed.left failed.struck in
      let unsent = sym (ap by_receiver (struck-frames items failed.left failed.struck)) in
      let written = lined s life event failed.left refl r.lines failed.entries unsent (sym (struck-replies items failed.left failed.struck)) in
      let stood : stands_in new s (Lived life (Did event failed.left)) = record {
        settings = failed.enters.settings ∙ r.settings;
        stands = failed.enters.stands life r.stands;
        stopped = failed.stopped ∙ sym fault;
        leaves = λ told. leaves_struck k only_kept (node_in old).core (node_in new).core life event items failed.left failed.struck whole fault failed.enters.core told runs (core_stands old life r.stands);
        lines = written.1;
      } in
      record {
        items = failed.left;
        next = record {
          up = sym r.stopped ∙ runs;
          start = start;
          does = inr (subst (λ x. IsStruck (items_of x (log_of life) event) failed.left) r.settings failed.struck);
        };
        fault = fault;
        stands = record {
          stands = stood;
          entries = Did event failed.left ∷ [];
          reached = refl;
          along = (new, record { stands = stood; any_moment = left_within old new life event failed.left r.stands failed.enters.core }, λ t. quiet moment_in left_in new (λ found. ⊥));
          later = failed.enters.later;
          struck = λ up is. failed.rose;
          uncrashed = none_crashed (node_in old).core (node_in new).core (And (log_of life) (Begins event)) failed.left failed.enters.core;
        };
        said = written.0;
      }
