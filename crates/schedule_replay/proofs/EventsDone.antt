-- A node after an event, by how the event ended.
use Rattle.std.proofs.Common.{◌≡◌, Bool, true, false, ◌⊎◌, inl, inr, Option, ℕ, List, [], ◌++◌, append-nil, length, refl, sym, ◌∙◌, ap, subst, if◌then◌else◌}
use Rattle.std.specs.List.{AllByRecursion}
use Rattle.voting_config.specs.Ids.{Id}
use Rattle.cluster_state.specs.declared.state.ClusterState.{ClusterState}
use Rattle.master_tasks.specs.declared.waiting.Outgoing.{Outgoing}
use Rattle.wire_frames.specs.declared.frame.Frame.{Frame}
use Rattle.wire_frames.specs.Frames.{IsFitFrame}
use Rattle.trace_text.specs.Trace.{down_line}
use Rattle.replay_node.specs.NodeWorld.{needs_opening}
use Rattle.trace_text.specs.Published.{last_published}
use Rattle.replay_node.specs.Stands.{CrashedStands}
use Rattle.replay_node.proofs.Nodes.{goes_down}
use Rattle.policy_model.specs.declared.settings.Settings.{Settings}
use Rattle.policy_model.specs.declared.events.Event.{Event}
use Rattle.policy_model.specs.declared.events.MemberDrop.{MemberDrop}
use Rattle.policy_model.specs.declared.events.Deed.{Deed}
use Rattle.policy_model.specs.Entries.{log_of, deeds_of, drops_of, frames_of}
use Rattle.policy_model.specs.Events.{Item, And, Begins, acts_of}
use Rattle.policy_model.specs.Follows.{IsStruck, has_fault, is_start, items_of}
use Rattle.policy_model.specs.Views.{view_of}
use Rattle.policy_model.proofs.Answering.{answered-next}
use Rattle.coordinator.specs.declared.step.Entries.{Entries}
use Rattle.coordinator.specs.declared.step.Sealed.{Sealed}
use Rattle.event_text.proofs.Histories.{published_along}
use Rattle.event_text.specs.Events.{event_results}
use Rattle.event_text.specs.Published.{published_after}
use Rattle.event_text.specs.Deeds.{as_left}
use Rattle.schedule_replay.specs.EventEnds.{Ends, WholeEvent, StruckEvent, own_course}
use Rattle.schedule_replay.specs.OwnStands.{ClosesTo, LifeFor, NodeFor, OwnDoes, OwnDone, SlotFor}
use Rattle.schedule_replay.specs.Own.{Own, own_event, own_event_if_up, own_frames_if_up, own_items, own_results, own_results_if_up}
use Rattle.schedule_replay.specs.OpenNodes.{Node, OpenFor}
use Rattle.schedule_replay.specs.declared.cluster.stepping.Ended.TheVariants as ended
use Rattle.schedule_replay.specs.declared.cluster.node.ClusterNode.{ClusterNode}
use Rattle.schedule_replay.specs.declared.cluster.node.Slot.{Slot}
use Rattle.schedule_replay.specs.declared.cluster.node.Slot.TheVariants.{Open, Down}
use Rattle.replay_node.proofs.Lives.{no_fault}
use Rattle.schedule_replay.proofs.Playing.{played_acts, told_published}

-- a node that is down or halted does nothing; its start does not come next
pub down_done : (s : Settings) (own : Own) (event : Event) (old : ClusterNode) (frames : List Frame) (was now : List ℕ) → NodeFor s old own (is_start event) → needs_opening own.node ≡ true → now ≡ was ++ down_line old.me
    → OwnDone s old (own_event_if_up s event own) frames frames (own_frames_if_up s event own) was now (own_results_if_up s event (length frames) own)
down_done s own event old frames was now stands needs written = by (needs_opening own.node) needs
  where
    starts : (b : Bool) → is_start event ≡ b → b ≡ false
    starts true e = absurd (let opened = stands.life.opened e in cc)
    starts false e = refl

    by : (b : Bool) → b ≡ true → OwnDone s old (if b then own else own_event s own event) frames frames (if b then [] else frames_of (own_items s own event)) was now (if b then down_line s.me else own_results s (length frames) own event)
    by true e = record {
      stands = subst (λ (b : Bool). NodeFor s old own b) (starts (is_start event) refl) stands;
      sent_is = sym (append-nil frames);
      written = written ∙ ap (λ n. was ++ down_line n) stands.me_is;
      fit = tt;
    }
    by false e = absurd (cc)

module _ (s : Settings) (own : Own) (event : Event) (old new : ClusterNode) (stands : NodeFor s old own (is_start event)) (me : new.me ≡ old.me) where
  abbrev after : Own
  after = own_event s own event

  abbrev items : List Item
  items = own_items s own event

  life_after : needs_opening own.node ≡ false → (items ≡ items_of s (log_of own.life) event) ⊎ IsStruck (items_of s (log_of own.life) event) items → (needs_opening after.node ≡ false → has_fault items ≡ false)
      → LifeFor s after.life after.node false
  life_after runs does unstruck = record {
    follows = (stands.life.follows, record { up = stands.life.unstruck runs; start = sym stands.life.starts_is; does = does });
    acts = played_acts s _ s.me own.node (items_of s (log_of own.life) event) (answered-next s (view_of s (And (log_of own.life) (Begins event))) event) (And (log_of own.life) (Begins event)) stands.life.acts;
    starts_is = refl;
    unstruck = unstruck;
    opened = λ starts. absurd (cc);
  }

  published_now : (xs : List Deed) → xs ≡ deeds_of items → new.published ≡ published_after old.published xs → LifeFor s after.life after.node false → new.published ≡ last_published after.node.acts
  published_now xs is told life =
      told
      ∙ ap (λ (p : Option ClusterState). published_after p xs) (stands.published ∙ ap last_published (sym stands.life.acts))
      ∙ ap (λ (l : List Deed). published_after (last_published (acts_of (log_of own.life))) l) is
      ∙ published_along (And (log_of own.life) (Begins event)) items
      ∙ ap last_published life.acts

  -- what is said of a node that ran
  run_done : (frames frames_now : List Frame) (was now : List ℕ) → needs_opening own.node ≡ false → NodeFor s new after false → frames_now ≡ frames ++ frames_of items → now ≡ was ++ own_results s (length frames) own event → AllByRecursion IsFitFrame (frames_of items)
      → OwnDone s new (own_event_if_up s event own) frames frames_now (own_frames_if_up s event own) was now (own_results_if_up s event (length frames) own)
  run_done frames frames_now was now runs there sent written fit = by (needs_opening own.node) runs
    where
      by : (b : Bool) → b ≡ false → OwnDone s new (if b then own else after) frames frames_now (if b then [] else frames_of items) was now (if b then down_line s.me else own_results s (length frames) own event)
      by true e = absurd (cc)
      by false e = record { stands = there; sent_is = sent; written = written; fit = fit }

  -- all of it was done
  pub whole_done : (node : Node) (sealed : Sealed) (frames frames_now : List Frame) (was now : List ℕ) → new.slot ≡ Open node → WholeEvent s own.life own.node event node sealed
      → now ≡ was ++ event_results (length frames) old.me old.published sealed.entries.deeds.list sealed.entries.drops.list sealed.sends.list sealed.replies.sent
      → new.published ≡ published_after old.published sealed.entries.deeds.list → frames_now ≡ frames ++ sealed.sends.list
      → OwnDone s new (own_event_if_up s event own) frames frames_now (own_frames_if_up s event own) was now (own_results_if_up s event (length frames) own)
  whole_done node sealed frames frames_now was now slot is written published sent =
      let life : LifeFor s after.life after.node false = life_after is.runs (inl is.all) (λ runs. ap has_fault is.all ∙ no_fault s (log_of own.life) event) in
      let there : NodeFor s new after false = record {
        me_is = me ∙ stands.me_is;
        slot = subst (λ (x : Slot). SlotFor s x after) (sym slot) is.stands;
        published = published_now sealed.entries.deeds.list is.seals.entries.deeds published life;
        life = life;
      } in
      run_done frames frames_now was now is.runs there
      (sent ∙ ap (λ (l : List Frame). frames ++ l) is.seals.sends)
      (written
      ∙ ap (λ (n : Id). was ++ event_results (length frames) n old.published sealed.entries.deeds.list sealed.entries.drops.list sealed.sends.list sealed.replies.sent) stands.me_is
      ∙ ap (λ (p : Option ClusterState). was ++ event_results (length frames) s.me p sealed.entries.deeds.list sealed.entries.drops.list sealed.sends.list sealed.replies.sent) stands.published
      ∙ ap (λ (l : List Deed). was ++ event_results (length frames) s.me (last_published own.node.acts) l sealed.entries.drops.list sealed.sends.list sealed.replies.sent) is.seals.entries.deeds
      ∙ ap (λ (l : List MemberDrop). was ++ event_results (length frames) s.me (last_published own.node.acts) (deeds_of items) l sealed.sends.list sealed.replies.sent) is.seals.entries.drops
      ∙ ap (λ (l : List Frame). was ++ event_results (length frames) s.me (last_published own.node.acts) (deeds_of items) (drops_of items) l sealed.replies.sent) is.seals.sends
      ∙ ap (λ (l : List Outgoing). was ++ event_results (length frames) s.me (last_published own.node.acts) (deeds_of items) (drops_of items) (frames_of items) l) is.seals.replies)
      (subst (λ (l : List Frame). AllByRecursion IsFitFrame l) is.seals.sends is.fit)

  -- it was struck
  pub struck_done : (crashed : Bool) (entries : Entries) (frames : List Frame) (was now : List ℕ) → StruckEvent s own.life own.node event crashed entries → SlotFor s new.slot after
      → ((count : ℕ) → now ≡ was ++ event_results count old.me old.published (as_left crashed entries.deeds.list) entries.drops.list [] [])
      → new.published ≡ published_after old.published entries.deeds.list
      → OwnDone s new (own_event_if_up s event own) frames frames (own_frames_if_up s event own) was now (own_results_if_up s event (length frames) own)
  struck_done crashed entries frames was now is slot written published =
      let life : LifeFor s after.life after.node false = life_after is.runs (inr is.struck) (λ runs. absurd (let waits = is.waits in cc)) in
      let there : NodeFor s new after false = record {
        me_is = me ∙ stands.me_is;
        slot = slot;
        published = published_now (as_left crashed entries.deeds.list) is.deeds (published ∙ sym (told_published crashed old.published entries.deeds.list)) life;
        life = life;
      } in
      run_done frames frames was now is.runs there
      (sym (append-nil frames) ∙ ap (λ (l : List Frame). frames ++ l) (sym is.frames))
      (written (length frames)
      ∙ ap (λ (n : Id). was ++ event_results (length frames) n old.published (as_left crashed entries.deeds.list) entries.drops.list [] []) stands.me_is
      ∙ ap (λ (p : Option ClusterState). was ++ event_results (length frames) s.me p (as_left crashed entries.deeds.list) entries.drops.list [] []) stands.published
      ∙ ap (λ (l : List Deed). was ++ event_results (length frames) s.me (last_published own.node.acts) l entries.drops.list [] []) is.deeds
      ∙ ap (λ (l : List MemberDrop). was ++ event_results (length frames) s.me (last_published own.node.acts) (deeds_of items) l [] []) is.drops
      ∙ ap (λ (l : List Frame). was ++ event_results (length frames) s.me (last_published own.node.acts) (deeds_of items) (drops_of items) l []) (sym is.frames)
      ∙ ap (λ (l : List Outgoing). was ++ event_results (length frames) s.me (last_published own.node.acts) (deeds_of items) (drops_of items) (frames_of items) l) (sym is.replies))
      (subst (λ (l : List Frame). AllByRecursion IsFitFrame l) (sym is.frames) tt)

-- a node whose disk has stopped is down
pub down_slot : (s : Settings) (own : Own) (event : Event) (node : Node) (slot : Slot) → ClosesTo (Open node) slot → CrashedStands s.me node.core (own_course s own.life own.node event).node → SlotFor s slot (own_event s own event)
down_slot s own event node (Down fuse) closes stands = goes_down s.me node.core fuse (own_course s own.life own.node event).node stands closes
down_slot s own event node (Open other) closes stands = absurd closes

-- ---- in the words of a call, by how the event ended

module _ (old : ClusterNode) (event : Event) (node node' : Node) (slot : old.slot ≡ Open node) where
  open_for : (s : Settings) (own : Own) → NodeFor s old own (is_start event) → OpenFor s node own.life own.node
  open_for s own stands = subst (λ (x : Slot). SlotFor s x own) slot stands.slot

  abbrev Does : (new : ClusterNode) → (frames frames_now : List Frame) → (was now : List ℕ) → Type 0
  Does new frames frames_now was now =
      OwnDoes old new (is_start event) frames frames_now was now (λ s own. own_event_if_up s event own) (λ s own. own_frames_if_up s event own) (λ s count own. own_results_if_up s event count own)

  pub does_stopped : Ends node node' event ended.Stopped → (frames : List Frame) (was now : List ℕ) → now ≡ was ++ down_line old.me → Does (record old { slot = Open node' }) frames frames was now
  does_stopped ends frames was now written s own stands =
      let stopped = ends s own.life own.node (open_for s own stands) in
      let same : record old { slot = Open node' } ≡ old = ap (λ (n : Node). record old { slot = Open n }) stopped.1 ∙ ap (λ (x : Slot). record old { slot = x }) (sym slot) in
      subst (λ (c : ClusterNode). OwnDone s c (own_event_if_up s event own) frames frames (own_frames_if_up s event own) was now (own_results_if_up s event (length frames) own)) (sym same)
      (down_done s own event old frames was now stands stopped.0 written)

  pub does_whole : (sealed : Sealed) → Ends node node' event (ended.Whole sealed) → (published : Option ClusterState) (frames frames_now : List Frame) (was now : List ℕ)
      → now ≡ was ++ event_results (length frames) old.me old.published sealed.entries.deeds.list sealed.entries.drops.list sealed.sends.list sealed.replies.sent
      → published ≡ published_after old.published sealed.entries.deeds.list → frames_now ≡ frames ++ sealed.sends.list
      → Does (record old { slot = Open node'; published = published }) frames frames_now was now
  does_whole sealed ends published frames frames_now was now written told sent s own stands =
      whole_done s own event old (record old { slot = Open node'; published = published }) stands refl node' sealed frames frames_now was now refl (ends s own.life own.node (open_for s own stands)) written told sent

  pub does_failed : (entries : Entries) → Ends node node' event (ended.Failed entries) → (published : Option ClusterState) (frames : List Frame) (was now : List ℕ)
      → ((count : ℕ) → now ≡ was ++ event_results count old.me old.published (as_left false entries.deeds.list) entries.drops.list [] [])
      → published ≡ published_after old.published entries.deeds.list
      → Does (record old { slot = Open node'; published = published }) frames frames was now
  does_failed entries ends published frames was now written told s own stands =
      let failed = ends s own.life own.node (open_for s own stands) in
      struck_done s own event old (record old { slot = Open node'; published = published }) stands refl false entries frames was now failed.0 failed.1 written told

  pub does_crashed : (entries : Entries) → Ends node node' event (ended.Crashed entries) → (mid new : ClusterNode) → mid.me ≡ old.me → mid.published ≡ old.published → new.me ≡ mid.me → new.slot ≡ mid.slot → ClosesTo (Open node') mid.slot → (frames : List Frame) (was now : List ℕ)
      → ((count : ℕ) → now ≡ was ++ event_results count mid.me mid.published (as_left true entries.deeds.list) entries.drops.list [] [])
      → new.published ≡ published_after mid.published entries.deeds.list
      → Does new frames frames was now
  does_crashed entries ends mid new me published new_me slot_is closes frames was now written told s own stands =
      let crashed = ends s own.life own.node (open_for s own stands) in
      struck_done s own event old new stands (new_me ∙ me) true entries frames was now crashed.0 (subst (λ (x : Slot). SlotFor s x (own_event s own event)) (sym slot_is) (down_slot s own event node' mid.slot closes crashed.1))
      (λ count. written count
      ∙ ap (λ (n : Id). was ++ event_results count n mid.published (as_left true entries.deeds.list) entries.drops.list [] []) me
      ∙ ap (λ (p : Option ClusterState). was ++ event_results count old.me p (as_left true entries.deeds.list) entries.drops.list [] []) published)
      (told ∙ ap (λ (p : Option ClusterState). published_after p entries.deeds.list) published)
