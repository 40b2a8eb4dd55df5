-- What a line makes of a node, by its slot.
use Rattle.std.proofs.Common.{◌≡◌, ℕ, Bool, true, false, None, Some, List, ◌++◌, refl, sym, ◌∙◌, ap, subst, inl}
use Rattle.std.specs.Prelude.{if◌then◌else◌}
use Rattle.std.specs.Result.{result_ok}
use Rattle.voting_config.specs.Ids.{Id}
use Rattle.zen_disk.specs.FileState.{both_left_by}
use Rattle.zen_disk.specs.MemDisks.{files_of}
use Rattle.zen_disk.specs.Sides.{Files}
use Rattle.zen_disk.specs.declared.orders.Way.{Way}
use Rattle.state_journal.specs.Journal.{record_of_files}
use Rattle.coord_state.specs.StandsFor.{StandsFor}
use Rattle.coord_state.specs.declared.coord.CoordState.{CoordState}
use Rattle.coord_state.proofs.Standing.{stands_durable}
use Rattle.world_model.specs.declared.acts.Act.{Act}
use Rattle.world_model.specs.declared.acts.Message.{Message}
use Rattle.world_model.specs.declared.acts.Message.TheVariants.{Join, Publish, Response, Commit}
use Rattle.world_model.specs.declared.acts.Outcome.{Outcome}
use Rattle.world_model.specs.Acts.{NodeHistory, Then}
use Rattle.world_model.specs.NodeState.{durable_of}
use Rattle.trace_text.specs.Trace.{crashed_line, down_line, results, act_text}
use Rattle.replay_node.specs.Did.{outcome_of, did_text}
use Rattle.replay_node.specs.NodeDisk.{MemFuse, MayLeave, Restarted}
use Rattle.replay_node.specs.NodeWorld.{NodeWorld, after_act, after_crash, outcome_at}
use Rattle.replay_node.specs.NodeLines.{after_stop, stop_text, DoesLine}
use Rattle.trace_text.specs.Published.{last_published}
use Rattle.replay_node.specs.Published.{state_published}
use Rattle.replay_node.specs.Sent.{taking}
use Rattle.world_model.specs.Settled.{IsUnstruck}
use Rattle.replay_node.specs.Stands.{Journal, journal_ghosts, LeavesActs, OpenStands, DownStands, CrashedStands, SlotStands, NodeStands, NodeDid, NodeDoes}
use Rattle.replay_node.specs.StateDoes.{StandsAfter, StateDid, StateDoes, WritesText, Closes}
use Rattle.replay_node.specs.declared.did.Did.{Did}
use Rattle.replay_node.specs.declared.did.Did.TheVariants as did
use Rattle.replay_node.specs.declared.node.ReplayNode.{ReplayNode}
use Rattle.replay_node.specs.declared.node.Slot.{Slot}
use Rattle.replay_node.specs.declared.node.Slot.TheVariants.{Open, Down}
use Rattle.replay_node.proofs.AsSaid.{crashed_stands}
use Rattle.world_model.proofs.Settling.{unstruck}

pub leaves_less : (old new : MemFuse) (g : NodeHistory) → ((files : Files) → MayLeave new files → MayLeave old files) → LeavesActs old g → LeavesActs new g
leaves_less old new g within leaves = record { left = λ files may. leaves.left files (within files may); shown = leaves.shown }

-- an act

pub goes_down : (me : Id) (s : CoordState Journal) (fuse : MemFuse) (w : NodeWorld) → CrashedStands me s w → Restarted s.keeper.log.disk fuse → DownStands fuse w
goes_down me s fuse w crashed again = record {
  down = crashed.down;
  disk = record { files = again.files crashed.way crashed.stopped ∙ crashed.files; armed = again.armed ∙ crashed.armed; up = again.up };
  left = leaves_less s.keeper.log.disk fuse w.acts (again.left crashed.way crashed.stopped) crashed.left;
}

closes : (me : Id) (s : CoordState Journal) (slot : Slot) (w : NodeWorld) (d : Did) → StandsAfter me s w d → Closes (Open s) d slot → SlotStands me slot w
closes me s (Down fuse) w did.Crashed stands closing = goes_down me s fuse w stands closing
closes me s (Open state) w did.Crashed stands closing = absurd closing
closes me s slot w did.Down stands closing = absurd stands
closes me s slot w d stands closing = subst (λ (x : Slot). SlotStands me x w) (sym closing) stands

-- what the node published last follows from the act
abbrev pub Publishes : ReplayNode → ReplayNode → Act → Did → Type 0
Publishes old new act d = (g : NodeHistory) (o : Outcome) → outcome_of d ≡ Some o → state_published old.published ≡ last_published g → state_published new.published ≡ last_published (Then g act o)

module _ (old new : ReplayNode) (s s' : CoordState Journal) (act : Act) (d : Did) (me : new.me ≡ old.me) (closing : Closes (Open s') d new.slot) (text : WritesText act (state_published old.published) d) (publishes : Publishes old new act d) where
  one : (w : NodeWorld) → w.down ≡ false → StateDid old.me s' w act d → state_published old.published ≡ last_published w.acts → NodeDid old new w act d
  one w up done published =
      let slot : SlotStands old.me new.slot (after_act old.me w act) = closes old.me s' new.slot (after_act old.me w act) d done.stands closing in
      let stands : NodeStands new (after_act old.me w act) = record {
        slot = subst (λ (m : Id). SlotStands m new.slot (after_act old.me w act)) (sym me) slot;
        published = publishes w.acts (outcome_at old.me w act) done.outcome published;
      } in
      record {
        outcome = done.outcome ∙ sym (ap (λ (b : Bool). if b then None else Some (outcome_at old.me w act)) up);
        stands = subst (λ (b : Bool). NodeStands new (if b then w else after_act old.me w act)) (sym up) stands;
        text = λ count.
            ap (λ (b : Bool). if b then down_line old.me else results count (last_published w.acts) old.me act (outcome_at old.me w act)) up
            ∙ subst (λ p. results count p old.me act (outcome_at old.me w act) ≡ did_text count old.me (act_text act) d) published (text count old.me (outcome_at old.me w act) done.outcome);
      }

  pub open_does : old.slot ≡ Open s → StateDoes s s' act d → NodeDoes old new act d
  open_does slot done = record {
    me = me;
    does = λ w stands.
        let open_stands : OpenStands old.me s w = subst (λ (x : Slot). SlotStands old.me x w) slot stands.slot in
        one w open_stands.up (subst (λ (m : Id). OpenStands m s w → StateDid m s' w act d) open_stands.me_is (done.does w) open_stands) stands.published;
  }

pub taking_none : (m : Message) (g : NodeHistory) (o : Outcome) → last_published (Then g (taking m) o) ≡ last_published g
taking_none (Join j) g o = refl
taking_none (Publish r) g o = refl
taking_none (Response r) g o = refl
taking_none (Commit c) g o = refl

-- a crash between two acts

running_leaves : (s : CoordState Journal) (g : NodeHistory) → s.keeper.log.stopped ≡ false → StandsFor journal_ghosts s g → IsUnstruck g → LeavesActs s.keeper.log.disk g
running_leaves s g running stands u = record {
  left = λ files may. inl (ap record_of_files ((s.keeper.log.settled tt running).durable files may) ∙ ap result_ok (s.keeper.stands tt running) ∙ ap Some (stands_durable journal_ghosts s g stands ∙ ap durable_of (sym (unstruck g false u))));
  shown = λ e. ap durable_of (unstruck g false u ∙ sym (unstruck g true u));
}

pub open_leaves : (me : Id) (s : CoordState Journal) (w : NodeWorld) → OpenStands me s w → LeavesActs s.keeper.log.disk w.acts
open_leaves me s w stands = from s.keeper.log.stopped refl
  where
    from : (b : Bool) → s.keeper.log.stopped ≡ b → LeavesActs s.keeper.log.disk w.acts
    from false running = running_leaves s w.acts running stands.acts (stands.running running)
    from true stopped = stands.stopped stopped

-- a disk that was stopped so
pub record CrashedAs (old new : MemFuse) (way : Way) : Type 0 where
  pub armed : new.armed ≡ old.armed
  pub up : new.down ≡ None
  pub files : files_of new.disk ≡ both_left_by way (files_of old.disk)
  pub left : (c : Files) → MayLeave new c → MayLeave old c

pub crash_open : (old : ReplayNode) (s : CoordState Journal) (way : Way) (fuse : MemFuse) (was now : List ℕ) → old.slot ≡ Open s → CrashedAs s.keeper.log.disk fuse way → now ≡ was ++ crashed_line old.me
    → DoesLine old (record old { slot = Down fuse }) (after_stop way) (stop_text old.me) was now
crash_open old s way fuse was now slot stopped text =
    let open_stands : (w : NodeWorld) → NodeStands old w → OpenStands old.me s w = λ w stands. subst (λ (x : Slot). SlotStands old.me x w) slot stands.slot in
    record {
      me = refl;
      stands = λ w stands.
          let o = open_stands w stands in
          let down : DownStands fuse (after_crash way w) = record {
            down = refl;
            disk = crashed_stands s.keeper.log.disk fuse w.disk way o.disk stopped.armed stopped.up stopped.files;
            left = leaves_less s.keeper.log.disk fuse w.acts stopped.left (open_leaves old.me s w o);
          } in
          let crashed : NodeStands (record old { slot = Down fuse }) (after_crash way w) = record { slot = down; published = stands.published } in
          subst (λ (b : Bool). NodeStands (record old { slot = Down fuse }) (if b then w else after_crash way w)) (sym o.up) crashed;
      written = λ w stands. text ∙ sym (ap (λ (b : Bool). was ++ (if b then down_line old.me else crashed_line old.me)) (open_stands w stands).up);
    }
