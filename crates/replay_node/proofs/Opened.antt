-- What an opening of a node's journal makes of the node.
use Rattle.std.proofs.Common.{◌≡◌, ℕ, Bool, not, true, false, None, Some, Ok, Err, List, [], ◌++◌, length, reverse, refl, sym, ◌∙◌, ap, subst, inl, inr, ◌⊎◌, arith}
use Rattle.std.specs.Prelude.{Option, Result, ◌||◌, if◌then◌else◌}
use Rattle.std.specs.Result.{result_ok, result_unwrap_or}
use Rattle.voting_config.specs.Ids.{Id}
use Rattle.cluster_state.specs.Initial.{empty_record}
use Rattle.cluster_state.specs.declared.state.Kept.{Kept}
use Rattle.zen_disk.specs.Armed.{nothing_armed}
use Rattle.zen_disk.specs.Fuse.{FuseMoves}
use Rattle.zen_disk.specs.MemDisks.{MemMoves, files_of, past_of, read_of}
use Rattle.zen_disk.specs.Moments.{LeavesOnly}
use Rattle.zen_disk.specs.Runs.{CallsMade}
use Rattle.zen_disk.specs.Sides.{Files}
use Rattle.zen_disk.specs.UndoOrder.{WereImages, only-last, were-are}
use Rattle.zen_disk.specs.declared.orders.Struck.{Struck}
use Rattle.zen_disk.specs.declared.orders.Struck.TheVariants.{Stop, Fault}
use Rattle.gate_log.specs.Calls.{both_opening_calls}
use Rattle.gate_log.specs.Generations.{generations_of}
use Rattle.gate_log.specs.Journal.{bodies_of}
use Rattle.state_journal.specs.Changes.{IsEither}
use Rattle.state_journal.specs.Journal.{found_of, folded_from, record_of_files, FoundAsSome}
use Rattle.state_journal.specs.declared.why.Why.{Why}
use Rattle.coord_state.specs.StandsFor.{StandsFor}
use Rattle.coord_state.specs.declared.coord.CoordState.{CoordState}
use Rattle.world_model.specs.declared.acts.Act.TheVariants.{Open as OpenAct}
use Rattle.world_model.specs.declared.acts.ActReply.TheVariants.{Taken}
use Rattle.world_model.specs.declared.acts.Outcome.TheVariants.{Answered}
use Rattle.world_model.specs.Acts.{NodeHistory, NoActs, Then}
use Rattle.world_model.specs.Histories.{is_down}
use Rattle.world_model.specs.NodeState.{NodeState, node_state, durable_of, opened, halted_of}
use Rattle.trace_text.specs.Trace.{crashed_line, disk_line, record_line, up_line}
use Rattle.replay_node.specs.NodeDisk.{NodeDisk, CallsEnd, Done, Failed, CrashedIn, calls_made, opening, bytes_read, no_files, MemFuse, MayLeave, DiskStands, Restarted}
use Rattle.replay_node.specs.NodeWorld.{NodeWorld, fresh_node, after_opening, found_at, needs_opening, opened_by, opening_text}
use Rattle.replay_node.specs.NodeLines.{after_restart, restart_text, DoesLine}
use Rattle.replay_node.specs.Opens.{ClosedStands, Opens, StaysDown}
use Rattle.trace_text.specs.Published.{last_published}
use Rattle.replay_node.specs.Published.{state_published}
use Rattle.world_model.specs.Settled.{settled, is_kept, IsUnstruck}
use Rattle.replay_node.specs.Stands.{Journal, journal_ghosts, LeavesActs, OpenStands, DownStands, SlotStands, NodeStands, is_up}
use Rattle.replay_node.specs.declared.node.ReplayNode.{ReplayNode}
use Rattle.replay_node.specs.declared.node.Slot.{Slot}
use Rattle.replay_node.specs.declared.node.Slot.TheVariants.{Open, Down}
use Rattle.replay_node.proofs.AsSaid.{StopLeaves, said_done, said_failed, said_crashed, restarted_stands}
use Rattle.replay_node.proofs.AfterCrash.{images_within}
use Rattle.replay_node.proofs.Nodes.{leaves_less}
use Rattle.replay_node.proofs.SettledTakes.{settled_published}
use Rattle.world_model.proofs.Struck.{kept_choice}

abbrev pub moment_of : MemFuse → ℕ
moment_of f = length (reverse f.disk.order.items)

abbrev pub left_of : MemFuse → ℕ → Files → Type 0
left_of f = WereImages (reverse f.disk.order.items) (past_of f.disk) (read_of f.disk)

-- the fields of a node that was opened are those of its record
reopened_state : (g : NodeHistory) (found : Kept) → found ≡ durable_of g → node_state (opened found) ≡ node_state (Then g (OpenAct found) (Answered (Taken None false)))
reopened_state NoActs found is = refl
reopened_state (Then g act o) found is =
    let state : Kept → NodeState = λ k. record { term = k.term; accepted = k.accepted; committed = k.committed; started_join = false; join_votes = []; election_won = false; published_version = 0; published_config = []; publish_votes = []; halted = false } in
    ap state is

some_either : (a b k : Kept) (found : Option Kept) → found ≡ Some k → IsEither a b found → (k ≡ a) ⊎ (k ≡ b)
some_either a b k found is (inl e) = inl cc
some_either a b k found is (inr e) = inr cc

none_either : (a b : Kept) (found : Option Kept) → found ≡ None → IsEither a b found → ⊥
none_either a b found is (inl e) = cc
none_either a b found is (inr e) = cc

-- the journal was opened on this disk
pub record JustOpened (fuse : MemFuse) (j : Journal) : Type 0 where
  pub found : found_of (read_of fuse.disk) ≡ Ok j.kept
  pub runs : j.log.stopped ≡ false
  pub ran : CallsMade (FuseMoves MemMoves) (both_opening_calls (read_of fuse.disk)) fuse j.log.disk true

-- a node that was just opened over this journal
pub record JustOver (me : Id) (j : Journal) (s : CoordState Journal) : Type 0 where
  pub me_is : s.me ≡ me
  pub keeper : s.keeper ≡ j
  pub stands : StandsFor journal_ghosts s (opened j.kept)

-- it stands for acts that end in its opening
just_stands : (me : Id) (j : Journal) (s : CoordState Journal) (g : NodeHistory) (disk : NodeDisk) → JustOver me j s → j.log.stopped ≡ false → is_down g ≡ false → IsUnstruck g
    → node_state (opened j.kept) ≡ node_state g → DiskStands j.log.disk disk → OpenStands me s (record { acts = g; disk = disk; down = false })
just_stands me j s g disk over runs up unstruck state stands = record {
  me_is = over.me_is;
  up = refl;
  not_crashed = up;
  acts = over.stands ∙ state;
  disk = subst (λ (k : Journal). DiskStands k.log.disk disk) (sym over.keeper) stands;
  running = λ running. unstruck;
  stopped = λ stopped. let running : s.keeper.log.stopped ≡ false = ap (λ (k : Journal). k.log.stopped) over.keeper ∙ runs in absurd cc;
}

module _ (me : Id) (fuse : MemFuse) (w : NodeWorld) (c : ClosedStands fuse w) where
  read_is : read_of fuse.disk ≡ bytes_read w.disk.files
  read_is = ap bytes_read c.disk.files

  -- the files that are read are such as a crash may leave
  is_either : IsEither (durable_of (settled false w.acts)) (durable_of (settled true w.acts)) (record_of_files (read_of fuse.disk))
  is_either = c.left.left (read_of fuse.disk) (images_within fuse)

  pub no_fault : (why : Why) → found_of (read_of fuse.disk) ≡ Err why → ⊥
  no_fault why is = none_either _ _ (record_of_files (read_of fuse.disk)) (ap result_ok is) is_either

  found_is : (kept : Kept) → found_of (read_of fuse.disk) ≡ Ok kept → kept ≡ found_at w
  found_is kept is = sym (ap (λ (r : Result Kept Why). result_unwrap_or r empty_record) (ap found_of (sym read_is) ∙ is))

  kept_found : (kept : Kept) → found_of (read_of fuse.disk) ≡ Ok kept → kept ≡ durable_of (settled (is_kept w.acts kept) w.acts)
  kept_found kept is = kept_choice w.acts kept (some_either _ _ kept (record_of_files (read_of fuse.disk)) (ap result_ok is) is_either) c.left.shown

  module _ (j : Journal) (is : JustOpened fuse j) where
    finds : found_at w ≡ durable_of (settled (is_kept w.acts (found_at w)) w.acts)
    finds = subst (λ (k : Kept). k ≡ durable_of (settled (is_kept w.acts k) w.acts)) (found_is j.kept is.found) (kept_found j.kept is.found)

    made : ((opening w.disk).ended ≡ Done) × DiskStands j.log.disk (opening w.disk).disk
    made = subst (λ (files : Files). ((calls_made w.disk (both_opening_calls files)).ended ≡ Done) × DiskStands j.log.disk (calls_made w.disk (both_opening_calls files)).disk) read_is
        (said_done (both_opening_calls (read_of fuse.disk)) fuse j.log.disk w.disk true c.disk is.ran refl)

    pub opens : (s : CoordState Journal) (was now : List ℕ) → JustOver me j s → now ≡ was ++ record_line me j.kept.term j.kept.accepted j.kept.committed → Opens me fuse (Open s) was now w
    opens s was now over text =
        let k : Bool = is_kept w.acts (found_at w) in
        let g : NodeHistory = Then (settled k w.acts) (OpenAct (found_at w)) (Answered (Taken None false)) in
        let state : node_state (opened j.kept) ≡ node_state g = ap (λ (x : Kept). node_state (opened x)) (found_is j.kept is.found) ∙ reopened_state (settled k w.acts) (found_at w) finds in
        let stands : OpenStands me s (record { acts = g; disk = (opening w.disk).disk; down = false }) = just_stands me j s g (opening w.disk).disk over is.runs refl tt state made.1 in
        let shown : now ≡ was ++ record_line me (found_at w).term (found_at w).accepted (found_at w).committed = text ∙ ap (λ (x : Kept). was ++ record_line me x.term x.accepted x.committed) (found_is j.kept is.found) in
        record {
          stands = subst (λ (e : CallsEnd). SlotStands me (Open s) (opened_by e w.acts (opening w.disk).disk (found_at w))) (sym made.0) stands;
          written = subst (λ (e : CallsEnd). now ≡ was ++ opening_text e me (found_at w)) (sym made.0) shown;
          finds = λ done. finds;
        }

  -- after an opening that failed, whatever a crash leaves was found before
  still_leaves : (g : MemFuse) → LeavesOnly moment_of left_of fuse g (FoundAsSome (MayLeave fuse)) → LeavesActs g w.acts
  still_leaves g run = record { left = leaves; shown = c.left.shown }
    where
      found_before : (files : Files) → left_of fuse (moment_of fuse) files ⊎ FoundAsSome (MayLeave fuse) files → IsEither (durable_of (settled false w.acts)) (durable_of (settled true w.acts)) (record_of_files files)
      found_before files (inl was) = c.left.left files (only-last (reverse fuse.disk.order.items) (past_of fuse.disk) (read_of fuse.disk) files was)
      found_before files (inr some) = subst (IsEither (durable_of (settled false w.acts)) (durable_of (settled true w.acts))) (sym (ap result_ok some.2)) (c.left.left some.0 some.1)

      leaves : (files : Files) → MayLeave g files → IsEither (durable_of (settled false w.acts)) (durable_of (settled true w.acts)) (record_of_files files)
      leaves files may = found_before files (run.since (moment_of fuse) files (omega arith) (were-are (reverse g.disk.order.items) (past_of g.disk) (read_of g.disk) (moment_of fuse) files may))

  module _ (g : MemFuse) (run : LeavesOnly moment_of left_of fuse g (FoundAsSome (MayLeave fuse))) (ran : CallsMade (FuseMoves MemMoves) (both_opening_calls (read_of fuse.disk)) fuse g false) (was now : List ℕ) where
    failed : g.struck ≡ Some Fault → now ≡ was ++ disk_line me → Opens me fuse (Down g) was now w
    failed struck text =
        let made = subst (λ (files : Files). ((calls_made w.disk (both_opening_calls files)).ended ≡ Failed) × DiskStands g (calls_made w.disk (both_opening_calls files)).disk) read_is (said_failed (both_opening_calls (read_of fuse.disk)) fuse g w.disk false c.disk ran refl struck) in
        let down : DownStands g (record { acts = w.acts; disk = (opening w.disk).disk; down = true }) = record { down = refl; disk = made.1; left = still_leaves g run } in
        record {
          stands = subst (λ (e : CallsEnd). SlotStands me (Down g) (opened_by e w.acts (opening w.disk).disk (found_at w))) (sym made.0) down;
          written = subst (λ (e : CallsEnd). now ≡ was ++ opening_text e me (found_at w)) (sym made.0) text;
          finds = λ done. absurd (let ended = made.0 in cc);
        }

    stopped : (again : MemFuse) → g.struck ≡ Some Stop → Restarted g again → now ≡ was ++ crashed_line me → Opens me fuse (Down again) was now w
    stopped again struck restarts text =
        let said = subst (λ (files : Files). StopLeaves (calls_made w.disk (both_opening_calls files)).ended g (calls_made w.disk (both_opening_calls files)).disk) read_is (said_crashed (both_opening_calls (read_of fuse.disk)) fuse g w.disk false c.disk ran refl struck) in
        let down : DownStands again (record { acts = w.acts; disk = (opening w.disk).disk; down = true }) = record {
          down = refl;
          disk = restarted_stands (opening w.disk).ended g again (opening w.disk).disk said restarts;
          left = leaves_less g again w.acts (restarts.left said.way said.down) (still_leaves g run);
        } in
        record {
          stands = subst (λ (e : CallsEnd). SlotStands me (Down again) (opened_by e w.acts (opening w.disk).disk (found_at w))) (sym said.ended) down;
          written = subst (λ (e : CallsEnd). now ≡ was ++ opening_text e me (found_at w)) (sym said.ended) text;
          finds = λ done. absurd (let ended = said.ended in cc);
        }

    by_struck : (struck : Option Struck) (again : MemFuse) → g.struck ≡ struck → StaysDown struck me g again was now → Opens me fuse (Down again) was now w
    by_struck None again is stays = absurd stays
    by_struck (Some Fault) again is stays = subst (λ (x : MemFuse). Opens me fuse (Down x) was now w) (sym stays.0) (failed is stays.1)
    by_struck (Some Stop) again is stays = stopped again is stays.0 stays.1

    pub stays : (again : MemFuse) → StaysDown g.struck me g again was now → Opens me fuse (Down again) was now w
    stays again down = by_struck g.struck again refl down

-- a new node

pub empty_found : (bytes : Files) (kept : Kept) → bytes ≡ bytes_read no_files → found_of bytes ≡ Ok kept → kept ≡ empty_record
unfolding generations_of bodies_of folded_from
empty_found bytes kept empty is = let same : found_of (bytes_read no_files) ≡ Ok kept = ap found_of (sym empty) ∙ is in cc

pub record IsEmptyDisk (f : MemFuse) : Type 0 where
  pub files : files_of f.disk ≡ no_files
  pub armed : f.armed ≡ nothing_armed
  pub up : f.down ≡ None
  pub seen : read_of f.disk ≡ bytes_read no_files

pub new_stands : (me : Id) (f : MemFuse) (j : Journal) (s : CoordState Journal) → IsEmptyDisk f → JustOpened f j → JustOver me j s → OpenStands me s fresh_node
new_stands me f j s empty is over =
    let disk : NodeDisk = record { files = no_files; armed = nothing_armed } in
    let began : DiskStands f disk = record { files = empty.files; armed = empty.armed; up = empty.up } in
    let ran = subst (λ (files : Files). CallsMade (FuseMoves MemMoves) (both_opening_calls files) f j.log.disk true) empty.seen is.ran in
    let made = said_done (both_opening_calls (bytes_read no_files)) f j.log.disk disk true began ran refl in
    just_stands me j s NoActs (opening disk).disk over is.runs refl tt (ap (λ (x : Kept). node_state (opened x)) (empty_found (read_of f.disk) j.kept empty.seen is.found)) made.1

-- a restart

published_by_end : (e : CallsEnd) (g : NodeHistory) (disk : NodeDisk) (found : Kept) → last_published (opened_by e g disk found).acts ≡ last_published g
published_by_end Done g disk found = settled_published (is_kept g found) g
published_by_end Failed g disk found = refl
published_by_end (CrashedIn way) g disk found = refl

module _ (old new : ReplayNode) (fuse : MemFuse) (was now : List ℕ) (same_me : new.me ≡ old.me) (same_published : new.published ≡ old.published) (needs : (w : NodeWorld) → NodeStands old w → (needs_opening w ≡ true) × ClosedStands fuse w)
    (done : (w : NodeWorld) → ClosedStands fuse w → Opens old.me fuse new.slot was now w) where
  pub restarts : DoesLine old new after_restart (restart_text old.me) was now
  restarts = record {
    me = same_me;
    stands = λ w stands.
        let slot = subst (λ (m : Id). SlotStands m new.slot (after_opening w)) (sym same_me) (done w (needs w stands).1).stands in
        let published = ap state_published same_published ∙ stands.published ∙ sym (published_by_end (opening w.disk).ended w.acts (opening w.disk).disk (found_at w)) in
        let there : NodeStands new (after_opening w) = record { slot = slot; published = published } in
        subst (λ (b : Bool). NodeStands new (if b then after_opening w else w)) (sym (needs w stands).0) there;
    written = λ w stands. (done w (needs w stands).1).written ∙ sym (ap (λ (b : Bool). was ++ (if b then opening_text (opening w.disk).ended old.me (found_at w) else up_line old.me)) (needs w stands).0);
  }

pub down_needs : (old : ReplayNode) (fuse : MemFuse) → old.slot ≡ Down fuse → (w : NodeWorld) → NodeStands old w → (needs_opening w ≡ true) × ClosedStands fuse w
down_needs old fuse slot w stands =
    let d : DownStands fuse w = subst (λ (x : Slot). SlotStands old.me x w) slot stands.slot in
    (ap (λ (b : Bool). b || halted_of w.acts) d.down, record { disk = d.disk; left = d.left })

-- a node that is up needs it once its journal is halted
pub open_asks : (me : Id) (s : CoordState Journal) (w : NodeWorld) → OpenStands me s w → needs_opening w ≡ s.keeper.log.stopped
open_asks me s w o = ap (λ (b : Bool). b || halted_of w.acts) o.up ∙ sym (ap (λ (n : NodeState). n.halted) o.acts)

pub open_needs : (old : ReplayNode) (s : CoordState Journal) → old.slot ≡ Open s → s.keeper.log.stopped ≡ true → (w : NodeWorld) → NodeStands old w → (needs_opening w ≡ true) × ClosedStands s.keeper.log.disk w
open_needs old s slot stopped w stands =
    let o : OpenStands old.me s w = subst (λ (x : Slot). SlotStands old.me x w) slot stands.slot in
    (open_asks old.me s w o ∙ stopped, record { disk = o.disk; left = o.stopped stopped })

-- ---- a node that is up

not_true : (b : Bool) → not b ≡ true → b ≡ false
not_true true h = absurd cc
not_true false h = refl

not_false : (b : Bool) → not b ≡ false → b ≡ true
not_false true h = refl
not_false false h = absurd cc

pub halted : (slot : Slot) (s : CoordState Journal) → Open s ≡ slot → is_up slot ≡ false → s.keeper.log.stopped ≡ true
halted slot s is up = not_false s.keeper.log.stopped (ap is_up is ∙ up)

slot_needs_none : (me : Id) (slot : Slot) (w : NodeWorld) → is_up slot ≡ true → SlotStands me slot w → needs_opening w ≡ false
slot_needs_none me (Open s) w up stands = open_asks me s w stands ∙ not_true s.keeper.log.stopped up
slot_needs_none me (Down fuse) w up stands = absurd cc

pub up_needs_none : (node : ReplayNode) → is_up node.slot ≡ true → (w : NodeWorld) → NodeStands node w → needs_opening w ≡ false
up_needs_none node up w stands = slot_needs_none node.me node.slot w up stands.slot

-- it stays as it is
pub stays_up : (node : ReplayNode) (was now : List ℕ) → is_up node.slot ≡ true → now ≡ was ++ up_line node.me → DoesLine node node after_restart (restart_text node.me) was now
stays_up node was now up written = record {
  me = refl;
  stands = λ w stands. subst (λ (b : Bool). NodeStands node (if b then after_opening w else w)) (sym (up_needs_none node up w stands)) stands;
  written = λ w stands.
      written ∙ sym (ap (λ (b : Bool). was ++ (if b then opening_text (opening w.disk).ended node.me (found_at w) else up_line node.me)) (up_needs_none node up w stands));
}
