-- For the contracts inside: when a node of a replay stands for what it did and for its disk.
use Rattle.std.specs.Prelude.{◌≡◌, ◌<◌, ◌⊎◌, ℕ, Bool, not, true, false, Some, length}
use Rattle.voting_config.specs.Ids.{Id, has, most_ids}
use Rattle.zen_disk.specs.FileState.{both_left_by}
use Rattle.zen_disk.specs.MemDisks.{files_of}
use Rattle.zen_disk.specs.Sides.{Files}
use Rattle.zen_disk.specs.contracts.fuse.Fuse as FuseRow
use Rattle.zen_disk.specs.contracts.fuse.FuseDisks.TheImpl as FuseDisks
use Rattle.zen_disk.specs.contracts.memory.MemDisks as MemDisksRow
use Rattle.zen_disk.specs.contracts.memory.MemDisksDisks.TheImpl as MemDisksDisks
use Rattle.zen_disk.specs.declared.disks.Disks.{Ghosts}
use Rattle.zen_disk.specs.declared.orders.Way.{Way}
use Rattle.state_journal.specs.Changes.{IsEither}
use Rattle.state_journal.specs.Journal.{record_of_files}
use Rattle.state_journal.specs.contracts.journal.StateJournalKeeper.TheImpl as JournalKeeper
use Rattle.state_journal.specs.declared.journal.StateJournal.{StateJournal}
use Rattle.state_journal.specs.declared.keeper.Keeper.{Ghosts as KeeperGhosts}
use Rattle.coord_state.specs.StandsFor.{StandsFor}
use Rattle.coord_state.specs.declared.coord.CoordState.{CoordState}
use Rattle.world_model.specs.declared.acts.Act.{Act}
use Rattle.world_model.specs.declared.acts.Message.{Message}
use Rattle.world_model.specs.declared.acts.Message.TheVariants.{Join as JoinMessage, Publish as PublishMessage, Response as ResponseMessage, Commit as CommitMessage}
use Rattle.world_model.specs.Acts.{NodeHistory}
use Rattle.world_model.specs.Histories.{is_down}
use Rattle.world_model.specs.NodeState.{durable_of}
use Rattle.trace_text.specs.Trace.{act_text}
use Rattle.replay_node.specs.Did.{outcome_of, did_text, outcome_unless_down, after_unless_down, act_results}
use Rattle.replay_node.specs.NodeDisk.{MemFuse, MayLeave, DiskStands}
use Rattle.replay_node.specs.NodeWorld.{NodeWorld}
use Rattle.trace_text.specs.Published.{last_published}
use Rattle.replay_node.specs.Published.{state_published}
use Rattle.world_model.specs.Settled.{settled, shows_as, IsUnstruck}
use Rattle.replay_node.specs.declared.did.Did.{Did}
use Rattle.replay_node.specs.declared.node.ReplayNode.{ReplayNode}
use Rattle.replay_node.specs.declared.node.Slot.{Slot}
use Rattle.replay_node.specs.declared.node.Slot.TheVariants.{Open, Down}

-- what the ghost members of such a disk are
abbrev pub fuse_ghosts : Ghosts MemFuse
fuse_ghosts = FuseDisks.ghosts MemDisksRow.the_row MemDisksDisks.ghosts FuseDisks.no_dict

abbrev pub Journal : Type 0
Journal = StateJournal MemFuse fuse_ghosts

-- what the journal's ghost members are over it
abbrev pub journal_ghosts : KeeperGhosts Journal
journal_ghosts = JournalKeeper.ghosts (FuseRow.the_row MemDisksRow.the_row) fuse_ghosts JournalKeeper.no_dict

-- whatever a crash leaves holds the acts so far, with the act that was struck or without it; and where the two records show the same, they
-- are the same
pub record LeavesActs (fuse : MemFuse) (g : NodeHistory) : Type 0 where
  pub left : (files : Files) → MayLeave fuse files
      → IsEither (durable_of (settled false g)) (durable_of (settled true g)) (record_of_files files)
  pub shown : shows_as (durable_of (settled false g)) (durable_of (settled true g)) ≡ true
      → durable_of (settled false g) ≡ durable_of (settled true g)

-- a node whose journal is open; once it met a fault of its disk, an act was struck
pub record OpenStands (me : Id) (state : CoordState Journal) (w : NodeWorld) : Type 0 where
  pub me_is : state.me ≡ me
  pub up : w.down ≡ false
  pub not_crashed : is_down w.acts ≡ false
  pub acts : StandsFor journal_ghosts state w.acts
  pub disk : DiskStands state.keeper.log.disk w.disk
  pub running : state.keeper.log.stopped ≡ false → IsUnstruck w.acts
  pub stopped : state.keeper.log.stopped ≡ true → LeavesActs state.keeper.log.disk w.acts

-- a node that is down
pub record DownStands (fuse : MemFuse) (w : NodeWorld) : Type 0 where
  pub down : w.down ≡ true
  pub disk : DiskStands fuse w.disk
  pub left : LeavesActs fuse w.acts

-- a node whose disk has stopped, before it is taken out
pub record CrashedStands (me : Id) (state : CoordState Journal) (w : NodeWorld) : Type 0 where
  pub down : w.down ≡ true
  pub way : Way
  pub stopped : state.keeper.log.disk.down ≡ Some way
  pub files : both_left_by way (files_of state.keeper.log.disk.disk) ≡ w.disk.files
  pub armed : state.keeper.log.disk.armed ≡ w.disk.armed
  pub left : LeavesActs state.keeper.log.disk w.acts

abbrev pub SlotStands : Id → Slot → NodeWorld → Type 0
SlotStands me (Open state) w = OpenStands me state w
SlotStands me (Down fuse) w = DownStands fuse w

pub record NodeStands (c : ReplayNode) (w : NodeWorld) : Type 0 where
  pub slot : SlotStands c.me c.slot w
  pub published : state_published c.published ≡ last_published w.acts

-- one act of a node, where it stood for w
pub record NodeDid (old new : ReplayNode) (w : NodeWorld) (act : Act) (d : Did) : Type 0 where
  pub outcome : outcome_of d ≡ outcome_unless_down old.me w act
  pub stands : NodeStands new (after_unless_down old.me w act)
  pub text : (count : ℕ) → act_results count old.me w act ≡ did_text count old.me (act_text act) d

-- one act of a node: whatever it stood for, what it did is reported, and it stands for that with the act
pub record NodeDoes (old new : ReplayNode) (act : Act) (d : Did) : Type 0 where
  pub me : new.me ≡ old.me
  pub does : (w : NodeWorld) → NodeStands old w → NodeDid old new w act d

-- whether a node's journal is open and takes changes
abbrev pub is_up : Slot → Bool
is_up (Open state) = not state.keeper.log.stopped
is_up (Down fuse) = false

-- there is room for the source of the message among those that the node has counted
abbrev pub HasRoomIn : CoordState Journal → Message → Type 0
HasRoomIn state (JoinMessage j) = (has j.source state.join_votes ≡ true) ⊎ (length state.join_votes < most_ids)
HasRoomIn state (ResponseMessage r) = (has r.source state.publish_votes ≡ true) ⊎ (length state.publish_votes < most_ids)
HasRoomIn state (PublishMessage r) = Unit {0}
HasRoomIn state (CommitMessage c') = Unit {0}

abbrev pub HasRoomAt : Slot → Message → Type 0
HasRoomAt (Open state) m = HasRoomIn state m
HasRoomAt (Down fuse) m = Unit {0}

abbrev pub HasRoom : ReplayNode → Message → Type 0
HasRoom c m = HasRoomAt c.slot m
