-- For the contracts inside: what an act makes of a node whose journal is open, and of its slot.
use Rattle.std.specs.Prelude.{◌≡◌, ℕ, Option, Some}
use Rattle.voting_config.specs.Ids.{Id}
use Rattle.cluster_state.specs.declared.state.ClusterState.{ClusterState}
use Rattle.coord_state.specs.declared.coord.CoordState.{CoordState}
use Rattle.coord_state.specs.declared.ending.NotTaken.{NotTaken}
use Rattle.coord_state.specs.declared.ending.NotTaken.TheVariants as untaken
use Rattle.world_model.specs.declared.acts.Act.{Act}
use Rattle.world_model.specs.declared.acts.Outcome.{Outcome}
use Rattle.trace_text.specs.Trace.{act_text, results}
use Rattle.zen_disk.specs.declared.orders.Struck.TheVariants as struck
use Rattle.replay_node.specs.Did.{outcome_of, did_text}
use Rattle.replay_node.specs.NodeDisk.{Restarted}
use Rattle.replay_node.specs.NodeWorld.{NodeWorld, outcome_at, after_act}
use Rattle.replay_node.specs.Stands.{Journal, OpenStands, CrashedStands}
use Rattle.replay_node.specs.declared.did.Did.{Did}
use Rattle.replay_node.specs.declared.did.Did.TheVariants as did
use Rattle.replay_node.specs.declared.node.Slot.{Slot}
use Rattle.replay_node.specs.declared.node.Slot.TheVariants.{Open, Down}

-- what an act did that was not taken: after a fault of the disk the fuse says what struck it
abbrev pub IsReportedBy : CoordState Journal → NotTaken → Did → Type 0
IsReportedBy state untaken.Stopped d = d ≡ did.Stopped
IsReportedBy state (untaken.Refused cause) d = d ≡ did.Refused cause
IsReportedBy state untaken.Disk did.Disk = state.keeper.log.disk.struck ≡ Some struck.Fault
IsReportedBy state untaken.Disk did.Crashed = state.keeper.log.disk.struck ≡ Some struck.Stop
IsReportedBy state untaken.Disk other = ⊥

-- the node stands for w, open or with its disk stopped
abbrev pub StandsAfter : Id → CoordState Journal → NodeWorld → Did → Type 0
StandsAfter me state w did.Crashed = CrashedStands me state w
StandsAfter me state w did.Down = ⊥
StandsAfter me state w other = OpenStands me state w

pub record StateDid (me : Id) (new : CoordState Journal) (w : NodeWorld) (act : Act) (d : Did) : Type 0 where
  pub outcome : outcome_of d ≡ Some (outcome_at me w act)
  pub stands : StandsAfter me new (after_act me w act) d

-- one act of an open node: whatever it stood for, what it did is reported, and it stands for that with the act
pub record StateDoes (old new : CoordState Journal) (act : Act) (d : Did) : Type 0 where
  pub me : new.me ≡ old.me
  pub does : (w : NodeWorld) → OpenStands old.me old w → StateDid old.me new w act d

-- what is written of it, where the node had published this state last
abbrev pub WritesText : Act → Option ClusterState → Did → Type 0
WritesText act published d = (count : ℕ) (n : Id) (o : Outcome) → outcome_of d ≡ Some o
    → results count published n act o ≡ did_text count n (act_text act) d

-- a node whose disk has stopped goes down, another stays
abbrev pub ClosesTo : Slot → Slot → Type 0
ClosesTo (Open state) (Down fuse) = Restarted state.keeper.log.disk fuse
ClosesTo (Open state) (Open state') = ⊥
ClosesTo (Down fuse) new = new ≡ Down fuse

abbrev pub Closes : Slot → Did → Slot → Type 0
Closes old did.Crashed new = ClosesTo old new
Closes old other new = new ≡ old
