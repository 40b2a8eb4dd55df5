-- For the contracts inside: when a node stands for its life, for what it did and for its disk.
use Rattle.std.specs.Prelude.{◌≡◌, false}
use Rattle.zen_disk.specs.contracts.fuse.Fuse as FuseRow
use Rattle.zen_disk.specs.contracts.fuse.FuseDisks.TheImpl as FuseDisks
use Rattle.zen_disk.specs.contracts.memory.MemDisks as MemDisksRow
use Rattle.zen_disk.specs.contracts.memory.MemDisksDisks.TheImpl as MemDisksDisks
use Rattle.state_journal.specs.contracts.journal.StateJournalKeeper.TheImpl as JournalKeeper
use Rattle.state_journal.specs.declared.keeper.Keeper.{Ghosts}
use Rattle.replay_node.specs.NodeWorld.{NodeWorld}
use Rattle.replay_node.specs.Stands.{Journal, OpenStands}
use Rattle.policy_model.specs.declared.settings.Settings.{Settings}
use Rattle.policy_model.specs.Entries.{Life}
use Rattle.policy_model.specs.Fitting.{IsFitView}
use Rattle.coordinator.specs.Lives.{StandsForLife}
use Rattle.coordinator.specs.Views.{IsReady, view_in}
use Rattle.coordinator.specs.declared.coordinator.Coordinator.{Coordinator}

abbrev pub Node : Type 0
Node = Coordinator Journal

-- what the journal's ghost members are over such a disk
abbrev pub keeper : Ghosts Journal
keeper = JournalKeeper.ghosts (FuseRow.the_row MemDisksRow.the_row)
    (FuseDisks.ghosts MemDisksRow.the_row MemDisksDisks.ghosts FuseDisks.no_dict) JournalKeeper.no_dict

-- a node whose journal is open; while it runs, it is within the limits
pub record OpenFor (s : Settings) (node : Node) (life : Life) (x : NodeWorld) : Type 0 where
  pub settings : node.settings ≡ s
  pub ready : IsReady node
  pub life_is : StandsForLife keeper node life
  pub core : OpenStands s.me node.core x
  pub fit : node.core.keeper.log.stopped ≡ false → IsFitView (view_in keeper node)
