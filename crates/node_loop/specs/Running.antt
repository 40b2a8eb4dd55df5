-- Part of the statement: what a crash leaves of the disk of a journal along a life.
use Rattle.std.specs.Prelude.{ℕ, Option}
use Rattle.zen_disk.specs.declared.disks.Disks.{Ghosts}
use Rattle.cluster_state.specs.declared.state.Kept.{Kept}
use Rattle.state_journal.specs.Journal.{StoodFor}
use Rattle.policy_model.specs.declared.settings.Settings.{Settings}
use Rattle.policy_model.specs.Entries.{Life}
use Rattle.node_loop.specs.Crashes.{Holds, LeavesLast}

module _ {D : Type 0} (d : Ghosts D) where
  -- what a crash since a moment left is opened with this
  abbrev pub StoodOn : D → ℕ → Option Kept → Type 0
  StoodOn disk t found = StoodFor (d.left_since disk) t found

  -- a crash leaves the last record of a life
  abbrev pub LeavesLastOn : D → Settings → Life → Type 0
  LeavesLastOn disk s life = d.told → LeavesLast d.moment StoodOn disk life

  -- From one life to another, by one entry after the other: there is a disk at the end of each, of which a crash leaves what is opened with
  -- the last record, and what a crash at any moment between two of them leaves is opened with the record of some first acts of the entry,
  -- the last of these kept or not.
  abbrev pub HoldsOn : (old now : D) → Settings → (life new : Life) → Type 0
  HoldsOn old now s life new = Holds LeavesLastOn d.told d.moment StoodOn d.faults old now s life new
