-- Part of the statement: what using a tool on a folder does.
use Rattle.std.specs.Prelude.{◌≡◌, ℕ, ◌⊎◌, true, false, Option, None, Some, Ok, List, []}
use Rattle.zen_disk.specs.Faults.{Rose}
use Rattle.zen_disk.specs.declared.disks.Disks.{Ghosts as Disks}
use Rattle.zen_host.specs.HostCalls.{HostCall, OpensDisk, and_call}
use Rattle.zen_link.specs.Streams.{Appended, AppendedPrefix}
use Rattle.cluster_state.specs.declared.state.Kept.{Kept}
use Rattle.state_journal.specs.Journal.{found_of}
use Rattle.zen_host.specs.Views.{HostView}
use Rattle.journal_inspection.specs.Inspects.{Undisked, Says}
use Rattle.node_tool.specs.Tools.{refusal_of}
use Rattle.node_tool.specs.Uses.{Uses, IsUnhurt, OnlyUses}
use Rattle.node_tool.specs.declared.tool.Tool.{Tool}
use Rattle.node_tool.specs.declared.using.Tooled.{Tooled}
use Rattle.node_tool.specs.declared.using.Tooled.TheVariants as tooled
use Rattle.node_tool.specs.declared.running.ToolEnd.{ToolEnd}
use Rattle.node_tool.specs.declared.running.ToolEnd.TheVariants as end

-- the host was asked once for the disk of this folder, and for nothing else; a call that found no memory is not noted
abbrev pub Asked : (dir : List ℕ) → (was now : Option (List HostCall)) → ToolEnd → Type 0
Asked dir was now end.HostFault = now ≡ and_call was (OpensDisk dir true)
Asked dir was now end.NoMemory = (now ≡ was) ⊎ (now ≡ and_call was (OpensDisk dir false))
Asked dir was now other = now ≡ and_call was (OpensDisk dir false)

module _ {D L : Type 0} (d : Disks D) (tool : Tool) (host host_now : HostView D L) where
  -- The host gave a disk, the one that it had ready where it tells, and was given it back. The tool made this of it; and a crash at any
  -- moment leaves what might have been found before, or the new record.
  pub record Used (t : Tooled) : Type 0 where
    pub given : D
    pub is_given : (disk : D) → host.disk_ready ≡ Some disk → given ≡ disk
    pub fresh : d.faults given ≡ 0
    pub back : D
    pub is_back : host_now.disk_back ≡ Some back
    pub uses : Uses d tool given back t
    pub calls : d.told → OnlyUses d tool given back t
    pub any_moment : d.told → IsUnhurt d tool given back

  -- what was written at each end; a disk that was given is given back, also where memory ran out
  abbrev pub EndsWith : (was now : Option (List ℕ)) → (wrote wrote_now : ℕ) → ToolEnd → Type 0
  EndsWith was now wrote wrote_now end.Done = (text : List ℕ) × Used (tooled.Report text) × Appended was now text
  EndsWith was now wrote wrote_now end.Refused = (text : List ℕ) × Used (tooled.Refused text) × Appended was now text
  EndsWith was now wrote wrote_now end.NotAJournal = (text : List ℕ) × Used (tooled.NotAJournal text) × Appended was now text
  EndsWith was now wrote wrote_now end.WriteFault =
      (text : List ℕ) × (Used (tooled.Report text) ⊎ (Used (tooled.Refused text) ⊎ Used (tooled.NotAJournal text)))
      × AppendedPrefix was now text × Rose wrote wrote_now
  EndsWith was now wrote wrote_now end.DiskFault = Used tooled.Disk × Appended was now []
  EndsWith was now wrote wrote_now end.HostFault = Rose host.faults host_now.faults × Appended was now []
  EndsWith was now wrote wrote_now end.NoMemory = (Undisked d host host_now ⊎ Used tooled.Memory) × Appended was now []

  -- a disk that stands for a record that the tool takes is given the new one, and one whose record it refuses is refused, unless memory
  -- runs out, where nothing fails
  abbrev pub IsComplete : (wrote wrote_now : ℕ) → ToolEnd → Type 0
  IsComplete wrote wrote_now e =
      (disk : D) → host.disk_ready ≡ Some disk → d.told → (kept : Kept) → found_of (d.seen disk) ≡ Ok kept
      → (Rose host.faults host_now.faults → ⊥) → (Rose wrote wrote_now → ⊥)
      → ((back : D) → host_now.disk_back ≡ Some back → Rose 0 (d.faults back) → ⊥)
      → (e ≡ end.NoMemory) ⊎ (((e ≡ end.Done) × (refusal_of tool kept ≡ None)) ⊎ ((e ≡ end.Refused) × (refusal_of tool kept ≡ None → ⊥)))

-- ---- not part of the statement

-- how the use of a tool ends that made this
abbrev pub EndsTooled : Tooled → (was now : Option (List ℕ)) → (wrote wrote_now : ℕ) → ToolEnd → Type 0
EndsTooled (tooled.Report text) was now wrote wrote_now e = Says text end.Done end.WriteFault was now wrote wrote_now e
EndsTooled (tooled.Refused text) was now wrote wrote_now e = Says text end.Refused end.WriteFault was now wrote wrote_now e
EndsTooled (tooled.NotAJournal text) was now wrote wrote_now e = Says text end.NotAJournal end.WriteFault was now wrote wrote_now e
EndsTooled tooled.Disk was now wrote wrote_now e = (e ≡ end.DiskFault) × Appended was now []
EndsTooled tooled.Memory was now wrote wrote_now e = (e ≡ end.NoMemory) × Appended was now []
