-- Part of the statement: what inspecting a folder does.
use Rattle.std.specs.Prelude.{◌≡◌, ℕ, ◌⊎◌, true, false, Option, Some, Ok, List, []}
use Rattle.zen_disk.specs.Faults.{Rose}
use Rattle.zen_disk.specs.declared.disks.Disks.{Ghosts as Disks}
use Rattle.zen_host.specs.HostCalls.{HostCall, OpensDisk, and_call}
use Rattle.zen_host.specs.Views.{HostView}
use Rattle.zen_link.specs.Streams.{Appended, AppendedPrefix}
use Rattle.cluster_state.specs.declared.state.Kept.{Kept}
use Rattle.state_journal.specs.Journal.{found_of}
use Rattle.journal_inspection.specs.Shows.{Shows, OnlyOpens, IsUnhurt}
use Rattle.journal_inspection.specs.declared.showing.Shown.{Shown}
use Rattle.journal_inspection.specs.declared.showing.Shown.TheVariants as shown
use Rattle.journal_inspection.specs.declared.inspecting.Inspection.{Inspection}
use Rattle.journal_inspection.specs.declared.inspecting.Inspection.TheVariants as end

-- the host gave no link, and was given none back
pub record LeavesLinks {D L : Type 0} (host host_now : HostView D L) : Type 0 where
  pub ready : host_now.link_ready ≡ host.link_ready
  pub back : host_now.link_back ≡ host.link_back

-- the host was asked once for the disk of this folder, and for nothing else; a call that found no memory is not noted
abbrev pub Asked : (dir : List ℕ) → (was now : Option (List HostCall)) → Inspection → Type 0
Asked dir was now end.HostFault = now ≡ and_call was (OpensDisk dir true)
Asked dir was now end.NoMemory = (now ≡ was) ⊎ (now ≡ and_call was (OpensDisk dir false))
Asked dir was now other = now ≡ and_call was (OpensDisk dir false)

module _ {D L : Type 0} (d : Disks D) (host host_now : HostView D L) where
  -- the host gave no disk
  pub record Undisked : Type 0 where
    pub calls : host_now.calls ≡ host.calls
    pub back : host_now.disk_back ≡ host.disk_back

  -- The host gave a disk, the one that it had ready where it tells, and was given it back. This is shown of it, and its journal is as safe
  -- as before.
  pub record Opened (s : Shown) : Type 0 where
    pub given : D
    pub is_given : (disk : D) → host.disk_ready ≡ Some disk → given ≡ disk
    pub fresh : d.faults given ≡ 0
    pub back : D
    pub is_back : host_now.disk_back ≡ Some back
    pub shows : Shows d given back s
    pub calls : d.told → OnlyOpens d given back s
    pub any_moment : d.told → IsUnhurt d given back

  -- what was written at each end; a disk that was given is given back, also where memory ran out
  abbrev pub EndsWith : (was now : Option (List ℕ)) → (wrote wrote_now : ℕ) → Inspection → Type 0
  EndsWith was now wrote wrote_now end.Done = (text : List ℕ) × Opened (shown.Report text) × Appended was now text
  EndsWith was now wrote wrote_now end.NotAJournal = (text : List ℕ) × Opened (shown.NotAJournal text) × Appended was now text
  EndsWith was now wrote wrote_now end.WriteFault =
      (text : List ℕ) × (Opened (shown.Report text) ⊎ Opened (shown.NotAJournal text)) × AppendedPrefix was now text × Rose wrote wrote_now
  EndsWith was now wrote wrote_now end.DiskFault = Opened shown.Disk × Appended was now []
  EndsWith was now wrote wrote_now end.HostFault = Rose host.faults host_now.faults × Appended was now []
  EndsWith was now wrote wrote_now end.NoMemory = (Undisked ⊎ Opened shown.Memory) × Appended was now []

  -- a disk that stands for a record is shown, unless memory runs out, where nothing fails
  abbrev pub IsComplete : (wrote wrote_now : ℕ) → Inspection → Type 0
  IsComplete wrote wrote_now e =
      (disk : D) → host.disk_ready ≡ Some disk → d.told → (kept : Kept) → found_of (d.seen disk) ≡ Ok kept
      → (Rose host.faults host_now.faults → ⊥) → (Rose wrote wrote_now → ⊥)
      → ((back : D) → host_now.disk_back ≡ Some back → Rose 0 (d.faults back) → ⊥) → (e ≡ end.Done) ⊎ (e ≡ end.NoMemory)

-- ---- not part of the statement

-- the text was written and the end is the first, or the sink failed and it is the second
abbrev pub Says : {E : Type 0} → (text : List ℕ) → (whole cut : E) → (was now : Option (List ℕ)) → (wrote wrote_now : ℕ) → E → Type 0
Says text whole cut was now wrote wrote_now e =
    ((e ≡ whole) × Appended was now text) ⊎ ((e ≡ cut) × AppendedPrefix was now text × Rose wrote wrote_now)

-- how an inspection ends of which this is shown
abbrev pub EndsShown : Shown → (was now : Option (List ℕ)) → (wrote wrote_now : ℕ) → Inspection → Type 0
EndsShown (shown.Report text) was now wrote wrote_now e = Says text end.Done end.WriteFault was now wrote wrote_now e
EndsShown (shown.NotAJournal text) was now wrote wrote_now e = Says text end.NotAJournal end.WriteFault was now wrote wrote_now e
EndsShown shown.Disk was now wrote wrote_now e = (e ≡ end.DiskFault) × Appended was now []
EndsShown shown.Memory was now wrote wrote_now e = (e ≡ end.NoMemory) × Appended was now []
