-- Part of the statement: what is shown of the journal on a disk.
use Rattle.std.specs.Prelude.{◌≡◌, ℕ, true, false, Some, Ok, Err, List}
use Rattle.zen_disk.specs.Faults.{Rose}
use Rattle.zen_disk.specs.Moments.{LeavesOnly}
use Rattle.zen_disk.specs.Runs.{CallsMade}
use Rattle.zen_disk.specs.Sides.{Files}
use Rattle.zen_disk.specs.declared.disks.Disks.{Ghosts as Disks}
use Rattle.cluster_state.specs.declared.state.Kept.{Kept}
use Rattle.gate_log.specs.Calls.{both_opening_calls}
use Rattle.gate_log.specs.Generations.{generations_of}
use Rattle.gate_log.specs.Opening.{RanPartly}
use Rattle.state_journal.specs.declared.why.Why.{Why}
use Rattle.state_journal.specs.Journal.{found_of, record_of_files, records_of, FoundAsSome}
use Rattle.state_journal.specs.Opening.{calls_until}
use Rattle.journal_inspection.specs.Report.{report, not_a_journal}
use Rattle.journal_inspection.specs.declared.showing.Shown.{Shown}
use Rattle.journal_inspection.specs.declared.showing.Shown.TheVariants as shown

-- whatever a crash leaves stands for this record
abbrev pub LeavesRecord : (Files → Type 0) → Kept → Type 0
LeavesRecord may_leave kept = (image : Files) → may_leave image → record_of_files image ≡ Some kept

module _ {D : Type 0} (d : Disks D) (given back : D) where
  -- The text is the seven lines of a record. Where the disk tells, its files stood for that record, and a crash now leaves it.
  pub record IsReport (text : List ℕ) : Type 0 where
    pub kept : Kept
    pub records : ℕ
    pub lines : text ≡ report kept records
    pub found : d.told → found_of (d.seen given) ≡ Ok kept
    pub counted : d.told → records ≡ records_of (d.seen given)
    pub stays : d.told → LeavesRecord (d.may_leave back) kept

  -- The text is the line that names a fault. Where the disk tells, this is the first fault of its files.
  pub record IsRefusal (text : List ℕ) : Type 0 where
    pub why : Why
    pub line : text ≡ not_a_journal why
    pub found : d.told → found_of (d.seen given) ≡ Err why

  -- what is shown of the disk that was given, where this one is given back
  abbrev pub Shows : Shown → Type 0
  Shows (shown.Report text) = IsReport text
  Shows (shown.NotAJournal text) = IsRefusal text
  Shows shown.Disk = Rose (d.faults given) (d.faults back)
  Shows shown.Memory = Unit {0}

  -- The device calls of an opening were made, and no others: as far as the files are laid out as a journal is, or to the call that failed,
  -- or as far as there was memory. Of these calls a write comes only where a file has at most nine bytes, and makes its header.
  abbrev pub OnlyOpens : Shown → Type 0
  OnlyOpens (shown.Report text) = CallsMade d.moves (both_opening_calls (d.seen given)) given back true
  OnlyOpens (shown.NotAJournal text) = CallsMade d.moves (calls_until (generations_of (d.seen given)) (d.seen given)) given back true
  OnlyOpens shown.Disk = CallsMade d.moves (both_opening_calls (d.seen given)) given back false
  OnlyOpens shown.Memory = RanPartly d.moves (both_opening_calls (d.seen given)) given back

  -- whatever is shown, a crash at any moment leaves files in which an opening finds what it might have found before
  abbrev pub IsUnhurt : Type 0
  IsUnhurt = LeavesOnly d.moment d.left_since given back (FoundAsSome (d.may_leave given))

-- ---- not part of the statement

-- the text is the seven lines, unless memory ran out
abbrev pub Reports : Kept → ℕ → Shown → Type 0
Reports kept records (shown.Report text) = text ≡ report kept records
Reports kept records (shown.NotAJournal text) = ⊥
Reports kept records shown.Disk = ⊥
Reports kept records shown.Memory = Unit {0}

-- the text is the line, unless memory ran out
abbrev pub Refuses : Why → Shown → Type 0
Refuses why (shown.Report text) = ⊥
Refuses why (shown.NotAJournal text) = text ≡ not_a_journal why
Refuses why shown.Disk = ⊥
Refuses why shown.Memory = Unit {0}
