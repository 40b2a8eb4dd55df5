-- Part of the statement: what the use of a tool on the disk of a journal does.
use Rattle.std.specs.Prelude.{◌≡◌, ◌⊎◌, ◌≤◌, ℕ, Bool, true, false, Option, None, Some, Ok, List, [], ◌++◌, codes, decimal}
use Rattle.zen_disk.specs.Faults.{Rose}
use Rattle.zen_disk.specs.Moments.{LeavesOnly}
use Rattle.zen_disk.specs.Runs.{CallsMade}
use Rattle.zen_disk.specs.Sides.{Files}
use Rattle.zen_disk.specs.declared.disks.Disks.{Ghosts as Disks}
use Rattle.cluster_state.specs.declared.state.Kept.{Kept}
use Rattle.gate_log.specs.Calls.{both_opening_calls}
use Rattle.gate_log.specs.Generations.{standing_in}
use Rattle.gate_log.specs.Place.{place}
use Rattle.state_journal.specs.Journal.{found_of, record_of_files, records_of, StoodFor}
use Rattle.state_journal.specs.Keeping.{keeping_calls, keeping_calls_in}
use Rattle.state_journal.specs.declared.change.Change.TheVariants.{Accepted}
use Rattle.state_journal.specs.declared.error.OpenError.{OpenError}
use Rattle.state_journal.specs.declared.error.OpenError.TheVariants as refused
use Rattle.state_journal.specs.declared.journal.StateJournal.{StateJournal}
use Rattle.state_journal.specs.declared.why.Why.{Why}
use Rattle.journal_inspection.specs.Report.{report, not_a_journal}
use Rattle.journal_inspection.specs.Shows.{LeavesRecord, IsRefusal, OnlyOpens}
use Rattle.journal_inspection.specs.declared.showing.Shown.TheVariants as shown
use Rattle.node_tool.specs.Tools.{state_by, made_by, refusal_of}
use Rattle.node_tool.specs.declared.error.ToolError.{ToolError}
use Rattle.node_tool.specs.declared.error.ToolError.TheVariants as error
use Rattle.node_tool.specs.declared.tool.Tool.{Tool}
use Rattle.node_tool.specs.declared.using.Tooled.{Tooled}
use Rattle.node_tool.specs.declared.using.Tooled.TheVariants as tooled

-- the line that says why a record is refused; the other causes have none
abbrev pub refusal_line : ToolError → List ℕ
refusal_line error.NoState = codes "zen: refused: NoState\n"
refusal_line (error.Exhausted version) = codes "zen: refused: Exhausted(" ++ decimal version ++ codes ")\n"
refusal_line other = []

-- an opening finds what it might have found before, or what the tool makes of the record that the disk stood for
abbrev pub IsOldOrNew : {D : Type 0} → Disks D → Tool → (given : D) → Option Kept → Type 0
IsOldOrNew d tool given found =
    ((files : Files) × d.may_leave given files × (found ≡ record_of_files files))
    ⊎ ((kept : Kept) × (found_of (d.seen given) ≡ Ok kept) × (refusal_of tool kept ≡ None) × (found ≡ Some (made_by tool kept)))

module _ {D : Type 0} (d : Disks D) (tool : Tool) (given back : D) where
  -- The text is the seven lines of what the tool makes of a record. Where the disk tells, its files stood for that record, and a crash now
  -- leaves the new one.
  pub record IsMade (text : List ℕ) : Type 0 where
    pub kept : Kept
    pub taken : refusal_of tool kept ≡ None
    pub records : ℕ
    pub lines : text ≡ report (made_by tool kept) records
    pub found : d.told → found_of (d.seen given) ≡ Ok kept
    pub counted : d.told → records ≡ records_of (d.seen back)
    pub leaves : d.told → LeavesRecord (d.may_leave back) (made_by tool kept)

  -- The text is the line that says why the tool refuses a record. Where the disk tells, its files stood for that record, and a crash now
  -- leaves it.
  pub record IsRefused (text : List ℕ) : Type 0 where
    pub kept : Kept
    pub cause : ToolError
    pub refused : refusal_of tool kept ≡ Some cause
    pub line : text ≡ refusal_line cause
    pub found : d.told → found_of (d.seen given) ≡ Ok kept
    pub leaves : d.told → LeavesRecord (d.may_leave back) kept

  -- what a tool makes of the disk that was given, where this one is given back
  abbrev pub Uses : Tooled → Type 0
  Uses (tooled.Report text) = IsMade text
  Uses (tooled.Refused text) = IsRefused text
  Uses (tooled.NotAJournal text) = IsRefusal d given back text
  Uses tooled.Disk = Rose (d.faults given) (d.faults back)
  Uses tooled.Memory = Unit {0}

  -- a crash at any moment leaves files of which that is so
  abbrev pub IsUnhurt : Type 0
  IsUnhurt = LeavesOnly d.moment (λ (x : D). StoodFor (d.left_since x)) given back (IsOldOrNew d tool given)

  -- the journal was opened, and the device calls were made that accept a state, with one change
  pub record Wrote (ok : Bool) : Type 0 where
    pub opened : D
    pub opens : CallsMade d.moves (both_opening_calls (d.seen given)) given opened true
    pub kept : Kept
    pub found : found_of (d.seen given) ≡ Ok kept
    pub writes : CallsMade d.moves (keeping_calls_in (standing_in (d.seen opened)) kept (Accepted (state_by tool kept))) opened back ok

  -- The device calls of an opening were made and, where the tool did not refuse, those that accept a state; no others.
  abbrev pub OnlyUses : Tooled → Type 0
  OnlyUses (tooled.Report text) = Wrote true
  OnlyUses (tooled.Refused text) = CallsMade d.moves (both_opening_calls (d.seen given)) given back true
  OnlyUses (tooled.NotAJournal text) = OnlyOpens d given back (shown.NotAJournal text)
  OnlyUses tooled.Disk = OnlyOpens d given back shown.Disk ⊎ Wrote false
  OnlyUses tooled.Memory = OnlyOpens d given back shown.Memory ⊎ Wrote true

-- ---- not part of the statement

-- the text is these lines, unless memory ran out
abbrev pub Reports : Kept → ℕ → Tooled → Type 0
Reports kept records (tooled.Report text) = text ≡ report kept records
Reports kept records tooled.Memory = Unit {0}
Reports kept records other = ⊥

abbrev pub Refuses : ToolError → Tooled → Type 0
Refuses cause (tooled.Refused text) = text ≡ refusal_line cause
Refuses cause tooled.Memory = Unit {0}
Refuses cause other = ⊥

abbrev pub NamesWhy : Why → Tooled → Type 0
NamesWhy why (tooled.NotAJournal text) = text ≡ not_a_journal why
NamesWhy why tooled.Memory = Unit {0}
NamesWhy why other = ⊥

-- what is made of a disk whose journal was not opened
abbrev pub NamesError : {D : Type 0} → OpenError D → Tooled → Type 0
NamesError (refused.NotAJournal why back) t = NamesWhy why t
NamesError (refused.Disk back) t = t ≡ tooled.Disk
NamesError (refused.Memory back) t = t ≡ tooled.Memory

module _ {D : Type 0} (d : Disks D) (tool : Tool) (old new : StateJournal D d) where
  -- what a tool does on an opened journal
  abbrev pub UsesOn : Tooled → Type 0
  UsesOn (tooled.Report text) = (refusal_of tool old.kept ≡ None) × (new.log.stopped ≡ false) × (new.kept ≡ made_by tool old.kept)
      × (text ≡ report new.kept new.records)
  UsesOn (tooled.Refused text) = (cause : ToolError) × (refusal_of tool old.kept ≡ Some cause) × (text ≡ refusal_line cause) × (new ≡ old)
  UsesOn (tooled.NotAJournal text) = ⊥
  UsesOn tooled.Disk = Rose (d.faults old.log.disk) (d.faults new.log.disk)
  UsesOn tooled.Memory = Unit {0}

  abbrev pub WroteOn : Bool → Type 0
  WroteOn ok = CallsMade d.moves (keeping_calls old.due (place old.log) old.kept (Accepted (state_by tool old.kept))) old.log.disk
      new.log.disk ok

  abbrev pub WritesOn : Tooled → Type 0
  WritesOn (tooled.Report text) = WroteOn true
  WritesOn (tooled.Refused text) = new ≡ old
  WritesOn (tooled.NotAJournal text) = ⊥
  WritesOn tooled.Disk = WroteOn false
  WritesOn tooled.Memory = (new ≡ old) ⊎ WroteOn true

  abbrev pub LeavesOldOrNew : Type 0
  LeavesOldOrNew =
      LeavesOnly (λ (j : StateJournal D d). d.moment j.log.disk) (λ (j : StateJournal D d). StoodFor (d.left_since j.log.disk)) old new
      (λ (found : Option Kept). (found ≡ Some old.kept) ⊎ ((refusal_of tool old.kept ≡ None) × (found ≡ Some (made_by tool old.kept))))

-- what it does on one whose disk is handed out then
pub record UsesOpened {D : Type 0} (d : Disks D) (tool : Tool) (journal : StateJournal D d) (back : D) (t : Tooled) : Type 0 where
  pub new : StateJournal D d
  pub is_back : back ≡ new.log.disk
  pub uses : UsesOn d tool journal new t
  pub writes : WritesOn d tool journal new t
  pub later : d.faults journal.log.disk ≤ d.faults new.log.disk
  pub any_moment : d.told → LeavesOldOrNew d tool journal new
