-- Journals with the same fields are the same.
use Rattle.std.proofs.Common.{◌≡◌, ◌≤◌, ◌^◌, Ok, false, Bool, List, ℕ}
use Rattle.std.proofs.Props.{props}
use mathlib.Core.HLevel.{is_prop→PathP}
use Rattle.zen_disk.specs.declared.disks.Disks.{Ghosts}
use Rattle.zen_disk.specs.Sides.{Files}
use Rattle.cluster_state.specs.declared.state.Kept.{Kept}
use Rattle.gate_log.specs.Generations.{standing_in, in_use}
use Rattle.state_journal.specs.Bodies.{body_of, holds_old}
use Rattle.state_journal.specs.Journal.{found_of, records_of}
use Rattle.state_journal.specs.Fit.{IsFit-prop, IsDraft-prop}
use Rattle.state_journal.specs.declared.change.Change.TheVariants.{Committed}
use Rattle.state_journal.specs.declared.journal.StateJournal.{StateJournal}

stands_prop : (told : Type 0) (stopped : Bool) (files : Files) (kept : Kept) → IsProp (told → stopped ≡ false → found_of files ≡ Ok kept)
stands_prop told stopped files kept = hlevel props

counted_prop : (told : Type 0) (stopped : Bool) (files : Files) (records : ℕ) → IsProp (told → stopped ≡ false → records ≡ records_of files)
counted_prop told stopped files records = hlevel props

aged_prop : (told : Type 0) (stopped : Bool) (files : Files) (due : Bool) → IsProp (told → stopped ≡ false → due ≡ holds_old (in_use (standing_in files)))
aged_prop told stopped files due = hlevel props

le_prop : (m n : ℕ) → IsProp (m ≤ n)
le_prop m n = hlevel props

marks_prop : (items : List ℕ) → IsProp (items ≡ body_of Committed)
marks_prop items = hlevel props

pub same_journal : {D : Type 0} {disks : Ghosts D} (a b : StateJournal D disks) → a.log ≡ b.log → a.kept ≡ b.kept → a.records ≡ b.records → a.due ≡ b.due → a.draft ≡ b.draft → a.mark ≡ b.mark → a ≡ b
same_journal {D} {disks} a b log kept records due draft mark =
    λ i. record {
      log = log i;
      kept = kept i;
      records = records i;
      due = due i;
      draft = draft i;
      mark = mark i;
      stands = is_prop→PathP _ (λ j. stands_prop disks.told (log j).stopped (disks.seen (log j).disk) (kept j)) a.stands b.stands i;
      counted = is_prop→PathP _ (λ j. counted_prop disks.told (log j).stopped (disks.seen (log j).disk) (records j)) a.counted b.counted i;
      aged = is_prop→PathP _ (λ j. aged_prop disks.told (log j).stopped (disks.seen (log j).disk) (due j)) a.aged b.aged i;
      bounded = is_prop→PathP _ (λ j. le_prop (kept j).term (2 ^ 62)) a.bounded b.bounded i;
      fit = is_prop→PathP _ (λ j. IsFit-prop (kept j).accepted) a.fit b.fit i;
      older = is_prop→PathP _ (λ j. le_prop (kept j).accepted.term (kept j).term) a.older b.older i;
      drafted = is_prop→PathP _ (λ j. IsDraft-prop (kept j).accepted (draft j)) a.drafted b.drafted i;
      marks = is_prop→PathP _ (λ j. marks_prop (mark j).items) a.marks b.marks i;
    }
