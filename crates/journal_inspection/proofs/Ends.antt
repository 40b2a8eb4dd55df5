-- How an inspection ends, from how its parts ended.
use Rattle.std.proofs.Common.{◌≡◌, ℕ, true, false, Option, Some, List, [], ◌++◌, Result, Ok, Err, refl, sym, ◌∙◌, ap, subst, inl, inr, append-nil}
use Rattle.std.specs.Result.{result_ok}
use Rattle.zen_disk.specs.DeviceCall.{DeviceCall}
use Rattle.zen_disk.specs.Faults.{Rose}
use Rattle.zen_disk.specs.Moments.{Only}
use Rattle.zen_disk.specs.Runs.{CallsMade}
use Rattle.zen_disk.specs.Sides.{Files}
use Rattle.zen_disk.specs.declared.disks.Disks.{Ghosts as Disks}
use Rattle.zen_disk.specs.declared.side.Side.TheVariants.{Zero, One}
use Rattle.cluster_state.specs.declared.state.Kept.{Kept}
use Rattle.gate_log.specs.Calls.{opening_calls, both_opening_calls}
use Rattle.gate_log.specs.Generations.{Generations, generations_of}
use Rattle.gate_log.specs.declared.why.Why.{Why as LogWhy}
use Rattle.gate_log.specs.declared.why.Why.TheVariants.{At, Twin}
use Rattle.state_journal.specs.declared.why.Why.{Why}
use Rattle.state_journal.specs.Journal.{found_of, record_of_files, records_of}
use Rattle.state_journal.specs.Opening.{calls_until}
use Rattle.journal_inspection.specs.Shows.{LeavesRecord, Shows, OnlyOpens, Reports, Refuses}
use Rattle.zen_host.specs.HostCalls.{HostCall, OpensDisk, and_call}
use Rattle.zen_host.specs.Views.{HostView}
use Rattle.journal_inspection.specs.Inspects.{Asked, Opened, EndsWith, EndsShown, IsComplete, Says}
use Rattle.journal_inspection.specs.declared.showing.Shown.{Shown}
use Rattle.journal_inspection.specs.declared.showing.Shown.TheVariants as shown
use Rattle.journal_inspection.specs.declared.inspecting.Inspection.{Inspection}
use Rattle.journal_inspection.specs.declared.inspecting.Inspection.TheVariants as end

module _ {D : Type 0} (d : Disks D) (given back : D) where
  -- all calls were made
  pub opens_all : (kept : Kept) (records : ℕ) (s : Shown) → Reports kept records s → CallsMade d.moves (both_opening_calls (d.seen given)) given back true → OnlyOpens d given back s
  opens_all kept records (shown.Report text) is ran = ran
  opens_all kept records (shown.NotAJournal text) is ran = absurd is
  opens_all kept records shown.Disk is ran = absurd is
  opens_all kept records shown.Memory is ran = (both_opening_calls (d.seen given), [], append-nil (both_opening_calls (d.seen given)), ran)

  -- the calls up to a fault of the files are the first of all
  first_calls : (generations : Result Generations LogWhy) → (rest : List DeviceCall) × (calls_until generations (d.seen given) ++ rest ≡ both_opening_calls (d.seen given))
  first_calls (Err (At Zero fault)) = (opening_calls One (d.seen given).one, refl)
  first_calls (Err (At One fault)) = ([], append-nil (both_opening_calls (d.seen given)))
  first_calls (Err Twin) = ([], append-nil (both_opening_calls (d.seen given)))
  first_calls (Ok generations) = ([], append-nil (both_opening_calls (d.seen given)))

  -- those up to the fault
  pub opens_first : (why : Why) (s : Shown) → Refuses why s → CallsMade d.moves (calls_until (generations_of (d.seen given)) (d.seen given)) given back true → OnlyOpens d given back s
  opens_first why (shown.Report text) is ran = absurd is
  opens_first why (shown.NotAJournal text) is ran = ran
  opens_first why shown.Disk is ran = absurd is
  opens_first why shown.Memory is ran =
      let first = first_calls (generations_of (d.seen given)) in
      (calls_until (generations_of (d.seen given)) (d.seen given), first.0, first.1, ran)

module _ {D L : Type 0} (d : Disks D) (host host_now : HostView D L) where
  -- a disk that stands for a record is not refused
  not_refused : {A : Type 0} (text : List ℕ) (disk : D) (kept : Kept) → Opened d host host_now (shown.NotAJournal text) → host.disk_ready ≡ Some disk → d.told → found_of (d.seen disk) ≡ Ok kept → A
  not_refused text disk kept opened is t found =
      let same : found_of (d.seen opened.given) ≡ found_of (d.seen disk) = ap (λ (x : D). found_of (d.seen x)) (opened.is_given disk is) in
      let both : Err opened.shows.why ≡ Ok kept = sym (opened.shows.found t) ∙ same ∙ found in
      absurd cc

  disk_rose : Opened d host host_now shown.Disk → ((back : D) → host_now.disk_back ≡ Some back → Rose 0 (d.faults back) → ⊥) → ⊥
  disk_rose opened quiet = quiet opened.back opened.is_back (subst (λ (n : ℕ). Rose n (d.faults opened.back)) opened.fresh opened.shows)

  pub completes : (was now : Option (List ℕ)) (wrote wrote_now : ℕ) (e : Inspection) → EndsWith d host host_now was now wrote wrote_now e → IsComplete d host host_now wrote wrote_now e
  completes was now wrote wrote_now end.Done ended disk is t kept found no_host no_write no_disk = inl refl
  completes was now wrote wrote_now end.NotAJournal ended disk is t kept found no_host no_write no_disk = not_refused ended.0 disk kept ended.1 is t found
  completes was now wrote wrote_now end.NoMemory ended disk is t kept found no_host no_write no_disk = inr refl
  completes was now wrote wrote_now end.WriteFault ended disk is t kept found no_host no_write no_disk = absurd (no_write ended.3)
  completes was now wrote wrote_now end.DiskFault ended disk is t kept found no_host no_write no_disk = absurd (disk_rose ended.0 no_disk)
  completes was now wrote wrote_now end.HostFault ended disk is t kept found no_host no_write no_disk = absurd (no_host ended.0)

-- what holds of both ends of a writing
pub said : {E : Type 0} (P : E → Type 0) (text : List ℕ) (whole cut : E) (was now : Option (List ℕ)) (wrote wrote_now : ℕ) (e : E) → P whole → P cut → Says text whole cut was now wrote wrote_now e → P e
said P text whole cut was now wrote wrote_now e p q (inl done) = subst P (sym done.0) p
said P text whole cut was now wrote wrote_now e p q (inr failed) = subst P (sym failed.0) q

-- one that was shown something has asked for the disk
pub asked_shown : (dir : List ℕ) (calls calls_now : Option (List HostCall)) (s : Shown) (was now : Option (List ℕ)) (wrote wrote_now : ℕ) (e : Inspection)
    → calls_now ≡ and_call calls (OpensDisk dir false) → EndsShown s was now wrote wrote_now e → Asked dir calls calls_now e
asked_shown dir calls calls_now (shown.Report text) was now wrote wrote_now e noted ends = said (Asked dir calls calls_now) text end.Done end.WriteFault was now wrote wrote_now e noted noted ends
asked_shown dir calls calls_now (shown.NotAJournal text) was now wrote wrote_now e noted ends = said (Asked dir calls calls_now) text end.NotAJournal end.WriteFault was now wrote wrote_now e noted noted ends
asked_shown dir calls calls_now shown.Disk was now wrote wrote_now e noted ends = subst (Asked dir calls calls_now) (sym ends.0) noted
asked_shown dir calls calls_now shown.Memory was now wrote wrote_now e noted ends = subst (Asked dir calls calls_now) (sym ends.0) (inr noted)

-- what was written of what is shown of the disk that the host gave
pub ends_shown : {D L : Type 0} (d : Disks D) (host host_now : HostView D L) (s : Shown) (was now : Option (List ℕ)) (wrote wrote_now : ℕ) (e : Inspection)
    → Opened d host host_now s → EndsShown s was now wrote wrote_now e → EndsWith d host host_now was now wrote wrote_now e
ends_shown d host host_now (shown.Report text) was now wrote wrote_now e opened (inl whole) = subst (EndsWith d host host_now was now wrote wrote_now) (sym whole.0) (text, opened, whole.1)
ends_shown d host host_now (shown.Report text) was now wrote wrote_now e opened (inr cut) = subst (EndsWith d host host_now was now wrote wrote_now) (sym cut.0) (text, inl opened, cut.1, cut.2)
ends_shown d host host_now (shown.NotAJournal text) was now wrote wrote_now e opened (inl whole) = subst (EndsWith d host host_now was now wrote wrote_now) (sym whole.0) (text, opened, whole.1)
ends_shown d host host_now (shown.NotAJournal text) was now wrote wrote_now e opened (inr cut) = subst (EndsWith d host host_now was now wrote wrote_now) (sym cut.0) (text, inr opened, cut.1, cut.2)
ends_shown d host host_now shown.Disk was now wrote wrote_now e opened ended = subst (EndsWith d host host_now was now wrote wrote_now) (sym ended.0) (opened, ended.1)
ends_shown d host host_now shown.Memory was now wrote wrote_now e opened ended = subst (EndsWith d host host_now was now wrote wrote_now) (sym ended.0) (inr opened, ended.1)
