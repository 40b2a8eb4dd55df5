-- What a tool makes of a disk, from what it does on the journal that was opened there.
use Rattle.std.proofs.Common.{◌≡◌, ◌⊎◌, ℕ, ◌≤◌, Bool, true, false, Option, None, Some, Ok, Err, List, [], sym, ◌∙◌, ap, subst, inl, inr, append-nil, arith}
use Rattle.std.specs.Result.{result_ok}
use Rattle.zen_disk.specs.Moments.{LeavesOnly, joins}
use Rattle.zen_disk.specs.Runs.{CallsMade}
use Rattle.zen_disk.specs.Sides.{Files}
use Rattle.zen_disk.specs.declared.disks.Disks.{Ghosts as Disks}
use Rattle.cluster_state.specs.declared.state.Kept.{Kept}
use Rattle.gate_log.specs.Calls.{both_opening_calls}
use Rattle.gate_log.specs.Generations.{generations_of, in_use, standing_in}
use Rattle.gate_log.specs.Place.{place, place_of}
use Rattle.gate_log.proofs.Places.{place_is}
use Rattle.state_journal.specs.Bodies.{holds_old}
use Rattle.state_journal.specs.Changes.{IsEither}
use Rattle.state_journal.specs.Journal.{found_of, record_of_files, StoodFor, FoundAsSome}
use Rattle.state_journal.specs.Keeping.{keeping_calls}
use Rattle.state_journal.specs.Opening.{calls_until, handed_back, IsWhyOf, RanUntil, RoseIfDisk}
use Rattle.state_journal.specs.declared.error.OpenError.{OpenError}
use Rattle.state_journal.specs.declared.error.OpenError.TheVariants as refused
use Rattle.state_journal.specs.declared.change.Change.TheVariants.{Accepted}
use Rattle.state_journal.specs.declared.journal.StateJournal.{StateJournal}
use Rattle.state_journal.specs.declared.why.Why.{Why}
use Rattle.journal_inspection.specs.Report.{report}
use Rattle.journal_inspection.specs.Shows.{LeavesRecord}
use Rattle.journal_inspection.specs.declared.showing.Shown.TheVariants as shown
use Rattle.journal_inspection.proofs.Ends.{opens_first}
use Rattle.node_tool.specs.Tools.{state_by, made_by, refusal_of}
use Rattle.node_tool.specs.Uses.{Uses, IsOldOrNew, IsUnhurt, Wrote, OnlyUses, NamesError, NamesWhy, UsesOn, WroteOn, WritesOn, LeavesOldOrNew}
use Rattle.node_tool.specs.declared.tool.Tool.{Tool}
use Rattle.node_tool.specs.declared.using.Tooled.{Tooled}
use Rattle.node_tool.specs.declared.using.Tooled.TheVariants as tooled

-- where a journal has not stopped, a crash now leaves its record
leaves_kept : {D : Type 0} (d : Disks D) (j : StateJournal D d) → j.log.stopped ≡ false → d.told → LeavesRecord (d.may_leave j.log.disk) j.kept
leaves_kept d j running told image left = ap record_of_files ((j.log.settled told running).durable image left) ∙ ap result_ok (j.stands told running)

-- a crash leaves what an opening might have found before, where nothing was done but an opening
pub only_opened : {D : Type 0} (d : Disks D) (tool : Tool) (given back : D) → LeavesOnly d.moment d.left_since given back (FoundAsSome (d.may_leave given)) → IsUnhurt d tool given back
only_opened d tool given back opened = record {
  later = opened.later;
  since = λ t found le stood. from found t stood.0 stood.2 (opened.since t stood.0 le stood.1);
}
  where
    from : (found : Option Kept) (t : ℕ) (files : Files) → found ≡ record_of_files files → d.left_since given t files ⊎ FoundAsSome (d.may_leave given) files
        → StoodFor (d.left_since given) t found ⊎ IsOldOrNew d tool given found
    from found t files is (inl left) = inl (files, left, is)
    from found t files is (inr same) = inr (inl (same.0, same.1, is ∙ ap result_ok same.2))

module _ {D : Type 0} (d : Disks D) (tool : Tool) (given : D) (j new : StateJournal D d) (found : d.told → found_of (d.seen given) ≡ Ok j.kept) where
  pub uses : (t : Tooled) → j.log.stopped ≡ false → d.faults given ≤ d.faults j.log.disk → UsesOn d tool j new t → Uses d tool given new.log.disk t
  uses (tooled.Report text) running later u = record {
    kept = j.kept;
    taken = u.0;
    records = new.records;
    lines = u.3 ∙ ap (λ (k : Kept). report k new.records) u.2;
    found = found;
    counted = λ told. new.counted told u.1;
    leaves = λ told. subst (LeavesRecord (d.may_leave new.log.disk)) u.2 (leaves_kept d new u.1 told);
  }
  uses (tooled.Refused text) running later u = record {
    kept = j.kept;
    cause = u.0;
    refused = u.1;
    line = u.2;
    found = found;
    leaves = λ told. subst (λ (k : StateJournal D d). LeavesRecord (d.may_leave k.log.disk) j.kept) (sym u.3) (leaves_kept d j running told);
  }
  uses (tooled.NotAJournal text) running later u = absurd u
  uses tooled.Disk running later u = λ none. u (omega (arith, none, later))
  uses tooled.Memory running later u = tt

  -- ---- at each moment
  pub unhurt : ((disk : D) → d.told → d.may_leave disk (d.seen disk)) → d.told → LeavesOnly d.moment d.left_since given j.log.disk (FoundAsSome (d.may_leave given)) → LeavesOldOrNew d tool j new → IsUnhurt d tool given new.log.disk
  unhurt seen_may_stay told opened used =
      joins d.moment (λ (x : D). StoodFor (d.left_since x)) given j.log.disk new.log.disk (IsOldOrNew d tool given) _ (IsOldOrNew d tool given)
      (only_opened d tool given j.log.disk opened) (record { later = used.later; since = used.since }) (λ c p. p) either
    where
      either : (c : Option Kept) → (c ≡ Some j.kept) ⊎ ((refusal_of tool j.kept ≡ None) × (c ≡ Some (made_by tool j.kept))) → IsOldOrNew d tool given c
      either c (inl e) = inl (d.seen given, seen_may_stay given told, e ∙ sym (ap result_ok (found told)))
      either c (inr made) = inr (j.kept, found told, made.0, made.1)

  -- ---- the device calls
  wrote : (ok : Bool) → d.told → j.log.stopped ≡ false → CallsMade d.moves (both_opening_calls (d.seen given)) given j.log.disk true → WroteOn d tool j new ok → Wrote d tool given new.log.disk ok
  wrote ok told running opens w =
      let there : place j.log ≡ place_of (standing_in (d.seen j.log.disk)) = place_is d j.log told running in
      let due : j.due ≡ holds_old (in_use (standing_in (d.seen j.log.disk))) = j.aged told running in
      record {
        opened = j.log.disk;
        opens = opens;
        kept = j.kept;
        found = found told;
        writes = subst (λ (calls : List _). CallsMade d.moves calls j.log.disk new.log.disk ok) (λ i. keeping_calls (due i) (there i) j.kept (Accepted (state_by tool j.kept))) w;
      }

  pub only_uses : (t : Tooled) → d.told → j.log.stopped ≡ false → CallsMade d.moves (both_opening_calls (d.seen given)) given j.log.disk true → WritesOn d tool j new t → OnlyUses d tool given new.log.disk t
  only_uses (tooled.Report text) told running opens w = wrote true told running opens w
  only_uses (tooled.Refused text) told running opens w = subst (λ (k : StateJournal D d). CallsMade d.moves (both_opening_calls (d.seen given)) given k.log.disk true) (sym w) opens
  only_uses (tooled.NotAJournal text) told running opens w = absurd w
  only_uses tooled.Disk told running opens w = inr (wrote false told running opens w)
  only_uses tooled.Memory told running opens (inl same) =
      inl (both_opening_calls (d.seen given), [], append-nil (both_opening_calls (d.seen given)), subst (λ (k : StateJournal D d). CallsMade d.moves (both_opening_calls (d.seen given)) given k.log.disk true) (sym same) opens)
  only_uses tooled.Memory told running opens (inr w) = inr (wrote true told running opens w)

-- ---- the journal was not opened

module _ {D : Type 0} (d : Disks D) (tool : Tool) (given : D) where
  tells_none : (why : Why) (back : D) (t : Tooled) → NamesWhy why t → (d.told → found_of (d.seen given) ≡ Err why) → Uses d tool given back t
  tells_none why back (tooled.Report text) is found = absurd is
  tells_none why back (tooled.Refused text) is found = absurd is
  tells_none why back (tooled.NotAJournal text) is found = record { why = why; line = is; found = found }
  tells_none why back tooled.Disk is found = absurd is
  tells_none why back tooled.Memory is found = tt

  opens_none : (why : Why) (back : D) (t : Tooled) → NamesWhy why t → CallsMade d.moves (calls_until (generations_of (d.seen given)) (d.seen given)) given back true → OnlyUses d tool given back t
  opens_none why back (tooled.Report text) is ran = absurd is
  opens_none why back (tooled.Refused text) is ran = absurd is
  opens_none why back (tooled.NotAJournal text) is ran = ran
  opens_none why back tooled.Disk is ran = absurd is
  opens_none why back tooled.Memory is ran = inl (opens_first d given back why shown.Memory tt ran)

  pub uses_unopened : (e : OpenError D) (t : Tooled) → NamesError e t → (d.told → IsWhyOf (d.seen given) e) → RoseIfDisk d.faults (d.faults given) e → Uses d tool given (handed_back e) t
  uses_unopened (refused.NotAJournal why back) t is why_is rose = tells_none why back t is why_is
  uses_unopened (refused.Disk back) t is why_is rose = subst (Uses d tool given back) (sym is) rose
  uses_unopened (refused.Memory back) t is why_is rose = subst (Uses d tool given back) (sym is) tt

  pub opens_unopened : (e : OpenError D) (t : Tooled) → NamesError e t → RanUntil d.moves (d.seen given) given e → OnlyUses d tool given (handed_back e) t
  opens_unopened (refused.NotAJournal why back) t is ran = opens_none why back t is ran
  opens_unopened (refused.Disk back) t is ran = subst (OnlyUses d tool given back) (sym is) (inl ran)
  opens_unopened (refused.Memory back) t is ran = subst (OnlyUses d tool given back) (sym is) (inl ran)

-- where the tool does not refuse the record, a crash leaves the old one or the new one
pub old_or_new : {D : Type 0} (d : Disks D) (tool : Tool) (j new : StateJournal D d) → refusal_of tool j.kept ≡ None
    → LeavesOnly (λ (k : StateJournal D d). d.moment k.log.disk) (λ (k : StateJournal D d). StoodFor (d.left_since k.log.disk)) j new (IsEither j.kept (made_by tool j.kept))
    → LeavesOldOrNew d tool j new
old_or_new d tool j new none run = record {
  later = run.later;
  since = λ t found le left. either t found (run.since t found le left);
}
  where
    either : (t : ℕ) (found : Option Kept) → StoodFor (d.left_since j.log.disk) t found ⊎ IsEither j.kept (made_by tool j.kept) found
        → StoodFor (d.left_since j.log.disk) t found ⊎ ((found ≡ Some j.kept) ⊎ ((refusal_of tool j.kept ≡ None) × (found ≡ Some (made_by tool j.kept))))
    either t found (inl was) = inl was
    either t found (inr (inl e)) = inr (inl e)
    either t found (inr (inr e)) = inr (inr (none, e))
