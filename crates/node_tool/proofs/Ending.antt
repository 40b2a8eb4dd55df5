-- How the use of a tool on a folder ends, from how its parts ended.
use Rattle.std.proofs.Common.{◌≡◌, ℕ, false, Option, None, Some, Ok, Err, List, refl, sym, ◌∙◌, ap, subst, inl, inr}
use Rattle.zen_disk.specs.Faults.{Rose}
use Rattle.zen_disk.specs.declared.disks.Disks.{Ghosts as Disks}
use Rattle.cluster_state.specs.declared.state.Kept.{Kept}
use Rattle.state_journal.specs.Journal.{found_of}
use Rattle.zen_host.specs.HostCalls.{HostCall, OpensDisk, and_call}
use Rattle.zen_host.specs.Views.{HostView}
use Rattle.journal_inspection.proofs.Ends.{said}
use Rattle.node_tool.specs.Tools.{refusal_of}
use Rattle.node_tool.specs.Runs.{Asked, Used, EndsWith, EndsTooled, IsComplete}
use Rattle.node_tool.specs.declared.using.Tooled.{Tooled}
use Rattle.node_tool.specs.declared.tool.Tool.{Tool}
use Rattle.node_tool.specs.declared.using.Tooled.TheVariants as tooled
use Rattle.node_tool.specs.declared.running.ToolEnd.{ToolEnd}
use Rattle.node_tool.specs.declared.running.ToolEnd.TheVariants as end

module _ {D L : Type 0} (d : Disks D) (tool : Tool) (host host_now : HostView D L) (disk : D) (kept : Kept) (ready : host.disk_ready ≡ Some disk) (told : d.told) (found : found_of (d.seen disk) ≡ Ok kept) where
  -- the record that was found is that of the disk that the host had ready
  same_found : (given : D) (k : Kept) → given ≡ disk → found_of (d.seen given) ≡ Ok k → k ≡ kept
  same_found given k is there = let both : Ok k ≡ Ok kept = sym there ∙ ap (λ (x : D). found_of (d.seen x)) is ∙ found in cc

  made : (text : List ℕ) → Used d tool host host_now (tooled.Report text) → refusal_of tool kept ≡ None
  made text u = subst (λ (k : Kept). refusal_of tool k ≡ None) (same_found u.given u.uses.kept (u.is_given disk ready) (u.uses.found told)) u.uses.taken

  refused : (text : List ℕ) → Used d tool host host_now (tooled.Refused text) → refusal_of tool kept ≡ None → ⊥
  refused text u none =
      let same = same_found u.given u.uses.kept (u.is_given disk ready) (u.uses.found told) in
      let both : Some u.uses.cause ≡ None = sym u.uses.refused ∙ ap (λ (k : Kept). refusal_of tool k) same ∙ none in
      cc

  no_journal : {A : Type 0} (text : List ℕ) → Used d tool host host_now (tooled.NotAJournal text) → A
  no_journal text u =
      let both : Err u.uses.why ≡ Ok kept = sym (u.uses.found told) ∙ ap (λ (x : D). found_of (d.seen x)) (u.is_given disk ready) ∙ found in
      absurd cc

module _ {D L : Type 0} (d : Disks D) (tool : Tool) (host host_now : HostView D L) where
  disk_rose : Used d tool host host_now tooled.Disk → ((back : D) → host_now.disk_back ≡ Some back → Rose 0 (d.faults back) → ⊥) → ⊥
  disk_rose u quiet = quiet u.back u.is_back (subst (λ (n : ℕ). Rose n (d.faults u.back)) u.fresh u.uses)

  pub completes : (was now : Option (List ℕ)) (wrote wrote_now : ℕ) (e : ToolEnd) → EndsWith d tool host host_now was now wrote wrote_now e → IsComplete d tool host host_now wrote wrote_now e
  completes was now wrote wrote_now end.Done ended disk ready t kept found no_host no_write no_disk =
      inr (inl (refl, made d tool host host_now disk kept ready t found ended.0 ended.1))
  completes was now wrote wrote_now end.Refused ended disk ready t kept found no_host no_write no_disk =
      inr (inr (refl, refused d tool host host_now disk kept ready t found ended.0 ended.1))
  completes was now wrote wrote_now end.NotAJournal ended disk ready t kept found no_host no_write no_disk = no_journal d tool host host_now disk kept ready t found ended.0 ended.1
  completes was now wrote wrote_now end.NoMemory ended disk ready t kept found no_host no_write no_disk = inl refl
  completes was now wrote wrote_now end.WriteFault ended disk ready t kept found no_host no_write no_disk = absurd (no_write ended.3)
  completes was now wrote wrote_now end.DiskFault ended disk ready t kept found no_host no_write no_disk = absurd (disk_rose ended.0 no_disk)
  completes was now wrote wrote_now end.HostFault ended disk ready t kept found no_host no_write no_disk = absurd (no_host ended.0)

-- one that made something has asked for the disk
pub asked_tooled : (dir : List ℕ) (calls calls_now : Option (List HostCall)) (t : Tooled) (was now : Option (List ℕ)) (wrote wrote_now : ℕ) (e : ToolEnd)
    → calls_now ≡ and_call calls (OpensDisk dir false) → EndsTooled t was now wrote wrote_now e → Asked dir calls calls_now e
asked_tooled dir calls calls_now (tooled.Report text) was now wrote wrote_now e noted ends = said (Asked dir calls calls_now) text end.Done end.WriteFault was now wrote wrote_now e noted noted ends
asked_tooled dir calls calls_now (tooled.Refused text) was now wrote wrote_now e noted ends = said (Asked dir calls calls_now) text end.Refused end.WriteFault was now wrote wrote_now e noted noted ends
asked_tooled dir calls calls_now (tooled.NotAJournal text) was now wrote wrote_now e noted ends = said (Asked dir calls calls_now) text end.NotAJournal end.WriteFault was now wrote wrote_now e noted noted ends
asked_tooled dir calls calls_now tooled.Disk was now wrote wrote_now e noted ends = subst (Asked dir calls calls_now) (sym ends.0) noted
asked_tooled dir calls calls_now tooled.Memory was now wrote wrote_now e noted ends = subst (Asked dir calls calls_now) (sym ends.0) (inr noted)

module _ {D L : Type 0} (d : Disks D) (tool : Tool) (host host_now : HostView D L) where
  -- what was written of what a tool made of the disk that the host gave
  pub ends_tooled : (t : Tooled) (was now : Option (List ℕ)) (wrote wrote_now : ℕ) (e : ToolEnd) → Used d tool host host_now t → EndsTooled t was now wrote wrote_now e → EndsWith d tool host host_now was now wrote wrote_now e
  ends_tooled (tooled.Report text) was now wrote wrote_now e u (inl whole) = subst (EndsWith d tool host host_now was now wrote wrote_now) (sym whole.0) (text, u, whole.1)
  ends_tooled (tooled.Report text) was now wrote wrote_now e u (inr cut) = subst (EndsWith d tool host host_now was now wrote wrote_now) (sym cut.0) (text, inl u, cut.1, cut.2)
  ends_tooled (tooled.Refused text) was now wrote wrote_now e u (inl whole) = subst (EndsWith d tool host host_now was now wrote wrote_now) (sym whole.0) (text, u, whole.1)
  ends_tooled (tooled.Refused text) was now wrote wrote_now e u (inr cut) = subst (EndsWith d tool host host_now was now wrote wrote_now) (sym cut.0) (text, inr (inl u), cut.1, cut.2)
  ends_tooled (tooled.NotAJournal text) was now wrote wrote_now e u (inl whole) = subst (EndsWith d tool host host_now was now wrote wrote_now) (sym whole.0) (text, u, whole.1)
  ends_tooled (tooled.NotAJournal text) was now wrote wrote_now e u (inr cut) = subst (EndsWith d tool host host_now was now wrote wrote_now) (sym cut.0) (text, inr (inr u), cut.1, cut.2)
  ends_tooled tooled.Disk was now wrote wrote_now e u ended = subst (EndsWith d tool host host_now was now wrote wrote_now) (sym ended.0) (u, ended.1)
  ends_tooled tooled.Memory was now wrote wrote_now e u ended = subst (EndsWith d tool host host_now was now wrote wrote_now) (sym ended.0) (inr u, ended.1)
