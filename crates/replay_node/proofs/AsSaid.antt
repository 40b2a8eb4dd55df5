-- A disk of two files in memory under orders does what is said of it, unless it found no memory.
use Rattle.std.proofs.Common.{◌≡◌, List, [], ◌∷◌, Bool, true, false, Some, None, refl, sym, ◌∙◌, ap, subst, inl, inr}
use Rattle.std.specs.Prelude.{Option}
use Rattle.zen_disk.specs.Armed.{armed_later, fate_by, fate_of, stop_due, is_fault_due}
use Rattle.zen_disk.specs.DeviceCall.{DeviceCall, Len, Read, Write, Sync}
use Rattle.zen_disk.specs.FileState.{FileState, after, both_left_by}
use Rattle.zen_disk.specs.Fuse.{FuseMoves, MovesAt, StopsIn}
use Rattle.zen_disk.specs.MemDisks.{MemMoves, files_of}
use Rattle.zen_disk.specs.Runs.{CallsMade}
use Rattle.zen_disk.specs.Sides.{Sides}
use Rattle.zen_disk.specs.declared.memory.MemDisks.{MemDisks}
use Rattle.zen_disk.specs.declared.orders.Armed.{Armed}
use Rattle.zen_disk.specs.declared.orders.Struck.{Struck}
use Rattle.zen_disk.specs.declared.orders.Struck.TheVariants.{Stop, Fault}
use Rattle.zen_disk.specs.declared.orders.Way.{Way}
use Rattle.replay_node.specs.NodeDisk.{NodeDisk, CallsEnd, Done, Failed, CrashedIn, Called, MemFuse, DiskStands, EndsAs, Restarted, placed, call_by, call_once, go_on, calls_made, crashed_by}

-- the only call of such a fuse that fails with nothing said to have struck is one that found no memory
abbrev pub FoundMemory : MemFuse → Bool → Type 0
FoundMemory fuse ok = ok ≡ false → fuse.struck ≡ None → ⊥

placed_so : (old new : MemDisks) (call : DeviceCall) (struck : Option Struck) → StopsIn MemMoves old call new struck → (struck ≡ None → ⊥) → (files_of new ≡ placed (files_of old) call) × (struck ≡ Some Stop)
placed_so old new (Write side at bytes) struck (inl by) memory = (by.0.file, by.1)
placed_so old new (Write side at bytes) struck (inr by) memory = absurd (memory by.1)
placed_so old new (Len side) struck by memory = (ap files_of by.0, by.1)
placed_so old new (Read side at n) struck by memory = (ap files_of by.0, by.1)
placed_so old new (Sync side) struck by memory = (ap files_of by.0, by.1)

one_by : (stop : Option Way) (fault : Bool) (f g : MemFuse) (d : NodeDisk) (call : DeviceCall) (ok : Bool) → files_of f.disk ≡ d.files → g.armed ≡ armed_later d.armed → g.down ≡ stop
    → MovesAt MemMoves (fate_by stop fault) f.disk call g.disk ok g.struck → FoundMemory g ok → EndsAs (call_by stop fault d call).ended g (call_by stop fault d call).disk ok
one_by (Some way) fault f g d call ok files armed down steps memory =
    let there = placed_so f.disk g.disk call g.struck steps.0 (memory steps.1) in
    (steps.1, there.1, down, ap (both_left_by way) (there.0 ∙ ap (λ (s : Sides FileState). placed s call) files), armed)
one_by None true f g d call ok files armed down steps memory = (steps.1, steps.2, record { files = ap files_of steps.0 ∙ files; armed = armed; up = down })
one_by None false f g d call true files armed down steps memory = (refl, record { files = steps.0.file ∙ ap (λ (s : Sides FileState). after s call) files; armed = armed; up = down })
one_by None false f g d call false files armed down steps memory = absurd (memory refl steps.1)

one : (f g : MemFuse) (d : NodeDisk) (call : DeviceCall) (ok : Bool) → DiskStands f d → FuseMoves MemMoves f call g ok → FoundMemory g ok → EndsAs (call_once d call).ended g (call_once d call).disk ok
one f g d call ok stands steps memory =
    let run = steps.0 stands.up in
    one_by (stop_due d.armed.stop) (is_fault_due d.armed.fault) f g d call ok stands.files (run.orders ∙ ap armed_later stands.armed) (run.down ∙ ap (λ (a : Armed). stop_due a.stop) stands.armed)
    (subst (λ (a : Armed). MovesAt MemMoves (fate_of a) f.disk call g.disk ok g.struck) stands.armed run.disk) memory

goes_on : (end : CallsEnd) (mid g : MemFuse) (d : NodeDisk) (ok : Bool) (more : NodeDisk → Called) → EndsAs end mid d true → (DiskStands mid d → EndsAs (more d).ended g (more d).disk ok)
    → EndsAs (go_on end d more).ended g (go_on end d more).disk ok
goes_on Done mid g d ok more said then = then said.1
goes_on Failed mid g d ok more said then = absurd (cc said.0)
goes_on (CrashedIn way) mid g d ok more said then = absurd (cc said.0)

ends_here : (end : CallsEnd) (g : MemFuse) (d : NodeDisk) (more : NodeDisk → Called) → EndsAs end g d false → EndsAs (go_on end d more).ended g (go_on end d more).disk false
ends_here Done g d more said = absurd (cc said.0)
ends_here Failed g d more said = said
ends_here (CrashedIn way) g d more said = said

pub as_said : (calls : List DeviceCall) (f g : MemFuse) (d : NodeDisk) (ok : Bool) → DiskStands f d → CallsMade (FuseMoves MemMoves) calls f g ok → FoundMemory g ok → EndsAs (calls_made d calls).ended g (calls_made d calls).disk ok
as_said [] f g d ok stands ran memory = (ran.1, subst (λ (h : MemFuse). DiskStands h d) (sym ran.0) stands)
as_said (call ∷ calls) f g d ok stands (inl done) memory =
    let first = one f done.0 d call true stands done.1 (λ failing struck. absurd (cc failing)) in
    goes_on (call_once d call).ended done.0 g (call_once d call).disk ok (λ (n : NodeDisk). calls_made n calls) first (λ mid. as_said calls done.0 g (call_once d call).disk ok mid done.2 memory)
as_said (call ∷ calls) f g d ok stands (inr failed) memory =
    let said = one f g d call false stands failed.0 (λ failing. memory failed.1) in
    subst (λ (b : Bool). EndsAs (calls_made d (call ∷ calls)).ended g (calls_made d (call ∷ calls)).disk b) (sym failed.1) (ends_here (call_once d call).ended g (call_once d call).disk (λ (n : NodeDisk). calls_made n calls) said)

-- this fuse has stopped, and a restart gives this disk
pub record StopLeaves (end : CallsEnd) (g : MemFuse) (d : NodeDisk) : Type 0 where
  pub way : Way
  pub ended : end ≡ CrashedIn way
  pub down : g.down ≡ Some way
  pub files : both_left_by way (files_of g.disk) ≡ d.files
  pub armed : g.armed ≡ d.armed

-- how calls ended, by their answer and by what has struck
ends_done : (end : CallsEnd) (g : MemFuse) (d : NodeDisk) (ok : Bool) → EndsAs end g d ok → ok ≡ true → (end ≡ Done) × DiskStands g d
ends_done Done g d ok said passed = (refl, said.1)
ends_done Failed g d ok said passed = absurd (cc said.0)
ends_done (CrashedIn way) g d ok said passed = absurd (cc said.0)

ends_failed : (end : CallsEnd) (g : MemFuse) (d : NodeDisk) (ok : Bool) → EndsAs end g d ok → ok ≡ false → g.struck ≡ Some Fault → (end ≡ Failed) × DiskStands g d
ends_failed Done g d ok said failing struck = absurd (cc said.0)
ends_failed Failed g d ok said failing struck = (refl, said.2)
ends_failed (CrashedIn way) g d ok said failing struck = absurd (cc said.1)

ends_crashed : (end : CallsEnd) (g : MemFuse) (d : NodeDisk) (ok : Bool) → EndsAs end g d ok → ok ≡ false → g.struck ≡ Some Stop → StopLeaves end g d
ends_crashed Done g d ok said failing struck = absurd (cc said.0)
ends_crashed Failed g d ok said failing struck = absurd (cc said.1)
ends_crashed (CrashedIn way) g d ok said failing struck = record { way = way; ended = refl; down = said.2; files = said.3; armed = said.4 }

module _ (calls : List DeviceCall) (f g : MemFuse) (d : NodeDisk) (ok : Bool) (stands : DiskStands f d) (ran : CallsMade (FuseMoves MemMoves) calls f g ok) where
  pub said_done : ok ≡ true → ((calls_made d calls).ended ≡ Done) × DiskStands g (calls_made d calls).disk
  said_done passed = ends_done (calls_made d calls).ended g (calls_made d calls).disk ok (as_said calls f g d ok stands ran (λ failing none. absurd (cc (passed, failing)))) passed

  pub said_failed : ok ≡ false → g.struck ≡ Some Fault → ((calls_made d calls).ended ≡ Failed) × DiskStands g (calls_made d calls).disk
  said_failed failing struck = ends_failed (calls_made d calls).ended g (calls_made d calls).disk ok (as_said calls f g d ok stands ran (λ failing none. absurd (cc (struck, none)))) failing struck

  pub said_crashed : ok ≡ false → g.struck ≡ Some Stop → StopLeaves (calls_made d calls).ended g (calls_made d calls).disk
  said_crashed failing struck = ends_crashed (calls_made d calls).ended g (calls_made d calls).disk ok (as_said calls f g d ok stands ran (λ failing none. absurd (cc (struck, none)))) failing struck

pub restarted_stands : (end : CallsEnd) (g new : MemFuse) (d : NodeDisk) → StopLeaves end g d → Restarted g new → DiskStands new d
restarted_stands end g new d left again = record { files = again.files left.way left.down ∙ left.files; armed = again.armed ∙ left.armed; up = again.up }

pub crashed_stands : (f new : MemFuse) (d : NodeDisk) (way : Way) → DiskStands f d → new.armed ≡ f.armed → new.down ≡ None → files_of new.disk ≡ both_left_by way (files_of f.disk) → DiskStands new (crashed_by way d)
crashed_stands f new d way stands armed up files = record { files = files ∙ ap (both_left_by way) stands.files; armed = armed ∙ stands.armed; up = up }
