-- How far a run of `node` came, and which faults it met.
use Rattle.std.proofs.Common.{◌≡◌, ℕ, ◌≤◌, ◌⊎◌, inl, inr, true, false, Option, Some, List, [], refl, sym, ap, subst, ◌∙◌, arith}
use Rattle.std.specs.Prelude.{Ok, Err}
use Rattle.zen_disk.specs.Faults.{Rose}
use Rattle.zen_disk.specs.Moments.{LeavesOnly}
use Rattle.zen_disk.specs.declared.disks.Disks.{Ghosts as Disks}
use Rattle.zen_link.specs.declared.link.Link.{Ghosts as Links}
use Rattle.zen_link.specs.Streams.{Appended}
use Rattle.zen_host.specs.declared.host.HostError.{HostError}
use Rattle.zen_host.specs.declared.host.HostError.TheVariants as host_error
use Rattle.zen_host.specs.HostCalls.{HostCall, ToldSettings, OpensDisk, OpensLink, and_call, Notes}
use Rattle.cluster_state.specs.declared.state.Kept.{Kept}
use Rattle.coordinator.specs.declared.step.Sealed.{Sealed}
use Rattle.state_journal.specs.declared.error.OpenError.{OpenError}
use Rattle.state_journal.specs.declared.error.OpenError.TheVariants as refused
use Rattle.state_journal.specs.Journal.{found_of, FoundAsSome}
use Rattle.state_journal.specs.Opening.{handed_back, IsWhyOf, RanUntil, RoseIfDisk}
use Rattle.node_loop.specs.declared.node.End.{End}
use Rattle.node_loop.specs.declared.node.End.TheVariants as ends
use Rattle.node_loop.specs.WritesAndSends.{HasCauses}
use Rattle.command_line.specs.declared.command.NodeWords.{NodeWords}
use Rattle.zen_host.specs.Views.{HostView}
use Rattle.journal_inspection.specs.Inspects.{LeavesLinks}
use Rattle.zen_app.specs.NodeFaults.{Failed, NodeFaults, status_by}
use Rattle.zen_app.specs.NodeRuns.{IsGiven, OpensJournal, EndsBy, RefusedBy, SaysLine, Serving, Unopened, Unlinked, Served, NodeRun, turns_line}
use Rattle.zen_link.specs.Views.{SinkView}
use Rattle.zen_app.specs.declared.status.Status.{Status}
use Rattle.zen_app.specs.declared.status.Status.TheVariants as exit

-- a fault since an opening is one since the host gave the disk
pub causes_since : (end : Option End) (start disk_was disk_now out_was out_now link_was link_now : ℕ) → start ≤ disk_was → HasCauses end disk_was disk_now out_was out_now link_was link_now → HasCauses end start disk_now out_was out_now link_was link_now
causes_since end start disk_was disk_now out_was out_now link_was link_now later causes = record {
  disk_later = omega (arith, later, causes.disk_later);
  out_later = causes.out_later;
  link_later = causes.link_later;
  write = causes.write;
  disk = λ e none. causes.disk e (omega (arith, none, later));
  link = causes.link;
}

-- what a host tells, member by member
abbrev pub view_by : {H D L : Type 0} → (calls : H → Option (List HostCall)) → (disk_ready disk_back : H → Option D) → (link_ready link_back : H → Option L) → (held faults : H → ℕ) → H → HostView D L
view_by calls disk_ready disk_back link_ready link_back held faults h =
    record { calls = calls h; disk_ready = disk_ready h; disk_back = disk_back h; link_ready = link_ready h; link_back = link_back h; held = held h; faults = faults h }

-- a fault in a call is one in a run round it
pub rose_within : (before start end after : ℕ) → before ≤ start → Rose start end → after ≡ end → Rose before after
rose_within before start end after le rose same none = rw same (rose (omega (arith, le, none, same)))

-- what was noted of a refused opening of a link
pub link_noted : (T : Type 0) (was was2 now now2 : Option (List HostCall)) (t t2 : ToldSettings) (e : HostError) → was ≡ was2 → now2 ≡ now → t ≡ t2 → Notes {T = T} was now (OpensLink t) (Err e) → Notes {T = T} was2 now2 (OpensLink t2) (Err e)
link_noted T was was2 now now2 t t2 host_error.Failed same_was same_now same_call notes =
    same_now ∙ notes ∙ ap (λ (w : Option (List HostCall)). and_call w (OpensLink t true)) same_was ∙ ap (λ (x : ToldSettings). and_call was2 (OpensLink x true)) same_call
link_noted T was was2 now now2 t t2 host_error.Memory same_was same_now same_call notes = same_now ∙ notes ∙ same_was

-- ---- the statuses of lines

-- a line ends with its status, WriteFault or NoMemory
line_status : (line : List ℕ) (whole : Status) (was now : Option (List ℕ)) (status : Status) → SaysLine line whole was now status → (status ≡ whole) ⊎ ((status ≡ exit.WriteFault) ⊎ (status ≡ exit.NoMemory))
line_status line whole was now exit.Ok says = inl says.0
line_status line whole was now exit.Usage says = inl says.0
line_status line whole was now exit.BadSchedule says = inl says.0
line_status line whole was now exit.NoMemory says = inr (inr refl)
line_status line whole was now exit.ReadFault says = inl says.0
line_status line whole was now exit.WriteFault says = inr (inl refl)
line_status line whole was now exit.DiskFault says = inl says.0
line_status line whole was now exit.LinkFault says = inl says.0
line_status line whole was now exit.HostFault says = inl says.0
line_status line whole was now exit.NotAJournal says = inl says.0
line_status line whole was now exit.Turns says = inl says.0
line_status line whole was now exit.TrialFailed says = inl says.0
line_status line whole was now exit.RescueRefused says = inl says.0
line_status line whole was now exit.NotLegal says = inl says.0
line_status line whole was now exit.BadTrace says = inl says.0
line_status line whole was now exit.ToolRefused says = inl says.0

-- so it ends with no other
line_no : (line : List ℕ) (whole other : Status) (was now : Option (List ℕ)) (status : Status) → SaysLine line whole was now status → (whole ≡ other → ⊥) → (exit.WriteFault ≡ other → ⊥) → (exit.NoMemory ≡ other → ⊥) → status ≡ other → ⊥
line_no line whole other was now status says no_whole no_write no_memory is = either (line_status line whole was now status says)
  where
    either : (status ≡ whole) ⊎ ((status ≡ exit.WriteFault) ⊎ (status ≡ exit.NoMemory)) → ⊥
    either (inl e) = no_whole (sym e ∙ is)
    either (inr (inl e)) = no_write (sym e ∙ is)
    either (inr (inr e)) = no_memory (sym e ∙ is)

-- with no fault of the sink the turns end a run, or memory runs out
turns_complete : (was now : Option (List ℕ)) (status : Status) → EndsBy ends.Turns was now status → (status ≡ exit.WriteFault → ⊥) → (status ≡ exit.Ok) ⊎ ((status ≡ exit.Turns) ⊎ (status ≡ exit.NoMemory))
turns_complete was now status says no_write = either (line_status turns_line exit.Turns was now status says)
  where
    either : (status ≡ exit.Turns) ⊎ ((status ≡ exit.WriteFault) ⊎ (status ≡ exit.NoMemory)) → (status ≡ exit.Ok) ⊎ ((status ≡ exit.Turns) ⊎ (status ≡ exit.NoMemory))
    either (inl e) = inr (inl e)
    either (inr (inl e)) = absurd (no_write e)
    either (inr (inr e)) = inr (inr e)

-- where a run that served ends with WriteFault the sink's count rose
pub serving_writes : (end : End) (served now : Option (List ℕ)) (status : Status) (disk_was disk_now sink wrote sink_now link_was link_now : ℕ) → EndsBy end served now status → HasCauses (Some end) disk_was disk_now sink wrote link_was link_now
    → wrote ≤ sink_now → (end ≡ ends.Turns → status ≡ exit.WriteFault → Rose wrote sink_now) → status ≡ exit.WriteFault → Rose sink sink_now
serving_writes ends.Stop served now status disk_was disk_now sink wrote sink_now link_was link_now said causes later write is = absurd (let no : exit.Ok ≡ exit.WriteFault = sym said.0 ∙ is in cc)
serving_writes ends.Turns served now status disk_was disk_now sink wrote sink_now link_was link_now said causes later write is = λ none. write refl is (omega (arith, none, causes.out_later))
serving_writes ends.Write served now status disk_was disk_now sink wrote sink_now link_was link_now said causes later write is = λ none. omega (arith, later, causes.write refl (omega (arith, none, later)))
serving_writes ends.Disk served now status disk_was disk_now sink wrote sink_now link_was link_now said causes later write is = absurd (let no : exit.DiskFault ≡ exit.WriteFault = sym said.0 ∙ is in cc)
serving_writes ends.Link served now status disk_was disk_now sink wrote sink_now link_was link_now said causes later write is = absurd (let no : exit.LinkFault ≡ exit.WriteFault = sym said.0 ∙ is in cc)
serving_writes ends.Memory served now status disk_was disk_now sink wrote sink_now link_was link_now said causes later write is = absurd (let no : exit.NoMemory ≡ exit.WriteFault = sym said.0 ∙ is in cc)

module _ {D L : Type 0} (d : Disks D) (l : Links L Sealed) (w : NodeWords) (host host_now : HostView D L) (sink sink_now : SinkView) where
  -- ---- its journal was not opened
  refused_complete : (given : D) (error : OpenError D) (status : Status) (kept : Kept) → RefusedBy error sink.written sink_now.written status → IsWhyOf (d.seen given) error → found_of (d.seen given) ≡ Ok kept
      → RoseIfDisk d.faults (d.faults given) error → (Rose (d.faults given) (d.faults (handed_back error)) → ⊥) → (status ≡ exit.Ok) ⊎ ((status ≡ exit.Turns) ⊎ (status ≡ exit.NoMemory))
  refused_complete given (refused.NotAJournal why back) status kept said is_why found cause quiet = absurd (let both : Err why ≡ Ok kept = sym is_why ∙ found in cc)
  refused_complete given (refused.Disk back) status kept said is_why found cause quiet = absurd (quiet cause)
  refused_complete given (refused.Memory back) status kept said is_why found cause quiet = inr (inr said.0)

  pub unopened : (given : D) (error : OpenError D) (status : Status) → IsGiven d.faults host.disk_ready given → (d.told → IsWhyOf (d.seen given) error)
      → (d.told → LeavesOnly d.moment d.left_since given (handed_back error) (FoundAsSome (d.may_leave given))) → (d.told → RanUntil d.moves (d.seen given) given error) → RefusedBy error sink.written sink_now.written status
      → host_now.calls ≡ and_call host.calls (OpensDisk w.dir false) → host_now.disk_back ≡ Some (handed_back error) → LeavesLinks host host_now → RoseIfDisk d.faults (d.faults given) error
      → NodeRun d l w host host_now sink sink_now status
  unopened given error status is_given why any_moment calls said asked back links cause = record {
    came = Unopened (record { given = given; is_given = is_given; error = error; why = why; any_moment = any_moment; calls = calls; refused = said; asked = asked; back = back; links = links });
    complete = λ disk is t kept found no_host no_write no_disk no_link.
        refused_complete given error status kept said (why t) (ap (λ (x : D). found_of (d.seen x)) (is_given.same disk is) ∙ found) cause
        (λ rose. no_disk (handed_back error) back (subst (λ (n : ℕ). Rose n (d.faults (handed_back error))) is_given.fresh rose));
  }

  -- ---- the host gave no link
  pub unlinked : (given opened : D) (kept : Kept) (e : HostError) → IsGiven d.faults host.disk_ready given → OpensJournal d given opened kept
      → Notes {T = L} (and_call host.calls (OpensDisk w.dir false)) host_now.calls (OpensLink w.link) (Err e) → (e ≡ host_error.Failed → Rose host.faults host_now.faults) → Appended sink.written sink_now.written []
      → host_now.disk_back ≡ Some opened → host_now.link_back ≡ host.link_back → NodeRun d l w host host_now sink sink_now (status_by e)
  unlinked given opened kept host_error.Failed is_given opens notes rose written back link_back = record {
    came = Unlinked (record { given = given; is_given = is_given; opened = opened; kept = kept; opens = opens; asked = inr (refl, notes); written = written; back = back; link_back = link_back });
    complete = λ disk is t kept found no_host no_write no_disk no_link. absurd (no_host (rose refl));
  }
  unlinked given opened kept host_error.Memory is_given opens notes rose written back link_back = record {
    came = Unlinked (record { given = given; is_given = is_given; opened = opened; kept = kept; opens = opens; asked = inl (refl, notes); written = written; back = back; link_back = link_back });
    complete = λ disk is t kept found no_host no_write no_disk no_link. inr (inr refl);
  }

  -- ---- it served
  served_complete : (end : End) (served : Option (List ℕ)) (wrote : ℕ) (status : Status) (disk_was disk_now link_was link_now : ℕ) → EndsBy end served sink_now.written status → HasCauses (Some end) disk_was disk_now sink.faults wrote link_was link_now
      → wrote ≤ sink_now.faults → (Rose sink.faults sink_now.faults → ⊥) → (status ≡ exit.WriteFault → Rose sink.faults sink_now.faults) → (Rose disk_was disk_now → ⊥) → (Rose link_was link_now → ⊥)
      → (status ≡ exit.Ok) ⊎ ((status ≡ exit.Turns) ⊎ (status ≡ exit.NoMemory))
  served_complete ends.Stop served wrote status disk_was disk_now link_was link_now said causes later no_write write no_disk no_link = inl said.0
  served_complete ends.Turns served wrote status disk_was disk_now link_was link_now said causes later no_write write no_disk no_link = turns_complete served sink_now.written status said (λ e. no_write (write e))
  served_complete ends.Write served wrote status disk_was disk_now link_was link_now said causes later no_write write no_disk no_link = absurd (no_write (write said.0))
  served_complete ends.Disk served wrote status disk_was disk_now link_was link_now said causes later no_write write no_disk no_link = absurd (no_disk (causes.disk refl))
  served_complete ends.Link served wrote status disk_was disk_now link_was link_now said causes later no_write write no_disk no_link = absurd (no_link (causes.link refl))
  served_complete ends.Memory served wrote status disk_was disk_now link_was link_now said causes later no_write write no_disk no_link = inr (inr said.0)

  pub served : (status : Status) (s : Serving d l w host host_now sink sink_now status) → s.wrote ≤ sink_now.faults → (status ≡ exit.WriteFault → Rose sink.faults sink_now.faults) → NodeRun d l w host host_now sink sink_now status
  served status s later write = record {
    came = Served s;
    complete = λ disk is t kept found no_host no_write no_disk no_link.
        served_complete s.end s.served s.wrote status (d.faults s.given) (d.faults s.back) (l.faults s.link) (l.faults s.link_now) s.ends s.causes later no_write write
        (λ rose. no_disk s.back s.is_back (subst (λ (n : ℕ). Rose n (d.faults s.back)) s.is_given.fresh rose))
        (λ rose. no_link s.link_now s.is_link_back (subst (λ (n : ℕ). Rose n (l.faults s.link_now)) s.is_link.fresh rose));
  }

-- ---- which faults were met

-- a status names no fault but these
abbrev Other : Status → Status → Type 0
Other status other = status ≡ other → ⊥

module _ {D L : Type 0} (disk_faults : D → ℕ) (link_faults : L → ℕ) (disk_back : Option D) (link_back : Option L) (host host_now sink sink_now : ℕ) (wrote_later : sink ≤ sink_now) (host_later : host ≤ host_now) where
  -- nothing failed that a status would name
  quiet : (status : Status) → (status ≡ exit.Ok) ⊎ (status ≡ exit.NoMemory) → NodeFaults disk_faults link_faults disk_back link_back host host_now sink sink_now status
  quiet status (inl ok) = record {
    read_fault = λ h. absurd (let no : exit.Ok ≡ exit.ReadFault = sym ok ∙ h in cc);
    write_fault = λ h. absurd (let no : exit.Ok ≡ exit.WriteFault = sym ok ∙ h in cc);
    disk_fault = λ h. absurd (let no : exit.Ok ≡ exit.DiskFault = sym ok ∙ h in cc);
    link_fault = λ h. absurd (let no : exit.Ok ≡ exit.LinkFault = sym ok ∙ h in cc);
    host_fault = λ h. absurd (let no : exit.Ok ≡ exit.HostFault = sym ok ∙ h in cc);
    wrote_later = wrote_later;
    host_later = host_later;
  }
  quiet status (inr memory) = record {
    read_fault = λ h. absurd (let no : exit.NoMemory ≡ exit.ReadFault = sym memory ∙ h in cc);
    write_fault = λ h. absurd (let no : exit.NoMemory ≡ exit.WriteFault = sym memory ∙ h in cc);
    disk_fault = λ h. absurd (let no : exit.NoMemory ≡ exit.DiskFault = sym memory ∙ h in cc);
    link_fault = λ h. absurd (let no : exit.NoMemory ≡ exit.LinkFault = sym memory ∙ h in cc);
    host_fault = λ h. absurd (let no : exit.NoMemory ≡ exit.HostFault = sym memory ∙ h in cc);
    wrote_later = wrote_later;
    host_later = host_later;
  }

  disk_failed : (status : Status) → status ≡ exit.DiskFault → Failed disk_faults disk_back → NodeFaults disk_faults link_faults disk_back link_back host host_now sink sink_now status
  disk_failed status is failed = record {
    read_fault = λ h. absurd (let no : exit.DiskFault ≡ exit.ReadFault = sym is ∙ h in cc);
    write_fault = λ h. absurd (let no : exit.DiskFault ≡ exit.WriteFault = sym is ∙ h in cc);
    disk_fault = λ h. failed;
    link_fault = λ h. absurd (let no : exit.DiskFault ≡ exit.LinkFault = sym is ∙ h in cc);
    host_fault = λ h. absurd (let no : exit.DiskFault ≡ exit.HostFault = sym is ∙ h in cc);
    wrote_later = wrote_later;
    host_later = host_later;
  }

  pub said_line : (line : List ℕ) (whole : Status) (was now : Option (List ℕ)) (status : Status) → SaysLine line whole was now status
      → Other whole exit.ReadFault → Other whole exit.DiskFault → Other whole exit.LinkFault → Other whole exit.HostFault → (status ≡ exit.WriteFault → Rose sink sink_now)
      → NodeFaults disk_faults link_faults disk_back link_back host host_now sink sink_now status
  said_line line whole was now status says no_read no_disk no_link no_host write = record {
    read_fault = λ h. absurd (line_no line whole exit.ReadFault was now status says no_read (λ e. absurd cc) (λ e. absurd cc) h);
    write_fault = write;
    disk_fault = λ h. absurd (line_no line whole exit.DiskFault was now status says no_disk (λ e. absurd cc) (λ e. absurd cc) h);
    link_fault = λ h. absurd (line_no line whole exit.LinkFault was now status says no_link (λ e. absurd cc) (λ e. absurd cc) h);
    host_fault = λ h. absurd (line_no line whole exit.HostFault was now status says no_host (λ e. absurd cc) (λ e. absurd cc) h);
    wrote_later = wrote_later;
    host_later = host_later;
  }
