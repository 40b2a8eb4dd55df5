-- Part of the statement: what a run of `node` does.
use Rattle.std.specs.Prelude.{◌≡◌, ◌⊎◌, ℕ, true, false, Option, Some, Ok, List, [], map, codes}
use Rattle.zen_disk.specs.Faults.{Rose}
use Rattle.zen_disk.specs.Moments.{LeavesOnly}
use Rattle.zen_disk.specs.Sides.{Files}
use Rattle.zen_disk.specs.declared.disks.Disks.{Ghosts as Disks}
use Rattle.zen_link.specs.declared.link.Link.{Ghosts as Links}
use Rattle.zen_link.specs.Streams.{Appended, AppendedPrefix}
use Rattle.zen_host.specs.HostCalls.{ToldPeer, OpensDisk, OpensLink, and_call}
use Rattle.cluster_state.specs.declared.state.Kept.{Kept}
use Rattle.world_model.specs.Histories.{IsLocal}
use Rattle.state_journal.specs.declared.error.OpenError.{OpenError}
use Rattle.state_journal.specs.declared.error.OpenError.TheVariants as refused
use Rattle.state_journal.specs.Journal.{found_of, record_of_files, FoundAsSome}
use Rattle.state_journal.specs.Opening.{handed_back, IsWhyOf, RanUntil}
use Rattle.policy_model.specs.declared.settings.Settings.{Settings}
use Rattle.policy_model.specs.Entries.{Life, Entry, NotBegun, Opened, log_of}
use Rattle.policy_model.specs.Events.{acts_of}
use Rattle.policy_model.specs.Follows.{Follows, is_struck}
use Rattle.node_loop.specs.declared.node.End.{End}
use Rattle.node_loop.specs.declared.node.End.TheVariants as ends
use Rattle.coordinator.specs.declared.step.Sealed.{Sealed}
use Rattle.node_loop.specs.Crashes.{IsLastRecord, has_crashed}
use Rattle.node_loop.specs.Reporting.{sent_of}
use Rattle.node_loop.specs.Running.{HoldsOn}
use Rattle.node_loop.specs.WritesAndSends.{HasCauses}
use Rattle.node_loop.specs.Texts.{entry_text, acts_text, no_text, opening_text}
use Rattle.node_loop.specs.Turns.{Serves}
use Rattle.command_line.specs.declared.command.HistoryLevel.{HistoryLevel}
use Rattle.command_line.specs.declared.command.HistoryLevel.TheVariants as history
use Rattle.command_line.specs.declared.command.NodeWords.{NodeWords}
use Rattle.zen_host.specs.Views.{HostView}
use Rattle.journal_inspection.specs.Inspects.{LeavesLinks}
use Rattle.journal_inspection.specs.Report.{not_a_journal}
use Rattle.zen_link.specs.Views.{SinkView}
use Rattle.zen_app.specs.declared.status.Status.{Status}
use Rattle.zen_app.specs.declared.status.Status.TheVariants as exit

abbrev pub turns_line : List ℕ
turns_line = codes "zen: turns\n"

-- what the words give a node
abbrev pub settings_by : NodeWords → Settings
settings_by w = record {
  me = w.link.me;
  peers = map (λ (p : ToldPeer). p.id) w.link.peers;
  initial = w.initial;
  voting_only = w.voting_only;
  policy = record { shrink = w.shrink; second = w.second };
}

-- the lines of an entry, by how much is to be written
abbrev pub history_text : HistoryLevel → Settings → Life → Entry → List ℕ
history_text history.All = entry_text
history_text history.Acts = acts_text
history_text history.Nothing = no_text

-- the status, by how serving ended
abbrev pub status_after : End → Status
status_after ends.Stop = exit.Ok
status_after ends.Turns = exit.Turns
status_after ends.Write = exit.WriteFault
status_after ends.Disk = exit.DiskFault
status_after ends.Link = exit.LinkFault
status_after ends.Memory = exit.NoMemory

-- a line was written whole, with this status, or a prefix of it
abbrev pub SaysLine : List ℕ → Status → (was now : Option (List ℕ)) → Status → Type 0
SaysLine line whole was now exit.WriteFault = AppendedPrefix was now line
SaysLine line whole was now exit.NoMemory = Appended was now []
SaysLine line whole was now status = (status ≡ whole) × Appended was now line

-- what is written after the node's own lines, and the status
abbrev pub EndsBy : End → (served now : Option (List ℕ)) → Status → Type 0
EndsBy ends.Turns served now status = SaysLine turns_line exit.Turns served now status
EndsBy end served now status = (status ≡ status_after end) × Appended served now []

-- what is written where the journal was not opened, and the status
abbrev pub RefusedBy : {D : Type 0} → OpenError D → (was now : Option (List ℕ)) → Status → Type 0
RefusedBy (refused.NotAJournal why back) was now status = SaysLine (not_a_journal why) exit.NotAJournal was now status
RefusedBy (refused.Disk back) was now status = (status ≡ exit.DiskFault) × Appended was now []
RefusedBy (refused.Memory back) was now status = (status ≡ exit.NoMemory) × Appended was now []

-- what is given where the host had this ready: that, with no fault counted
pub record IsGiven {X : Type 0} (count : X → ℕ) (ready : Option X) (given : X) : Type 0 where
  pub same : (x : X) → ready ≡ Some x → given ≡ x
  pub fresh : count given ≡ 0

-- an object of the host that was given back counted no fault
abbrev pub IsSound : {X : Type 0} → (X → ℕ) → Option X → Type 0
IsSound count back = (x : _) → back ≡ Some x → Rose 0 (count x) → ⊥

module _ {D : Type 0} (d : Disks D) where
  -- The journal on a disk was opened, with this record. A crash within it leaves what is opened as before, and a crash after it leaves this
  -- record.
  pub record OpensJournal (given opened : D) (kept : Kept) : Type 0 where
    pub found : d.told → found_of (d.seen given) ≡ Ok kept
    pub any_moment : d.told → LeavesOnly d.moment d.left_since given opened (FoundAsSome (d.may_leave given))
    pub leaves : d.told → (files : Files) → d.may_leave opened files → record_of_files files ≡ Some kept

  -- A node that was opened with this record lived on to this life, and its disk went from one to the other. It did what the policy says,
  -- and its acts keep the rules of the core by themselves. It went on by one entry after the other: at the end of each a crash leaves the
  -- record of all acts by then, and within one that of some first acts of it, the last of these kept or not (`holds`). At the end
  -- whatever files a crash may leave stand for the record of all acts, a last one that was struck counted as not kept or as kept. An act is
  -- struck only where the disk failed meanwhile, and none is said to be one at which the node crashed.
  pub record LivesOn (s : Settings) (kept : Kept) (opened back : D) (life : Life) : Type 0 where
    pub follows : Follows s life
    pub local : IsLocal s.me (acts_of (log_of life))
    pub holds : HoldsOn d opened back s (Opened NotBegun kept) life
    pub leaves : d.told → (files : Files) → d.may_leave back files → IsLastRecord life (record_of_files files)
    pub struck : is_struck life ≡ true → Rose (d.faults opened) (d.faults back)
    pub uncrashed : has_crashed (acts_of (log_of life)) ≡ false

module _ {D L : Type 0} (d : Disks D) (l : Links L Sealed) (w : NodeWords) (host host_now : HostView D L) (sink sink_now : SinkView)
    (status : Status) where
  -- the host gave no disk, or no memory was found before it was asked
  pub record WithoutDisk : Type 0 where
    pub asked : ((status ≡ exit.NoMemory) × (host_now.calls ≡ host.calls))
        ⊎ ((status ≡ exit.HostFault) × (host_now.calls ≡ and_call host.calls (OpensDisk w.dir true)))
    pub written : Appended sink.written sink_now.written []
    pub back : host_now.disk_back ≡ host.disk_back
    pub links : LeavesLinks host host_now

  -- The host gave a disk whose journal was not opened, and was given it back. No device call was made but those of an opening: so what is
  -- read is as it was, but for the header of a file of at most nine bytes.
  pub record WithoutJournal : Type 0 where
    pub given : D
    pub is_given : IsGiven d.faults host.disk_ready given
    pub error : OpenError D
    pub why : d.told → IsWhyOf (d.seen given) error
    pub any_moment : d.told → LeavesOnly d.moment d.left_since given (handed_back error) (FoundAsSome (d.may_leave given))
    pub calls : d.told → RanUntil d.moves (d.seen given) given error
    pub refused : RefusedBy error sink.written sink_now.written status
    pub asked : host_now.calls ≡ and_call host.calls (OpensDisk w.dir false)
    pub back : host_now.disk_back ≡ Some (handed_back error)
    pub links : LeavesLinks host host_now

  -- the journal was opened, and the host gave no link
  pub record WithoutLink : Type 0 where
    pub given : D
    pub is_given : IsGiven d.faults host.disk_ready given
    pub opened : D
    pub kept : Kept
    pub opens : OpensJournal d given opened kept
    pub asked : ((status ≡ exit.NoMemory) × (host_now.calls ≡ and_call host.calls (OpensDisk w.dir false)))
        ⊎ ((status ≡ exit.HostFault) × (host_now.calls ≡ and_call (and_call host.calls (OpensDisk w.dir false)) (OpensLink w.link true)))
    pub written : Appended sink.written sink_now.written []
    pub back : host_now.disk_back ≡ Some opened
    pub link_back : host_now.link_back ≡ host.link_back

  -- The node served the link that the host gave, from the opening of its journal on; then the host was given link and disk back.
  pub record Serving : Type 0 where
    pub given : D
    pub is_given : IsGiven d.faults host.disk_ready given
    pub opened : D
    pub kept : Kept
    pub opens : OpensJournal d given opened kept
    pub link : L
    pub is_link : IsGiven l.faults host.link_ready link
    pub asked : host_now.calls ≡ and_call (and_call host.calls (OpensDisk w.dir false)) (OpensLink w.link false)
    pub back : D
    pub is_back : host_now.disk_back ≡ Some back
    pub link_now : L
    pub is_link_back : host_now.link_back ≡ Some link_now
    pub end : End
    pub served : Option (List ℕ)
    pub wrote : ℕ
    pub serves : Serves sent_of (history_text w.history (settings_by w)) (settings_by w) (Opened NotBegun kept) end sink.written served (l.told link)
        (l.told link_now)
        (LivesOn d (settings_by w) kept opened back) (l.asked link) (l.asked link_now) w.turns
        (opening_text (settings_by w) (Opened NotBegun kept))
    pub causes : HasCauses (Some end) (d.faults given) (d.faults back) sink.faults wrote (l.faults link) (l.faults link_now)
    pub ends : EndsBy end served sink_now.written status

  pub data NodeStages : Type 0 where
    Undisked : WithoutDisk → NodeStages
    Unopened : WithoutJournal → NodeStages
    Unlinked : WithoutLink → NodeStages
    Served : Serving → NodeStages

  -- how far a run of `node` came; and with no fault counted a journal that stands for a record is opened and served, until the link gives
  -- Stop, the turns are over or memory runs out
  pub record NodeRun : Type 0 where
    pub came : NodeStages
    pub complete : (disk : D) → host.disk_ready ≡ Some disk → d.told → (kept : Kept) → found_of (d.seen disk) ≡ Ok kept
        → (Rose host.faults host_now.faults → ⊥) → (Rose sink.faults sink_now.faults → ⊥) → IsSound d.faults host_now.disk_back
        → IsSound l.faults host_now.link_back
        → (status ≡ exit.Ok) ⊎ ((status ≡ exit.Turns) ⊎ (status ≡ exit.NoMemory))
