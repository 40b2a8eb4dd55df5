-- Part of the statement: a node's disk in a replay, of two files, moved by each device call.
use Rattle.std.specs.Prelude.{◌≡◌, List, [], ◌∷◌, Bool, true, false, Option, None, Some, if◌then◌else◌}
use Rattle.zen_disk.specs.Armed.{armed_later, armed_with, nothing_armed, stop_due, is_fault_due}
use Rattle.zen_disk.specs.DeviceCall.{DeviceCall, Write}
use Rattle.zen_disk.specs.FileState.{FileState, after, both_left_by, settled}
use Rattle.zen_disk.specs.declared.orders.Armed.{Armed}
use Rattle.zen_disk.specs.declared.orders.Order.{Order}
use Rattle.zen_disk.specs.declared.orders.Struck.TheVariants.{Stop, Fault}
use Rattle.zen_disk.specs.declared.orders.Way.{Way}
use Rattle.zen_disk.specs.MemDisks.{files_of, past_of, read_of}
use Rattle.zen_disk.specs.Sides.{Sides, Files}
use Rattle.zen_disk.specs.UndoOrder.{AreImages}
use Rattle.zen_disk.specs.declared.fuse.Fuse.{Fuse}
use Rattle.zen_disk.specs.declared.memory.MemDisks.{MemDisks}
use Rattle.gate_log.specs.Calls.{both_opening_calls}

-- of each file what is stable, what is read, and the ranges not yet synced; and the orders that have not come yet
pub record NodeDisk : Type 0 where
  pub files : Sides FileState
  pub armed : Armed

-- how device calls end: all were made, one failed by an order, or the disk stopped inside one
pub data CallsEnd : Type 0 where
  Done : CallsEnd
  Failed : CallsEnd
  CrashedIn : (way : Way) → CallsEnd

pub record Called : Type 0 where
  pub disk : NodeDisk
  pub ended : CallsEnd

-- a stop inside a write first places the write
abbrev pub placed : Sides FileState → DeviceCall → Sides FileState
placed files (Write side at bytes) = after files (Write side at bytes)
placed files other = files

-- A call, where this stop falls on it or none, and whether a fault does. Where both fall on it, it is stopped.
abbrev pub call_by : Option Way → Bool → NodeDisk → DeviceCall → Called
call_by (Some way) fault disk call =
    record { disk = record { files = both_left_by way (placed disk.files call); armed = armed_later disk.armed }; ended = CrashedIn way }
call_by None fault disk call =
    if fault then record { disk = record { files = disk.files; armed = armed_later disk.armed }; ended = Failed }
    else record { disk = record { files = after disk.files call; armed = armed_later disk.armed }; ended = Done }

abbrev pub call_once : NodeDisk → DeviceCall → Called
call_once disk call = call_by (stop_due disk.armed.stop) (is_fault_due disk.armed.fault) disk call

abbrev pub go_on : CallsEnd → NodeDisk → (NodeDisk → Called) → Called
go_on Done disk more = more disk
go_on Failed disk more = record { disk = disk; ended = Failed }
go_on (CrashedIn way) disk more = record { disk = disk; ended = CrashedIn way }

-- these calls, up to the first that is struck
abbrev pub calls_made : NodeDisk → List DeviceCall → Called
calls_made disk [] = record { disk = disk; ended = Done }
calls_made disk (call ∷ calls) = go_on (call_once disk call).ended (call_once disk call).disk (λ (d : NodeDisk). calls_made d calls)

-- what is read on both sides
abbrev pub bytes_read : Sides FileState → Files
bytes_read files = record { zero = files.zero.read; one = files.one.read }

-- the calls that open the journal
abbrev pub opening : NodeDisk → Called
opening disk = calls_made disk (both_opening_calls (bytes_read disk.files))

abbrev pub no_files : Sides FileState
no_files = record { zero = settled []; one = settled [] }

-- a disk on which a journal was opened for the first time
abbrev pub fresh_disk : NodeDisk
fresh_disk = (opening (record { files = no_files; armed = nothing_armed })).disk

abbrev pub with_order : Order → NodeDisk → NodeDisk
with_order order disk = record disk { armed = armed_with order disk.armed }

abbrev pub crashed_by : Way → NodeDisk → NodeDisk
crashed_by way disk = record disk { files = both_left_by way disk.files }

-- ---- the disk that a replay holds

abbrev pub MemFuse : Type 0
MemFuse = Fuse MemDisks

-- what a crash now may leave of it
abbrev pub MayLeave : MemFuse → Files → Type 0
MayLeave fuse = AreImages (past_of fuse.disk) (read_of fuse.disk)

-- it is running, with these files and these orders
pub record DiskStands (fuse : MemFuse) (disk : NodeDisk) : Type 0 where
  pub files : files_of fuse.disk ≡ disk.files
  pub armed : fuse.armed ≡ disk.armed
  pub up : fuse.down ≡ None

-- it runs again as a stop has left it, with the orders that have not come yet; a crash leaves nothing that it might not have left before
pub record Restarted (old new : MemFuse) : Type 0 where
  pub armed : new.armed ≡ old.armed
  pub up : new.down ≡ None
  pub files : (way : _) → old.down ≡ Some way → files_of new.disk ≡ both_left_by way (files_of old.disk)
  pub left : (way : _) → old.down ≡ Some way → (c : Files) → MayLeave new c → MayLeave old c

-- calls that ended so have left this fuse, and the last of them gave this answer
abbrev pub EndsAs : CallsEnd → MemFuse → NodeDisk → Bool → Type 0
EndsAs Done fuse disk ok = (ok ≡ true) × DiskStands fuse disk
EndsAs Failed fuse disk ok = (ok ≡ false) × (fuse.struck ≡ Some Fault) × DiskStands fuse disk
EndsAs (CrashedIn way) fuse disk ok = (ok ≡ false) × (fuse.struck ≡ Some Stop) × (fuse.down ≡ Some way)
    × (both_left_by way (files_of fuse.disk) ≡ disk.files) × (fuse.armed ≡ disk.armed)
