-- Part of the statement: where a journal stands: the side in use, its closed gate and that of the other side, its epoch and its tail.
use Rattle.std.specs.Prelude.{ℕ, ◌+◌, ◌-◌, nat_lt, ◌&&◌, ◌||◌, Bool, List, length}
use Rattle.std.specs.Option.{unwrap_or}
use Rattle.zen_disk.specs.Sides.{on, other}
use Rattle.zen_disk.specs.declared.disks.Disks.{Ghosts}
use Rattle.zen_disk.specs.declared.side.Side.{Side}
use Rattle.gate_log.specs.Journal.{laid}
use Rattle.gate_log.specs.Generations.{Generations, in_use, epoch_of, tail_of, last_epoch}
use Rattle.gate_log.specs.declared.log.GateLog.{GateLog}

pub record Place : Type 0 where
  pub side : Side
  pub gate : ℕ
  pub other_gate : ℕ
  pub epoch : ℕ
  pub tail : ℕ

-- the offset of the closed gate after these bodies
abbrev pub gate_behind : List (List ℕ) → ℕ
gate_behind bodies = 8 + length (laid bodies)

abbrev pub epoch_in_use : Generations → ℕ
epoch_in_use g = unwrap_or (epoch_of g.side (in_use g)) 0

abbrev pub place_of : Generations → Place
place_of g = record {
  side = g.side;
  gate = gate_behind (in_use g);
  other_gate = gate_behind (on (other g.side) g.bodies);
  epoch = epoch_in_use g;
  tail = tail_of (in_use g);
}

-- where an open journal stands, by its fields
abbrev pub place : {D : Type 0} {disks : Ghosts D} → GateLog D disks → Place
place log = record { side = log.side; gate = log.gate; other_gate = log.other_gate; epoch = log.epoch; tail = log.gate - log.start }

-- how many bytes the tail of a file has at most, before the next generation begins
abbrev pub most_tail : ℕ
most_tail = 65536

-- whether the next body begins a generation: one is due, or the tail would be too long with it; and there is a next epoch
abbrev pub renews : (due : Bool) → Place → List ℕ → Bool
renews due p body = (due || nat_lt most_tail (p.tail + 5 + length body)) && nat_lt p.epoch last_epoch
