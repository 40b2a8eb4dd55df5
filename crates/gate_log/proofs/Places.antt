-- Where a journal stands, by its fields and by its two files.
use Rattle.std.proofs.Common.{◌≡◌, ℕ, ◌+◌, ◌-◌, sym, ◌∙◌, ap, arith, false}
use Rattle.std.specs.Prelude.{Option}
use Rattle.std.specs.Option.{unwrap_or}
use Rattle.zen_disk.specs.declared.disks.Disks.{Ghosts}
use Rattle.zen_disk.specs.declared.side.Side.{Side}
use Rattle.zen_disk.specs.Sides.{Files, on, other}
use Rattle.gate_log.specs.Generations.{Generations, epoch_of, in_use, standing_in, tail_of, IsSettledAs}
use Rattle.gate_log.specs.Place.{Place, gate_behind, place, place_of}
use Rattle.gate_log.specs.declared.log.GateLog.{GateLog}
use Rattle.gate_log.proofs.Laid.{gate_is}

abbrev placed : Side → ℕ → ℕ → ℕ → ℕ → Place
placed side gate other_gate epoch tail = record { side = side; gate = gate; other_gate = other_gate; epoch = epoch; tail = tail }

module _ (g : Generations) (files : Files) (outcomes : Files → Type 0) (side : Side) (gate other_gate epoch start : ℕ) where
  at_once : IsSettledAs g files outcomes side gate other_gate epoch → start + tail_of (in_use g) ≡ gate
      → placed side gate other_gate epoch (gate - start) ≡ place_of g
  at_once is counted =
      let active = sym is.active in
      let here : gate ≡ gate_behind (in_use g) =
      gate_is (on side g.bodies) (on side files) gate is.here ∙ ap (λ (s : Side). gate_behind (on s g.bodies)) active in
      let there : other_gate ≡ gate_behind (on (other g.side) g.bodies) =
      gate_is (on (other side) g.bodies) (on (other side) files) other_gate is.there
      ∙ ap (λ (s : Side). gate_behind (on (other s) g.bodies)) active in
      let has : epoch ≡ unwrap_or (epoch_of g.side (in_use g)) 0 =
      ap (λ (e : Option ℕ). unwrap_or e 0) (sym is.has_epoch_of) ∙ ap (λ (s : Side). unwrap_or (epoch_of s (on s g.bodies)) 0) active in
      let tail : gate - start ≡ tail_of (in_use g) = omega (arith, counted) in
      λ i. placed (active i) (here i) (there i) (has i) (tail i)

-- the fields of a journal that is not halted say where its files stand
pub place_is : {D : Type 0} (disks : Ghosts D) (log : GateLog D disks) → disks.told → log.stopped ≡ false
    → place log ≡ place_of (standing_in (disks.seen log.disk))
place_is disks log told running =
    let files = disks.seen log.disk in
    at_once (standing_in files) files (disks.may_leave log.disk) log.side log.gate log.other_gate log.epoch log.start
    (log.settled told running) (log.counted told running)
