use Rattle.std.proofs.Common.{◌≡◌, drop, false}
use Rattle.cluster_state.specs.Initial.{empty_record}
use Rattle.gate_log.specs.Opened.{lists}
use Rattle.state_journal.specs.Journal.{folded_from}
use Rattle.state_journal.specs.Reads.{IsFitRecord}
use Rattle.state_journal.proofs.fold.fold_bodies.Given as goal

abbrev pub invariant-loop-body : goal.invariant-loop-body
invariant-loop-body l = record {
  fit : IsFitRecord l.kept;
  so_far : folded_from 8 false empty_record (lists l.bodies) ≡ folded_from l.at l.after l.kept (lists (drop l.body-index l.bodies));
}
