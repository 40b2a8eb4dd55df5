use Rattle.std.proofs.Common.{◌+◌, ◌≡◌, length, [], ◌∷◌, ◌++◌, arith, refl, subst, sym, ◌∙◌, ap, true, false, List, ℕ}
use Rattle.zen_disk.specs.Moments.{leaves_also}
use Rattle.zen_disk.specs.Runs.{CallsMade}
use Rattle.zen_disk.specs.Sides.{on}
use Rattle.gate_log.specs.Calls.{append_calls}
use Rattle.gate_log.specs.Generations.{standing_in, in_use, tail_of, IsAppended}
use Rattle.gate_log.proofs.Settled.{settled_from, standing_is, append_leaves, added_settled, as_said, put_same}
use Rattle.gate_log.proofs.Ordered.{tail_push}
use Rattle.gate_log.proofs.Laid.{length-framed}
use Rattle.gate_log.proofs.Answered.{done, failed}
use Rattle.gate_log.proofs.log.GateLog.keep.Goals as goal

pub add_record-requires-clause-within : goal.add_record-requires-clause-within
add_record-requires-clause-within g c told = (c.args.self.now.settled told c.requires.runs).here.inside

pub invariant_of-self-2 : goal.invariant_of-self-2
invariant_of-self-2 g c =
    let self = c.args.self.now in
    let seen = g.D.Disks.seen self.disk in
    let new = g.D.Disks.seen c.add_record.new.disk in
    let body = c.requires.frame.0 in
    record {
      limit = omega (arith, c.in-Ok.ensures.limit);
      settled = λ told running.
          let was = self.settled told c.requires.runs in
          let before = standing_in seen in
          let laid = c.in-Ok.ensures.added told (on self.side before.bodies) body c.requires.frame.1 was.here in
          settled_from _ new (g.D.Disks.may_leave c.add_record.new.disk) self.side (self.gate + length c.args.frame.now) self.other_gate self.epoch
          (added_settled before seen (g.D.Disks.may_leave self.disk) self.side self.gate self.other_gate self.epoch was body c.requires.frame.2 new
          (g.D.Disks.may_leave c.add_record.new.disk) (self.gate + length c.args.frame.now) laid c.add_record.ensures.elsewhere c.in-Ok.ensures.durable c.add_record.ensures.still);
      counted = λ told running.
          let was = self.settled told c.requires.runs in
          let before = standing_in seen in
          let laid = c.in-Ok.ensures.added told (on self.side before.bodies) body c.requires.frame.1 was.here in
          let settled =
          added_settled before seen (g.D.Disks.may_leave self.disk) self.side self.gate self.other_gate self.epoch was body c.requires.frame.2 new
          (g.D.Disks.may_leave c.add_record.new.disk) (self.gate + length c.args.frame.now) laid c.add_record.ensures.elsewhere c.in-Ok.ensures.durable c.add_record.ensures.still in
          let now : in_use (standing_in new) ≡ on self.side before.bodies ++ body ∷ [] =
          ap in_use (standing_is _ new settled.stands) ∙ put_same self.side (on self.side before.bodies ++ body ∷ []) before.bodies in
          let then : in_use (standing_in seen) ≡ on self.side before.bodies = ap (λ s. on s before.bodies) was.active in
          omega (
            arith,
            self.counted told c.requires.runs,
            ap tail_of now,
            ap tail_of then,
            tail_push
                (on self.side before.bodies) body c.requires.frame.2,
            ap length c.requires.frame.1.bytes,
            length-framed body,
          );
    }

pub returns-in_default-clause-appends : goal.returns-in_default-clause-appends
returns-in_default-clause-appends g c body framing plain =
    let self = c.args.self.now in
    record {
      answers = failed g.D.Disks self _ c.requires.runs refl c.add_record.ensures.cause.later c.in_default.ensures.cause.rose;
      ok = λ told. tt;
      any_moment = λ told running.
          let seen = g.D.Disks.seen self.disk in
          let was = self.settled told running in
          leaves_also g.D.Disks.moment g.D.Disks.left_since self.disk c.add_record.new.disk _ (IsAppended (standing_in seen) body)
          (c.add_record.ensures.any_moment told (on self.side (standing_in seen).bodies) body framing was.here was.durable)
          (append_leaves (standing_in seen) seen (g.D.Disks.may_leave self.disk) self.side self.gate self.other_gate self.epoch was body plain);
      ran = λ called.
          subst (λ (l : List ℕ). CallsMade g.D.Disks.moves (append_calls self.side self.gate l) self.disk c.add_record.new.disk false) framing.bytes
          c.in_default.ensures.ran;
    }

pub returns-clause-appends : goal.returns-clause-appends
returns-clause-appends g c body framing plain =
    let self = c.args.self.now in
    let seen = g.D.Disks.seen self.disk in
    let new = g.D.Disks.seen c.add_record.new.disk in
    let now = g.D.Disks.may_leave c.add_record.new.disk in
    let before = standing_in seen in
    record {
      answers = done g.D.Disks self _ _ c.requires.runs c.requires.runs c.add_record.ensures.cause.later;
      ok = λ told.
          let was = self.settled told c.requires.runs in
          let laid = c.in-Ok.ensures.added told (on self.side before.bodies) body framing was.here in
          let settled =
          added_settled before seen (g.D.Disks.may_leave self.disk) self.side self.gate self.other_gate self.epoch was body plain new now
          (self.gate + length c.args.frame.now) laid c.add_record.ensures.elsewhere c.in-Ok.ensures.durable c.add_record.ensures.still in
          standing_is _ new settled.stands
          ∙ sym (as_said before seen (g.D.Disks.may_leave self.disk) self.side self.gate self.other_gate self.epoch was body plain);
      any_moment = λ told running.
          let was = self.settled told running in
          leaves_also g.D.Disks.moment g.D.Disks.left_since self.disk c.add_record.new.disk _ (IsAppended before body)
          (c.add_record.ensures.any_moment told (on self.side before.bodies) body framing was.here was.durable)
          (append_leaves before seen (g.D.Disks.may_leave self.disk) self.side self.gate self.other_gate self.epoch was body plain);
      ran = λ called.
          subst (λ (l : List ℕ). CallsMade g.D.Disks.moves (append_calls self.side self.gate l) self.disk c.add_record.new.disk true) framing.bytes
          c.in-Ok.ensures.ran;
    }
