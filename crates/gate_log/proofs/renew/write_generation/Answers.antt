use Rattle.std.proofs.Common.{[], true, false}
use Rattle.zen_disk.specs.Moments.{joins, leaves_also}
use Rattle.zen_disk.specs.Runs.{ran_on, ran_failed}
use Rattle.gate_log.specs.Journal.{IsReplaced}
use Rattle.gate_log.specs.Calls.{LeavesOn, append_calls, closing_calls}
use Rattle.gate_log.proofs.Both.{cleared_leaves, refilled_leaves}
use Rattle.gate_log.proofs.renew.write_generation.Goals as goal

pub add_record-requires-clause-within : goal.add_record-requires-clause-within
add_record-requires-clause-within g c told = (c.in-Ok.ensures.emptied told).inside

pub returns-in_default-add_record-clause-still : goal.returns-in_default-add_record-clause-still
returns-in_default-add_record-clause-still g c file only = c.add_record.ensures.still file (c.clear.ensures.still file only)

pub returns-clause-still : goal.returns-clause-still
returns-clause-still g c file only = c.add_record.ensures.still file (c.clear.ensures.still file only)

pub returns-clause-added : goal.returns-clause-added
returns-clause-added g c told body framing = c.in-Ok-add_record.ensures.added told [] body framing (c.in-Ok.ensures.emptied told)

pub returns-in_default-clause-ran : goal.returns-in_default-clause-ran
returns-in_default-clause-ran g c =
    ran_failed g.D.Disks.moves (closing_calls c.args.side c.args.gate)
    (append_calls c.args.side 8 c.args.frame.now) c.args.disk.now c.clear.new.disk c.in_default.ensures.ran

pub returns-in_default-add_record-clause-ran : goal.returns-in_default-add_record-clause-ran
returns-in_default-add_record-clause-ran g c =
    ran_on g.D.Disks.moves (closing_calls c.args.side c.args.gate)
    (append_calls c.args.side 8 c.args.frame.now) c.args.disk.now c.clear.new.disk c.add_record.new.disk false c.in-Ok.ensures.ran
    c.in_default-add_record.ensures.ran

pub returns-clause-ran : goal.returns-clause-ran
returns-clause-ran g c =
    ran_on g.D.Disks.moves (closing_calls c.args.side c.args.gate)
    (append_calls c.args.side 8 c.args.frame.now) c.args.disk.now c.clear.new.disk c.add_record.new.disk true c.in-Ok.ensures.ran
    c.in-Ok-add_record.ensures.ran

pub returns-in_default-clause-any_moment : goal.returns-in_default-clause-any_moment
returns-in_default-clause-any_moment g c told bodies body framing laid only =
    let seen = g.D.Disks.seen c.args.disk.now in
    leaves_also g.D.Disks.moment g.D.Disks.left_since c.args.disk.now c.clear.new.disk _ (LeavesOn c.args.side (IsReplaced bodies body) seen)
    (c.clear.ensures.any_moment told bodies laid only) (cleared_leaves c.args.side bodies body seen)

pub returns-in_default-add_record-clause-any_moment : goal.returns-in_default-add_record-clause-any_moment
returns-in_default-add_record-clause-any_moment g c told bodies body framing laid only =
    let side = c.args.side in
    let seen = g.D.Disks.seen c.args.disk.now in
    let mid = g.D.Disks.seen c.clear.new.disk in
    joins g.D.Disks.moment g.D.Disks.left_since c.args.disk.now c.clear.new.disk c.add_record.new.disk _ _
    (LeavesOn side (IsReplaced bodies body) seen) (c.clear.ensures.any_moment told bodies laid only)
    (c.add_record.ensures.any_moment told [] body framing (c.in-Ok.ensures.emptied told) (c.in-Ok.ensures.durable only))
    (cleared_leaves side bodies body seen) (refilled_leaves side bodies body seen mid c.clear.ensures.elsewhere)

pub returns-clause-any_moment : goal.returns-clause-any_moment
returns-clause-any_moment g c told bodies body framing laid only =
    let side = c.args.side in
    let seen = g.D.Disks.seen c.args.disk.now in
    let mid = g.D.Disks.seen c.clear.new.disk in
    joins g.D.Disks.moment g.D.Disks.left_since c.args.disk.now c.clear.new.disk c.add_record.new.disk _ _
    (LeavesOn side (IsReplaced bodies body) seen) (c.clear.ensures.any_moment told bodies laid only)
    (c.add_record.ensures.any_moment told [] body framing (c.in-Ok.ensures.emptied told) (c.in-Ok.ensures.durable only))
    (cleared_leaves side bodies body seen) (refilled_leaves side bodies body seen mid c.clear.ensures.elsewhere)
