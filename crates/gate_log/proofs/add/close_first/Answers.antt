use Rattle.zen_disk.specs.Moments.{leaves_also}
use Rattle.zen_disk.specs.Sides.{on}
use Rattle.gate_log.specs.Journal.{IsAsBeforeOrNone}
use Rattle.gate_log.specs.Calls.{LeavesOn}
use Rattle.gate_log.proofs.Added.{closes, first_is_open, first_closed}
use Rattle.gate_log.proofs.Both.{leaves_on, only_there}
use Rattle.gate_log.proofs.add.close_first.Goals as goal

pub returns-clause-any_moment : goal.returns-clause-any_moment
returns-clause-any_moment g c told bodies gate some laid only =
    let side = c.args.side in
    let seen = g.D.Disks.seen c.args.disk.now in
    let old = g.D.Disks.may_leave c.args.disk.now in
    leaves_also g.D.Disks.moment g.D.Disks.left_since c.args.disk.now c.write_through.new.disk _
    (LeavesOn side (IsAsBeforeOrNone bodies) seen) c.write_through.ensures.any_moment
    (leaves_on side seen seen old 8 1 (IsAsBeforeOrNone bodies) (λ f left i. on side (only f left i)) (only_there side seen old only)
    (λ f torn. closes bodies (on side seen) gate laid f torn (first_is_open bodies (on side seen) gate laid some)))

pub returns-in_err-write_through-clause-any_moment : goal.returns-in_err-write_through-clause-any_moment
returns-in_err-write_through-clause-any_moment g c told bodies gate some laid only =
    let side = c.args.side in
    let seen = g.D.Disks.seen c.args.disk.now in
    let old = g.D.Disks.may_leave c.args.disk.now in
    leaves_also g.D.Disks.moment g.D.Disks.left_since c.args.disk.now c.write_through.new.disk _
    (LeavesOn side (IsAsBeforeOrNone bodies) seen) c.write_through.ensures.any_moment
    (leaves_on side seen seen old 8 1 (IsAsBeforeOrNone bodies) (λ f left i. on side (only f left i)) (only_there side seen old only)
    (λ f torn. closes bodies (on side seen) gate laid f torn (first_is_open bodies (on side seen) gate laid some)))

pub returns-clause-emptied : goal.returns-clause-emptied
returns-clause-emptied g c told bodies gate laid =
    first_closed bodies (on c.args.side (g.D.Disks.seen c.args.disk.now)) (on c.args.side (g.D.Disks.seen c.write_through.new.disk)) gate laid
    (c.in_ok-write_through.ensures.written told)
