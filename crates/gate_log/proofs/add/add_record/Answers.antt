use Rattle.std.proofs.Common.{◌+◌, ◌∷◌, [], ◌≡◌, subst, refl}
use Rattle.zen_disk.specs.Moments.{leaves_also}
use Rattle.zen_disk.specs.DeviceCall.{Write, Sync}
use Rattle.zen_disk.specs.Runs.{CallsMade, ran_on}
use Rattle.zen_disk.specs.Sides.{on}
use Rattle.gate_log.specs.Journal.{IsBeforeOrAfter}
use Rattle.gate_log.specs.Calls.{LeavesOn}
use Rattle.gate_log.proofs.Added.{last_done}
use Rattle.gate_log.proofs.Both.{frame_leaves, adding_leaves}
use Rattle.std.specs.Prelude.{Result, Ok, Err, IsErr, is_ok, false}
use Rattle.gate_log.proofs.add.add_record.Goals as goal

err_is : {T E : Type 0} (r : Result T E) → IsErr r → false ≡ is_ok r
err_is (Ok x) e = cc
err_is (Err x) e = refl

pub returns-in_err-write_through-clause-any_moment : goal.returns-in_err-write_through-clause-any_moment
returns-in_err-write_through-clause-any_moment g c told bodies body framing laid only =
    let side = c.args.side in
    let seen = g.D.Disks.seen c.args.disk.now in
    leaves_also g.D.Disks.moment g.D.Disks.left_since c.args.disk.now c.write_through.new.disk _
    (LeavesOn side (IsBeforeOrAfter bodies body) seen) c.write_through.ensures.any_moment
    (frame_leaves side seen (g.D.Disks.may_leave c.args.disk.now) bodies body c.args.frame.now c.args.gate laid only)

pub returns-in_err-write_through-2-clause-any_moment : goal.returns-in_err-write_through-2-clause-any_moment
returns-in_err-write_through-2-clause-any_moment g c told bodies body framing laid only =
    let done = c.in_ok-write_through.ensures in
    adding_leaves c.args.side (g.D.Disks.seen c.args.disk.now) (g.D.Disks.may_leave c.args.disk.now) bodies body c.args.frame.now c.args.gate laid only
    g.D.Disks.moment g.D.Disks.left_since c.args.disk.now c.write_through.new.disk c.write_through-2.new.disk (g.D.Disks.seen c.write_through.new.disk)
    (g.D.Disks.may_leave c.write_through.new.disk) framing c.write_through.ensures.any_moment c.write_through-2.ensures.any_moment done.durable
    c.write_through.ensures.still (done.written told)

pub returns-clause-any_moment : goal.returns-clause-any_moment
returns-clause-any_moment g c told bodies body framing laid only =
    let done = c.in_ok-write_through.ensures in
    adding_leaves c.args.side (g.D.Disks.seen c.args.disk.now) (g.D.Disks.may_leave c.args.disk.now) bodies body c.args.frame.now c.args.gate laid only
    g.D.Disks.moment g.D.Disks.left_since c.args.disk.now c.write_through.new.disk c.write_through-2.new.disk (g.D.Disks.seen c.write_through.new.disk)
    (g.D.Disks.may_leave c.write_through.new.disk) framing c.write_through.ensures.any_moment c.write_through-2.ensures.any_moment done.durable
    c.write_through.ensures.still (done.written told)

pub returns-clause-added : goal.returns-clause-added
returns-clause-added g c told bodies body framing laid =
    let side = c.args.side in
    last_done bodies body c.args.frame.now (on side (g.D.Disks.seen c.args.disk.now))
    (on side (g.D.Disks.seen c.write_through.new.disk)) c.args.gate laid framing (c.in_ok-write_through.ensures.written told)
    (on side (g.D.Disks.seen c.write_through-2.new.disk)) (c.in_ok-write_through-2.ensures.written told)

pub returns-in_err-write_through-2-clause-ran : goal.returns-in_err-write_through-2-clause-ran
returns-in_err-write_through-2-clause-ran g c =
    let side = c.args.side in
    let first = Write side (c.args.gate + 1) c.args.frame.now ∷ Sync side ∷ [] in
    let then = Write side c.args.gate (1 ∷ []) ∷ Sync side ∷ [] in
    let failed = c.in_err-write_through-2.ensures.ran in
    let error = c.from_residual-in_err-write_through-2.ensures in
    subst
    (λ ok. CallsMade g.D.Disks.moves
    (Write side (c.args.gate + 1) c.args.frame.now ∷ Sync side ∷ Write side c.args.gate (1 ∷ []) ∷ Sync side ∷ []) c.args.disk.now
    c.write_through-2.new.disk ok) (err_is c.from_residual-in_err-write_through-2.result error.0)
    (ran_on g.D.Disks.moves first then c.args.disk.now c.write_through.new.disk c.write_through-2.new.disk _ c.in_ok-write_through.ensures.ran failed)
