use Rattle.std.proofs.Common.{arith, sym, subst}
use Rattle.state_journal.specs.Opening.{handed_back}
use Rattle.node_tool.specs.Uses.{Uses, IsUnhurt, OnlyUses}
use Rattle.node_tool.proofs.OnDisks.{only_opened, only_uses, opens_unopened, unhurt, uses, uses_unopened}
use Rattle.node_tool.proofs.using.use_tool.Goals as goal

pub returns-in-Ok-clause-uses : goal.returns-in-Ok-clause-uses
returns-in-Ok-clause-uses g c =
    let u = c.use_opened.ensures in
    subst (λ back. Uses g.D.Disks c.args.tool c.args.disk back c.use_opened.result.1) (sym u.is_back)
    (uses g.D.Disks c.args.tool c.args.disk c.in-Ok.journal u.new c.in-Ok.ensures.found c.use_opened.result.1 c.in-Ok.ensures.runs c.in-Ok.ensures.later u.uses)

pub returns-in-Ok-clause-later : goal.returns-in-Ok-clause-later
returns-in-Ok-clause-later g c = let u = c.use_opened.ensures in rw u.is_back (omega (arith, u.later, c.in-Ok.ensures.later))

pub returns-in-Ok-clause-any_moment : goal.returns-in-Ok-clause-any_moment
returns-in-Ok-clause-any_moment g c told =
    let u = c.use_opened.ensures in
    subst (λ back. IsUnhurt g.D.Disks c.args.tool c.args.disk back) (sym u.is_back)
    (unhurt g.D.Disks c.args.tool c.args.disk c.in-Ok.journal u.new c.in-Ok.ensures.found (λ disk t. g.met.D.Disks.seen_may_stay disk t) told (c.in-Ok.ensures.any_moment told) (u.any_moment told))

pub returns-in-Ok-clause-calls : goal.returns-in-Ok-clause-calls
returns-in-Ok-clause-calls g c told =
    let u = c.use_opened.ensures in
    subst (λ back. OnlyUses g.D.Disks c.args.tool c.args.disk back c.use_opened.result.1) (sym u.is_back)
    (only_uses g.D.Disks c.args.tool c.args.disk c.in-Ok.journal u.new c.in-Ok.ensures.found c.use_opened.result.1 told c.in-Ok.ensures.runs (c.in-Ok.ensures.ran told) u.writes)

pub returns-in-Err-clause-uses : goal.returns-in-Err-clause-uses
returns-in-Err-clause-uses g c =
    subst (λ back. Uses g.D.Disks c.args.tool c.args.disk back c.unopened.result.1) (sym c.unopened.ensures.back)
    (uses_unopened g.D.Disks c.args.tool c.args.disk c.in-Err.error c.unopened.result.1 c.unopened.ensures.tells c.in-Err.ensures.why c.in-Err.ensures.cause)

pub returns-in-Err-clause-any_moment : goal.returns-in-Err-clause-any_moment
returns-in-Err-clause-any_moment g c told =
    subst (λ back. IsUnhurt g.D.Disks c.args.tool c.args.disk back) (sym c.unopened.ensures.back)
    (only_opened g.D.Disks c.args.tool c.args.disk (handed_back c.in-Err.error) (c.in-Err.ensures.any_moment_err told))

pub returns-in-Err-clause-calls : goal.returns-in-Err-clause-calls
returns-in-Err-clause-calls g c told =
    subst (λ back. OnlyUses g.D.Disks c.args.tool c.args.disk back c.unopened.result.1) (sym c.unopened.ensures.back)
    (opens_unopened g.D.Disks c.args.tool c.args.disk c.in-Err.error c.unopened.result.1 c.unopened.ensures.tells (c.in-Err.ensures.ran_err told))
