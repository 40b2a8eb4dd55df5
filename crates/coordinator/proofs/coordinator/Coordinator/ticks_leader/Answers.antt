use Rattle.std.proofs.Common.{sym, ◌∙◌}
use Rattle.coordinator.specs.Views.{view_in}
use Rattle.coordinator.proofs.Composing.{ready_then}
use Rattle.coordinator.proofs.Counted.{planned_there}
use Rattle.coordinator.proofs.Ticked.{tick_planned, ticks_gone}
use Rattle.coordinator.proofs.coordinator.Coordinator.ticks_leader.Goals as goal

pub go_on-requires-clause-ready : goal.go_on-requires-clause-ready
go_on-requires-clause-ready g c =
    ready_then g.K.Keeper c.args.self.now c.tick_members.new.self _ c.requires.ready c.tick_members.ensures.does.goes

pub go_on-requires-clause-plan : goal.go_on-requires-clause-plan
go_on-requires-clause-plan g c =
    planned_there g.K.Keeper c.args.self.now c.tick_members.new.self _ c.in-Ok.plan (λ s v. v) c.tick_members.ensures.does.goes (tick_planned c.args.self.now.settings (view_in g.K.Keeper c.args.self.now) c.in-Ok.plan c.in-Ok.ensures)

pub returns : goal.returns
returns g c =
    record { does = ticks_gone g.K.Keeper c.args.self.now c.tick_members.new.self c.go_on.new.self _ _ _ _ c.in-Ok-make_room.ensures.shown (sym c.gives_up.ensures ∙ c.if-gives_up.false) c.tick_members.ensures.does c.go_on.ensures.does }
