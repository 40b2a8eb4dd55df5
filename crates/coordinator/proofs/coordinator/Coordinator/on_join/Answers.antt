use Rattle.std.proofs.Common.{sym, ◌∙◌}
use Rattle.coordinator.proofs.Composing.{ready_then}
use Rattle.coordinator.proofs.Counted.{planned_raised, joined_not, joined_whole, joined_struck}
use Rattle.coordinator.proofs.coordinator.Coordinator.on_join.Goals as goal

pub take_join-requires-clause-ready : goal.take_join-requires-clause-ready
take_join-requires-clause-ready g c =
    ready_then g.K.Keeper c.args.self.now c.raise_term.new.self _ c.requires.ready c.in-Ok-raise_term.ensures.does.goes

pub take_join-requires-clause-plan : goal.take_join-requires-clause-plan
take_join-requires-clause-plan g c =
    planned_raised g.K.Keeper c.args.self.now c.raise_term.new.self c.args.p c.args.term c.args.last c.in-Ok.plan c.in-Ok-raise_term.ensures.does.goes c.in-Ok.ensures

pub returns-in-Ok-raise_term : goal.returns-in-Ok-raise_term
returns-in-Ok-raise_term g c =
    record { does = joined_whole g.K.Keeper c.args.self.now c.raise_term.new.self c.take_join.new.self _ _ _ _ c.args.p c.args.term c.args.last (sym c.is_voting_only.ensures ∙ c.if-is_voting_only.false) c.in-Ok-make_room.ensures.shown c.in-Ok-raise_term.ensures.does c.take_join.ensures.does }

pub returns : goal.returns
returns g c =
    record { does = joined_struck g.K.Keeper c.args.self.now c.raise_term.new.self _ _ _ c.args.p c.args.term c.args.last (sym c.is_voting_only.ensures ∙ c.if-is_voting_only.false) c.in-Ok-make_room.ensures.shown c.in-Err.ensures.does }

pub returns-then-is_voting_only : goal.returns-then-is_voting_only
returns-then-is_voting_only g c =
    record { does = joined_not g.K.Keeper c.args.self.now _ c.args.p c.args.term c.args.last (sym c.is_voting_only.ensures ∙ c.if-is_voting_only.true) }
