use Rattle.std.proofs.Common.{List, ap, sym, ◌∙◌}
use Rattle.std.proofs.lemmas.Bool.{not-true, and_from, not-false, and_left, and_right}
use Rattle.voting_config.specs.Ids.{Id, has_room}
use Rattle.coordinator.proofs.Composing.{ready_then}
use Rattle.coordinator.proofs.Counted.{joined_win, joined_member, joined_none, plan_for_win, plan_for_member}
use Rattle.coordinator.proofs.coordinator.Coordinator.take_join.Goals as goal

pub win-requires-clause-ready : goal.win-requires-clause-ready
win-requires-clause-ready g c =
    ready_then g.K.Keeper c.args.self.now c.act_join-counted.new.self _ c.requires.ready c.act_join-counted.ensures.does.goes

pub win-requires-clause-plan : goal.win-requires-clause-plan
win-requires-clause-plan g c =
    plan_for_win g.K.Keeper c.args.self.now c.act_join-counted.new.self _ _ c.args.p c.args.term c.args.last c.args.plan.now c.requires.plan c.act_join-counted.ensures.does (ap (λ (ids : List Id). has_room ids c.args.p) (sym c.votes.ensures) ∙ sym c.has_room.ensures ∙ c.if-not-has_room.false) (sym c.act_join-counted.ensures.wins ∙ c.if-counted.true)

pub take_member-requires-clause-ready : goal.take_member-requires-clause-ready
take_member-requires-clause-ready g c =
    ready_then g.K.Keeper c.args.self.now c.act_join-counted.new.self _ c.requires.ready c.act_join-counted.ensures.does.goes

pub take_member-requires-clause-plan : goal.take_member-requires-clause-plan
take_member-requires-clause-plan g c =
    plan_for_member g.K.Keeper c.args.self.now c.act_join-counted.new.self _ _ c.args.p c.args.term c.args.last c.args.plan.now c.requires.plan c.act_join-counted.ensures.does (ap (λ (ids : List Id). has_room ids c.args.p) (sym c.votes.ensures) ∙ sym c.has_room.ensures ∙ c.if-not-has_room.false) (sym c.act_join-counted.ensures.wins ∙ c.if-counted.false) (sym c.act_join-counted.ensures.taken ∙ not-false _ c.if-not-counted.false) (sym c.is_leader.ensures ∙ c.if-is_leader.true)

pub returns-then-counted : goal.returns-then-counted
returns-then-counted g c =
    record { does = joined_win g.K.Keeper c.args.self.now c.act_join-counted.new.self c.win.new.self _ _ _ c.args.p c.args.term c.args.last (ap (λ (ids : List Id). has_room ids c.args.p) (sym c.votes.ensures) ∙ sym c.has_room.ensures ∙ c.if-not-has_room.false) (sym c.act_join-counted.ensures.wins ∙ c.if-counted.true) c.act_join-counted.ensures.does c.win.ensures.does }

pub returns-then-is_leader : goal.returns-then-is_leader
returns-then-is_leader g c =
    record { does = joined_member g.K.Keeper c.args.self.now c.act_join-counted.new.self c.take_member.new.self _ _ _ c.args.p c.args.term c.args.last (ap (λ (ids : List Id). has_room ids c.args.p) (sym c.votes.ensures) ∙ sym c.has_room.ensures ∙ c.if-not-has_room.false) (sym c.act_join-counted.ensures.wins ∙ c.if-counted.false) (and_from _ _ (sym c.act_join-counted.ensures.taken ∙ not-false _ c.if-not-counted.false) (sym c.is_leader.ensures ∙ c.if-is_leader.true)) c.act_join-counted.ensures.does c.take_member.ensures.does }

pub returns-else-is_leader : goal.returns-else-is_leader
returns-else-is_leader g c =
    record { does = joined_none g.K.Keeper c.args.self.now c.act_join-counted.new.self _ _ c.args.p c.args.term c.args.last (ap (λ (ids : List Id). has_room ids c.args.p) (sym c.votes.ensures) ∙ sym c.has_room.ensures ∙ c.if-not-has_room.false) (sym c.act_join-counted.ensures.wins ∙ c.if-counted.false) (and_right _ _ (sym c.is_leader.ensures ∙ c.if-is_leader.false)) c.act_join-counted.ensures.does }

pub returns-then-not-counted : goal.returns-then-not-counted
returns-then-not-counted g c =
    record { does = joined_none g.K.Keeper c.args.self.now c.act_join-counted.new.self _ _ c.args.p c.args.term c.args.last (ap (λ (ids : List Id). has_room ids c.args.p) (sym c.votes.ensures) ∙ sym c.has_room.ensures ∙ c.if-not-has_room.false) (sym c.act_join-counted.ensures.wins ∙ c.if-counted.false) (and_left _ _ (sym c.act_join-counted.ensures.taken ∙ not-true _ c.if-not-counted.true)) c.act_join-counted.ensures.does }
