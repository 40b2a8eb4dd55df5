use Rattle.std.proofs.Common.{sym, ◌∙◌}
use Rattle.std.proofs.lemmas.Bool.{and_from, and_left}
use Rattle.coordinator.proofs.Composing.{ready_then}
use Rattle.coordinator.proofs.Finishing.{told_finish, told_none, told_struck, plan_for_finish, answers_for_finish}
use Rattle.coordinator.proofs.coordinator.Coordinator.take_commit.Goals as goal

pub finish_publication-requires-clause-ready : goal.finish_publication-requires-clause-ready
finish_publication-requires-clause-ready g c =
    ready_then g.K.Keeper c.args.self.now c.act_commit.new.self _ c.requires.ready c.in-Ok.ensures.does.goes

pub finish_publication-requires-clause-plan : goal.finish_publication-requires-clause-plan
finish_publication-requires-clause-plan g c =
    plan_for_finish g.K.Keeper c.args.self.now c.act_commit.new.self _ _ c.args.p c.args.id c.args.finish.now c.requires.plan c.in-Ok.ensures.does (sym c.in-Ok.ensures.taken ∙ c.if-not-taken.false) (sym c.is_leader.ensures ∙ c.if-is_leader.true)

pub finish_publication-requires-clause-applied : goal.finish_publication-requires-clause-applied
finish_publication-requires-clause-applied g c =
    answers_for_finish g.K.Keeper c.args.self.now c.act_commit.new.self _ _ c.args.p c.args.id c.args.finish.now c.requires.plan c.in-Ok.ensures.does (sym c.in-Ok.ensures.taken ∙ c.if-not-taken.false) (sym c.is_leader.ensures ∙ c.if-is_leader.true)

pub returns-in-Err : goal.returns-in-Err
returns-in-Err g c =
    record { does = told_struck g.K.Keeper c.args.self.now c.act_commit.new.self _ _ c.args.p c.args.id c.in-Err.ensures.does }

pub returns-then-not-taken : goal.returns-then-not-taken
returns-then-not-taken g c =
    record { does = told_none g.K.Keeper c.args.self.now c.act_commit.new.self _ _ c.args.p c.args.id (and_left _ _ (sym c.in-Ok.ensures.taken ∙ c.if-not-taken.true)) c.in-Ok.ensures.does }

pub returns-then-is_leader : goal.returns-then-is_leader
returns-then-is_leader g c =
    record { does = told_finish g.K.Keeper c.args.self.now c.act_commit.new.self c.finish_publication.new.self _ _ _ c.args.p c.args.id (and_from _ _ (sym c.in-Ok.ensures.taken ∙ c.if-not-taken.false) (sym c.is_leader.ensures ∙ c.if-is_leader.true)) c.in-Ok.ensures.does c.finish_publication.ensures.does }
