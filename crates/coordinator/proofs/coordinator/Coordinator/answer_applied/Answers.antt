use Rattle.std.proofs.Common.{ap, arith, subst, sym, Option}
use Rattle.master_tasks.specs.declared.tasks.Applied.{Applied}
use Rattle.master_tasks.specs.Replying.{Replies}
use Rattle.coordinator.specs.Ahead.{IsAnswered}
use Rattle.coordinator.specs.Showing.{shown_in}
use Rattle.coordinator.proofs.Finishing.{answered_made, few_answered}
use Rattle.coordinator.proofs.coordinator.Coordinator.answer_applied.Goals as goal

pub append-requires : goal.append-requires
append-requires g c =
    let is = subst (λ (x : Option Applied). IsAnswered g.K.Keeper c.args.self.now x) (sym c.in-Some.ensures.value) c.requires.applied in
    omega (arith, few_answered g.K.Keeper c.args.self.now c.in-Some.field-0 is, c.requires.replies)

pub returns-in-Some-clause-does : goal.returns-in-Some-clause-does
returns-in-Some-clause-does g c =
    let is = subst (λ (x : Option Applied). IsAnswered g.K.Keeper c.args.self.now x) (sym c.in-Some.ensures.value) c.requires.applied in
    answered_made g.K.Keeper c.args.self.now c.in-Some.field-0 _ _ is (ap (λ (r : Replies). record (shown_in c.args.out.now) { replies = r.sent }) c.append.ensures)

pub returns-in-Some-clause-uses : goal.returns-in-Some-clause-uses
returns-in-Some-clause-uses g c =
    let is = subst (λ (x : Option Applied). IsAnswered g.K.Keeper c.args.self.now x) (sym c.in-Some.ensures.value) c.requires.applied in
    let room = ap (λ (r : Replies). r.room) c.append.ensures in
    record { deeds = omega arith; frames = omega arith; replies = omega (arith, room, few_answered g.K.Keeper c.args.self.now c.in-Some.field-0 is) }
