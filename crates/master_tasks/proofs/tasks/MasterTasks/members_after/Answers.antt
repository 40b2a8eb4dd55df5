use Rattle.std.proofs.Common.{◌≡◌, IfOk, List, subst, sym}
use Rattle.voting_config.specs.Ids.{Id}
use Rattle.master_tasks.proofs.Resting.{members_stay}
use Rattle.master_tasks.proofs.tasks.MasterTasks.members_after.Goals as goal

pub returns-then-keeps_members : goal.returns-then-keeps_members
returns-then-keeps_members c =
    let none_go = c.keeps_members.ensures.removals c.if-keeps_members.true in
    let none_come = c.keeps_members.ensures.additions c.if-keeps_members.true in
    subst (λ (ids : List Id). IfOk c.copy.result (λ copy. copy ≡ ids))
    (sym (members_stay c.args.me c.args.self.now c.args.members.now none_go none_come)) c.copy.ensures
