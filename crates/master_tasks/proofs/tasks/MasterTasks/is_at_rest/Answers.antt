use Rattle.std.proofs.Common.{sym, subst}
use Rattle.master_tasks.specs.Queue.{Tasks}
use Rattle.master_tasks.specs.NextState.{IsAtRest, Leader, leader_of}
use Rattle.master_tasks.proofs.Resting.{at_rest}
use Rattle.master_tasks.proofs.tasks.MasterTasks.is_at_rest.Goals as goal

pub returns : goal.returns
returns c = λ h.
    let l : Leader = leader_of c.args.me c.args.term c.args.accepted.now c.args.committed.now c.args.votes.now c.args.policy in
    subst (λ (t : Tasks). IsAtRest l t) (sym (c.is_idle.ensures c.if-not-is_idle.false))
    (at_rest l (c.is_master.ensures c.if-not-is_master.false) (c.accepted_stays.ensures h))
