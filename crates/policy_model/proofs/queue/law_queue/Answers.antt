use Rattle.policy_model.proofs.Queuing.{life-holds, life-idle}
use Rattle.policy_model.proofs.queue.law_queue.Goals as goal

pub returns-clause-queue : goal.returns-clause-queue
returns-clause-queue c s life f up = life-holds s life f up

pub returns-clause-only_leaders : goal.returns-clause-only_leaders
returns-clause-only_leaders c s life f up k = life-idle s life f up k
