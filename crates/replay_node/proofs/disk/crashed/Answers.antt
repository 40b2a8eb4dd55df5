use Rattle.std.proofs.Common.{subst}
use Rattle.zen_disk.specs.declared.memory.MemDisks.{MemDisks}
use Rattle.replay_node.proofs.AfterCrash.{Images}
use Rattle.replay_node.proofs.disk.crashed.Goals as goal

pub returns-clause-left : goal.returns-clause-left
returns-clause-left c = λ files may.
    subst (λ (d : MemDisks). Images d files) c.stop.ensures.disk (c.restarted.ensures.left c.args.way c.stop.ensures.down files may)
