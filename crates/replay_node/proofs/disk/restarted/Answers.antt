use Rattle.std.proofs.Common.{◌∙◌, ap, subst}
use Rattle.zen_disk.specs.MemDisks.{files_of}
use Rattle.zen_disk.specs.declared.memory.MemDisks.{MemDisks}
use Rattle.replay_node.proofs.AfterCrash.{Images, crash_within}
use Rattle.replay_node.proofs.disk.restarted.Goals as goal

pub returns : goal.returns
returns c =
    let same = c.with_orders.ensures.disk in
    let out = c.into_disk.ensures in
    record {
      armed = c.with_orders.ensures.armed ∙ c.armed-armed.ensures;
      up = c.with_orders.ensures.down;
      files = λ way down. ap files_of same ∙ out.stopped way down;
      left = λ way down files may. crash_within way c.args.fuse.disk c.into_disk.result files (out.stopped way down) (out.image tt) (subst (λ (m : MemDisks). Images m files) same may);
    }
