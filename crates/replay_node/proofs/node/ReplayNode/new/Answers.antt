use Rattle.std.proofs.Common.{refl}
use Rattle.replay_node.proofs.Opened.{new_stands}
use Rattle.replay_node.proofs.node.ReplayNode.new.Goals as goal

pub returns-in-Ok-clause-stands : goal.returns-in-Ok-clause-stands
returns-in-Ok-clause-stands c =
    let disk = c.empty_disk.result in
    let empty = c.empty_disk.ensures in
    let opened = c.in-Ok.ensures in
    let over = c.new.ensures in
    record {
      slot = new_stands c.args.me disk c.in-Ok.journal c.new.result (record { files = empty.files; armed = empty.armed; up = empty.up; seen = empty.seen })
          (record { found = opened.found tt; runs = opened.runs; ran = opened.ran tt }) (record { me_is = over.me; keeper = over.keeper; stands = over.stands });
      published = refl;
    }
