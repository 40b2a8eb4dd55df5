use Rattle.node_tool.proofs.Ending.{asked_tooled, ends_tooled}
use Rattle.node_tool.proofs.running.run_tool.Goals as goal

pub returns-in-Ok-clause-asked : goal.returns-in-Ok-clause-asked
returns-in-Ok-clause-asked g c = asked_tooled c.args.dir.now _ _ c.in-Ok.tooled _ _ _ _ c.say_tooled.result c.in-Ok.ensures.call c.say_tooled.ensures.ends

pub returns-in-Ok-clause-ended : goal.returns-in-Ok-clause-ended
returns-in-Ok-clause-ended g c = ends_tooled g.H.Disk.Disks c.args.tool _ _ c.in-Ok.tooled _ _ _ _ c.say_tooled.result c.in-Ok.ensures.used c.say_tooled.ensures.ends
