use Rattle.journal_inspection.proofs.Ends.{asked_shown, ends_shown}
use Rattle.journal_inspection.proofs.inspecting.inspect.Goals as goal

pub returns-in-Ok-clause-asked : goal.returns-in-Ok-clause-asked
returns-in-Ok-clause-asked g c = asked_shown c.args.dir.now _ _ c.in-Ok.shown _ _ _ _ c.say_shown.result c.in-Ok.ensures.call c.say_shown.ensures.ends

pub returns-in-Ok-clause-ended : goal.returns-in-Ok-clause-ended
returns-in-Ok-clause-ended g c = ends_shown g.H.Disk.Disks _ _ c.in-Ok.shown _ _ _ _ c.say_shown.result c.in-Ok.ensures.opened c.say_shown.ensures.ends
