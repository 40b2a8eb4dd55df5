use Rattle.zen_app.proofs.ToolRunning.{faults_by}
use Rattle.zen_app.proofs.tooling.use_on.Goals as goal

pub returns-clause-faults : goal.returns-clause-faults
returns-clause-faults g c =
    faults_by g.H.Disk.Disks g.H.Link.Link.faults c.args.tool _ _ _ _ _ _ c.run_tool.ensures.wrote_later c.run_tool.ensures.later c.run_tool.result c.status_after.result c.status_after.ensures
    c.run_tool.ensures.ended
