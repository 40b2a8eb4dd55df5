use Rattle.node_loop.proofs.Killing.{moment_is_cut}
use Rattle.node_loop.proofs.laws.law_moment_is_cut.Goals as goal

pub returns : goal.returns
returns g c = moment_is_cut g.D.Disks
