use Rattle.zen_host.specs.HostCalls.{told_end}
use Rattle.node_trial.proofs.Courses.{cut_at_first, cut_at_second, cut_at_third}
use Rattle.node_trial.proofs.running.wait_for_all.Goals as goal

pub returns-in-Err-clause-awaits : goal.returns-in-Err-clause-awaits
returns-in-Err-clause-awaits g c =
    cut_at_first (g.H.Host.calls c.args.host.now) (g.H.Host.child_number c.args.children.a) (g.H.Host.child_number c.args.children.b) (g.H.Host.child_number c.args.children.c)
    (g.H.Host.calls c.wait.new.self) (g.H.Host.calls c.kill_both.new.host) c.in-Err.error c.in-Err.ensures.call c.kill_both.ensures.killed

pub returns-in-Err-wait-clause-awaits : goal.returns-in-Err-wait-clause-awaits
returns-in-Err-wait-clause-awaits g c =
    cut_at_second (g.H.Host.calls c.args.host.now) (g.H.Host.child_number c.args.children.a) (g.H.Host.child_number c.args.children.b) (g.H.Host.child_number c.args.children.c)
    (g.H.Host.calls c.wait.new.self) (g.H.Host.calls c.wait-2.new.self) (g.H.Host.calls c.kill.new.host) (told_end c.in-Ok.ended) c.in-Err-wait.error
    c.in-Ok.ensures.call c.in-Err-wait.ensures.call c.kill.ensures.killed

pub returns-in-Err-wait-2-clause-awaits : goal.returns-in-Err-wait-2-clause-awaits
returns-in-Err-wait-2-clause-awaits g c =
    cut_at_third (g.H.Host.calls c.args.host.now) (g.H.Host.child_number c.args.children.a) (g.H.Host.child_number c.args.children.b) (g.H.Host.child_number c.args.children.c)
    (g.H.Host.calls c.wait.new.self) (g.H.Host.calls c.wait-2.new.self) (g.H.Host.calls c.wait-3.new.self) (told_end c.in-Ok.ended) (told_end c.in-Ok-wait.ended) c.in-Err-wait-2.error
    c.in-Ok.ensures.call c.in-Ok-wait.ensures.call c.in-Err-wait-2.ensures.call
