use Rattle.node_trial.specs.Nodes.{told_trial}
use Rattle.node_trial.proofs.Courses.{cut_at_a, cut_at_b, cut_at_c}
use Rattle.node_trial.proofs.running.start_all.Goals as goal

pub returns-in-Err-clause-begins : goal.returns-in-Err-clause-begins
returns-in-Err-clause-begins g c =
    cut_at_a (told_trial c.args.trial.now) (g.H.Host.calls c.args.host.now) (g.H.Host.calls c.start.new.host) c.in-Err.error c.in-Err.ensures.call

pub returns-in-Err-start-clause-begins : goal.returns-in-Err-start-clause-begins
returns-in-Err-start-clause-begins g c =
    cut_at_b (told_trial c.args.trial.now) (g.H.Host.calls c.args.host.now) (g.H.Host.calls c.start.new.host) (g.H.Host.calls c.start-2.new.host) (g.H.Host.calls c.kill.new.host) (g.H.Host.child_number c.in-Ok.a)
    c.in-Err-start.error c.in-Ok.ensures.call c.in-Ok.ensures.number c.in-Err-start.ensures.call c.kill.ensures.killed

pub returns-in-Err-start-2-clause-begins : goal.returns-in-Err-start-2-clause-begins
returns-in-Err-start-2-clause-begins g c =
    cut_at_c (told_trial c.args.trial.now) (g.H.Host.calls c.args.host.now) (g.H.Host.calls c.start.new.host) (g.H.Host.calls c.start-2.new.host) (g.H.Host.calls c.start-3.new.host) (g.H.Host.calls c.kill_both.new.host)
    (g.H.Host.child_number c.in-Ok.a) (g.H.Host.child_number c.in-Ok-start.b) c.in-Err-start-2.error c.in-Ok.ensures.call c.in-Ok.ensures.number c.in-Ok-start.ensures.call c.in-Ok-start.ensures.number
    c.in-Err-start-2.ensures.call c.kill_both.ensures.killed
