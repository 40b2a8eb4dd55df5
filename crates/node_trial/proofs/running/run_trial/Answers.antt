use Rattle.std.proofs.Common.{[], ◌∷◌, inr}
use Rattle.node_trial.specs.Ends.{told_ends}
use Rattle.node_trial.proofs.running.run_trial.Goals as goal

pub returns-in-Ok-wait_for_all-clause-tried : goal.returns-in-Ok-wait_for_all-clause-tried
returns-in-Ok-wait_for_all-clause-tried g c = inr (inr (record {
  children = g.H.Host.child_number c.in-Ok.children.a ∷ g.H.Host.child_number c.in-Ok.children.b ∷ g.H.Host.child_number c.in-Ok.children.c ∷ [];
  begun = g.H.Host.calls c.start_all.new.host;
  starts = c.in-Ok.ensures.begins;
  ends = told_ends c.in-Ok-wait_for_all.ends;
  waits = c.in-Ok-wait_for_all.ensures.awaits;
  tells = c.report_ends.ensures.tells;
}))
