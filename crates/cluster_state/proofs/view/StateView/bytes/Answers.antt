use Rattle.cluster_state.proofs.Viewing.{is_state_in}
use Rattle.cluster_state.proofs.view.StateView.bytes.Goals as goal

pub returns-clause-found : goal.returns-clause-found
returns-clause-found c = rw c.spelled.ensures.same (is_state_in _ c.args.self.now c.self.invariant c.self.view_is)

pub returns-clause-spelled : goal.returns-clause-spelled
returns-clause-spelled c = rw c.spelled.ensures.same (c.spelled.ensures.is c.args.self.now (is_state_in _ c.args.self.now c.self.invariant c.self.view_is))

pub returns-clause-fit : goal.returns-clause-fit
returns-clause-fit c = c.spelled.ensures.fits c.args.self.now (is_state_in _ c.args.self.now c.self.invariant c.self.view_is)
