use Rattle.cluster_state.specs.States.{state, whole}
use Rattle.cluster_state.proofs.Viewing.{no_state}
use Rattle.cluster_state.proofs.view.StateView.of.Goals as goal

pub returns-in-Err : goal.returns-in-Err
returns-in-Err c = no_state (whole (state.at c.args.bytes.now)) c.in-Err.fault c.in-Err.ensures
