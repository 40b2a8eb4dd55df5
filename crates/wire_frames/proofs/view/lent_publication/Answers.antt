use Rattle.cluster_state.specs.States.{state}
use Rattle.wire_frames.specs.declared.frame.WireMessage.TheVariants as message
use Rattle.wire_frames.proofs.Viewing.{whole_message}
use Rattle.wire_frames.proofs.view.lent_publication.Goals as goal

pub returns-clause-message : goal.returns-clause-message
returns-clause-message c = whole_message (λ x. message.Publish x) (state.at c.args.fields.now) c.of_checked.result c.of_checked.ensures
