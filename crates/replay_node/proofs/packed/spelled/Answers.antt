use Rattle.std.proofs.lemmas.Result.{IfOk-weaker}
use Rattle.replay_node.proofs.Kept.{good_bytes, held_bytes}
use Rattle.replay_node.proofs.packed.spelled.Goals as goal

pub returns-clause-good : goal.returns-clause-good
returns-clause-good c = IfOk-weaker c.encode_state.result _ _ (λ bytes spelled. good_bytes c.args.written.now bytes.items spelled) c.encode_state.ensures

pub returns-clause-held : goal.returns-clause-held
returns-clause-held c = IfOk-weaker c.encode_state.result _ _ (λ bytes spelled. held_bytes c.args.written.now bytes.items spelled) c.encode_state.ensures
