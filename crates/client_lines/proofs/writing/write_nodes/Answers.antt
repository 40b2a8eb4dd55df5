use Rattle.cluster_state.proofs.JsonLaws.{no_float_texts}
use Rattle.client_lines.proofs.writing.write_nodes.Goals as goal

pub write_beside-requires : goal.write_beside-requires
write_beside-requires c = rw c.in_ok-nodes_value.ensures (no_float_texts c.args.nodes.now)
