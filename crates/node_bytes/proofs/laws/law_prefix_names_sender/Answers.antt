use Rattle.node_bytes.proofs.Prefixes.{prefix_tells_sender}
use Rattle.node_bytes.proofs.laws.law_prefix_names_sender.Goals as goal

pub returns : goal.returns
returns c = prefix_tells_sender
