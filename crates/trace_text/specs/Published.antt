-- Part of the statement: what a node has published.
use Rattle.std.specs.Prelude.{Option, None, Some}
use Rattle.cluster_state.specs.declared.state.ClusterState.{ClusterState}
use Rattle.world_model.specs.declared.acts.Outcome.{Outcome}
use Rattle.world_model.specs.declared.acts.Act.TheVariants.{Value}
use Rattle.world_model.specs.declared.acts.ActReply.TheVariants.{Taken}
use Rattle.world_model.specs.declared.acts.Outcome.TheVariants.{Answered}
use Rattle.world_model.specs.declared.acts.Message.TheVariants.{Publish as PublishMessage}
use Rattle.world_model.specs.Acts.{NodeHistory, NoActs, Then}

abbrev pub published_by : Outcome → Option ClusterState → Option ClusterState
published_by (Answered (Taken (Some (PublishMessage request)) wins)) before = Some request.state
published_by other before = before

-- the state that the node has published last
abbrev pub last_published : NodeHistory → Option ClusterState
last_published NoActs = None
last_published (Then g (Value version config value) o) = published_by o (last_published g)
last_published (Then g act o) = last_published g
