-- Part of the statement: the state that a node published last, deed by deed.
use Rattle.std.specs.Prelude.{Option, List, [], ◌∷◌}
use Rattle.cluster_state.specs.declared.state.ClusterState.{ClusterState}
use Rattle.world_model.specs.declared.acts.Act.TheVariants.{Value}
use Rattle.policy_model.specs.declared.events.Deed.{Deed}
use Rattle.policy_model.specs.declared.events.Deed.TheVariants as deed
use Rattle.trace_text.specs.Published.{published_by}

-- the state that a node published last, after a deed
abbrev pub published_in : Option ClusterState → Deed → Option ClusterState
published_in before (deed.Act (Value version config value) o) = published_by o before
published_in before (deed.Act act o) = before
published_in before (deed.Mode mode term) = before

-- the same, after all of these
abbrev pub published_after : Option ClusterState → List Deed → Option ClusterState
published_after before [] = before
published_after before (s ∷ ss) = published_after (published_in before s) ss
