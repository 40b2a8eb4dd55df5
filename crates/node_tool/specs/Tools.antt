-- Part of the statement: what the tools make of what a node keeps, and what they refuse.
use Rattle.std.specs.Prelude.{◌+◌, ◌==◌, Option, None, Some, [], ◌∷◌, if◌then◌else◌}
use Rattle.voting_config.specs.Ids.{Id}
use Rattle.cluster_state.specs.Field.{last_number}
use Rattle.cluster_state.specs.Initial.{empty_state}
use Rattle.cluster_state.specs.JoinCheck.{is_empty}
use Rattle.cluster_state.specs.States.{id_of}
use Rattle.cluster_state.specs.declared.state.ClusterState.{ClusterState}
use Rattle.cluster_state.specs.declared.state.Kept.{Kept}
use Rattle.node_tool.specs.declared.error.ToolError.{ToolError}
use Rattle.node_tool.specs.declared.error.ToolError.TheVariants.{NoState, Exhausted}
use Rattle.node_tool.specs.declared.tool.Tool.{Tool}
use Rattle.node_tool.specs.declared.tool.Tool.TheVariants.{UnsafeBootstrap, DetachCluster}

-- ---- what they make

-- The state with which a node goes on alone: the next one after its own, in its term, with itself as the only voter and the only
-- member. The settings stay.
abbrev pub state_alone : Id → Kept → ClusterState
state_alone id kept = record {
  term = kept.term;
  version = kept.accepted.version + 1;
  parent = Some (id_of kept.accepted);
  config = id ∷ [];
  committed = id ∷ [];
  value = record { master = None; members = id ∷ []; exclusions = []; settings = kept.accepted.value.settings };
}

-- what it keeps then
abbrev pub record_alone : Id → Kept → Kept
record_alone id kept = record { term = kept.term; accepted = state_alone id kept; committed = id ∷ [] }

-- what a node keeps that has left its cluster: its term, and no state
abbrev pub record_detached : Kept → Kept
record_detached kept = record { term = kept.term; accepted = empty_state; committed = [] }

-- ---- what they refuse

-- the first cause, where there is one: there is no state
abbrev pub detach_refusal : Kept → Option ToolError
detach_refusal kept = if is_empty kept.accepted.config then Some NoState else None

-- or no version comes after that of the state
abbrev pub alone_refusal : Kept → Option ToolError
alone_refusal kept =
    if is_empty kept.accepted.config then Some NoState
    else if kept.accepted.version == last_number then Some (Exhausted kept.accepted.version)
    else None

-- ---- by the tool

abbrev pub state_by : Tool → Kept → ClusterState
state_by (UnsafeBootstrap id) kept = state_alone id kept
state_by DetachCluster kept = empty_state

abbrev pub made_by : Tool → Kept → Kept
made_by (UnsafeBootstrap id) kept = record_alone id kept
made_by DetachCluster kept = record_detached kept

abbrev pub refusal_of : Tool → Kept → Option ToolError
refusal_of (UnsafeBootstrap id) kept = alone_refusal kept
refusal_of DetachCluster kept = detach_refusal kept
