-- For the contracts inside: the state that a list of one holds.
use Rattle.std.specs.Prelude.{None, List, [], ◌∷◌}
use Rattle.cluster_state.specs.declared.state.ClusterState.{ClusterState}

-- A list of none, which is never asked for, stands for the empty state.
abbrev pub first_of : List ClusterState → ClusterState
first_of [] = record {
  term = 0;
  version = 0;
  parent = None;
  config = [];
  committed = [];
  value = record { master = None; members = []; exclusions = []; settings = [] };
}
first_of (state ∷ more) = state
