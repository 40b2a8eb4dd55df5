-- Part of the statement: what a node begins with.
use Rattle.std.specs.Prelude.{None, List, []}
use Rattle.voting_config.specs.Ids.{Id}
use Rattle.cluster_state.specs.declared.state.ClusterState.{ClusterState}
use Rattle.cluster_state.specs.declared.state.ClusterValue.{ClusterValue}
use Rattle.cluster_state.specs.declared.state.Kept.{Kept}

abbrev pub empty_value : ClusterValue
empty_value = record { master = None; members = []; exclusions = []; settings = [] }

-- the state that a bootstrap with this configuration makes the accepted one
abbrev pub initial_state : List Id → ClusterState
initial_state config = record { term = 0; version = 0; parent = None; config = config; committed = config; value = empty_value }

abbrev pub empty_state : ClusterState
empty_state = initial_state []

-- what a node keeps that has done nothing yet
abbrev pub empty_record : Kept
empty_record = record { term = 0; accepted = empty_state; committed = [] }
