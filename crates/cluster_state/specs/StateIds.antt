-- Part of the statement: the order of state ids, by their terms, then by their versions.
use Rattle.std.specs.Prelude.{Bool, true, ◌&&◌, ◌||◌, Option, None, Some, nat_le, nat_lt, nat_eq}
use Rattle.cluster_state.specs.declared.state.StateId.{StateId}

-- whether x is above y
abbrev pub is_fresher : StateId → StateId → Bool
is_fresher x y = nat_lt y.term x.term || (nat_eq y.term x.term && nat_lt y.version x.version)

-- whether a state is above its parent, where it has one
abbrev pub is_above_parent : StateId → Option StateId → Bool
is_above_parent state None = true
is_above_parent state (Some parent) = is_fresher state parent

-- whether a state is not above another one
abbrev pub is_reached : StateId → StateId → Bool
is_reached state applied = nat_lt state.term applied.term || (nat_eq state.term applied.term && nat_le state.version applied.version)

abbrev pub is_same_state : StateId → StateId → Bool
is_same_state state last = nat_eq state.term last.term && nat_eq state.version last.version
