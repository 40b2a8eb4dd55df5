-- Part of the statement: when two values are the same.
use Rattle.std.specs.Prelude.{Bool, true, false, ◌&&◌, Option, Some, None}
use Rattle.voting_config.specs.Ids.{Id, same, same_config}
use Rattle.cluster_state.specs.declared.state.ClusterValue.{ClusterValue}
use Rattle.cluster_state.specs.Settings.{same_settings}

-- whether two masters are the same
abbrev pub same_master : Option Id → Option Id → Bool
same_master None None = true
same_master None (Some y) = false
same_master (Some x) None = false
same_master (Some x) (Some y) = same x y

-- whether two values are the same
abbrev pub same_value : ClusterValue → ClusterValue → Bool
same_value v w =
    same_master v.master w.master && same_config v.members w.members && same_config v.exclusions w.exclusions
    && same_settings v.settings w.settings
