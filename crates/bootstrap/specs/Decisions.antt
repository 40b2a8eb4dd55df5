-- Part of the statement: whether a node takes the initial configuration.
use Rattle.std.specs.Prelude.{Bool, not, ◌&&◌, Option, None, Some, List, if◌then◌else◌}
use Rattle.voting_config.specs.Ids.{Id, has, with_id, is_quorum_of}

-- all names, where the node has no configuration yet, is one of the named, and with those that it knows is a quorum of the names
abbrev pub decision_of : List Id → List Id → Id → Bool → Option (List Id)
decision_of names known me has_config =
    if not has_config && has me names && is_quorum_of names (with_id me known)
    then Some names
    else None
