-- Part of the statement: the members of the next state.
use Rattle.std.specs.Prelude.{List, fold, if◌then◌else◌}
use Rattle.voting_config.specs.Ids.{Id, has, without_id, outside, with_room}
use Rattle.master_tasks.specs.Queue.{Tasks}

-- the ids with these more as far as there is room, the node itself first and then by id
abbrev pub joined : Id → List Id → List Id → List Id
joined me additions members = fold with_room (if has me additions then with_room members me else members) additions

-- removals go, but never the node itself; then additions come
abbrev pub members_after : Id → Tasks → List Id → List Id
members_after me t members = joined me t.additions (outside members (without_id me t.removals))
