-- Part of the statement: what a leader has to do: the requests that are not answered yet, in order of arrival, and the members that are to
-- go and to come.
use Rattle.std.specs.Prelude.{ℕ, Bool, false, List, [], ◌∷◌, ◌++◌, length, remove, nat_le}
use Rattle.voting_config.specs.Ids.{Id, with_room}
use Rattle.cluster_state.specs.declared.request.Request.{Request}
use Rattle.master_tasks.specs.declared.waiting.Waiting.{Waiting}

pub record Tasks : Type 0 where
  pub waiting : List Waiting
  pub removals : List Id
  pub additions : List Id

-- only these requests wait, and nobody is to come or to go
abbrev pub only : List Waiting → Tasks
only waiting = record { waiting = waiting; removals = []; additions = [] }

abbrev pub no_tasks : Tasks
no_tasks = only []

-- how many requests wait at most
abbrev pub most_open : ℕ
most_open = 64

abbrev pub is_full_of : Tasks → Bool
is_full_of t = nat_le most_open (length t.waiting)

-- a request as it arrives
abbrev pub arriving : ℕ → ℕ → Request → Waiting
arriving conn now request = record { conn = conn; arrived = now; request = request; processed = false }

-- the tasks with one more request, and without the request at a place
abbrev pub offered : Tasks → Waiting → Tasks
offered t w = record t { waiting = t.waiting ++ w ∷ [] }

abbrev pub settled : Tasks → ℕ → Tasks
settled t place = record t { waiting = remove t.waiting place }

abbrev pub to_be_added : Tasks → Id → Tasks
to_be_added t id = record t { additions = with_room t.additions id }

abbrev pub to_be_removed : Tasks → Id → Tasks
to_be_removed t id = record t { removals = with_room t.removals id }
