-- Part of the statement: which requests a node processed into the states that it made, and by which lines requests came.
use Rattle.std.specs.Prelude.{◌≡◌, ◌⊎◌, ℕ, Bool, Ok, List, [], ◌∷◌, ◌++◌, true, cond, if◌then◌else◌}
use Rattle.cluster_state.specs.declared.state.ClusterState.{ClusterState}
use Rattle.cluster_state.specs.declared.state.ClusterValue.{ClusterValue}
use Rattle.cluster_state.specs.declared.state.StateId.{StateId}
use Rattle.cluster_state.specs.declared.request.Request.{Request}
use Rattle.client_lines.specs.Reading.{line_request}
use Rattle.master_tasks.specs.declared.waiting.Waiting.{Waiting}
use Rattle.master_tasks.specs.Queue.{Tasks}
use Rattle.master_tasks.specs.Processing.{Processing, AnsweredAtOnce, Makes, processing_once, value_after}
use Rattle.master_tasks.specs.NextState.{Leader as NextMaster, value_before}
use Rattle.world_model.specs.NodeState.{NodeState}
use Rattle.policy_model.specs.declared.settings.Settings.{Settings}
use Rattle.policy_model.specs.declared.events.Event.{Event}
use Rattle.policy_model.specs.declared.events.Event.TheVariants.{Client as LineCame}
use Rattle.policy_model.specs.Events.{Opens, Notes, StateMade, Log, NoItems, And}
use Rattle.policy_model.specs.Entries.{Life, NotBegun, Opened, Lived, Did, log_of}
use Rattle.policy_model.specs.LookBacks.{node_of, master_of, tasks_of}

-- a request that makes a value is processed by this, unless it was before
abbrev pub processed_by_this : Waiting → Processing → List Waiting
processed_by_this w (AnsweredAtOnce answer) = []
processed_by_this w (Makes value) = if w.processed then [] else record w { processed = true } ∷ []

-- the requests that are processed now, from the first on, each on the value so far
abbrev pub processed_from : Bool → ClusterState → ClusterValue → List Waiting → List Waiting
processed_from second accepted value [] = []
processed_from second accepted value (w ∷ ws) =
    processed_by_this w (processing_once second accepted value w)
    ++ processed_from second accepted (value_after value (processing_once second accepted value w)) ws

-- those that are processed into the next state
unfoldable pub processed_into_next : NextMaster → Tasks → List Waiting
processed_into_next l t = processed_from l.policy.second l.accepted (value_before l.me t l.accepted.value) t.waiting

-- the requests that a node has processed since it was opened last, in order
abbrev pub processed_of : Settings → Log → List Waiting
processed_of s NoItems = []
processed_of s (And l (Opens found)) = []
processed_of s (And l (Notes StateMade)) = processed_of s l ++ processed_into_next (master_of s l) (tasks_of s l)
processed_of s (And l i) = processed_of s l

-- the event is a line of this connection that is read as this request
abbrev pub CameBy : Event → ℕ → Request → Type 0
CameBy (LineCame c line) conn request = (c ≡ conn) × (line_request line ≡ Ok request)
CameBy event conn request = ⊥

-- such a line came since the node was opened last
abbrev pub CameIn : Life → ℕ → Request → Type 0
CameIn NotBegun conn request = ⊥
CameIn (Opened life found) conn request = ⊥
CameIn (Lived life (Did event items)) conn request = CameBy event conn request ⊎ CameIn life conn request
CameIn (Lived life entry) conn request = CameIn life conn request

-- The id of the state that a node published last in its term. It is that of the state on which it won before it publishes one, with the new
-- term; and with version 0 where it has won no election of its term.
abbrev pub last_id : NodeState → StateId
last_id node = record { term = node.term; version = cond node.election_won node.published_version 0 }

-- such a line came since the node was opened last, and this was then the id of what it had published last
abbrev pub CameAt : Life → ℕ → Request → StateId → Type 0
CameAt NotBegun conn request newest = ⊥
CameAt (Opened life found) conn request newest = ⊥
CameAt (Lived life (Did event items)) conn request newest =
    (CameBy event conn request × (newest ≡ last_id (node_of (log_of life)))) ⊎ CameAt life conn request newest
CameAt (Lived life entry) conn request newest = CameAt life conn request newest
