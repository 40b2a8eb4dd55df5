-- Part of the statement: a publication of the leader, by the calls so far.
use Rattle.std.specs.Prelude.{◌≡◌, ℕ, Bool, true, false, not, ◌||◌, List, [], filter, if◌then◌else◌}
use Rattle.voting_config.specs.Ids.{Id, same, with_room, without_id}
use Rattle.cluster_state.specs.declared.state.StateId.{StateId}
use Rattle.election_clock.specs.Delays.{has_passed}
use Rattle.publication.specs.declared.Stage.{Stage}
use Rattle.publication.specs.declared.Stage.TheVariants.{Running, Failed, Done}

-- what comes to a publication after its start
pub data Call : Type 0 where
  Responded : (source : Id) → Call
  CommitSent : Call
  Finished : Call
  Applied : (source : Id) → Call

-- the start, and the calls since, the newest last
pub data Calls : Type 0 where
  Started : (id : StateId) → (targets : List Id) → (now : ℕ) → Calls
  Then : (calls : Calls) → (call : Call) → Calls

-- the published state, the nodes that it goes to, and the moment of the start
abbrev pub id_of : Calls → StateId
id_of (Started id targets now) = id
id_of (Then calls call) = id_of calls

abbrev pub targets_of : Calls → List Id
targets_of (Started id targets now) = targets
targets_of (Then calls call) = targets_of calls

abbrev pub start_of : Calls → ℕ
start_of (Started id targets now) = now
start_of (Then calls call) = start_of calls

-- who has responded: the first 64 of them
abbrev pub responders_of : Calls → List Id
responders_of (Started id targets now) = []
responders_of (Then calls (Responded source)) = with_room (responders_of calls) source
responders_of (Then calls call) = responders_of calls

-- whether its commit was sent
abbrev pub was_commit_sent : Calls → Bool
was_commit_sent (Started id targets now) = false
was_commit_sent (Then calls CommitSent) = true
was_commit_sent (Then calls call) = was_commit_sent calls

-- whether it is finished
abbrev pub was_finished : Calls → Bool
was_finished (Started id targets now) = false
was_finished (Then calls Finished) = true
was_finished (Then calls call) = was_finished calls

-- whether a node has applied the state
abbrev pub has_applied : Calls → Id → Bool
has_applied (Started id targets now) node = false
has_applied (Then calls (Applied source)) node = same node source || has_applied calls node
has_applied (Then calls call) node = has_applied calls node

-- the targets that have not applied it
abbrev pub laggards_of : Calls → List Id
laggards_of calls = filter (λ node. not (has_applied calls node)) (targets_of calls)

-- all of this
pub record Publication : Type 0 where
  pub id : StateId
  pub targets : List Id
  pub started : ℕ
  pub responders : List Id
  pub commit_sent : Bool
  pub finished : Bool
  pub laggards : List Id

abbrev pub publication_of : Calls → Publication
publication_of calls = record {
  id = id_of calls;
  targets = targets_of calls;
  started = start_of calls;
  responders = responders_of calls;
  commit_sent = was_commit_sent calls;
  finished = was_finished calls;
  laggards = laggards_of calls;
}

-- it stands for these calls
abbrev pub StandsFor : Publication → Calls → Type 0
StandsFor p calls = p ≡ publication_of calls

-- what one more call makes of it
abbrev pub after : Publication → Call → Publication
after p (Responded source) = record p { responders = with_room p.responders source }
after p CommitSent = record p { commit_sent = true }
after p Finished = record p { finished = true }
after p (Applied source) = record p { laggards = without_id source p.laggards }

-- how long it may take until it is finished, in ms
abbrev pub publish_timeout : ℕ
publish_timeout = 30000

-- done where it is finished, failed where it is not finished in time
abbrev pub stage_of : Publication → ℕ → Stage
stage_of p now =
    if p.finished then Done p.laggards
    else if has_passed p.started publish_timeout now then Failed
    else Running
