-- Part of the statement: whether the followers answer and keep up, by the calls so far.
use Rattle.std.specs.Prelude.{◌≡◌, ℕ, Bool, true, false, not, ◌&&◌, Option, None, Some, List, [], ◌∷◌, map, filter, if◌then◌else◌, is_none}
use Rattle.voting_config.specs.Ids.{Id, has, same, without_id}
use Rattle.cluster_state.specs.declared.state.StateId.{StateId}
use Rattle.cluster_state.specs.StateIds.{is_reached, is_same_state}
use Rattle.election_clock.specs.Delays.{has_passed}
use Rattle.fault_checks.specs.declared.followers.Behind.{Behind}
use Rattle.fault_checks.specs.declared.followers.Follower.{Follower}
use Rattle.fault_checks.specs.declared.checking.Check.{Check}
use Rattle.fault_checks.specs.Checks.{unchecked, answered_at, ticked_at, fails, asks}
use Rattle.fault_checks.specs.Spans.{follower_lag_timeout}

-- what comes to the follower checks after their start
pub data Call : Type 0 where
  -- these are the members now
  Watched : (members : List Id) → (now : ℕ) → Call
  -- a state is finished
  Finished : (state : StateId) → (now : ℕ) → Call
  -- a follower answered, with the state that it has applied
  Answered : (from : Id) → (good : Bool) → (applied : StateId) → (now : ℕ) → Call
  Ticked : (now : ℕ) → Call
  -- the connection to a follower ended
  Disconnected : (id : Id) → Call

-- the start, and the calls since, the newest last
pub data Calls : Type 0 where
  Started : Calls
  Then : (calls : Calls) → (call : Call) → Calls

-- before any state
abbrev pub no_state : StateId
no_state = record { term = 0; version = 0 }

-- a new follower
abbrev pub new_follower : Id → ℕ → Follower
new_follower id now = record { id = id; check = unchecked now; applied = no_state; behind = None }

-- the follower with this id among those watched, or a new one
abbrev pub watched_or_new : List Follower → Id → ℕ → Follower
watched_or_new [] id now = new_follower id now
watched_or_new (f ∷ fs) id now = if same f.id id then f else watched_or_new fs id now

-- who has not applied a finished state falls behind it, now, unless it is behind one already
abbrev pub fallen_behind : Option Behind → StateId → StateId → ℕ → Option Behind
fallen_behind (Some behind) applied state now = Some behind
fallen_behind None applied state now = if is_reached state applied then None else Some (record { state = state; since = now })

-- a state is finished once: told again that the last one is finished, nobody falls behind it
abbrev pub behind_finished : Option Behind → StateId → StateId → StateId → ℕ → Option Behind
behind_finished behind applied last state now = if is_same_state state last then behind else fallen_behind behind applied state now

-- an answer that reaches the state that a follower is behind ends that; where it is still under the last finished state, it falls behind
-- that one, now
abbrev pub behind_after : Option Behind → StateId → StateId → ℕ → Option Behind
behind_after None applied finished now = None
behind_after (Some behind) applied finished now =
    if is_reached behind.state applied then fallen_behind None applied finished now else Some behind

-- a follower's answer; with no check outstanding it does nothing
abbrev pub answered_by : Follower → StateId → Bool → StateId → ℕ → Follower
answered_by f finished good applied now =
    if is_none f.check.asked then f
    else record f { check = answered_at f.check good now; applied = applied; behind = behind_after f.behind applied finished now }

-- an answer of one among the followers
abbrev pub answered_from : Follower → Id → StateId → Bool → StateId → ℕ → Follower
answered_from f from finished good applied now = if same f.id from then answered_by f finished good applied now else f

-- whether a follower has been behind for too long
abbrev pub is_late : Option Behind → ℕ → Bool
is_late None now = false
is_late (Some behind) now = has_passed behind.since follower_lag_timeout now

-- a tick keeps a follower that it drops neither for its checks nor for its lag
abbrev pub is_kept : Check → Option Behind → ℕ → Bool
is_kept check behind now = not (fails check now) && not (is_late behind now)

-- why a tick drops a follower: its checks, or else its lag
abbrev pub drops_for_checks : Follower → ℕ → Bool
drops_for_checks f now = fails f.check now

abbrev pub drops_for_lag : Follower → ℕ → Bool
drops_for_lag f now = not (drops_for_checks f now) && is_late f.behind now

abbrev pub stays : Follower → ℕ → Bool
stays f now = is_kept f.check f.behind now

-- the followers that stay after a tick
abbrev pub stayed : List Follower → ℕ → List Follower
stayed fs now = map (λ (f : Follower). record f { check = ticked_at f.check now }) (filter (λ (f : Follower). stays f now) fs)

-- the other followers
abbrev pub others_of : List Follower → Id → List Follower
others_of fs id = filter (λ (f : Follower). not (same f.id id)) fs

-- whom a tick asks
abbrev pub is_asked : Follower → ℕ → Bool
is_asked f now = stays f now && asks f.check now

-- the last finished state
abbrev pub finished_of : Calls → StateId
finished_of Started = no_state
finished_of (Then calls (Finished state now)) = state
finished_of (Then calls call) = finished_of calls

abbrev mutual
  -- the followers that are watched: the members last named, without those that a tick dropped or whose connection ended since
  pub members_of : Calls → List Id
  members_of Started = []
  members_of (Then calls (Watched members now)) = members
  members_of (Then calls (Ticked now)) = filter (λ id. is_kept (check_of calls id) (behind_of calls id) now) (members_of calls)
  members_of (Then calls (Disconnected id)) = without_id id (members_of calls)
  members_of (Then calls call) = members_of calls

  -- the checks of a follower since it became watched
  pub check_of : Calls → Id → Check
  check_of Started id = unchecked 0
  check_of (Then calls (Watched members now)) id = if has id (members_of calls) then check_of calls id else unchecked now
  check_of (Then calls (Answered from good applied now)) id = if same id from then answered_at (check_of calls id) good now
      else check_of calls id
  check_of (Then calls (Ticked now)) id = ticked_at (check_of calls id) now
  check_of (Then calls call) id = check_of calls id

  -- the state that it has applied, by its last answer to a check that was outstanding
  pub applied_of : Calls → Id → StateId
  applied_of Started id = no_state
  applied_of (Then calls (Watched members now)) id = if has id (members_of calls) then applied_of calls id else no_state
  applied_of (Then calls (Answered from good applied now)) id = if same id from
      && not (is_none (check_of calls id).asked) then applied else applied_of calls id
  applied_of (Then calls call) id = applied_of calls id

  -- the finished state that it is behind, and since when
  pub behind_of : Calls → Id → Option Behind
  behind_of Started id = None
  behind_of (Then calls (Watched members now)) id = if has id (members_of calls) then behind_of calls id else None
  behind_of (Then calls (Finished state now)) id = behind_finished (behind_of calls id) (applied_of calls id) (finished_of calls) state now
  behind_of (Then calls (Answered from good applied now)) id = if same id from
      && not (is_none (check_of calls id).asked) then behind_after (behind_of calls id) applied (finished_of calls) now
      else behind_of calls id
  behind_of (Then calls call) id = behind_of calls id

abbrev pub follower_of : Calls → Id → Follower
follower_of calls id = record { id = id; check = check_of calls id; applied = applied_of calls id; behind = behind_of calls id }

-- the last finished state, and the followers that are watched
pub record Followers : Type 0 where
  pub finished : StateId
  pub watched : List Follower

abbrev pub followers_of : Calls → Followers
followers_of calls = record { finished = finished_of calls; watched = map (λ id. follower_of calls id) (members_of calls) }

-- they stand for these calls
abbrev pub StandsFor : Followers → Calls → Type 0
StandsFor fs calls = fs ≡ followers_of calls

-- what one more call makes of them
abbrev pub after : Followers → Call → Followers
after fs (Watched members now) = record fs { watched = map (λ id. watched_or_new fs.watched id now) members }
after fs (Finished state now) =
    record {
      finished = state;
      watched = map (λ (f : Follower). record f { behind = behind_finished f.behind f.applied fs.finished state now }) fs.watched;
    }
after fs (Answered from good applied now) =
    record fs { watched = map (λ (f : Follower). answered_from f from fs.finished good applied now) fs.watched }
after fs (Ticked now) = record fs { watched = stayed fs.watched now }
after fs (Disconnected id) = record fs { watched = others_of fs.watched id }

-- the ids of some followers
abbrev pub ids_of : List Follower → List Id
ids_of fs = map (λ (f : Follower). f.id) fs

-- what a tick answers: whom to ask, and whom to drop
abbrev pub to_ask : List Follower → ℕ → List Id
to_ask fs now = ids_of (filter (λ (f : Follower). is_asked f now) fs)

abbrev pub to_drop_for_checks : List Follower → ℕ → List Id
to_drop_for_checks fs now = ids_of (filter (λ (f : Follower). drops_for_checks f now) fs)

abbrev pub to_drop_for_lag : List Follower → ℕ → List Id
to_drop_for_lag fs now = ids_of (filter (λ (f : Follower). drops_for_lag f now) fs)

-- no id is in both
abbrev pub AreApart : List Id → List Id → Type 0
AreApart xs ys = (id : Id) → has id xs ≡ true → has id ys ≡ false
