-- For the contracts inside: whom the checks lose, by what happened in them.
use Rattle.std.specs.Prelude.{◌≡◌, ℕ, not, ◌&&◌, List, [], ◌∷◌, if◌then◌else◌}
use Rattle.voting_config.specs.Ids.{Id, has, same}
use Rattle.fault_checks.specs.declared.leader.LeaderTick.TheVariants.{Quiet, Ask, Lost}
use Rattle.fault_checks.specs.Happenings.{Happening, Began, last_three_failed, sends, with_tick, with_answer}
use Rattle.fault_checks.specs.Followers.{Calls, Started, Then, Watched, Answered, Ticked, members_of, behind_of, followers_of, is_late, to_ask, to_drop_for_checks}
use Rattle.fault_checks.specs.Leaders.{LeaderCalls, LeaderStarted, LeaderThen, LeaderAnswered, LeaderTicked, leader_check_of, leader_tick}

-- what happened in the checks of a follower since it became watched
abbrev pub happened_to : Calls → Id → List Happening
happened_to Started id = Began 0 ∷ []
happened_to (Then calls (Watched members now)) id = if has id (members_of calls) then happened_to calls id else Began now ∷ []
happened_to (Then calls (Answered from good applied now)) id =
    if same id from then with_answer (happened_to calls id) good now else happened_to calls id
happened_to (Then calls (Ticked now)) id = with_tick (happened_to calls id) now
happened_to (Then calls call) id = happened_to calls id

-- what happened in the checks of the leader
abbrev pub happened_to_leader : LeaderCalls → List Happening
happened_to_leader (LeaderStarted leader now) = Began now ∷ []
happened_to_leader (LeaderThen calls (LeaderAnswered good now)) = with_answer (happened_to_leader calls) good now
happened_to_leader (LeaderThen calls (LeaderTicked now)) = with_tick (happened_to_leader calls) now

-- a tick drops a follower for its checks exactly where it is watched and the last three outcomes of its checks, with this tick's own, are
-- failures
abbrev pub LawDropped : Type 0
LawDropped =
    (calls : Calls) (now : ℕ) (id : Id)
    → has id (to_drop_for_checks (followers_of calls).watched now)
    ≡ (has id (members_of calls) && last_three_failed (happened_to (Then calls (Ticked now)) id))

-- a tick asks a follower exactly where it is watched, is not late with a state, and a check is due
abbrev pub LawAsked : Type 0
LawAsked =
    (calls : Calls) (now : ℕ) (id : Id)
    → has id (to_ask (followers_of calls).watched now)
    ≡ (has id (members_of calls) && not (is_late (behind_of calls id) now) && sends (happened_to calls id) now)

-- a tick finds the leader lost exactly where the last three outcomes of its checks, with this tick's own, are failures, and else asks it
-- where a check is due
abbrev pub LawLeaderLost : Type 0
LawLeaderLost =
    (calls : LeaderCalls) (now : ℕ)
    → leader_tick (leader_check_of calls) now
    ≡ (if last_three_failed (happened_to_leader (LeaderThen calls (LeaderTicked now))) then Lost
    else if sends (happened_to_leader calls) now then Ask
    else Quiet)
