-- Lists of calls, what happened by them, and whom a tick then drops.
use Rattle.std.proofs.Common.{◌≡◌, true, false, [], ◌∷◌, refl}
use Rattle.voting_config.specs.Ids.{Id}
use Rattle.fault_checks.specs.Happenings.{Began, Sent, SaidYes, SaidNo, TimedOut, last_three_failed}
use Rattle.fault_checks.specs.Followers.{Calls, Started, Then, Watched, Answered, Ticked, no_state, followers_of, to_ask, to_drop_for_checks}
use Rattle.fault_checks.specs.Leaders.{LeaderCalls, LeaderStarted, LeaderThen, LeaderAnswered, LeaderTicked}
use Rattle.fault_checks.specs.Laws.{happened_to, happened_to_leader}

abbrev b : Id
b = 98 ∷ []

-- refused once, and an answer that no check is outstanding for
abbrev refused : Calls
refused =
    Then (Then (Then (Then Started (Watched (b ∷ []) 0)) (Ticked 1000)) (Answered b false no_state 1200)) (Answered b true no_state 1300)

refused-happened : happened_to refused b ≡ SaidNo 1200 ∷ Sent 1000 ∷ Began 0 ∷ []
refused-happened = refl

-- then a check that is not answered in time
abbrev unanswered : Calls
unanswered = Then (Then (Then refused (Ticked 2199)) (Ticked 2200)) (Ticked 12200)

unanswered-happened : happened_to unanswered b ≡ TimedOut 12200 ∷ Sent 2200 ∷ SaidNo 1200 ∷ Sent 1000 ∷ Began 0 ∷ []
unanswered-happened = refl

-- two failures are not enough; with a third, which the tick finds, the follower is dropped
twice-asked : to_ask (followers_of unanswered).watched 13200 ≡ b ∷ []
twice-asked = refl

twice-kept : to_drop_for_checks (followers_of unanswered).watched 13200 ≡ []
twice-kept = refl

abbrev third : Calls
third = Then unanswered (Ticked 13200)

third-dropped : to_drop_for_checks (followers_of third).watched 23200 ≡ b ∷ []
third-dropped = refl

third-failed : last_three_failed (happened_to (Then third (Ticked 23200)) b) ≡ true
third-failed = refl

-- an answer yes in between
abbrev recovered : Calls
recovered = Then (Then (Then third (Answered b true no_state 13300)) (Ticked 14300)) (Answered b false no_state 14300)

recovered-kept : last_three_failed (happened_to recovered b) ≡ false
recovered-kept = refl

-- who is no member for a while becomes watched anew
abbrev anew : Calls
anew = Then (Then unanswered (Watched [] 12300)) (Watched (b ∷ []) 12400)

anew-happened : happened_to anew b ≡ Began 12400 ∷ []
anew-happened = refl

abbrev leader_calls : LeaderCalls
leader_calls = LeaderThen (LeaderThen (LeaderStarted b 5) (LeaderTicked 1004)) (LeaderTicked 1005)

leader-happened : happened_to_leader (LeaderThen leader_calls (LeaderAnswered true 1006)) ≡ SaidYes 1006 ∷ Sent 1005 ∷ Began 5 ∷ []
leader-happened = refl
