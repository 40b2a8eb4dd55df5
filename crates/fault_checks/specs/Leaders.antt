-- Part of the statement: whether the leader answers, by the calls so far.
use Rattle.std.specs.Prelude.{◌≡◌, ℕ, Bool, if◌then◌else◌}
use Rattle.voting_config.specs.Ids.{Id}
use Rattle.fault_checks.specs.declared.checking.Check.{Check}
use Rattle.fault_checks.specs.declared.leader.LeaderTick.{LeaderTick}
use Rattle.fault_checks.specs.declared.leader.LeaderTick.TheVariants.{Quiet, Ask, Lost}
use Rattle.fault_checks.specs.Checks.{unchecked, answered_at, ticked_at, fails, asks}

-- what comes to a leader check after its start
pub data LeaderCall : Type 0 where
  LeaderAnswered : (good : Bool) → (now : ℕ) → LeaderCall
  LeaderTicked : (now : ℕ) → LeaderCall

-- the start, and the calls since, the newest last
pub data LeaderCalls : Type 0 where
  LeaderStarted : (leader : Id) → (now : ℕ) → LeaderCalls
  LeaderThen : (calls : LeaderCalls) → (call : LeaderCall) → LeaderCalls

-- the leader
abbrev pub leader_of : LeaderCalls → Id
leader_of (LeaderStarted leader now) = leader
leader_of (LeaderThen calls call) = leader_of calls

-- its checks
abbrev pub check_of : LeaderCalls → Check
check_of (LeaderStarted leader now) = unchecked now
check_of (LeaderThen calls (LeaderAnswered good now)) = answered_at (check_of calls) good now
check_of (LeaderThen calls (LeaderTicked now)) = ticked_at (check_of calls) now

-- both
pub record LeaderCheck : Type 0 where
  pub leader : Id
  pub check : Check

abbrev pub leader_check_of : LeaderCalls → LeaderCheck
leader_check_of calls = record { leader = leader_of calls; check = check_of calls }

-- it stands for these calls
abbrev pub StandsForLeader : LeaderCheck → LeaderCalls → Type 0
StandsForLeader c calls = c ≡ leader_check_of calls

-- what one more call makes of it
abbrev pub after_leader : LeaderCheck → LeaderCall → LeaderCheck
after_leader c (LeaderAnswered good now) = record c { check = answered_at c.check good now }
after_leader c (LeaderTicked now) = record c { check = ticked_at c.check now }

-- what a tick answers
abbrev pub leader_tick : LeaderCheck → ℕ → LeaderTick
leader_tick c now =
    if fails c.check now then Lost
    else if asks c.check now then Ask
    else Quiet
