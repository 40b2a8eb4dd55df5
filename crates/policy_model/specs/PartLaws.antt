-- For the contracts inside: that what a node knows of a part is what the part looks back to, from the calls that the node's log gives it.
use Rattle.std.specs.Prelude.{◌≡◌}
use Rattle.std.specs.Option.{option_map}
use Rattle.peer_finder.specs.Peers as finder
use Rattle.pre_vote.specs.Rounds as pre_vote
use Rattle.publication.specs.Publications as publication
use Rattle.fault_checks.specs.Followers as followers
use Rattle.fault_checks.specs.Leaders as leaders
use Rattle.policy_model.specs.declared.settings.Settings.{Settings}
use Rattle.policy_model.specs.Events.{Log}
use Rattle.policy_model.specs.LookBacks.{finder_of, round_of, publication_of, followers_of, leader_check_of}
use Rattle.policy_model.specs.PartCalls.{finder_calls, round_calls, publication_calls, follower_calls, leader_calls}

abbrev pub LawFinder : Type 0
LawFinder = (s : Settings) (l : Log) → finder_of s l ≡ finder.finder_of (finder_calls s l)

abbrev pub LawRound : Type 0
LawRound = (s : Settings) (l : Log) → round_of s l ≡ option_map pre_vote.round_of (round_calls s l)

abbrev pub LawPublication : Type 0
LawPublication = (l : Log) → publication_of l ≡ option_map publication.publication_of (publication_calls l)

abbrev pub LawFollowers : Type 0
LawFollowers = (s : Settings) (l : Log) → followers_of s l ≡ followers.followers_of (follower_calls s l)

abbrev pub LawLeaderCheck : Type 0
LawLeaderCheck = (l : Log) → leader_check_of l ≡ option_map leaders.leader_check_of (leader_calls l)
