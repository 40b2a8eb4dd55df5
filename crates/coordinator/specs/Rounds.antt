-- For the contracts inside: elections, and answers to an open round of pre-votes.
use Rattle.std.specs.Prelude.{ℕ, ◌+◌, Option, None, Some, List, [], ◌∷◌, if◌then◌else◌}
use Rattle.voting_config.specs.Ids.{Id}
use Rattle.cluster_state.specs.declared.state.StateId.{StateId}
use Rattle.world_model.specs.Replies.{elects}
use Rattle.pre_vote.specs.declared.rounds.Added.{Added}
use Rattle.pre_vote.specs.Rounds.{Round, answered, fits, added_of}
use Rattle.policy_model.specs.declared.settings.Settings.{Settings}
use Rattle.policy_model.specs.Events.{Item}
use Rattle.policy_model.specs.Views.{View}
use Rattle.policy_model.specs.Elections.{stands_for_election}

-- a node that is a quorum alone stands for election
abbrev pub stands_alone : Settings → View → List Item
stands_alone s v = if elects v.node (s.me ∷ []) then stands_for_election s v (v.node.term + 1) else []

-- what an answer to a round brings about, where it fits
abbrev pub counted_of : Option Round → Id → ℕ → StateId → List Id → List Id → Option Added
counted_of None p term last committed accepted = None
counted_of (Some round) p term last committed accepted = if fits p round
    then Some (added_of (answered round p term last) last committed accepted) else None

-- the round after it
abbrev pub round_after : Option Round → Id → ℕ → StateId → Option Round
round_after None p term last = None
round_after (Some round) p term last = if fits p round then Some (answered round p term last) else Some round
