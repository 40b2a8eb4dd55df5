-- Part of the statement: a round of pre-votes as it stands.
use Rattle.std.specs.Prelude.{ℕ, ◌+◌, max, Bool, ◌&&◌, ◌||◌, List, [], ◌∷◌, length, nat_lt, if◌then◌else◌}
use Rattle.voting_config.specs.Ids.{Id, has, with_id, without_id, is_quorum_of, most_ids}
use Rattle.cluster_state.specs.declared.state.StateId.{StateId}
use Rattle.pre_vote.specs.declared.rounds.Added.{Added}
use Rattle.pre_vote.specs.declared.rounds.Added.TheVariants.{Counted, Fresher, Quorum}
use Rattle.cluster_state.specs.StateIds.{is_fresher}
use Rattle.pre_vote.specs.Calls.{Calls, node_of, last_of, greatest_term, is_vote, voters_of, others_of}

-- what the calls so far give
pub record Round : Type 0 where
  pub me : Id
  pub last : StateId
  pub greatest : ℕ
  pub voters : List Id
  pub others : List Id

abbrev pub round_of : Calls → Round
round_of calls =
    record {
      me = node_of calls;
      last = last_of calls;
      greatest = greatest_term calls;
      voters = voters_of calls;
      others = others_of calls;
    }

-- a round in which nobody has answered
abbrev pub started : Id → StateId → ℕ → Round
started me last term = record { me = me; last = last; greatest = term; voters = me ∷ []; others = [] }

-- the round with one more answer
abbrev pub answered : Round → Id → ℕ → StateId → Round
answered round source term last =
    let vote = is_vote round.me round.last source last in
    record {
      me = round.me;
      last = round.last;
      greatest = max term round.greatest;
      voters = (if vote then with_id source round.voters else without_id source round.voters);
      others = (if vote then without_id source round.others else with_id source round.others);
    }

-- the source is the node or has answered, or there is room for one more
abbrev pub fits : Id → Round → Bool
fits source round = has source round.voters || has source round.others || nat_lt (length round.voters + length round.others) most_ids

-- the voters are an election quorum
abbrev pub is_elected : Round → List Id → List Id → Bool
is_elected round committed accepted = is_quorum_of committed round.voters && is_quorum_of accepted round.voters

-- what an answer with this accepted id brings about, the round being with it
abbrev pub added_of : Round → StateId → List Id → List Id → Added
added_of round last committed accepted =
    if is_fresher last round.last then Fresher
    else if is_elected round committed accepted then Quorum (round.greatest + 1)
    else Counted
