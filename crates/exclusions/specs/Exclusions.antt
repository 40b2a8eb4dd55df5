-- Part of the statement: which nodes are not to vote.
use Rattle.std.specs.Prelude.{ℕ, Bool, not, ◌||◌, Option, None, Some, Result, Ok, Err, List, find, nat_lt, if◌then◌else◌}
use Rattle.voting_config.specs.Ids.{Id, has, union_count_of, union}
use Rattle.exclusions.specs.declared.AddError.{AddError}
use Rattle.exclusions.specs.declared.AddError.TheVariants.{TooMany}
use Rattle.exclusions.specs.declared.StillMember.{StillMember}

-- how many nodes may be excluded at most
abbrev pub most_exclusions : ℕ
most_exclusions = 10

-- the exclusions with those asked for, whether these are members or not
abbrev pub added_of : List Id → List Id → Result (List Id) AddError
added_of excluded asked =
    if nat_lt most_exclusions (union_count_of asked excluded)
    then Err (TooMany (union_count_of asked excluded))
    else Ok (union excluded asked)

abbrev pub unless_member : Option Id → Result (Unit {0}) StillMember
unless_member None = Ok tt
unless_member (Some id) = Err (record { 0 = id })

-- whether the exclusions may be cleared: where the client waits for the excluded to be gone, the least that is still a member forbids it
abbrev pub cleared_of : List Id → List Id → Bool → Result (Unit {0}) StillMember
cleared_of excluded members wait = if wait then unless_member (find (λ id. has id members) excluded) else Ok tt

-- whether a node may win an election: it votes, or it is not excluded
abbrev pub may_win_of : Id → List Id → List Id → List Id → Bool
may_win_of me committed accepted excluded = has me committed || has me accepted || not (has me excluded)
