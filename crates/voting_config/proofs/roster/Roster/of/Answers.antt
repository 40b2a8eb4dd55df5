use Rattle.std.proofs.Common.{rules, ◌≡◌}
use Rattle.voting_config.proofs.Words.{IsRoster-from_set}
use Rattle.voting_config.proofs.roster.Roster.of.Goals as goal

pub invariant_of-roster : goal.invariant_of-roster
invariant_of-roster c =
    let same : c.try_extend_from_slice.new.self.items ≡ c.args.ids.now = search rules in
    rw same (IsRoster-from_set c.args.ids.now c.as_slice.ensures.is_set)

pub returns-clause-is_roster : goal.returns-clause-is_roster
returns-clause-is_roster c =
    let same : c.try_extend_from_slice.new.self.items ≡ c.args.ids.now = search rules in
    rw same (IsRoster-from_set c.args.ids.now c.as_slice.ensures.is_set)
