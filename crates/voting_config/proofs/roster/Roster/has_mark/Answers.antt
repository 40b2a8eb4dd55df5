use Rattle.std.proofs.Common.{◌∙◌, sym}
use Rattle.voting_config.proofs.Rosters.{marked_at, marked_none}
use Rattle.voting_config.proofs.roster.Roster.has_mark.Goals as goal

pub returns-in-None : goal.returns-in-None
returns-in-None c = marked_none c.args.id c.args.self.now c.args.word c.place.ensures.distinct (sym c.place.ensures.value ∙ c.in-None.is)

pub returns-in-Some : goal.returns-in-Some
returns-in-Some c =
    c.has_bit.ensures ∙ marked_at c.args.id c.args.self.now c.args.word c.in-Some.place c.place.ensures.distinct (sym c.place.ensures.value ∙ c.in-Some.is)
