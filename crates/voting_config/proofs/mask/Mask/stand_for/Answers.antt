use Rattle.std.proofs.Common.{◌≡◌, ap, sym, ◌∙◌}
use Rattle.voting_config.specs.Rosters.{mask_of}
use Rattle.voting_config.proofs.Sets.{same_config_is}
use Rattle.voting_config.proofs.mask.Mask.stand_for.Goals as goal

pub returns-else-not-are_same : goal.returns-else-not-are_same
returns-else-not-are_same c =
    let same : c.args.self.now.config ≡ c.args.config.now = same_config_is _ _ (rw c.as_slice.ensures.value at (sym c.are_same.ensures ∙ c.if-not-are_same.false)) in
    let word : c.args.self.now.word ≡ mask_of c.args.roster.now c.args.config.now = c.requires.word ∙ ap (mask_of c.args.roster.now) same in
    λ i. record { config = same i; word = word i }
