-- What stands after a word, from its parts.
use Rattle.std.proofs.Common.{◌≡◌, ◌≢◌, ℕ, Result, Ok, List, [], ◌∷◌, refl, ap, ◌∙◌}
use Rattle.std.specs.List.{join_with_byte}
use Rattle.schedule_text.specs.declared.fault.WhyBad.{WhyBad}
use Rattle.voting_config.specs.Lists.{parts_of}
use Rattle.schedule_text.proofs.WordLaws.{join_split, parts_not_empty}
use Rattle.trace_reader.specs.Reading.{rest_of}

abbrev read : List ℕ → Result (List ℕ) WhyBad
read bytes = Ok bytes

rest_by : (parts : List (List ℕ)) → parts ≢ [] → rest_of parts ≡ read (join_with_byte 32 parts)
rest_by [] some = absurd (some refl)
rest_by (w ∷ ws) some = refl

-- all bytes stand after the space
pub rest_again : (rest : List ℕ) → rest_of (parts_of 32 rest) ≡ read rest
rest_again rest = rest_by (parts_of 32 rest) (parts_not_empty 32 rest) ∙ ap read (join_split 32 rest)
