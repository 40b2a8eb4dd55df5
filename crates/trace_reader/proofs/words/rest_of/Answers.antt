use Rattle.std.proofs.Common.{ap, ◌∙◌}
use Rattle.voting_config.specs.Lists.{parts_in}
use Rattle.trace_reader.specs.Reading.{rest_of}
use Rattle.trace_reader.proofs.Rests.{rest_again}
use Rattle.trace_reader.proofs.words.rest_of.Goals as goal

pub returns : goal.returns
returns c = ap (λ r. rest_of (parts_in 32 r)) c.in-Some.is ∙ rest_again _
