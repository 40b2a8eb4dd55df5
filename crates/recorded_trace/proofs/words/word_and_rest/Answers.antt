use Rattle.std.proofs.Common.{◌∷◌, ap, ◌∙◌}
use Rattle.voting_config.specs.Lists.{parts_in}
use Rattle.schedule_text.specs.Lines.{word_and_rest}
use Rattle.schedule_text.proofs.LineLaws.{rest_is}
use Rattle.recorded_trace.proofs.words.word_and_rest.Goals as goal

pub returns : goal.returns
returns c =
    ap (λ r. word_and_rest (parts_in 32 r)) c.in-Some.is
    ∙ ap word_and_rest (c.cut.ensures.parts ∙ ap (λ r. c.cut.result.0.now ∷ parts_in 32 r) c.in-Some-rest.is)
    ∙ rest_is _ _
