use Rattle.schedule_generator.proofs.Spelling.{all_spelled}
use Rattle.schedule_generator.proofs.laws.law_generated_is_spelled.Goals as goal

pub returns : goal.returns
returns c = all_spelled
