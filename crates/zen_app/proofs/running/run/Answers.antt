use Rattle.std.proofs.Common.{map, string_bytes}
use Rattle.zen_app.proofs.WordBounds.{words_within}
use Rattle.zen_app.proofs.RunEnds.{ran_without_memory}
use Rattle.zen_app.proofs.running.run.Goals as goal

pub run_command-requires : goal.run_command-requires
run_command-requires g c = words_within (map (λ w. string_bytes w) c.args.words.now) c.in-Ok.command c.in-Ok.ensures

pub returns-in-Err-Memory : goal.returns-in-Err-Memory
returns-in-Err-Memory g c = ran_without_memory _ _ _ _ _ _
