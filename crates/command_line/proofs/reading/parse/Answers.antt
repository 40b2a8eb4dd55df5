use Rattle.std.proofs.Common.{◌≡◌, true, map, string_bytes}
use Rattle.clap.specs.Words.{app_of, subcommand_rows_of}
use Rattle.command_line.proofs.Answering.{parsed_ok, parsed_err}
use Rattle.command_line.proofs.reading.parse.Goals as goal

pub returns-in-Ok-try_get_matches_from : goal.returns-in-Ok-try_get_matches_from
returns-in-Ok-try_get_matches_from c =
    parsed_ok (app_of c.in-Ok.command) (map (λ s. string_bytes s) c.args.words.now) _ (subcommand_rows_of c.in-Ok-try_get_matches_from.matches) c.in-Ok.ensures c.in-Ok-try_get_matches_from.ensures.kinds c.in-Ok-try_get_matches_from.ensures.matches

pub returns : goal.returns
returns c =
    parsed_err (app_of c.in-Ok.command) (map (λ s. string_bytes s) c.args.words.now) c.in-Err.e c.in-Ok.ensures c.in-Err.ensures.kinds (λ m. let t : c.is_memory.result ≡ true = c.is_memory.ensures.1 m in absurd (cc))
