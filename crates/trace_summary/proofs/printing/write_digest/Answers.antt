use Rattle.std.specs.Prelude.{codes}
use Rattle.text.proofs.Written.{three_written}
use Rattle.trace_summary.specs.Printed.{hex_text}
use Rattle.trace_summary.proofs.printing.write_digest.Goals as goal

pub returns : goal.returns
returns c =
    three_written c.word-2.result c.args.text.now _ _ _ (codes "trace_sha256=") (hex_text c.args.digest.now) (codes "\n")
    c.in_ok-word.ensures c.in_ok-write_hex.ensures c.word-2.ensures
