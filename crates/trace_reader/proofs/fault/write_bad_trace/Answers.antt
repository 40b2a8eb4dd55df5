use Rattle.std.proofs.Common.{decimal}
use Rattle.schedule_text.specs.Printed.{reason_text}
use Rattle.text.proofs.Written.{three_written}
use Rattle.trace_reader.proofs.fault.write_bad_trace.Goals as goal

pub returns : goal.returns
returns c =
    three_written c.write_reason.result c.args.text.now c.word.new.self c.write_line_number.new.text c.write_reason.new.text _ (decimal c.args.bad.now.line) (reason_text c.args.bad.now.why)
    c.in_ok-word.ensures c.in_ok-write_line_number.ensures c.write_reason.ensures
