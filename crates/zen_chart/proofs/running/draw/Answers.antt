use Rattle.zen_chart.proofs.Endings.{cut_short, drawn, refused}
use Rattle.zen_chart.proofs.running.draw.Goals as goal

pub returns-in-Err-Bad : goal.returns-in-Err-Bad
returns-in-Err-Bad g c =
    refused _ _ _ _ c.read_input.ensures.at_most c.read_input.ensures.later c.refuse.ensures.later c.as_slice.result.now (rw c.as_slice.ensures.value c.in-Ok.ensures.read)
    c.refuse.result c.in-Err-Bad.bad (rw c.in-Err-Bad.field-0-is at c.in-Err-Bad.ensures) c.refuse.ensures

pub returns-in_default : goal.returns-in_default
returns-in_default g c =
    cut_short _ _ _ _ c.read_input.ensures.at_most c.read_input.ensures.later c.write_all.ensures.cause.later c.as_slice.result.now (rw c.as_slice.ensures.value c.in-Ok.ensures.read)
    c.in-Ok-draw_trace.ensures.0 c.as_bytes.result.now c.in-Ok-draw_trace.ensures.1 (rw c.as_bytes.ensures c.in-Ok-draw_trace.ensures.2) c.in_default.ensures.writes c.in_default.ensures.cause.rose

pub returns : goal.returns
returns g c =
    drawn _ _ _ _ c.read_input.ensures.at_most c.read_input.ensures.later c.write_all.ensures.cause.later c.as_slice.result.now (rw c.as_slice.ensures.value c.in-Ok.ensures.read)
    c.in-Ok-draw_trace.ensures.0 c.as_bytes.result.now c.in-Ok-draw_trace.ensures.1 (rw c.as_bytes.ensures c.in-Ok-draw_trace.ensures.2) c.in-Ok-write_all.ensures.writes
