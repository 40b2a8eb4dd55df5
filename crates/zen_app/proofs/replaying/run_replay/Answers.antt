use Rattle.std.proofs.Common.{refl, arith}
use Rattle.zen_app.proofs.Endings.{read_failed, no_memory, succeeded, cut_short, out_of_memory, bad}
use Rattle.zen_app.proofs.Spelled.{spells_fits}
use Rattle.zen_app.proofs.replaying.run_replay.Goals as goal
use Rattle.zen_link.proofs.Appending.{appended_none}

pub write_trace-requires : goal.write_trace-requires
write_trace-requires g c = record { fits = spells_fits _ _ _ c.in-Ok-read_schedule.ensures.found }

pub returns-in-Err-Read : goal.returns-in-Err-Read
returns-in-Err-Read g c =
    read_failed _ _ _ _ _ c.read_input.ensures.at_most c.read_input.ensures.later (omega arith) (appended_none _) ((rw c.in-Err-Read.field-0-is at c.in-Err-Read.ensures.fault) refl)

pub returns-in-Err-Memory : goal.returns-in-Err-Memory
returns-in-Err-Memory g c = no_memory _ _ _ _ _ c.read_input.ensures.at_most c.read_input.ensures.later (omega arith) (appended_none _)

pub returns-in-Err-Memory-read_schedule : goal.returns-in-Err-Memory-read_schedule
returns-in-Err-Memory-read_schedule g c = no_memory _ _ _ _ _ c.read_input.ensures.at_most c.read_input.ensures.later (omega arith) (appended_none _)

pub returns-in-Ok-write_trace : goal.returns-in-Ok-write_trace
returns-in-Ok-write_trace g c =
    succeeded _ _ _ _ _ c.read_input.ensures.at_most c.read_input.ensures.later c.write_trace.ensures.later c.as_slice.result.now (rw c.as_slice.ensures.value c.in-Ok.ensures.read) _ c.in-Ok-read_schedule.ensures.found c.in-Ok-write_trace.ensures.written

pub returns-in-Err-Write : goal.returns-in-Err-Write
returns-in-Err-Write g c =
    cut_short _ _ _ _ _ c.read_input.ensures.at_most c.read_input.ensures.later c.write_trace.ensures.later c.as_slice.result.now (rw c.as_slice.ensures.value c.in-Ok.ensures.read) _ c.in-Ok-read_schedule.ensures.found c.in-Err-Write.ensures.written ((rw c.in-Err-Write.field-0-is at c.in-Err-Write.ensures.fault) refl)

pub returns : goal.returns
returns g c =
    out_of_memory _ _ _ _ _ c.read_input.ensures.at_most c.read_input.ensures.later c.write_trace.ensures.later c.as_slice.result.now (rw c.as_slice.ensures.value c.in-Ok.ensures.read) _ c.in-Ok-read_schedule.ensures.found c.in-Err-Memory-write_trace.ensures.written

pub returns-in-Err-Bad : goal.returns-in-Err-Bad
returns-in-Err-Bad g c =
    bad _ _ _ _ _ c.read_input.ensures.at_most c.read_input.ensures.later c.refuse_schedule.ensures.later c.as_slice.result.now (rw c.as_slice.ensures.value c.in-Ok.ensures.read) c.refuse_schedule.result c.in-Err-Bad.bad
    (rw c.in-Err-Bad.field-0-is at c.in-Err-Bad.ensures.fault) (λ s spelled. let other = (rw c.in-Err-Bad.field-0-is at c.in-Err-Bad.ensures.only) s spelled in cc) (rw c.in-Err-Bad.field-0-is at c.refuse_schedule.ensures)
