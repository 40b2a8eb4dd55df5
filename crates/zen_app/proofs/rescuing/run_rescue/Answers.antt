use Rattle.std.proofs.Common.{arith, refl, subst}
use Rattle.zen_link.proofs.Appending.{appended_none}
use Rattle.zen_link.specs.Streams.{Appended, AppendedPrefix}
use Rattle.zen_app.proofs.RescueEndings.{bad, cut, done, no_memory, read_failed, refused}
use Rattle.zen_app.proofs.rescuing.run_rescue.Goals as goal

pub returns-in-Err-Read : goal.returns-in-Err-Read
returns-in-Err-Read g c =
    read_failed c.args.ids.now _ _ _ _ c.read_input.ensures.at_most c.read_input.ensures.later (omega arith) (appended_none _) ((rw c.in-Err-Read.field-0-is at c.in-Err-Read.ensures.fault) refl)

pub returns-in-Err-Memory : goal.returns-in-Err-Memory
returns-in-Err-Memory g c = no_memory c.args.ids.now _ _ _ _ c.read_input.ensures.at_most c.read_input.ensures.later (omega arith) (appended_none _)

pub returns-in-Err-Memory-answer : goal.returns-in-Err-Memory-answer
returns-in-Err-Memory-answer g c = no_memory c.args.ids.now _ _ _ _ c.read_input.ensures.at_most c.read_input.ensures.later (omega arith) (appended_none _)

pub returns-in-Err-Bad : goal.returns-in-Err-Bad
returns-in-Err-Bad g c =
    bad c.args.ids.now _ _ _ _ c.read_input.ensures.at_most c.read_input.ensures.later c.refuse_schedule.ensures.later c.as_slice.ensures.is_set c.requires.some c.as_slice-2.result.now (rw c.as_slice-2.ensures.value c.in-Ok.ensures.read)
    c.in-Err-Bad.bad c.refuse_schedule.result (rw c.in-Err-Bad.field-0-is at c.in-Err-Bad.ensures) c.refuse_schedule.ensures

pub returns-in-Err-Refused : goal.returns-in-Err-Refused
returns-in-Err-Refused g c =
    refused c.args.ids.now _ _ _ _ c.read_input.ensures.at_most c.read_input.ensures.later c.refuse.ensures.later c.as_slice.ensures.is_set c.requires.some c.as_slice-2.result.now (rw c.as_slice-2.ensures.value c.in-Ok.ensures.read)
    c.in-Err-Refused.why c.refuse.result (rw c.in-Err-Refused.field-0-is at c.in-Err-Refused.ensures) c.refuse.ensures

pub returns-in_default : goal.returns-in_default
returns-in_default g c =
    cut c.args.ids.now _ _ _ _ c.read_input.ensures.at_most c.read_input.ensures.later c.write_all.ensures.cause.later c.as_slice.ensures.is_set c.requires.some c.as_slice-2.result.now (rw c.as_slice-2.ensures.value c.in-Ok.ensures.read)
    c.in-Ok-answer.text c.in-Ok-answer.ensures (subst (AppendedPrefix _ _) c.as_bytes.ensures c.in_default.ensures.writes) c.in_default.ensures.cause.rose

pub returns : goal.returns
returns g c =
    done c.args.ids.now _ _ _ _ c.read_input.ensures.at_most c.read_input.ensures.later c.write_all.ensures.cause.later c.as_slice.ensures.is_set c.requires.some c.as_slice-2.result.now (rw c.as_slice-2.ensures.value c.in-Ok.ensures.read)
    c.in-Ok-answer.text c.in-Ok-answer.ensures (subst (Appended _ _) c.as_bytes.ensures c.in-Ok-write_all.ensures.writes)
