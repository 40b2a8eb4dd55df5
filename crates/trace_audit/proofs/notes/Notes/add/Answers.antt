use Rattle.std.proofs.Common.{sym, subst}
use Rattle.std.specs.Result.{OnOk}
use Rattle.world_model.specs.Histories.{Next}
use Rattle.trace_text.specs.declared.ending.Ending.{Ending}
use Rattle.node_audit.specs.Endings.{outcome_shown}
use Rattle.trace_audit.specs.Stands.{NotesOf}
use Rattle.trace_audit.proofs.notes.Notes.add.Goals as goal

pub returns-in-Taken : goal.returns-in-Taken
returns-in-Taken c = λ h act a t.
    subst (λ (e : Ending). OnOk c.add_reply.result (NotesOf c.add_reply.new.self (Next h c.args.node act (outcome_shown c.args.reply e)))) (sym c.in-Taken.is)
    (c.add_reply.ensures h act a t)
