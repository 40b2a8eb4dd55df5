use Rattle.std.proofs.Common.{map, sym, ◌∙◌, ap, subst}
use Rattle.std.specs.Result.{OnOk}
use Rattle.std.proofs.lemmas.Result.{on_ok_weaker}
use Rattle.world_model.specs.declared.acts.ActReply.{ActReply}
use Rattle.world_model.specs.declared.acts.Outcome.TheVariants.{Answered}
use Rattle.world_model.specs.Acts.{wins}
use Rattle.world_model.specs.Histories.{Next, sent}
use Rattle.world_model.specs.Safety.{published}
use Rattle.node_audit.specs.Endings.{taken_as}
use Rattle.trace_audit.specs.Verdicts.{winners_of, commit_of}
use Rattle.trace_audit.specs.Stands.{NotesOf}
use Rattle.trace_audit.proofs.Noted.{noted}
use Rattle.trace_audit.proofs.notes.Notes.add_reply.Goals as goal

pub returns-in-Taken : goal.returns-in-Taken
returns-in-Taken c = λ h act a t.
    subst (λ (r : ActReply). OnOk c.add_taken.result (NotesOf c.add_taken.new.self (Next h c.args.node act (Answered (taken_as r))))) (sym c.in-Taken.is)
    (on_ok_weaker c.add_taken.result (λ n. noted c.add_taken.new.self h c.args.node act c.in-Taken.sends c.args.term c.in-Taken.wins (λ w. t (ap (λ (r : ActReply). wins (Answered r)) c.in-Taken.is ∙ w)) n)
    (c.add_taken.ensures (sent h) (winners_of h) (map commit_of (published h)) a))
