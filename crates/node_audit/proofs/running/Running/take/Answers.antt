use Rattle.std.proofs.Common.{◌≡◌, sym, subst}
use Rattle.std.proofs.lemmas.Result.{on_ok_weaker}
use Rattle.world_model.specs.declared.acts.Act.{Act}
use Rattle.world_model.specs.declared.acts.ActReply.TheVariants.{Taken}
use Rattle.world_model.specs.declared.acts.Outcome.TheVariants.{Answered}
use Rattle.world_model.specs.Moves.{node_state_after}
use Rattle.node_audit.specs.Standing.{seen}
use Rattle.node_audit.proofs.running.Running.take.Goals as goal

pub returns-in-StartJoin : goal.returns-in-StartJoin
returns-in-StartJoin c = λ sends.
    subst (λ (a : Act). seen c.start_join.new.self ≡ node_state_after (seen c.args.self.now) a (Answered (Taken sends c.args.wins))) (sym c.in-StartJoin.is)
    (c.start_join.ensures c.in-StartJoin.field-0 sends c.args.wins)

pub returns-in-TakeJoin : goal.returns-in-TakeJoin
returns-in-TakeJoin c = on_ok_weaker c.count_join.result (λ f. λ sends.
    subst (λ (a : Act). seen c.count_join.new.self ≡ node_state_after (seen c.args.self.now) a (Answered (Taken sends c.args.wins))) (sym c.in-TakeJoin.is) (f sends)) c.count_join.ensures

pub returns-in-Value : goal.returns-in-Value
returns-in-Value c = λ sends.
    subst (λ (a : Act). seen c.publish.new.self ≡ node_state_after (seen c.args.self.now) a (Answered (Taken sends c.args.wins))) (sym c.in-Value.is)
    (rw c.deref-in-Value.ensures at (c.publish.ensures c.in-Value.field-2 sends c.args.wins))
