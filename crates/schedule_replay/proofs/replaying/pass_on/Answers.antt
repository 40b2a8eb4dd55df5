use Rattle.std.proofs.Common.{◌++◌, List, Result, Ok, Err, refl, subst, ℕ}
use Rattle.std.specs.Prelude.{OnOk}
use Rattle.zen_link.proofs.Appending.{prefix_within}
use Rattle.schedule_replay.proofs.replaying.pass_on.Goals as goal

always : {T E P : Type 0} (r : Result T E) → P → OnOk r P
always (Ok x) p = p
always (Err e) p = tt

pub returns-in_default-clause-holds : goal.returns-in_default-clause-holds
returns-in_default-clause-holds g c = prefix_within _ _ c.args.held.now c.args.piece.now _ refl c.out_of_memory.ensures.written

pub returns-clause-observed : goal.returns-clause-observed
returns-clause-observed g c =
    always c.hold.result (λ text ends saw. subst (λ (piece : List ℕ). g.T.Observer.saw c.observe.new.self (text ++ piece)) c.as_bytes.ensures (c.in-Ok.ensures text ends saw))
