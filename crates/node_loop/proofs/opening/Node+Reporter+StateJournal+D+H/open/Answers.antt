use Rattle.std.proofs.Common.{◌≡◌, ◌∙◌, true, [], sym, ap, subst, append-nil}
use Rattle.gate_log.specs.Calls.{both_opening_calls}
use Rattle.zen_disk.specs.Runs.{CallsMade}
use Rattle.state_journal.specs.contracts.journal.StateJournalKeeper.TheImpl as StateJournalKeeper
use Rattle.world_model.specs.declared.acts.Act.TheVariants.{Open}
use Rattle.world_model.specs.Histories.{ContinuesUnlessFirst}
use Rattle.policy_model.specs.Entries.{Life, Opened, log_of}
use Rattle.policy_model.specs.Events.{acts_of}
use Rattle.node_loop.specs.Reporting.{Reports}
use Rattle.node_loop.proofs.opening.Node+Reporter+StateJournal+D+H.open.Goals as goal

pub returns-in-Ok-clause-stands : goal.returns-in-Ok-clause-stands
returns-in-Ok-clause-stands g c =
    let k = StateJournalKeeper.ghosts g.row.D g.D.Disks g.D.Disks-dict in
    let made = c.open-2.result in
    subst (λ r. (life : Life) → ContinuesUnlessFirst (acts_of (log_of life)) (Open r.node.core.keeper.kept)
    → Reports k r.node r.last_sent c.args.settings (Opened life r.node.core.keeper.kept)) (sym c.in-Ok.ensures.ok.0)
    (subst (λ kept. (life : Life) → ContinuesUnlessFirst (acts_of (log_of life)) (Open kept) → Reports k made.node made.last_sent c.args.settings (Opened life kept))
    (sym (ap (λ j. j.kept) c.open-2.ensures.keeper)) c.open-2.ensures.stands)

pub returns-in-Err-clause-ran_err : goal.returns-in-Err-clause-ran_err
returns-in-Err-clause-ran_err g c t =
    let calls = both_opening_calls (g.D.Disks.seen c.args.disk) in
    let same : c.in_ok-journal.journal.log.disk ≡ c.into_disk.result =
    sym (c.into_disk.ensures ∙ ap (λ j. j.log.disk) (c.into_keeper.ensures ∙ ap (λ r. r.node.core.keeper) c.in-Err.ensures.err ∙ c.open-2.ensures.keeper)) in
    (calls, [], append-nil calls, subst (λ back. CallsMade g.D.Disks.moves calls c.args.disk back true) same (c.in_ok-journal.ensures.ran t))
