use Rattle.std.proofs.Common.{sym, ap, subst, ◌∙◌, refl}
use Rattle.std.proofs.lemmas.Bool.{false_from_ne_true}
use Rattle.coordinator.specs.Steps.{AreEntries}
use Rattle.node_loop.proofs.Stepping.{did, broke, stayed}
use Rattle.node_loop.proofs.reporter.ReporterEventNode.step.Goals as goal

pub invariant_of-self : goal.invariant_of-self
invariant_of-self g c = record {
  ready = c.step.ensures.ready;
  own = c.args.self.now.own ∙ ap (λ s. s.me) (sym c.in-Ok.ensures.stays.settings);
}

pub invariant_of-self-in-Err-Disk : goal.invariant_of-self-in-Err-Disk
invariant_of-self-in-Err-Disk g c =
    let stays = rw c.in-Err-Disk.field-0-is at c.in-Err-Disk.ensures.stays in
    record {
      ready = c.step.ensures.ready;
      own = c.args.self.now.own ∙ ap (λ s. s.me) (sym stays.goes_on.settings);
    }

pub invariant_of-self-in-Err-Memory : goal.invariant_of-self-in-Err-Memory
invariant_of-self-in-Err-Memory g c =
    let same = rw c.in-Err-Memory.field-0-is at c.in-Err-Memory.ensures.stays in
    record {
      ready = c.step.ensures.ready;
      own = c.args.self.now.own ∙ ap (λ n. n.settings.me) (sym same);
    }

pub invariant_of-self-in-Err-Stopped : goal.invariant_of-self-in-Err-Stopped
invariant_of-self-in-Err-Stopped g c =
    let same = rw c.in-Err-Stopped.field-0-is at c.in-Err-Stopped.ensures.stays in
    record {
      ready = c.step.ensures.ready;
      own = c.args.self.now.own ∙ ap (λ n. n.settings.me) (sym same);
    }

pub returns-in-Ok-clause-does : goal.returns-in-Ok-clause-does
returns-in-Ok-clause-does g c s life stands start =
    did g.K.Keeper g.met.K.Keeper.only_kept (λ r. r.node) (λ r. r.last_sent) g.H.History.lines c.args.self.now _ s life c.args.event c.in-Ok.sealed c.report-lines.result stands start
    (false_from_ne_true _ (λ stopped. absurd (let never = c.in-Ok.ensures.stopped.1 stopped in cc)))
    (c.in-Ok.ensures.does life stands.stands)
    (λ s2 life2 event items me right are sent answered. c.report-lines.ensures s2 life2 event items (c.args.self.now.own ∙ ap (λ x. x.me) stands.settings ∙ me) right
    (subst (λ e. AreEntries event items e) (sym c.entries.ensures) are)
    (c.as_slice.ensures ∙ ap (λ l. l.list) c.sends.ensures ∙ sent) (c.as_slice-in-Ok.ensures ∙ ap (λ l. l.sent) c.replies.ensures ∙ answered))

pub returns-in-Err-Disk-clause-does : goal.returns-in-Err-Disk-clause-does
returns-in-Err-Disk-clause-does g c s life stands start =
    broke g.K.Keeper g.met.K.Keeper.only_kept (λ r. r.node) (λ r. r.last_sent) g.H.History.lines c.args.self.now _ s life c.args.event c.in-Err-Disk.entries c.report.result stands start
    (false_from_ne_true _ (λ stopped. absurd (let never = c.in-Err-Disk.ensures.stopped.1 stopped in let is = c.in-Err-Disk.field-0-is in cc)))
    (rw c.in-Err-Disk.field-0-is at (c.in-Err-Disk.ensures.does life stands.stands))
    (λ s2 life2 event items me. c.report.ensures s2 life2 event items (c.args.self.now.own ∙ ap (λ x. x.me) stands.settings ∙ me))

pub returns-in-Err-Memory-clause-does : goal.returns-in-Err-Memory-clause-does
returns-in-Err-Memory-clause-does g c s life stands start =
    stayed g.K.Keeper g.met.K.Keeper.only_kept (λ r. r.node) (λ r. r.last_sent) c.args.self.now _ s life (rw c.in-Err-Memory.field-0-is at c.in-Err-Memory.ensures.stays) refl stands
