use Rattle.std.proofs.Common.{◌≡◌, ◌∙◌, Ok, length, sym, subst}
use Rattle.gate_log.specs.Folded.{found_by}
use Rattle.gate_log.specs.Generations.{in_use}
use Rattle.gate_log.specs.Opened.{generations_in}
use Rattle.state_journal.specs.Bodies.{holds_old}
use Rattle.state_journal.specs.Journal.{record_of_bodies, on_its_side}
use Rattle.state_journal.specs.Opening.{RanUntil}
use Rattle.state_journal.specs.Reads.{refusal_of}
use Rattle.state_journal.specs.declared.error.OpenError.{OpenError}
use Rattle.state_journal.proofs.Found.{finds, counts, ages, not_found_ran}
use Rattle.state_journal.proofs.journal.StateJournal.open.Goals as goal

pub invariant_of-result : goal.invariant_of-result
invariant_of-result g c =
    let log = c.in-Ok.opened.log in
    let files = g.D.Disks.seen log.disk in
    let zero : c.deref.result.now ≡ c.in-Ok.opened.zero.items = c.deref.ensures.value in
    let one : c.deref-2.result.now ≡ c.in-Ok.opened.one.items = c.deref-2.ensures.value in
    let found = generations_in log.side c.in-Ok.opened.zero.items c.in-Ok.opened.one.items in
    let kept = c.in-Ok-find.found.kept in
    let reads : on_its_side (found_by record_of_bodies found) ≡ Ok kept = sym (λ i. on_its_side (found_by record_of_bodies (generations_in (c.side.ensures.value i) (zero i) (one i)))) ∙ c.in-Ok-find.ensures.kept in
    record {
      stands = λ told running. finds files found (Ok kept) (c.in-Ok.ensures.keeps told) reads;
      counted = λ told running.
          c.in-Ok-find.ensures.counted ∙ (λ i. length (in_use (generations_in (c.side.ensures.value i) (zero i) (one i)))) ∙ counts files found (c.in-Ok.ensures.keeps told);
      aged = λ told running.
          c.in-Ok-find.ensures.aged ∙ (λ i. holds_old (in_use (generations_in (c.side.ensures.value i) (zero i) (one i)))) ∙ ages files found (c.in-Ok.ensures.keeps told);
      bounded = c.in-Ok-find.ensures.fit.bounded;
      fit = c.in-Ok-find.ensures.fit.fit;
      older = c.in-Ok-find.ensures.fit.older;
      drafted = c.in-Ok-find.ensures.drafted;
      marks = c.committed_body.ensures;
    }

pub returns-clause-ran_err : goal.returns-clause-ran_err
returns-clause-ran_err g c told =
    let opened = c.in-Ok.opened in
    let disk = c.args.disk in
    let files = g.D.Disks.seen disk in
    let e = c.in-Err-find.error in
    let ran = not_found_ran g.D.Disks.moves files (generations_in opened.log.side opened.zero.items opened.one.items) e disk opened.log.disk
    (c.in-Ok.ensures.bodies told) (c.in-Ok.ensures.ran told) in
    subst (λ (r : OpenError g.row.D.Denot). RanUntil g.D.Disks.moves files disk r) (sym c.not_found.ensures.is)
    (subst (λ (d : g.row.D.Denot). RanUntil g.D.Disks.moves files disk (refusal_of e d)) (sym c.into_disk.ensures) ran)
