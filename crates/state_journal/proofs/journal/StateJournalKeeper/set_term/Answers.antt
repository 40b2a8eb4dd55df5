use Rattle.std.proofs.Common.{◌≡◌, ℕ, List, true, false, length, refl, sym, ap, ◌∙◌, subst, arith}
use Rattle.std.proofs.lemmas.Bool.{lt-ltb}
use Rattle.voting_config.specs.Ids.{Id, most_ids}
use Rattle.cluster_state.specs.Fields.{ids}
use Rattle.gate_log.specs.Generations.{is_generation, standing_in}
use Rattle.gate_log.specs.Place.{place, renews}
use Rattle.state_journal.specs.Bodies.{body_of}
use Rattle.state_journal.specs.Changes.{changed}
use Rattle.state_journal.specs.Drafts.{MayBegin}
use Rattle.state_journal.specs.Keeping.{generation_after, record_with, written_in}
use Rattle.state_journal.specs.declared.change.Change.TheVariants.{Term}
use Rattle.state_journal.proofs.Changing.{is_open, crash_leaves}
use Rattle.state_journal.proofs.Same.{same_journal}
use Rattle.state_journal.proofs.Spelled.{fits_of, reads_term, term_plain}
use Rattle.state_journal.proofs.Writing.{MayFollow, few, stands_after, counted_after, due_after, counts_by}
use Rattle.state_journal.proofs.journal.StateJournalKeeper.set_term.Goals as goal

pub returns-then-stopped-clause-unchanged : goal.returns-then-stopped-clause-unchanged
returns-then-stopped-clause-unchanged g c = λ stopped. same_journal _ _ refl refl refl refl refl refl

pub keep_small-requires-clause-plain : goal.keep_small-requires-clause-plain
keep_small-requires-clause-plain g c = subst (λ (b : List ℕ). is_generation b ≡ false) (sym (c.deref.ensures.0 ∙ c.term_body-body.ensures)) (term_plain c.args.term)

pub returns-in_default-clause-any_moment : goal.returns-in_default-clause-any_moment
returns-in_default-clause-any_moment g c = λ told running.
    let old = c.args.self.now in
    let shown : c.as_slice.result.now ≡ old.kept.committed = c.as_slice.ensures.value ∙ c.members.ensures in
    let change = Term c.args.term in
    let same : c.deref.result.now ≡ body_of change = c.deref.ensures.0 ∙ c.term_body-body.ensures in
    let may : MayFollow old.kept change = record { reads = reads_term c.args.term c.requires.fits; order = lt-ltb _ _ c.requires.above } in
    let begins : renews old.due (place old.log) (body_of change) ≡ true → MayBegin (changed old.kept change) =
    λ renewing. record { bounded = c.requires.fits; fits = fits_of old.kept.accepted old.drafted.fits; named = subst (ids most_ids).Fits shown (c.keep_small.ensures.fits (ap (renews old.due (place old.log)) same ∙ renewing)); older = omega (arith, old.older, c.requires.above) } in
    crash_leaves old told running change may begins _ (ap (record_with c.args.term old.kept.accepted) shown) _ _ same (c.keep_small.ensures.any_moment told old.kept.accepted old.drafted)

pub invariant_of-self-2 : goal.invariant_of-self-2
invariant_of-self-2 g c =
    let old = c.args.self.now in
    let shown : c.as_slice.result.now ≡ old.kept.committed = c.as_slice.ensures.value ∙ c.members.ensures in
    let now = c.keep_small.new.log in
    let p = place old.log in
    let change = Term c.args.term in
    let next = changed old.kept change in
    let ran : old.log.stopped ≡ false = sym c.stopped.ensures ∙ c.if-stopped.false in
    let same : c.deref.result.now ≡ body_of change = c.deref.ensures.0 ∙ c.term_body-body.ensures in
    let may : MayFollow old.kept change = record { reads = reads_term c.args.term c.requires.fits; order = lt-ltb _ _ c.requires.above } in
    let begins : renews old.due p (body_of change) ≡ true → MayBegin next =
    λ renewing. record { bounded = c.requires.fits; fits = fits_of old.kept.accepted old.drafted.fits; named = subst (ids most_ids).Fits shown (c.keep_small.ensures.fits (ap (renews old.due p) same ∙ renewing)); older = omega (arith, old.older, c.requires.above) } in
    let grown = λ (told : g.D.Disks.told).
    subst (λ (b : List ℕ). standing_in (g.D.Disks.seen now.disk) ≡ written_in (renews old.due p b) (standing_in (g.D.Disks.seen old.log.disk)) b (generation_after p next)) same
    (subst (λ (committed : List Id). standing_in (g.D.Disks.seen now.disk)
    ≡ written_in (renews old.due p c.deref.result.now) (standing_in (g.D.Disks.seen old.log.disk)) c.deref.result.now (generation_after p (record_with c.args.term old.kept.accepted committed))) shown
    (c.in-Ok.ensures.ok told old.kept.accepted old.drafted)) in
    let size : length (body_of change) ≡ c.len.result = ap length (sym c.term_body-body.ensures) ∙ sym c.len.ensures.value in
    record {
      stands = λ told running.
          let is = is_open old told ran in
          stands_after is change may begins (g.D.Disks.seen now.disk) (grown told) (now.settled told running).stands;
      counted = λ told running.
          let is = is_open old told ran in
          counts_by (renews old.due p (body_of change)) old.records c.usage_after-usage.result.records _ (counted_after is change may begins (g.D.Disks.seen now.disk) (grown told)) (few is)
          (c.usage_after-usage.ensures.one (body_of change) size) (c.usage_after-usage.ensures.more (body_of change) size);
      aged = λ told running.
          let is = is_open old told ran in
          c.usage_after-usage.ensures.due (body_of change) size ∙ due_after is change may begins (g.D.Disks.seen now.disk) (grown told);
      bounded = c.requires.fits;
      fit = old.fit;
      older = omega (arith, old.older, c.requires.above);
      drafted = record { spelled = c.keep_small.ensures.same ∙ old.drafted.spelled; fits = old.drafted.fits };
      marks = old.marks;
    }

pub returns-clause-any_moment : goal.returns-clause-any_moment
returns-clause-any_moment g c = λ told running.
    let old = c.args.self.now in
    let shown : c.as_slice.result.now ≡ old.kept.committed = c.as_slice.ensures.value ∙ c.members.ensures in
    let change = Term c.args.term in
    let same : c.deref.result.now ≡ body_of change = c.deref.ensures.0 ∙ c.term_body-body.ensures in
    let may : MayFollow old.kept change = record { reads = reads_term c.args.term c.requires.fits; order = lt-ltb _ _ c.requires.above } in
    let begins : renews old.due (place old.log) (body_of change) ≡ true → MayBegin (changed old.kept change) =
    λ renewing. record { bounded = c.requires.fits; fits = fits_of old.kept.accepted old.drafted.fits; named = subst (ids most_ids).Fits shown (c.keep_small.ensures.fits (ap (renews old.due (place old.log)) same ∙ renewing)); older = omega (arith, old.older, c.requires.above) } in
    crash_leaves old told running change may begins _ (ap (record_with c.args.term old.kept.accepted) shown) _ _ same (c.keep_small.ensures.any_moment told old.kept.accepted old.drafted)
