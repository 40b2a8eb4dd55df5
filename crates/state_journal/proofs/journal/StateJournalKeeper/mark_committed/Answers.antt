use Rattle.std.proofs.Common.{◌≡◌, ℕ, List, Ok, true, false, length, refl, sym, ap, ◌∙◌, subst, rules}
use Rattle.voting_config.specs.Ids.{Id, most_ids}
use Rattle.cluster_state.specs.Fields.{ids}
use Rattle.cluster_state.specs.declared.state.ClusterState.{ClusterState}
use Rattle.gate_log.specs.Generations.{is_generation, standing_in}
use Rattle.gate_log.specs.Place.{place, renews}
use Rattle.state_journal.specs.Bodies.{body_of}
use Rattle.state_journal.specs.Changes.{changed}
use Rattle.state_journal.specs.Drafts.{MayBegin}
use Rattle.state_journal.specs.Keeping.{generation_after, record_with, written_in}
use Rattle.state_journal.specs.declared.change.Change.TheVariants.{Committed}
use Rattle.state_journal.proofs.Changing.{is_open, commit_leaves}
use Rattle.state_journal.proofs.Same.{same_journal}
use Rattle.state_journal.proofs.Spelled.{fits_of, reads_committed, committed_plain}
use Rattle.state_journal.proofs.Writing.{MayFollow, few, stands_after, counted_after, due_after, counts_by}
use Rattle.state_journal.proofs.journal.StateJournalKeeper.mark_committed.Goals as goal

pub returns-then-stopped-clause-unchanged : goal.returns-then-stopped-clause-unchanged
returns-then-stopped-clause-unchanged g c = λ stopped. same_journal _ _ refl refl refl refl refl refl

pub keep_small-requires-clause-plain : goal.keep_small-requires-clause-plain
keep_small-requires-clause-plain g c = subst (λ (b : List ℕ). is_generation b ≡ false) (sym (c.deref.ensures.0 ∙ c.args.self.now.marks)) committed_plain

pub returns-in_default-clause-any_moment : goal.returns-in_default-clause-any_moment
returns-in_default-clause-any_moment g c = λ told running.
    let old = c.args.self.now in
    let accepted : c.deref-2.result.now ≡ old.kept.accepted = search rules in
    let shown : c.as_slice.result.now ≡ old.kept.accepted.config = c.as_slice.ensures.value ∙ ap (λ (s : ClusterState). s.config) accepted in
    commit_leaves old told running c.as_slice.result.now shown _ _ (c.deref.ensures.0 ∙ c.args.self.now.marks) c.keep_small.ensures.fits (c.keep_small.ensures.any_moment told old.kept.accepted old.drafted)

pub invariant_of-self-2 : goal.invariant_of-self-2
invariant_of-self-2 g c =
    let old = c.args.self.now in
    let accepted : c.deref-2.result.now ≡ old.kept.accepted = search rules in
    let shown : c.as_slice.result.now ≡ old.kept.accepted.config = c.as_slice.ensures.value ∙ ap (λ (s : ClusterState). s.config) accepted in
    let now = c.keep_small.new.log in
    let p = place old.log in
    let change = Committed in
    let same : c.deref.result.now ≡ body_of change = c.deref.ensures.0 ∙ c.args.self.now.marks in
    let next = changed old.kept change in
    let ran : old.log.stopped ≡ false = sym c.stopped.ensures ∙ c.if-stopped.false in
    let may : MayFollow old.kept change = record { reads = reads_committed; order = refl } in
    let begins : renews old.due p (body_of change) ≡ true → MayBegin next =
    λ renewing. record { bounded = old.bounded; fits = fits_of old.kept.accepted old.drafted.fits; named = subst (ids most_ids).Fits shown (c.keep_small.ensures.fits (ap (renews old.due p) same ∙ renewing)); older = old.older } in
    let grown = λ (told : g.D.Disks.told).
    subst (λ (b : List ℕ). standing_in (g.D.Disks.seen now.disk) ≡ written_in (renews old.due p b) (standing_in (g.D.Disks.seen old.log.disk)) b (generation_after p next)) same
    (subst (λ (config : List Id). standing_in (g.D.Disks.seen now.disk)
    ≡ written_in (renews old.due p c.deref.result.now) (standing_in (g.D.Disks.seen old.log.disk)) c.deref.result.now (generation_after p (record_with old.kept.term old.kept.accepted config))) shown
    (c.in-Ok.ensures.ok told old.kept.accepted old.drafted)) in
    let size : length (body_of change) ≡ c.len.result = ap length (sym old.marks) ∙ sym c.len.ensures.value in
    record {
      stands = λ told running.
          let is = is_open old told ran in
          stands_after is change may begins (g.D.Disks.seen now.disk) (grown told) (now.settled told running).stands ∙ ap Ok (sym c.commit.ensures);
      counted = λ told running.
          let is = is_open old told ran in
          counts_by (renews old.due p (body_of change)) old.records c.usage_after-usage.result.records _ (counted_after is change may begins (g.D.Disks.seen now.disk) (grown told)) (few is)
          (c.usage_after-usage.ensures.one (body_of change) size) (c.usage_after-usage.ensures.more (body_of change) size);
      aged = λ told running.
          let is = is_open old told ran in
          c.usage_after-usage.ensures.due (body_of change) size ∙ due_after is change may begins (g.D.Disks.seen now.disk) (grown told);
      bounded = rw c.commit.ensures old.bounded;
      fit = rw c.commit.ensures old.fit;
      older = rw c.commit.ensures old.older;
      drafted = rw c.commit.ensures (record { spelled = c.keep_small.ensures.same ∙ old.drafted.spelled; fits = old.drafted.fits });
      marks = old.marks;
    }

pub returns-clause-any_moment : goal.returns-clause-any_moment
returns-clause-any_moment g c = λ told running.
    let old = c.args.self.now in
    let accepted : c.deref-2.result.now ≡ old.kept.accepted = search rules in
    let shown : c.as_slice.result.now ≡ old.kept.accepted.config = c.as_slice.ensures.value ∙ ap (λ (s : ClusterState). s.config) accepted in
    commit_leaves old told running c.as_slice.result.now shown _ _ (c.deref.ensures.0 ∙ c.args.self.now.marks) c.keep_small.ensures.fits (c.keep_small.ensures.any_moment told old.kept.accepted old.drafted)
