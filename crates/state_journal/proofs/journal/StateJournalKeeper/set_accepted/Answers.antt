use Rattle.std.proofs.Common.{◌≡◌, ◌≤◌, ◌+◌, ℕ, List, ◌∷◌, Ok, false, length, refl, sym, subst, ap, ◌∙◌, arith, rules}
use Rattle.std.specs.Prelude.{IfSome}
use Rattle.sha2.specs.Sha256.{sha256}
use Rattle.voting_config.specs.Ids.{Id}
use Rattle.cluster_state.specs.declared.state.ClusterState.{ClusterState}
use Rattle.gate_log.specs.Generations.{standing_in}
use Rattle.gate_log.specs.Place.{place, renews}
use Rattle.state_journal.specs.Bodies.{body_of}
use Rattle.state_journal.specs.Drafts.{ToKeep}
use Rattle.state_journal.specs.Keeping.{generation_after, record_with, written_in}
use Rattle.state_journal.specs.declared.change.Change.TheVariants.{Accepted}
use Rattle.state_journal.proofs.Changing.{is_open, state_follows, state_begins, state_leaves}
use Rattle.state_journal.proofs.Same.{same_journal}
use Rattle.state_journal.proofs.Spelled.{draft_short, length-accepted}
use Rattle.state_journal.proofs.Writing.{few, stands_after, counted_after, due_after, counts_by}
use Rattle.state_journal.proofs.journal.StateJournalKeeper.set_accepted.Goals as goal

pub returns-then-stopped-clause-unchanged : goal.returns-then-stopped-clause-unchanged
returns-then-stopped-clause-unchanged g c = λ stopped. same_journal _ _ refl refl refl refl refl refl

pub usage_after-usage-requires : goal.usage_after-usage-requires
usage_after-usage-requires g c = let ready = c.ready.inside in omega (arith, c.len.ensures, draft_short ready.state ready.draft ready.drafted)

pub keep_state-requires-clause-known : goal.keep_state-requires-clause-known
keep_state-requires-clause-known g c = subst (λ (bytes : List ℕ). IfSome c.accepted_digest.result (λ (d : List ℕ). d ≡ sha256 (130 ∷ bytes))) (sym c.ready.inside.drafted.spelled) c.accepted_digest.ensures

pub returns-in_default-clause-any_moment : goal.returns-in_default-clause-any_moment
returns-in_default-clause-any_moment g c = λ told running.
    let old = c.args.self.now in
    let ready = c.ready.inside in
    let is : ready.state ≡ c.args.ready.state = ap (λ (r : ToKeep). r.state) c.ready.view_is in
    let accepted : c.deref.result.now ≡ ready.state = search rules in
    let shown : c.as_slice.result.now ≡ ready.state.committed = c.as_slice.ensures.value ∙ ap (λ (s : ClusterState). s.committed) accepted in
    let older : ready.state.term ≤ old.kept.term = subst (λ (s : ClusterState). s.term ≤ old.kept.term) (sym is) c.requires in
    rw (sym is) (state_leaves old ready.state ready.drafted.fits older c.as_slice.result.now shown told running _ (c.keep_state.ensures.any_moment told ready.state ready.drafted))

pub invariant_of-self-2 : goal.invariant_of-self-2
invariant_of-self-2 g c =
    let old = c.args.self.now in
    let now = c.keep_state.new.log in
    let state = c.ready.inside.state in
    let drafted = c.ready.inside.drafted in
    let is : state ≡ c.args.ready.state = ap (λ (r : ToKeep). r.state) c.ready.view_is in
    let accepted : c.deref.result.now ≡ state = search rules in
    let shown : c.as_slice.result.now ≡ state.committed = c.as_slice.ensures.value ∙ ap (λ (s : ClusterState). s.committed) accepted in
    let older : state.term ≤ old.kept.term = subst (λ (s : ClusterState). s.term ≤ old.kept.term) (sym is) c.requires in
    let p = place old.log in
    let change = Accepted state in
    let ran : old.log.stopped ≡ false = sym c.stopped.ensures ∙ c.if-stopped.false in
    let size : length (body_of change) ≡ c.len.result + 33 = omega (arith, c.len.ensures, length-accepted state, ap length drafted.spelled) in
    let may = state_follows old state drafted.fits older in
    let begins = state_begins old state drafted.fits older in
    let grown = λ (told : g.D.Disks.told).
    subst (λ (committed : List Id). standing_in (g.D.Disks.seen now.disk) ≡ written_in (renews old.due p (body_of change)) (standing_in (g.D.Disks.seen old.log.disk)) (body_of change) (generation_after p (record_with old.kept.term state committed)))
    shown (c.in-Ok.ensures.ok told state drafted) in
    record {
      stands = λ told running.
          stands_after (is_open old told ran) change may begins (g.D.Disks.seen now.disk) (grown told) (now.settled told running).stands ∙ ap Ok (sym c.accept.ensures);
      counted = λ told running.
          let is = is_open old told ran in
          counts_by (renews old.due p (body_of change)) old.records c.usage_after-usage.result.records _ (counted_after is change may begins (g.D.Disks.seen now.disk) (grown told)) (few is)
          (c.usage_after-usage.ensures.one (body_of change) size) (c.usage_after-usage.ensures.more (body_of change) size);
      aged = λ told running.
          let is = is_open old told ran in
          c.usage_after-usage.ensures.due (body_of change) size ∙ due_after is change may begins (g.D.Disks.seen now.disk) (grown told);
      bounded = rw c.accept.ensures old.bounded;
      fit = rw c.accept.ensures c.ready.inside.fit;
      older = rw c.accept.ensures older;
      drafted = rw c.accept.ensures (record { spelled = c.keep_state.ensures.same ∙ drafted.spelled; fits = drafted.fits });
      marks = old.marks;
    }

pub returns-clause-any_moment : goal.returns-clause-any_moment
returns-clause-any_moment g c = λ told running.
    let old = c.args.self.now in
    let ready = c.ready.inside in
    let is : ready.state ≡ c.args.ready.state = ap (λ (r : ToKeep). r.state) c.ready.view_is in
    let accepted : c.deref.result.now ≡ ready.state = search rules in
    let shown : c.as_slice.result.now ≡ ready.state.committed = c.as_slice.ensures.value ∙ ap (λ (s : ClusterState). s.committed) accepted in
    let older : ready.state.term ≤ old.kept.term = subst (λ (s : ClusterState). s.term ≤ old.kept.term) (sym is) c.requires in
    rw (sym is) (state_leaves old ready.state ready.drafted.fits older c.as_slice.result.now shown told running _ (c.keep_state.ensures.any_moment told ready.state ready.drafted))
