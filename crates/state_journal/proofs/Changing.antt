-- What a crash leaves while an open journal keeps a change.
use Rattle.std.proofs.Common.{◌≡◌, ◌≤◌, List, ℕ, false, true, refl, ap, ◌∙◌, subst}
use Rattle.std.proofs.lemmas.Bool.{le-leb}
use Rattle.cluster_state.specs.Fields.{ids}
use Rattle.cluster_state.specs.declared.state.ClusterState.{ClusterState}
use Rattle.cluster_state.specs.declared.state.Kept.{Kept}
use Rattle.voting_config.specs.Ids.{Id, most_ids}
use Rattle.zen_disk.specs.declared.disks.Disks.{Ghosts}
use Rattle.zen_disk.specs.Moments.{LeavesOnly}
use Rattle.gate_log.specs.Generations.{standing_in}
use Rattle.gate_log.specs.Place.{place, renews}
use Rattle.state_journal.specs.Bodies.{body_of}
use Rattle.state_journal.specs.Changes.{changed, IsEither}
use Rattle.state_journal.specs.Drafts.{HasSpelling, MayBegin}
use Rattle.state_journal.specs.Journal.{StoodFor}
use Rattle.state_journal.specs.Keeping.{generation_after, record_with, IsWritten}
use Rattle.state_journal.specs.declared.change.Change.{Change}
use Rattle.state_journal.specs.declared.change.Change.TheVariants.{Accepted, Committed}
use Rattle.state_journal.specs.declared.journal.StateJournal.{StateJournal}
use Rattle.state_journal.proofs.Spelled.{fits_of, reads_committed, reads_state}
use Rattle.state_journal.proofs.Writing.{IsOpen, MayFollow, leaves_either}

module _ {D : Type 0} {disks : Ghosts D} (old : StateJournal D disks) (told : disks.told) (running : old.log.stopped ≡ false) where
  pub is_open : IsOpen (disks.seen old.log.disk) (disks.may_leave old.log.disk) (place old.log) old.kept old.records old.due
  is_open = record { settled = old.log.settled told running; limit = old.log.limit; stands = old.stands told running; counted = old.counted told running; aged = old.aged told running }

  -- where the body that would begin a generation has the record that the change makes
  pub crash_leaves : (change : Change) → MayFollow old.kept change → (renews old.due (place old.log) (body_of change) ≡ true → MayBegin (changed old.kept change)) → (next : Kept) → next ≡ changed old.kept change
      → (new : StateJournal D disks) (body : List ℕ) → body ≡ body_of change
      → LeavesOnly disks.moment disks.left_since old.log.disk new.log.disk (IsWritten (renews old.due (place old.log) body) (standing_in (disks.seen old.log.disk)) body (generation_after (place old.log) next))
      → LeavesOnly (λ (j : StateJournal D disks). disks.moment j.log.disk) (λ (j : StateJournal D disks). StoodFor (disks.left_since j.log.disk)) old new (IsEither old.kept (changed old.kept change))
  crash_leaves change may begins next is new body same run =
      let p = place old.log in
      let shown = subst (λ (n : Kept). LeavesOnly disks.moment disks.left_since old.log.disk new.log.disk (IsWritten (renews old.due p body) (standing_in (disks.seen old.log.disk)) body (generation_after p n))) is run in
      let written =
      subst (λ (b : List ℕ). LeavesOnly disks.moment disks.left_since old.log.disk new.log.disk (IsWritten (renews old.due p b) (standing_in (disks.seen old.log.disk)) b (generation_after p (changed old.kept change)))) same shown in
      record { later = written.later; since = leaves_either is_open change may begins disks.moment disks.left_since old.log.disk new.log.disk written }

  -- the change that commits the configuration of the accepted state, which is that of these ids
  pub commit_leaves : (config : List Id) → config ≡ old.kept.accepted.config → (new : StateJournal D disks) (body : List ℕ) → body ≡ body_of Committed → (renews old.due (place old.log) body ≡ true → (ids most_ids).Fits config)
      → LeavesOnly disks.moment disks.left_since old.log.disk new.log.disk (IsWritten (renews old.due (place old.log) body) (standing_in (disks.seen old.log.disk)) body (generation_after (place old.log) (record_with old.kept.term old.kept.accepted config)))
      → LeavesOnly (λ (j : StateJournal D disks). disks.moment j.log.disk) (λ (j : StateJournal D disks). StoodFor (disks.left_since j.log.disk)) old new (IsEither old.kept (changed old.kept Committed))
  commit_leaves config is new body same named run =
      let fits = λ (renewing : renews old.due (place old.log) (body_of Committed) ≡ true).
      subst (ids most_ids).Fits is (named (ap (renews old.due (place old.log)) same ∙ renewing)) in
      crash_leaves Committed (record { reads = reads_committed; order = refl })
      (λ renewing. record { bounded = old.bounded; fits = fits_of old.kept.accepted old.drafted.fits; named = fits renewing; older = old.older })
      (record_with old.kept.term old.kept.accepted config) (ap (record_with old.kept.term old.kept.accepted) is) new body same run

-- a state that may be accepted: its change may follow, and its record may begin a generation
module _ {D : Type 0} {disks : Ghosts D} (old : StateJournal D disks) (state : ClusterState) (has : HasSpelling state) (older : state.term ≤ old.kept.term) where
  pub state_follows : MayFollow old.kept (Accepted state)
  state_follows = record { reads = reads_state state (fits_of state has); order = le-leb _ _ older }

  pub state_begins : renews old.due (place old.log) (body_of (Accepted state)) ≡ true → MayBegin (changed old.kept (Accepted state))
  state_begins = λ renewing. record { bounded = old.bounded; fits = fits_of state has; named = (fits_of state has).1.1.0; older = older }

  -- with the committed configuration of these ids, which the state carries
  pub state_leaves : (committed : List Id) → committed ≡ state.committed → disks.told → old.log.stopped ≡ false → (new : StateJournal D disks)
      → LeavesOnly disks.moment disks.left_since old.log.disk new.log.disk (IsWritten (renews old.due (place old.log) (body_of (Accepted state))) (standing_in (disks.seen old.log.disk)) (body_of (Accepted state)) (generation_after (place old.log) (record_with old.kept.term state committed)))
      → LeavesOnly (λ (j : StateJournal D disks). disks.moment j.log.disk) (λ (j : StateJournal D disks). StoodFor (disks.left_since j.log.disk)) old new (IsEither old.kept (changed old.kept (Accepted state)))
  state_leaves committed is told running new run =
      crash_leaves old told running (Accepted state) state_follows state_begins (record_with old.kept.term state committed) (ap (record_with old.kept.term state) is) new (body_of (Accepted state)) refl run
