-- What an act makes of a node whose journal is open, by how it ended.
use Rattle.std.proofs.Common.{◌≡◌, ◌⊎◌, Bool, true, false, List, length, reverse, refl, sym, ◌∙◌, ap, subst, inl, inr, arith}
use Rattle.std.proofs.lemmas.Result.{IfOk-weaker}
use Rattle.std.specs.Prelude.{Option, None, Some, Result, Err, IfOk}
use Rattle.std.specs.declared.alloc.AllocError.{AllocError}
use Rattle.voting_config.specs.Ids.{Id}
use Rattle.cluster_state.specs.declared.causes.PublishCause.{PublishCause}
use Rattle.cluster_state.specs.declared.messages.PublishRequest.{PublishRequest}
use Rattle.cluster_state.specs.declared.state.Kept.{Kept}
use Rattle.zen_disk.specs.DeviceCall.{DeviceCall}
use Rattle.zen_disk.specs.FileState.{FileState}
use Rattle.zen_disk.specs.Fuse.{FuseMoves}
use Rattle.zen_disk.specs.MemDisks.{MemMoves, past_of, read_of}
use Rattle.zen_disk.specs.Moments.{LeavesOnly, quiet}
use Rattle.zen_disk.specs.Runs.{CallsMade}
use Rattle.zen_disk.specs.Sides.{Sides, Files}
use Rattle.zen_disk.specs.UndoOrder.{AreImages, WereImages, only-last, were-are}
use Rattle.zen_disk.specs.declared.orders.Struck.TheVariants.{Stop, Fault}
use Rattle.gate_log.specs.Generations.{in_use, standing_in}
use Rattle.gate_log.specs.Place.{place, place_of}
use Rattle.gate_log.proofs.Places.{place_is}
use Rattle.state_journal.specs.Changes.{IsEither}
use Rattle.state_journal.specs.Journal.{only_record, record_of_files}
use Rattle.state_journal.specs.Bodies.{holds_old}
use Rattle.state_journal.specs.Keeping.{keeping_calls, keeping_calls_in}
use Rattle.state_journal.specs.declared.change.Change.{Change}
use Rattle.coord_state.specs.Checks.{Foretells}
use Rattle.coord_state.specs.Outcomes.{ending, publish_outcome}
use Rattle.coord_state.specs.StandsFor.{Acts, StandsFor, acts, fields_of}
use Rattle.coord_state.specs.Writes.{WritesBy, Wrote, IsDuring, change_of}
use Rattle.coord_state.specs.declared.coord.ActError.{ActError}
use Rattle.coord_state.specs.declared.coord.ActError.TheVariants as error
use Rattle.coord_state.specs.declared.coord.CoordState.{CoordState}
use Rattle.coord_state.specs.declared.ending.NotTaken.{NotTaken}
use Rattle.coord_state.specs.declared.ending.NotTaken.TheVariants as untaken
use Rattle.coord_state.proofs.Standing.{stands_durable}
use Rattle.world_model.specs.declared.acts.Act.{Act}
use Rattle.world_model.specs.declared.acts.Act.TheVariants.{Bootstrap, StartJoin, Publish, Commit, Open}
use Rattle.world_model.specs.declared.acts.Cause.TheVariants.{Publish as PublishRefused}
use Rattle.world_model.specs.declared.acts.Message.{Message}
use Rattle.world_model.specs.declared.acts.ActReply.{ActReply}
use Rattle.world_model.specs.declared.acts.ActReply.TheVariants.{Taken, Refused, Stopped}
use Rattle.world_model.specs.declared.acts.Outcome.{Outcome}
use Rattle.world_model.specs.declared.acts.Outcome.TheVariants.{Answered, Disk, Crashed}
use Rattle.world_model.specs.Acts.{NodeHistory, Then}
use Rattle.world_model.specs.Histories.{is_opening, is_down}
use Rattle.world_model.specs.NodeState.{NodeState, durable_of, halted_of}
use Rattle.world_model.specs.Replies.{reply_of, reply_at, is_taken, writes}
use Rattle.world_model.proofs.Guards.{as_taken}
use Rattle.replay_node.specs.Did.{outcome_of}
use Rattle.replay_node.specs.NodeDisk.{NodeDisk, CallsEnd, Done, Failed, CrashedIn, Called, MemFuse, MayLeave, DiskStands, bytes_read, calls_made}
use Rattle.replay_node.specs.NodeWorld.{NodeWorld, act_calls, act_called, after_act, ends_in_a_crash, outcome_at, outcome_by}
use Rattle.world_model.specs.Settled.{settled, IsUnstruck}
use Rattle.replay_node.specs.Stands.{Journal, LeavesActs, OpenStands, CrashedStands, fuse_ghosts, journal_ghosts}
use Rattle.replay_node.specs.StateDoes.{IsReportedBy, StandsAfter, StateDid, StateDoes}
use Rattle.replay_node.specs.declared.did.Did.{Did}
use Rattle.replay_node.specs.declared.did.Did.TheVariants as did
use Rattle.replay_node.proofs.AsSaid.{said_done, said_failed, said_crashed, StopLeaves}
use Rattle.replay_node.proofs.Found.{struck_tells, tells_of, Tells}
use Rattle.world_model.proofs.SettledLocal.{halted_reply}
use Rattle.world_model.proofs.Settling.{settled_then, unstruck_then}
use Rattle.world_model.proofs.Struck.{closed_of_writes, durable_kept, durable_lost, durable_lost_crash, durable_refused}

-- what coord_state says of an act
pub record Step (old new : CoordState Journal) (act : Act) (o : Outcome) : Type 0 where
  pub acts : Acts journal_ghosts old new act o
  pub wrote : WritesBy journal_ghosts old.keeper act new.keeper o
  pub any_moment : (g : NodeHistory) → StandsFor journal_ghosts old g → LeavesOnly journal_ghosts.moment journal_ghosts.left_since old.keeper new.keeper (IsDuring g act)

-- ---- the device calls

calls_are : (j : Journal) (d : NodeDisk) (kept : Kept) (change : Change) → DiskStands j.log.disk d → j.log.stopped ≡ false → j.kept ≡ kept
    → keeping_calls j.due (place j.log) j.kept change ≡ keeping_calls_in (standing_in (bytes_read d.files)) kept change
calls_are j d kept change stands running same =
    let there : place j.log ≡ place_of (standing_in (bytes_read d.files)) = place_is fuse_ghosts j.log tt running ∙ ap (λ (s : Sides FileState). place_of (standing_in (bytes_read s))) stands.files in
    let due : j.due ≡ holds_old (in_use (standing_in (bytes_read d.files))) = j.aged tt running ∙ ap (λ (s : Sides FileState). holds_old (in_use (standing_in (bytes_read s)))) stands.files in
    λ i. keeping_calls (due i) (there i) (same i) change

abbrev CallsDone : Journal → Called → Type 0
CallsDone new called = (called.ended ≡ Done) × DiskStands new.log.disk called.disk

module _ (old new : Journal) (d : NodeDisk) (kept : Kept) (stands : DiskStands old.log.disk d) (same : old.kept ≡ kept) where
  taken_done : (change : Option Change) (sends : Option Message) (wins : Bool) → old.log.stopped ≡ false → Wrote journal_ghosts old change new true → CallsDone new (calls_made d (act_calls (Taken sends wins) change kept (bytes_read d.files)))
  taken_done (Some change) sends wins running wrote =
      let ran = subst (λ (calls : List DeviceCall). CallsMade (FuseMoves MemMoves) calls old.log.disk new.log.disk true) (calls_are old d kept change stands running same) wrote in
      said_done (keeping_calls_in (standing_in (bytes_read d.files)) kept change) old.log.disk new.log.disk d true stands ran refl
  taken_done None sends wins running wrote = (refl, subst (λ (j : Journal). DiskStands j.log.disk d) (sym wrote) stands)

  answered_done : (act : Act) (reply : ActReply) → (is_taken reply ≡ true → old.log.stopped ≡ false) → WritesBy journal_ghosts old act new (Answered reply) → CallsDone new (calls_made d (act_calls reply (change_of act) kept (bytes_read d.files)))
  answered_done act (Taken sends wins) running wrote = taken_done (change_of act) sends wins (running refl) wrote
  answered_done act (Refused cause) running wrote = (refl, subst (λ (j : Journal). DiskStands j.log.disk d) (sym wrote) stands)
  answered_done act Stopped running wrote = (refl, subst (λ (j : Journal). DiskStands j.log.disk d) (sym wrote) stands)

-- ---- the journal is halted as the acts say

pub halted_then : (g : NodeHistory) (act : Act) (reply : ActReply) → is_opening act ≡ false → halted_of (Then g act (Answered reply)) ≡ halted_of g
halted_then g (Open found) reply o = cc
halted_then g act reply o = refl

pub halted_disk : (g : NodeHistory) (act : Act) (kept : Bool) → is_opening act ≡ false → halted_of (Then g act (Disk kept)) ≡ true
halted_disk g (Open found) kept o = cc
halted_disk g act kept o = refl

stands_halted : (c : CoordState Journal) (g : NodeHistory) → StandsFor journal_ghosts c g → c.keeper.log.stopped ≡ halted_of g
stands_halted c g s = ap (λ (p : NodeState). p.halted) s

-- an act that is taken finds the journal running
runs_of : (me : Id) (c : CoordState Journal) (g : NodeHistory) (act : Act) → is_opening act ≡ false → StandsFor journal_ghosts c g → is_taken (reply_of me g act) ≡ true → c.keeper.log.stopped ≡ false
runs_of me c g act o s taken = from c.keeper.log.stopped refl
  where
    from : (b : Bool) → c.keeper.log.stopped ≡ b → c.keeper.log.stopped ≡ false
    from false e = e
    from true e =
        let stopped = halted_reply me g act o (sym (stands_halted c g s) ∙ e) in
        absurd (cc (taken, ap is_taken stopped))

-- ---- an act that is answered

leaves_halted : (fuse : MemFuse) (g : NodeHistory) (act : Act) (reply : ActReply) → is_opening act ≡ false → is_taken reply ≡ false → LeavesActs fuse g → LeavesActs fuse (Then g act (Answered reply))
leaves_halted fuse g act reply o refused leaves =
    let same : (k : Bool) → durable_of (settled k (Then g act (Answered reply))) ≡ durable_of (settled k g) = λ k. ap durable_of (settled_then k g act reply o) ∙ durable_refused (settled k g) act reply o refused in
    record {
      left = λ files may. subst (λ (a : Kept). IsEither a (durable_of (settled true (Then g act (Answered reply)))) (record_of_files files)) (sym (same false))
          (subst (λ (b : Kept). IsEither (durable_of (settled false g)) b (record_of_files files)) (sym (same true)) (leaves.left files may));
      shown = tells_of _ _ _ _ (same false) (same true) leaves.shown;
    }

module _ (old new : CoordState Journal) (act : Act) (reply : ActReply) (step : Step old new act (Answered reply)) (o : is_opening act ≡ false) (w : NodeWorld) (stands : OpenStands old.me old w) where
  reply_is : reply ≡ reply_of old.me w.acts act
  reply_is = step.acts.answers w.acts stands.acts

  answered_calls : CallsDone new.keeper (act_called old.me w act)
  answered_calls =
      let running = λ (taken : is_taken reply ≡ true). runs_of old.me old w.acts act o stands.acts (subst (λ (r : ActReply). is_taken r ≡ true) reply_is taken) in
      subst (λ (r : ActReply). CallsDone new.keeper (calls_made w.disk (act_calls r (change_of act) (durable_of w.acts) (bytes_read w.disk.files)))) reply_is
      (answered_done old.keeper new.keeper w.disk (durable_of w.acts) stands.disk (stands_durable journal_ghosts old w.acts stands.acts) act reply running step.wrote)

  pub answered_at : Answered reply ≡ outcome_at old.me w act
  answered_at = ap Answered reply_is ∙ sym (ap (λ (e : CallsEnd). outcome_by e (reply_of old.me w.acts act)) answered_calls.0)

  same_halted : new.keeper.log.stopped ≡ old.keeper.log.stopped
  same_halted = stands_halted new (Then w.acts act (Answered reply)) (step.acts.stands w.acts stands.acts) ∙ halted_then w.acts act reply o ∙ sym (stands_halted old w.acts stands.acts)

  answered_halted : old.keeper.log.stopped ≡ true → LeavesActs new.keeper.log.disk (Then w.acts act (Answered reply))
  answered_halted stopped =
      let halted_is : reply ≡ Stopped = reply_is ∙ halted_reply old.me w.acts act o (sym (stands_halted old w.acts stands.acts) ∙ stopped) in
      let same : new.keeper ≡ old.keeper = subst (λ (r : ActReply). WritesBy journal_ghosts old.keeper act new.keeper (Answered r)) halted_is step.wrote in
      subst (λ (j : Journal). LeavesActs j.log.disk (Then w.acts act (Answered reply))) (sym same) (leaves_halted old.keeper.log.disk w.acts act reply o (ap is_taken halted_is) (stands.stopped stopped))

  pub answered_stands : OpenStands old.me new (after_act old.me w act)
  answered_stands = record {
    me_is = step.acts.at.me;
    up = ap ends_in_a_crash answered_calls.0;
    not_crashed = subst (λ (p : Outcome). is_down (Then w.acts act p) ≡ false) answered_at refl;
    acts = subst (λ (p : Outcome). StandsFor journal_ghosts new (Then w.acts act p)) answered_at (step.acts.stands w.acts stands.acts);
    disk = answered_calls.1;
    running = λ runs. subst (λ (p : Outcome). IsUnstruck (Then w.acts act p)) answered_at (unstruck_then w.acts act reply (stands.running (sym same_halted ∙ runs)));
    stopped = λ stopped. subst (λ (p : Outcome). LeavesActs new.keeper.log.disk (Then w.acts act p)) answered_at (answered_halted (sym same_halted ∙ stopped));
  }

-- ---- an act that was struck

change_is : (act : Act) → writes act ≡ true → (change : Change) × (change_of act ≡ Some change)
change_is (Bootstrap config) e = (_, refl)
change_is (StartJoin candidate term) e = (_, refl)
change_is (Publish request) e = (_, refl)
change_is (Commit commit) e = (_, refl)
change_is act e = cc

-- what was left before the act is the record
was_record : (c : CoordState Journal) (g : NodeHistory) (found : Option Kept) → StandsFor journal_ghosts c g → c.keeper.log.stopped ≡ false → journal_ghosts.left_since c.keeper (journal_ghosts.moment c.keeper) found → found ≡ Some (durable_of g)
was_record c g found s running left =
    let order = reverse c.keeper.log.disk.disk.order.items in
    let past = past_of c.keeper.log.disk.disk in
    let read = read_of c.keeper.log.disk.disk in
    only_record read (WereImages order past read (length order)) (AreImages past read) c.keeper.kept found (only-last order past read) (c.keeper.log.settled tt running).durable (c.keeper.stands tt running) left ∙ ap Some (stands_durable journal_ghosts c g s)

leaves_by : (fuse : MemFuse) (g h : NodeHistory) (act : Act) → durable_of (settled false h) ≡ durable_of g → durable_of (settled true h) ≡ durable_of (Then g act (Crashed true))
    → ((files : Files) → MayLeave fuse files → IsDuring g act (record_of_files files)) → Tells (durable_of g) (durable_of (Then g act (Crashed true))) → LeavesActs fuse h
leaves_by fuse g h act lost kept during tells = record {
  left = λ files may. subst (λ (a : Kept). IsEither a (durable_of (settled true h)) (record_of_files files)) (sym lost) (subst (λ (b : Kept). IsEither (durable_of g) b (record_of_files files)) (sym kept) (during files may));
  shown = tells_of _ _ _ _ lost kept tells;
}

module _ (old new : CoordState Journal) (act : Act) (step : Step old new act (Disk false)) (w : NodeWorld) (stands : OpenStands old.me old w) where
  struck_taken : (is_taken (reply_of old.me w.acts act) ≡ true) × (writes act ≡ true)
  struck_taken = step.acts.answers w.acts stands.acts

  struck_closed : is_opening act ≡ false
  struck_closed = closed_of_writes act struck_taken.1

  struck_runs : old.keeper.log.stopped ≡ false
  struck_runs = runs_of old.me old w.acts act struck_closed stands.acts struck_taken.0

  during : (files : Files) → MayLeave new.keeper.log.disk files → IsDuring w.acts act (record_of_files files)
  during files may =
      let disk = new.keeper.log.disk.disk in
      from (run.since (journal_ghosts.moment old.keeper) (record_of_files files) (omega arith) (files, were-are (reverse disk.order.items) (past_of disk) (read_of disk) (journal_ghosts.moment old.keeper) files may, refl))
    where
      run : LeavesOnly journal_ghosts.moment journal_ghosts.left_since old.keeper new.keeper (IsDuring w.acts act)
      run = step.any_moment w.acts stands.acts

      from : journal_ghosts.left_since old.keeper (journal_ghosts.moment old.keeper) (record_of_files files) ⊎ IsDuring w.acts act (record_of_files files) → IsDuring w.acts act (record_of_files files)
      from (inl was) = inl (was_record old w.acts (record_of_files files) stands.acts struck_runs was)
      from (inr now) = now

  change : (c : Change) × (change_of act ≡ Some c)
  change = change_is act struck_taken.1

  abbrev calls : List DeviceCall
  calls = keeping_calls_in (standing_in (bytes_read w.disk.files)) (durable_of w.acts) change.0

  struck_ran : CallsMade (FuseMoves MemMoves) calls old.keeper.log.disk new.keeper.log.disk false
  struck_ran =
      let wrote : Wrote journal_ghosts old.keeper (Some change.0) new.keeper false = subst (λ (c : Option Change). Wrote journal_ghosts old.keeper c new.keeper false) change.1 step.wrote in
      subst (λ (made : List DeviceCall). CallsMade (FuseMoves MemMoves) made old.keeper.log.disk new.keeper.log.disk false) (calls_are old.keeper w.disk (durable_of w.acts) change.0 stands.disk struck_runs (stands_durable journal_ghosts old w.acts stands.acts)) wrote

  struck_calls : act_called old.me w act ≡ calls_made w.disk calls
  struck_calls =
      let taken = as_taken (reply_of old.me w.acts act) struck_taken.0 in
      ap (calls_made w.disk) (ap (λ (c : Option Change). act_calls (reply_of old.me w.acts act) c (durable_of w.acts) (bytes_read w.disk.files)) change.1 ∙ ap (λ (r : ActReply). act_calls r (Some change.0) (durable_of w.acts) (bytes_read w.disk.files)) (sym taken.2))

  ended_at : (e : CallsEnd) → (calls_made w.disk calls).ended ≡ e → outcome_by e (reply_of old.me w.acts act) ≡ outcome_at old.me w act
  ended_at e is = sym (ap (λ (x : CallsEnd). outcome_by x (reply_of old.me w.acts act)) (ap (λ (c : Called). c.ended) struck_calls ∙ is))

  leaves : (h : NodeHistory) → durable_of (settled false h) ≡ durable_of w.acts → durable_of (settled true h) ≡ durable_of (Then w.acts act (Crashed true)) → LeavesActs new.keeper.log.disk h
  leaves h lost kept = leaves_by new.keeper.log.disk w.acts h act lost kept during (struck_tells old.me w.acts act struck_taken)

  module _ (struck : new.keeper.log.disk.struck ≡ Some Fault) where
    failed_calls : ((calls_made w.disk calls).ended ≡ Failed) × DiskStands new.keeper.log.disk (calls_made w.disk calls).disk
    failed_calls = said_failed calls old.keeper.log.disk new.keeper.log.disk w.disk false stands.disk struck_ran refl struck

    pub failed_at : Disk false ≡ outcome_at old.me w act
    failed_at = ended_at Failed failed_calls.0

    failed_halted : new.keeper.log.stopped ≡ true
    failed_halted = stands_halted new (Then w.acts act (Disk false)) (step.acts.stands w.acts stands.acts) ∙ halted_disk w.acts act false struck_closed

    pub failed_stands : OpenStands old.me new (after_act old.me w act)
    failed_stands = record {
      me_is = step.acts.at.me;
      up = ap ends_in_a_crash (ap (λ (c : Called). c.ended) struck_calls ∙ failed_calls.0);
      not_crashed = subst (λ (p : Outcome). is_down (Then w.acts act p) ≡ false) failed_at refl;
      acts = subst (λ (p : Outcome). StandsFor journal_ghosts new (Then w.acts act p)) failed_at (step.acts.stands w.acts stands.acts);
      disk = subst (λ (c : Called). DiskStands new.keeper.log.disk c.disk) (sym struck_calls) failed_calls.1;
      running = λ runs. absurd (cc (runs, failed_halted));
      stopped = λ stopped. subst (λ (p : Outcome). LeavesActs new.keeper.log.disk (Then w.acts act p)) failed_at (leaves (Then w.acts act (Disk false)) (durable_lost w.acts act struck_closed) (durable_kept w.acts act));
    }

  module _ (struck : new.keeper.log.disk.struck ≡ Some Stop) where
    stop : StopLeaves (calls_made w.disk calls).ended new.keeper.log.disk (calls_made w.disk calls).disk
    stop = said_crashed calls old.keeper.log.disk new.keeper.log.disk w.disk false stands.disk struck_ran refl struck

    pub crashed_at : Crashed false ≡ outcome_at old.me w act
    crashed_at = ended_at (CrashedIn stop.way) stop.ended

    pub crashed_stands : CrashedStands old.me new (after_act old.me w act)
    crashed_stands = record {
      down = ap ends_in_a_crash (ap (λ (c : Called). c.ended) struck_calls ∙ stop.ended);
      way = stop.way;
      stopped = stop.down;
      files = stop.files ∙ ap (λ (c : Called). c.disk.files) (sym struck_calls);
      armed = stop.armed ∙ ap (λ (c : Called). c.disk.armed) (sym struck_calls);
      left = subst (λ (p : Outcome). LeavesActs new.keeper.log.disk (Then w.acts act p)) crashed_at (leaves (Then w.acts act (Crashed false)) (durable_lost_crash w.acts act struck_closed) refl);
    }

-- ---- an act, by what is said of it

answered_after : (me : Id) (state : CoordState Journal) (w : NodeWorld) (d : Did) (reply : ActReply) → outcome_of d ≡ Some (Answered reply) → OpenStands me state w → StandsAfter me state w d
answered_after me state w did.Crashed reply is stands = absurd (cc is)
answered_after me state w did.Down reply is stands = absurd (cc is)
answered_after me state w d reply is stands = stands

module _ (old new : CoordState Journal) (act : Act) (closed : is_opening act ≡ false) (w : NodeWorld) (stands : OpenStands old.me old w) where
  answered_did : (d : Did) (reply : ActReply) → outcome_of d ≡ Some (Answered reply) → Step old new act (Answered reply) → StateDid old.me new w act d
  answered_did d reply is step = record {
    outcome = is ∙ ap Some (answered_at old new act reply step closed w stands);
    stands = answered_after old.me new (after_act old.me w act) d reply is (answered_stands old new act reply step closed w stands);
  }

  struck_did : (d : Did) → Step old new act (Disk false) → IsReportedBy new untaken.Disk d → StateDid old.me new w act d
  struck_did did.Disk step told = record { outcome = ap Some (failed_at old new act step w stands told); stands = failed_stands old new act step w stands told }
  struck_did did.Crashed step told = record { outcome = ap Some (crashed_at old new act step w stands told); stands = crashed_stands old new act step w stands told }
  struck_did d step told = absurd told

  ended_did : (why : NotTaken) (d : Did) → Step old new act (ending why) → IsReportedBy new why d → StateDid old.me new w act d
  ended_did untaken.Stopped d step told = answered_did d Stopped (ap outcome_of told) step
  ended_did (untaken.Refused cause) d step told = answered_did d (Refused cause) (ap outcome_of told) step
  ended_did untaken.Disk d step told = struck_did d step told

-- an act that was taken
pub taken_does : (old new : CoordState Journal) (act : Act) (reply : ActReply) (d : Did) → is_opening act ≡ false → Step old new act (Answered reply) → outcome_of d ≡ Some (Answered reply) → StateDoes old new act d
taken_does old new act reply d closed step is = record { me = step.acts.at.me; does = λ w stands. answered_did old new act closed w stands d reply is step }

-- one that was not
pub ended_does : (old new : CoordState Journal) (act : Act) (why : NotTaken) (d : Did) → is_opening act ≡ false → Step old new act (ending why) → IsReportedBy new why d → StateDoes old new act d
ended_does old new act why d closed step told = record { me = step.acts.at.me; does = λ w stands. ended_did old new act closed w stands why d step told }

pub told_does : (old new : CoordState Journal) (act : Act) (why same_why : NotTaken) → is_opening act ≡ false → why ≡ same_why → Step old new act (ending same_why)
    → (r : Result Did AllocError) → IfOk r (IsReportedBy new why) → IfOk r (StateDoes old new act)
told_does old new act why same_why closed same step r told =
    IfOk-weaker r (IsReportedBy new why) (StateDoes old new act) (λ d. ended_does old new act why d closed (subst (λ (x : NotTaken). Step old new act (ending x)) (sym same) step)) told

-- ---- a publication that is refused before it is copied

still_step : (c : CoordState Journal) (request : PublishRequest) (reply : ActReply) → is_taken reply ≡ false → reply ≡ reply_at c.me (fields_of journal_ghosts c) (Publish request) → Step c c (Publish request) (Answered reply)
still_step c request (Taken sends wins) refused is = cc
still_step c request (Refused cause) refused is = record {
  acts = acts journal_ghosts c c (Publish request) (Answered (Refused cause)) refl (record { me = refl; answers = is; after = refl; runs = refl; later = omega arith; fault = λ e. absurd (cc e) });
  wrote = refl;
  any_moment = λ g s. quiet journal_ghosts.moment journal_ghosts.left_since c.keeper (IsDuring g (Publish request));
}
still_step c request Stopped refused is = record {
  acts = acts journal_ghosts c c (Publish request) (Answered Stopped) refl (record { me = refl; answers = is; after = refl; runs = refl; later = omega arith; fault = λ e. absurd (cc e) });
  wrote = refl;
  any_moment = λ g s. quiet journal_ghosts.moment journal_ghosts.left_since c.keeper (IsDuring g (Publish request));
}

pub refused_step : (c : CoordState Journal) (request : PublishRequest) (why : ActError PublishCause (Unit {0})) → Foretells (Err why) (reply_at c.me (fields_of journal_ghosts c) (Publish request))
    → Step c c (Publish request) (publish_outcome (Err why))
refused_step c request (error.Stopped u) told = still_step c request Stopped refl (sym told)
refused_step c request (error.Refused cause u) told = still_step c request (Refused (PublishRefused cause)) refl (sym told)
refused_step c request error.Disk told = absurd told
