-- What each line keeps true of a node: what its files may be read as, where any stops follow, is the record of its acts.
use Rattle.std.proofs.Common.{◌≡◌, inl, inr, ℕ, ◌≤◌, max, Bool, true, false, ◌||◌, Option, None, Some, List, [], length, refl, sym, ◌∙◌, ap, subst, arith, if◌then◌else◌}
use Rattle.std.specs.Prelude.{Result}
use Rattle.std.specs.Result.{result_unwrap_or}
use Rattle.std.proofs.lemmas.Bool.{lt-ltb, le-leb}
use Rattle.gate_log.specs.Journal.{most_body}
use Rattle.voting_config.specs.Ids.{Id, most_ids}
use Rattle.cluster_state.specs.Field.{eight_bytes}
use Rattle.cluster_state.specs.Fields.{ids}
use Rattle.cluster_state.specs.Initial.{empty_record, empty_value, initial_state}
use Rattle.cluster_state.specs.States.{state, value as value_field}
use Rattle.cluster_state.specs.declared.state.ClusterState.{ClusterState}
use Rattle.cluster_state.specs.declared.state.Kept.{Kept}
use Rattle.zen_disk.specs.Armed.{nothing_armed}
use Rattle.zen_disk.specs.FileState.{FileState}
use Rattle.zen_disk.specs.Sides.{Sides}
use Rattle.zen_disk.specs.declared.orders.Order.{Order}
use Rattle.zen_disk.specs.declared.orders.Way.{Way}
use Rattle.gate_log.specs.Generations.{standing_in}
use Rattle.state_journal.specs.Bodies.{body_of}
use Rattle.state_journal.specs.Changes.{changed}
use Rattle.state_journal.specs.Drafts.{MayBegin}
use Rattle.state_journal.specs.Keeping.{keeping_calls_in}
use Rattle.state_journal.specs.declared.change.Change.{Change}
use Rattle.state_journal.specs.declared.change.Change.TheVariants.{Term, Accepted, Committed}
use Rattle.state_journal.specs.declared.why.Why.{Why}
use Rattle.cluster_state.proofs.Sizes.{state_short}
use Rattle.state_journal.proofs.Spelled.{reads_term, reads_state, reads_committed, length-term, length-accepted, length-committed, term_plain, committed_plain, accepted_plain}
use Rattle.coord_state.specs.Writes.{change_of, kept_after}
use Rattle.world_model.specs.declared.acts.Act.{Act}
use Rattle.world_model.specs.declared.acts.Act.TheVariants.{Bootstrap, StartJoin, TakeJoin, Value, Publish, Response, Commit, Open}
use Rattle.world_model.specs.declared.acts.Message.{Message}
use Rattle.world_model.specs.declared.acts.ActReply.{ActReply}
use Rattle.world_model.specs.declared.acts.ActReply.TheVariants.{Taken, Refused, Stopped}
use Rattle.world_model.specs.declared.acts.Outcome.TheVariants.{Answered, Disk, Crashed}
use Rattle.world_model.specs.Acts.{NodeHistory, NoActs, Then}
use Rattle.world_model.specs.NodeState.{term_of, accepted_of, committed_of, durable_of, halted_of}
use Rattle.world_model.specs.Histories.{is_down, is_opening, IsLocal}
use Rattle.world_model.specs.Replies.{reply_of, writes}
use Rattle.world_model.proofs.Guards.{start_guard, publish_guard}
use Rattle.replay_node.specs.NodeDisk.{NodeDisk, CallsEnd, Done, Failed, CrashedIn, Called, bytes_read, calls_made, no_files, opening}
use Rattle.replay_node.specs.NodeLines.{after_stop}
use Rattle.replay_node.specs.NodeWorld.{NodeWorld, act_calls, acts_reopened, after_act, after_crash, after_opening, after_order, found_at, fresh_node, ends_in_a_crash, needs_opening, opened_by, outcome_by}
use Rattle.world_model.specs.Settled.{settled, is_kept, IsUnstruck}
use Rattle.replay_node.proofs.Found.{found_is}
use Rattle.replay_node.proofs.Reopened.{IsFound}
use Rattle.world_model.proofs.SettledLocal.{halted_reply}
use Rattle.world_model.proofs.Settling.{settled_then, unstruck, unstruck_then}
use Rattle.replay_node.proofs.StateSteps.{halted_then, halted_disk}
use Rattle.world_model.proofs.Struck.{durable_kept, durable_lost, durable_lost_crash, durable_refused}
use Rattle.replay_node.proofs.FilesLeft.{Nothing, Leaves, EndsIn, leaves_stop}
use Rattle.replay_node.proofs.JournalLeft.{StandsWith, StandsWithEither, Runs, MayKeep, keep_ends, runs_leaves}
use Rattle.replay_node.proofs.OpeningLeft.{Opening, empty_stands, opening_ends}

-- ---- what fits into a body

-- what the act keeps fits into a body, and what it sends
abbrev pub IsFitAct : Act → Type 0
IsFitAct (Bootstrap config) = (ids most_ids).Fits config
IsFitAct (Value version config value) = (ids most_ids).Fits config × value_field.Fits value
IsFitAct (Publish request) = state.Fits request.state
IsFitAct other = Unit {0}

none_fit : (limit : ℕ) → (ids limit).Fits []
none_fit limit = (omega arith, refl, tt)

empty_value_fits : value_field.Fits empty_value
empty_value_fits = (tt, (none_fit most_ids, (none_fit 10, (omega arith, refl, tt))))

initial_fits : (config : List Id) → (ids most_ids).Fits config → state.Fits (initial_state config)
initial_fits config fits = ((((omega arith, omega arith), tt), refl), (fits, (fits, empty_value_fits)))

pub empty_begins : MayBegin empty_record
empty_begins = record { bounded = omega arith; fits = initial_fits [] (none_fit most_ids); named = none_fit most_ids; older = omega arith }

short_term : (t : ℕ) → length (body_of (Term t)) ≤ most_body
short_term t = omega (arith, length-term t)

short_state : (s : ClusterState) → state.Fits s → length (body_of (Accepted s)) ≤ most_body
short_state s fits = omega (arith, length-accepted s, state_short s fits)

short_committed : length (body_of Committed) ≤ most_body
short_committed = omega (arith, length-committed)

may_accept : (kept : Kept) (s : ClusterState) → MayBegin kept → state.Fits s → s.term ≤ kept.term → MayKeep kept (Accepted s)
may_accept kept s may fits older = record {
  reads = reads_state s fits;
  order = le-leb s.term kept.term older;
  short = short_state s fits;
  plain = accepted_plain s;
  begins = record { bounded = may.bounded; fits = fits; named = fits.1.1.0; older = older };
}

-- the change of an act that is taken, and what it makes of the record
pub record Keeps (g : NodeHistory) (act : Act) : Type 0 where
  pub change : Change
  pub is : change_of act ≡ Some change
  pub with_it : durable_of (Then g act (Crashed true)) ≡ changed (durable_of g) change
  pub may : MayKeep (durable_of g) change

keeps : (me : Id) (g : NodeHistory) (act : Act) (sends : Option Message) (wins : Bool) → Taken sends wins ≡ reply_of me g act → writes act ≡ true → IsFitAct act → MayBegin (durable_of g) → Keeps g act
keeps me g (Bootstrap config) sends wins is w fits kept = record {
  change = Accepted (initial_state config);
  is = refl;
  with_it = refl;
  may = may_accept (durable_of g) (initial_state config) kept (initial_fits config fits) (omega arith);
}
keeps me g (StartJoin candidate term) sends wins is w fits kept =
    let guard = start_guard me g candidate term sends wins is in
    let above = guard.above in
    let below = guard.below in
    let greater : max term (term_of g) ≡ term = omega arith in
    record {
      change = Term term;
      is = refl;
      with_it = ap (λ (t : ℕ). record { term = t; accepted = accepted_of g; committed = committed_of g }) greater;
      may = record {
        reads = reads_term term below;
        order = lt-ltb (term_of g) term above;
        short = short_term term;
        plain = term_plain term;
        begins = record { bounded = below; fits = kept.fits; named = kept.named; older = omega (arith, kept.older, above) };
      };
    }
keeps me g (Publish request) sends wins is w fits kept =
    let guard = publish_guard me g request sends wins is in
    let now = guard.now in
    record {
      change = Accepted request.state;
      is = refl;
      with_it = refl;
      may = may_accept (durable_of g) request.state kept fits (omega (arith, now));
    }
keeps me g (Commit commit) sends wins is w fits kept = record {
  change = Committed;
  is = refl;
  with_it = refl;
  may = record {
    reads = reads_committed;
    order = refl;
    short = short_committed;
    plain = committed_plain;
    begins = record { bounded = kept.bounded; fits = kept.fits; named = kept.fits.1.0; older = kept.older };
  };
}
keeps me g (TakeJoin join) sends wins is w fits kept = absurd (cc)
keeps me g (Value version config value) sends wins is w fits kept = absurd (cc)
keeps me g (Response response) sends wins is w fits kept = absurd (cc)
keeps me g (Open found) sends wins is w fits kept = absurd (cc)

-- ---- a node

abbrev pub LeavesActs : Sides FileState → NodeHistory → Type 0
LeavesActs files g = Leaves files (StandsWithEither (durable_of (settled false g)) (durable_of (settled true g)))

-- a node that runs has the record of its acts; of one that is halted or down, an opening finds the record without the act that was struck or with it
pub record Sound (w : NodeWorld) : Type 0 where
  pub up : w.down ≡ false → is_down w.acts ≡ false
  pub fit : (kept : Bool) → MayBegin (durable_of (settled kept w.acts))
  pub unstruck : needs_opening w ≡ false → IsUnstruck w.acts
  pub runs : needs_opening w ≡ false → Runs w.disk.files (durable_of w.acts)
  pub left : needs_opening w ≡ true → LeavesActs w.disk.files w.acts

running_sound : (g : NodeHistory) (disk : NodeDisk) → is_down g ≡ false → halted_of g ≡ false → IsUnstruck g → MayBegin (durable_of g) → Runs disk.files (durable_of g) → Sound (record { acts = g; disk = disk; down = false })
running_sound g disk up going free fit runs = record {
  up = λ d. up;
  fit = λ k. subst (λ (h : NodeHistory). MayBegin (durable_of h)) (sym (unstruck g k free)) fit;
  unstruck = λ n. free;
  runs = λ n. runs;
  left = λ n. absurd (cc (going, n));
}

halted_sound : (g : NodeHistory) (disk : NodeDisk) (down : Bool) → (down || halted_of g) ≡ true → (down ≡ false → is_down g ≡ false) → ((kept : Bool) → MayBegin (durable_of (settled kept g))) → LeavesActs disk.files g → Sound (record { acts = g; disk = disk; down = down })
halted_sound g disk down needs up fit left = record { up = up; fit = fit; unstruck = λ n. absurd (cc (needs, n)); runs = λ n. absurd (cc (needs, n)); left = λ n. left }

leaves_acts : (w : NodeWorld) → Sound w → LeavesActs w.disk.files w.acts
leaves_acts w s = from (needs_opening w) refl
  where
    from : (b : Bool) → needs_opening w ≡ b → LeavesActs w.disk.files w.acts
    from true needs = s.left needs
    from false runs =
        let own : (k : Bool) → durable_of w.acts ≡ durable_of (settled k w.acts) = λ k. ap durable_of (sym (unstruck w.acts k (s.unstruck runs))) in
        subst (λ (a : Kept). Leaves w.disk.files (StandsWithEither a (durable_of (settled true w.acts)))) (own false) (runs_leaves w.disk.files (durable_of w.acts) (durable_of (settled true w.acts)) (s.runs runs))

-- ---- an act

-- one that changes nothing that is kept
quiet_sound : (w : NodeWorld) (act : Act) (reply : ActReply) → is_opening act ≡ false → ((g : NodeHistory) → durable_of (Then g act (Answered reply)) ≡ durable_of g) → Sound w → w.down ≡ false → Sound (record { acts = Then w.acts act (Answered reply); disk = w.disk; down = false })
quiet_sound w act reply o same s up =
    let needs : halted_of (Then w.acts act (Answered reply)) ≡ needs_opening w = halted_then w.acts act reply o ∙ sym (ap (λ (b : Bool). b || halted_of w.acts) up) in
    let own : (k : Bool) → durable_of (settled k (Then w.acts act (Answered reply))) ≡ durable_of (settled k w.acts) = λ k. ap durable_of (settled_then k w.acts act reply o) ∙ same (settled k w.acts) in
    record {
      up = λ d. refl;
      fit = λ k. subst MayBegin (sym (own k)) (s.fit k);
      unstruck = λ n. unstruck_then w.acts act reply (s.unstruck (sym needs ∙ n));
      runs = λ n. subst (λ (k : Kept). Runs w.disk.files k) (sym (same w.acts)) (s.runs (sym needs ∙ n));
      left = λ n.
          subst (λ (a : Kept). Leaves w.disk.files (StandsWithEither a (durable_of (settled true (Then w.acts act (Answered reply)))))) (sym (own false))
          (subst (λ (b : Kept). Leaves w.disk.files (StandsWithEither (durable_of (settled false w.acts)) b)) (sym (own true)) (s.left (sym needs ∙ n)));
    }

-- one that keeps a change, by how its calls ended
abbrev acted_by : CallsEnd → NodeDisk → NodeHistory → Act → ActReply → NodeWorld
acted_by end disk g act reply = record { acts = Then g act (outcome_by end reply); disk = disk; down = ends_in_a_crash end }

module _ (g : NodeHistory) (act : Act) (o : is_opening act ≡ false) (k : Keeps g act) (free : IsUnstruck g) (going : halted_of g ≡ false) (fit : MayBegin (durable_of g)) where
  abbrev next : Kept
  next = changed (durable_of g) k.change

  -- the record of acts that are the ones before with the struck act kept or not
  struck_left : (files : Sides FileState) (h : NodeHistory) → durable_of (settled false h) ≡ durable_of g → durable_of (settled true h) ≡ next → Leaves files (StandsWithEither (durable_of g) next) → LeavesActs files h
  struck_left files h lost kept left =
      subst (λ (a : Kept). Leaves files (StandsWithEither a (durable_of (settled true h)))) (sym lost) (subst (λ (b : Kept). Leaves files (StandsWithEither (durable_of g) b)) (sym kept) left)

  struck_fit : (h : NodeHistory) → durable_of (settled false h) ≡ durable_of g → durable_of (settled true h) ≡ next → (kept : Bool) → MayBegin (durable_of (settled kept h))
  struck_fit h lost kept false = subst MayBegin (sym lost) fit
  struck_fit h lost kept true = subst MayBegin (sym kept) k.may.begins

  kept_sound : (end : CallsEnd) (disk : NodeDisk) (sends : Option Message) (wins : Bool) → EndsIn end disk.files (λ f. Runs f next) (λ f. Leaves f (StandsWithEither (durable_of g) next)) → Sound (acted_by end disk g act (Taken sends wins))
  kept_sound Done disk sends wins runs =
      let h : NodeHistory = Then g act (Answered (Taken sends wins)) in
      let is : durable_of h ≡ next = kept_after g act (Answered (Taken sends wins)) refl ∙ k.with_it in
      running_sound h disk refl (halted_then g act (Taken sends wins) o ∙ going) (unstruck_then g act (Taken sends wins) free) (subst MayBegin (sym is) k.may.begins) (subst (λ (x : Kept). Runs disk.files x) (sym is) runs)
  kept_sound Failed disk sends wins left =
      let h : NodeHistory = Then g act (Disk false) in
      let lost : durable_of (settled false h) ≡ durable_of g = durable_lost g act o in
      let kept : durable_of (settled true h) ≡ next = durable_kept g act ∙ k.with_it in
      halted_sound h disk false (halted_disk g act false o) (λ d. refl) (struck_fit h lost kept) (struck_left disk.files h lost kept left)
  kept_sound (CrashedIn way) disk sends wins left =
      let h : NodeHistory = Then g act (Crashed false) in
      let lost : durable_of (settled false h) ≡ durable_of g = durable_lost_crash g act o in
      let kept : durable_of (settled true h) ≡ next = k.with_it in
      halted_sound h disk true refl (λ d. absurd (cc)) (struck_fit h lost kept) (struck_left disk.files h lost kept left)

-- an act by its reply
abbrev after_reply : NodeWorld → Act → ActReply → NodeWorld
after_reply w act reply =
    let called : Called = calls_made w.disk (act_calls reply (change_of act) (durable_of w.acts) (bytes_read w.disk.files)) in
    acted_by called.ended called.disk w.acts act reply

unwritten : (act : Act) (sends : Option Message) (wins : Bool) → writes act ≡ false → is_opening act ≡ false → (change_of act ≡ None) × ((g : NodeHistory) → durable_of (Then g act (Answered (Taken sends wins))) ≡ durable_of g)
unwritten (TakeJoin join) sends wins e o = (refl, λ g. refl)
unwritten (Value version config value) sends wins e o = (refl, λ g. refl)
unwritten (Response response) sends wins e o = (refl, λ g. refl)
unwritten (Bootstrap config) sends wins e o = absurd (cc)
unwritten (StartJoin candidate term) sends wins e o = absurd (cc)
unwritten (Publish request) sends wins e o = absurd (cc)
unwritten (Commit commit) sends wins e o = absurd (cc)
unwritten (Open found) sends wins e o = absurd (cc)

module _ (me : Id) (w : NodeWorld) (act : Act) (s : Sound w) (up : w.down ≡ false) (o : is_opening act ≡ false) (fits : IsFitAct act) where
  writing : (sends : Option Message) (wins : Bool) → Taken sends wins ≡ reply_of me w.acts act → writes act ≡ true → halted_of w.acts ≡ false → Sound (after_reply w act (Taken sends wins))
  writing sends wins is w_act going =
      let needs : needs_opening w ≡ false = ap (λ (b : Bool). b || halted_of w.acts) up ∙ going in
      let free = s.unstruck needs in
      let fit : MayBegin (durable_of w.acts) = subst (λ (h : NodeHistory). MayBegin (durable_of h)) (unstruck w.acts false free) (s.fit false) in
      let k : Keeps w.acts act = keeps me w.acts act sends wins is w_act fits fit in
      let called : Called = calls_made w.disk (keeping_calls_in (standing_in (bytes_read w.disk.files)) (durable_of w.acts) k.change) in
      let there : Sound (acted_by called.ended called.disk w.acts act (Taken sends wins)) =
      kept_sound w.acts act o k free going fit called.ended called.disk sends wins (keep_ends w.disk (durable_of w.acts) k.change (s.runs needs) k.may) in
      subst (λ (c : Option Change). let called : Called = calls_made w.disk (act_calls (Taken sends wins) c (durable_of w.acts) (bytes_read w.disk.files)) in Sound (acted_by called.ended called.disk w.acts act (Taken sends wins))) (sym k.is) there

  taking : (sends : Option Message) (wins : Bool) → Taken sends wins ≡ reply_of me w.acts act → (b : Bool) → writes act ≡ b → halted_of w.acts ≡ false → Sound (after_reply w act (Taken sends wins))
  taking sends wins is true e going = writing sends wins is e going
  taking sends wins is false e going =
      let none = unwritten act sends wins e o in
      subst (λ (c : Option Change). let called : Called = calls_made w.disk (act_calls (Taken sends wins) c (durable_of w.acts) (bytes_read w.disk.files)) in Sound (acted_by called.ended called.disk w.acts act (Taken sends wins))) (sym none.0)
      (quiet_sound w act (Taken sends wins) o none.1 s up)

  by_reply : (reply : ActReply) → reply ≡ reply_of me w.acts act → halted_of w.acts ≡ false → Sound (after_reply w act reply)
  by_reply (Taken sends wins) is going = taking sends wins is (writes act) refl going
  by_reply (Refused cause) is going = quiet_sound w act (Refused cause) o (λ g. durable_refused g act (Refused cause) o refl) s up
  by_reply Stopped is going = quiet_sound w act Stopped o (λ g. durable_refused g act Stopped o refl) s up

  pub act_sound : Sound (after_act me w act)
  act_sound = from (halted_of w.acts) refl
    where
      from : (b : Bool) → halted_of w.acts ≡ b → Sound (after_act me w act)
      from false going = by_reply (reply_of me w.acts act) refl going
      from true stopped = subst (λ (r : ActReply). Sound (after_reply w act r)) (sym (halted_reply me w.acts act o stopped)) (quiet_sound w act Stopped o (λ g. durable_refused g act Stopped o refl) s up)

-- ---- other lines

crash_sound : (way : Way) (w : NodeWorld) → Sound w → Sound (after_crash way w)
crash_sound way w s = record { up = λ d. absurd (cc); fit = s.fit; unstruck = λ n. absurd (cc); runs = λ n. absurd (cc); left = λ n. leaves_stop way w.disk.files _ (leaves_acts w s) }

pub stop_sound : (way : Way) (w : NodeWorld) → Sound w → Sound (after_stop way w)
stop_sound way w s = from w.down
  where
    from : (b : Bool) → Sound (if b then w else after_crash way w)
    from true = s
    from false = crash_sound way w s

pub order_sound : (order : Order) (w : NodeWorld) → Sound w → Sound (after_order order w)
order_sound order w s = record { up = s.up; fit = s.fit; unstruck = s.unstruck; runs = s.runs; left = s.left }

-- ---- an opening

-- the record of a node that was opened is the one that was found
reopened_record : (g : NodeHistory) (found : Kept) → found ≡ durable_of g → durable_of (Then g (Open found) (Answered (Taken None false))) ≡ found
reopened_record NoActs found is = refl
reopened_record (Then g act o) found is = sym is

module _ (me : Id) (w : NodeWorld) (l : IsLocal me w.acts) (s : Sound w) (needs : needs_opening w ≡ true) where
  o : Opening (durable_of (settled false w.acts)) (durable_of (settled true w.acts)) w.disk
  o = opening_ends (durable_of (settled false w.acts)) (durable_of (settled true w.acts)) w.disk (s.left needs)

  found_record : found_at w ≡ o.kept
  found_record = ap (λ (r : Result Kept Why). result_unwrap_or r empty_record) o.found

  pub found_either : IsFound w.acts (found_at w)
  found_either = subst (λ (k : Kept). IsFound w.acts k) (sym found_record) o.is

  opened_sound : (end : CallsEnd) (disk : NodeDisk) → EndsIn end disk.files (λ f. Runs f o.kept) (λ f. LeavesActs f w.acts) → Sound (opened_by end w.acts disk (found_at w))
  opened_sound Done disk runs =
      let k : Bool = is_kept w.acts (found_at w) in
      let is : found_at w ≡ durable_of (settled k w.acts) = found_is me w.acts (found_at w) l found_either in
      let g : NodeHistory = acts_reopened w.acts (found_at w) in
      let kept : durable_of g ≡ found_at w = reopened_record (settled k w.acts) (found_at w) is in
      running_sound g disk refl refl tt (subst MayBegin (sym (kept ∙ is)) (s.fit k)) (subst (λ (x : Kept). Runs disk.files x) (sym (kept ∙ found_record)) runs)
  opened_sound Failed disk left = halted_sound w.acts disk true refl (λ d. absurd (cc)) s.fit left
  opened_sound (CrashedIn way) disk left = halted_sound w.acts disk true refl (λ d. absurd (cc)) s.fit left

  pub opening_sound : Sound (after_opening w)
  opening_sound = opened_sound (opening w.disk).ended (opening w.disk).disk o.ends

pub fresh_sound : Sound fresh_node
fresh_sound =
    let disk : NodeDisk = record { files = no_files; armed = nothing_armed } in
    let left : Leaves no_files (StandsWithEither empty_record empty_record) = record {
      since = record { zero = Nothing []; one = Nothing [] };
      is = refl;
      left = λ c zero one. inl (subst (StandsWith empty_record) (λ i. record { zero = sym zero i; one = sym one i }) empty_stands);
    } in
    let o : Opening empty_record empty_record disk = opening_ends empty_record empty_record disk left in
    let same : o.kept ≡ empty_record = elim o.is [ inl e ↦ e | inr e ↦ e ] in
    running_sound NoActs (opening disk).disk refl refl tt empty_begins (subst (λ (k : Kept). Runs (opening disk).disk.files k) same o.ends)
