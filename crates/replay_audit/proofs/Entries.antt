-- The entries that a part shows make the same of a history as the part does.
use Rattle.std.proofs.Common.{◌≡◌, ℕ, suc, ◌+◌, Bool, true, false, Option, None, List, [], ◌∷◌, ◌++◌, length, map, refl, sym, ap, ◌∙◌, subst, arith, if◌then◌else◌}
use Rattle.std.specs.List.{flat_map}
use Rattle.voting_config.specs.Ids.{Id, same}
use Rattle.cluster_state.specs.declared.state.Kept.{Kept}
use Rattle.world_model.specs.declared.acts.Act.{Act}
use Rattle.world_model.specs.declared.acts.Act.TheVariants.{Open}
use Rattle.world_model.specs.declared.acts.ActReply.{ActReply}
use Rattle.world_model.specs.declared.acts.ActReply.TheVariants.{Taken, Refused, Stopped}
use Rattle.world_model.specs.declared.acts.Outcome.{Outcome}
use Rattle.world_model.specs.declared.acts.Outcome.TheVariants.{Answered, Disk, Crashed}
use Rattle.world_model.specs.Acts.{is_opening}
use Rattle.world_model.specs.Histories.{History, NoEntries, Next, node_history}
use Rattle.world_model.specs.NodeState.{durable_of}
use Rattle.world_model.specs.Replies.{reply_of, IsOutcome}
use Rattle.world_model.specs.Settled.{is_kept, settled_entry, settled_for, shows_as}
use Rattle.world_model.proofs.Struck.{shows_self}
use Rattle.trace_text.specs.declared.ending.Ending.{Ending}
use Rattle.trace_text.specs.Endings.{ending_of}
use Rattle.node_audit.specs.Endings.{outcome_shown, taken_as}
use Rattle.recorded_trace.specs.declared.entry.Entry.{Entry}
use Rattle.recorded_trace.specs.declared.entry.Entry.TheVariants.{Acted, Recorded}
use Rattle.recorded_trace.specs.Acts.{shown_record}
use Rattle.recorded_trace.specs.Reading.{Numbered}
use Rattle.trace_audit.specs.Traced.{found_as, with_entry, with_entries, traced}
use Rattle.line_laws.specs.Read.{recorded}
use Rattle.schedule_replay.specs.Parts.{NumberedMessage, ActShown, TracePart, Echo, Did, Opened, WasDown, WasUp, WentDown, DiskFailed, Unsent}
use Rattle.schedule_replay.specs.HistoryShown.{outcome_shown as outcome_told, history_shown_by, history_shown_from}
use Rattle.schedule_replay.proofs.Along.{Along, IsSound, RightAct}
use Rattle.replay_audit.specs.Audits.{entry_count}

-- what a part shows to an audit
abbrev pub entry_in : TracePart → List Entry
entry_in (Did x) = Acted x.node x.ending x.act ∷ []
entry_in (Opened n found) = recorded n found ∷ []
entry_in other = []

abbrev pub entries_of : List TracePart → List Entry
entries_of steps = flat_map entry_in steps

abbrev pub after_entries : History → List Entry → History
after_entries h [] = h
after_entries h (x ∷ xs) = after_entries (with_entry h x) xs

-- ---- an act

-- the outcome that an audit gives to a word is the one that ended so
outcome_again : (n : Id) (h : History) (act : Act) (o : Outcome) (won : Option ℕ) (sends : Option NumberedMessage) → IsOutcome n (node_history h n) act o → outcome_told (ending_of o) won sends ≡ o
    → outcome_shown (reply_of n (node_history h n) act) (ending_of o) ≡ o
outcome_again n h act (Answered (Taken s w)) won sends is told = ap (λ (r : ActReply). Answered (taken_as r)) (sym is)
outcome_again n h act (Answered (Refused cause)) won sends is told = refl
outcome_again n h act (Answered Stopped) won sends is told = refl
outcome_again n h act (Disk kept) won sends is told = told
outcome_again n h act (Crashed kept) won sends is told = told

act_entry : (h : History) (x : ActShown) → RightAct h x → IsOutcome x.node (node_history h x.node) x.act (outcome_told x.ending x.won x.sends)
    → Next h x.node x.act (outcome_shown (reply_of x.node (node_history h x.node) x.act) x.ending) ≡ history_shown_by h (Did x)
act_entry h x r follows =
    let ends : x.ending ≡ ending_of r.outcome = ap (λ (y : ActShown). y.ending) r.is_shown in
    let is : IsOutcome x.node (node_history h x.node) x.act r.outcome = subst (λ (o : Outcome). IsOutcome x.node (node_history h x.node) x.act o) r.tells follows in
    let told : outcome_told (ending_of r.outcome) x.won x.sends ≡ r.outcome = ap (λ (e : Ending). outcome_told e x.won x.sends) (sym ends) ∙ r.tells in
    ap (λ (o : Outcome). Next h x.node x.act o)
    (ap (λ (e : Ending). outcome_shown (reply_of x.node (node_history h x.node) x.act) e) ends ∙ outcome_again x.node h x.act r.outcome x.won x.sends is told ∙ sym r.tells)

-- ---- an opening

-- what a node keeps is found, where its record is shown
found_again : (found kept : Kept) → found ≡ kept → found_as (shown_record found.term (record { term = found.accepted.term; version = found.accepted.version }) found.accepted.config found.committed) kept ≡ found
found_again found kept is =
    let shows : shows_as found kept ≡ true = subst (λ (k : Kept). shows_as found k ≡ true) is (shows_self found) in
    ap (λ (b : Bool). if b then kept else shown_record found.term (record { term = found.accepted.term; version = found.accepted.version }) found.accepted.config found.committed) shows ∙ sym is

opening_entry : (h : History) (n : Id) (found : Kept) → found ≡ durable_of (node_history (settled_for n (is_kept (node_history h n) found) h) n) → with_entry h (recorded n found) ≡ history_shown_by h (Opened n found)
opening_entry h n found continues =
    let before = settled_for n (is_kept (node_history h n) found) h in
    ap (λ (k : Kept). Next before n (Open k) (Answered (Taken None false))) (found_again found (durable_of (node_history before n)) continues)

-- ---- parts

step_entries : (initial : List Id) (h : History) (x : TracePart) → IsSound initial h x → after_entries h (entry_in x) ≡ history_shown_by h x
step_entries initial h (Did x) s = act_entry h x s.right s.behind.1.follows.follows
step_entries initial h (Opened n found) s = opening_entry h n found s.behind.1.continues
step_entries initial h (Echo line) s = refl
step_entries initial h (WasDown n) s = refl
step_entries initial h (WasUp n) s = refl
step_entries initial h (WentDown n) s = refl
step_entries initial h (DiskFailed n) s = refl
step_entries initial h Unsent s = refl

more_entries : (h : History) (xs ys : List Entry) → after_entries h (xs ++ ys) ≡ after_entries (after_entries h xs) ys
more_entries h [] ys = refl
more_entries h (x ∷ xs) ys = more_entries (with_entry h x) xs ys

pub steps_entries : (initial : List Id) (h : History) (xs : List TracePart) → Along (IsSound initial) h xs → after_entries h (entries_of xs) ≡ history_shown_from h xs
steps_entries initial h [] a = refl
steps_entries initial h (x ∷ xs) a =
    more_entries h (entry_in x) (entries_of xs)
    ∙ ap (λ (g : History). after_entries g (entries_of xs)) (step_entries initial h x a.0)
    ∙ steps_entries initial (history_shown_by h x) xs a.1

-- ---- numbered entries

pub with_numbered : (h : History) (xs : List Numbered) → with_entries h xs ≡ after_entries h (map (λ x. x.entry) xs)
with_numbered h [] = refl
with_numbered h (x ∷ xs) = with_numbered (with_entry h x.entry) xs

-- ---- how many there are

settled_entry_count : (k : Bool) (h s : History) (n : Id) (act : Act) (o : Outcome) → entry_count s ≡ entry_count h → entry_count (settled_entry k h s n act o) ≡ suc (entry_count h)
settled_entry_count k h s n act (Disk was) e = refl
settled_entry_count k h s n act (Crashed was) e = refl
settled_entry_count k h s n act (Answered reply) e = ap suc (from (is_opening act))
  where
    from : (b : Bool) → entry_count (if b then h else s) ≡ entry_count h
    from true = refl
    from false = e

count_if : (b : Bool) (x y : History) (k : ℕ) → entry_count x ≡ k → entry_count y ≡ k → entry_count (if b then x else y) ≡ k
count_if true x y k p q = p
count_if false x y k p q = q

settled_count : (n : Id) (k : Bool) (h : History) → entry_count (settled_for n k h) ≡ entry_count h
settled_count n k NoEntries = refl
settled_count n k (Next h node act o) =
    let rest = settled_count n k h in
    count_if (same node n) (settled_entry k h (settled_for n k h) node act o) (Next (settled_for n k h) node act o) (suc (entry_count h)) (settled_entry_count k h (settled_for n k h) node act o rest) (ap suc rest)

entry_counted : (h : History) (x : Entry) → entry_count (with_entry h x) ≡ suc (entry_count h)
entry_counted h (Acted n e act) = refl
entry_counted h (Recorded n shown) = ap suc (settled_count n (is_kept (node_history h n) shown) h)

counted_from : (h : History) (xs : List Numbered) → entry_count (with_entries h xs) ≡ entry_count h + length xs
counted_from h [] = omega arith
counted_from h (x ∷ xs) = omega (arith, counted_from (with_entry h x.entry) xs, entry_counted h x.entry)

pub traced_count : (xs : List Numbered) → length xs ≡ entry_count (traced xs)
traced_count xs = omega (arith, counted_from NoEntries xs)
