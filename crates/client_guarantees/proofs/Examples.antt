-- A node alone that is asked to put a setting: it does as the law asks, in a legal history, acknowledges, and so its setting is committed.
use Rattle.std.proofs.Common.{◌≡◌, ℕ, Bool, true, false, cond, Some, Ok, List, [], ◌∷◌, ◌++◌, refl, sym, ◌∙◌, ap, subst, arith, inl}
use Rattle.std.specs.Prelude.{Result}
use Rattle.std.specs.List.{Contains}
use Rattle.voting_config.specs.Ids.{Id, same}
use Rattle.cluster_state.specs.Initial.{empty_record}
use Rattle.cluster_state.specs.JoinCheck.{join_checked}
use Rattle.cluster_state.specs.declared.state.ClusterState.{ClusterState}
use Rattle.cluster_state.specs.declared.state.ClusterValue.{ClusterValue}
use Rattle.cluster_state.specs.declared.state.StateId.{StateId}
use Rattle.cluster_state.specs.declared.reply.LineFault.{LineFault}
use Rattle.cluster_state.specs.declared.request.Ask.TheVariants as ask
use Rattle.cluster_state.specs.declared.request.Request.{Request}
use Rattle.cluster_state.specs.declared.reply.Answer.TheVariants as answer
use Rattle.cluster_state.specs.declared.reply.Reply.TheVariants as reply
use Rattle.cluster_state.specs.States.{id_of}
use Rattle.client_lines.specs.Reading.{line_request}
use Rattle.wire_frames.specs.declared.frame.WireMessage.{WireMessage}
use Rattle.wire_frames.specs.declared.frame.WireMessage.TheVariants as message
use Rattle.master_tasks.specs.Queue.{Tasks, only}
use Rattle.master_tasks.specs.NextState.{Leader as NextMaster, processed_by, next_value, config_for, next_config, is_accepted, is_nothing_new, next_answers, tasks_after}
use Rattle.master_tasks.specs.declared.waiting.Waiting.{Waiting}
use Rattle.master_tasks.specs.declared.waiting.Outgoing.{Outgoing}
use Rattle.world_model.specs.Acts.{NodeHistory, NoActs, Then}
use Rattle.world_model.specs.Histories.{History, NoEntries, Next, node_history, IsLegal, IsLocal}
use Rattle.world_model.specs.Local.{BeginsEmpty, IsSourcedAll}
use Rattle.world_model.proofs.Assemble.{assembled}
use Rattle.voting_config.proofs.Sets.{same_is}
use Rattle.world_model.specs.Safety.{Published, IsCommitted}
use Rattle.policy_model.specs.declared.settings.Settings.{Settings}
use Rattle.policy_model.specs.declared.events.Event.{Event}
use Rattle.policy_model.specs.declared.events.Event.TheVariants.{Start, Tick, Frame as FrameCame, Client as LineCame}
use Rattle.policy_model.specs.Events.{Begins, And, acts_of}
use Rattle.policy_model.specs.Entries.{Life, NotBegun, Opened, Lived, Did, log_of, replies_of}
use Rattle.policy_model.specs.Views.{View, view_of}
use Rattle.policy_model.specs.Follows.{Follows, has_fault, is_struck, is_start, starts_next, items_of}
use Rattle.policy_model.specs.Requests.{takes_line}
use Rattle.policy_model.proofs.Locals.{life_local}
use Rattle.policy_model.proofs.Faults.{next-fault}
use Rattle.client_guarantees.specs.Laws.{IsLifeIn}
use Rattle.client_guarantees.specs.Asked.{setting_under, MeetsUnlessUndone}
use Rattle.client_guarantees.specs.Processed.{processed_into_next, processed_of}
use Rattle.client_guarantees.specs.Replies.{IsAcked}
use Rattle.client_guarantees.proofs.Laws.{run_of_life, last_replies_are_true}

abbrev a : Id
a = 97 ∷ []

abbrev alone : Settings
alone = record { me = a; peers = []; initial = a ∷ []; voting_only = []; policy = record { shrink = true; second = false } }

-- the node does at an event what the rules say
abbrev does : Life → Event → Life
does life event = Lived life (Did event (items_of alone (log_of life) event))

view_at : Life → Event → View
view_at life event = view_of alone (And (log_of life) (Begins event))

unstruck : (life : Life) (event : Event) → is_struck (does life event) ≡ false
unstruck life event = next-fault alone (view_of alone (And (log_of life) (Begins event))) event

follows_on : (life : Life) (event : Event) → Follows alone life → is_struck life ≡ false → is_start event ≡ starts_next life → Follows alone (does life event)
follows_on life event f u s = (f, record { up = u; start = s; does = inl refl })

abbrev itself : WireMessage → Event
itself m = FrameCame (record { from = a; to = a; message = m })

abbrev id : ℕ → ℕ → StateId
id term version = record { term = term; version = version }

abbrev value_with : List (List ℕ × List ℕ) → ClusterValue
value_with settings = record { master = Some a; members = a ∷ []; exclusions = []; settings = settings }

abbrev first : ClusterState
first = record { term = 1; version = 1; parent = Some (id 0 0); config = a ∷ []; committed = a ∷ []; value = value_with [] }

abbrev second : ClusterState
second = record { term = 1; version = 2; parent = Some (id 1 1); config = a ∷ []; committed = a ∷ []; value = value_with ((107 ∷ [], 118 ∷ []) ∷ []) }

abbrev put : Request
put = record { id = 9; ask = ask.Put (107 ∷ []) (118 ∷ []) }

abbrev opened : Life
opened = Opened NotBegun empty_record

abbrev elected : Life
elected = does (does (does opened Start) (Tick 0 7)) (Tick 8 0)

abbrev leading : Life
leading = does (does elected (itself (message.StartJoin a 1))) (itself (message.Join 1 (id 0 0)))

abbrev committed : Life
committed = does (does (does leading (itself (message.Publish first))) (itself (message.Response (id 1 1)))) (itself (message.Commit (id 1 1)))

abbrev asked : List ℕ → Life
asked line = Lived committed (Did (LineCame 5 line) (takes_line alone (view_of alone (And (log_of committed) (Begins (LineCame 5 line)))) 5 (Ok put)))

abbrev accepted : List ℕ → Life
accepted line = does (asked line) (itself (message.Publish second))

abbrev acked : List ℕ → Life
acked line = does (accepted line) (itself (message.Response (id 1 2)))

elected_follows : Follows alone elected
elected_follows =
    follows_on (does (does opened Start) (Tick 0 7)) (Tick 8 0)
    (follows_on (does opened Start) (Tick 0 7) (follows_on opened Start (tt, tt) refl refl) (unstruck opened Start) refl)
    (unstruck (does opened Start) (Tick 0 7)) refl

leading_follows : Follows alone leading
leading_follows =
    let join = does elected (itself (message.StartJoin a 1)) in
    follows_on join (itself (message.Join 1 (id 0 0)))
    (follows_on elected (itself (message.StartJoin a 1)) elected_follows (unstruck (does (does opened Start) (Tick 0 7)) (Tick 8 0)) refl)
    (unstruck elected (itself (message.StartJoin a 1))) refl

committed_follows : Follows alone committed
committed_follows =
    let one = does leading (itself (message.Publish first)) in
    let two = does one (itself (message.Response (id 1 1))) in
    follows_on two (itself (message.Commit (id 1 1)))
    (follows_on one (itself (message.Response (id 1 1)))
    (follows_on leading (itself (message.Publish first)) leading_follows (unstruck (does elected (itself (message.StartJoin a 1))) (itself (message.Join 1 (id 0 0)))) refl)
    (unstruck leading (itself (message.Publish first))) refl)
    (unstruck one (itself (message.Response (id 1 1)))) refl

acked_follows : (line : List ℕ) → line_request line ≡ Ok put → Follows alone (acked line)
acked_follows line e =
    let v = view_of alone (And (log_of committed) (Begins (LineCame 5 line))) in
    let before = does (does leading (itself (message.Publish first))) (itself (message.Response (id 1 1))) in
    let f : Follows alone (asked line) = (
      committed_follows,
      record { up = unstruck before (itself (message.Commit (id 1 1))); start = refl; does = inl (ap (λ (r : Result Request LineFault). takes_line alone v 5 r) (sym e)) },
    ) in
    let u : is_struck (asked line) ≡ false = subst (λ (r : Result Request LineFault). has_fault (takes_line alone v 5 r) ≡ false) e (next-fault alone v (LineCame 5 line)) in
    follows_on (accepted line) (itself (message.Response (id 1 2))) (follows_on (asked line) (itself (message.Publish second)) f u refl) (unstruck (asked line) (itself (message.Publish second))) refl

-- the acts of a node alone, as a history
abbrev as_history : NodeHistory → History
as_history NoActs = NoEntries
as_history (Then g act o) = Next (as_history g) a act o

own : (g : NodeHistory) → node_history (as_history g) a ≡ g
own NoActs = refl
own (Then g act o) = ap (λ (x : NodeHistory). Then x act o) (own g)

others : (n : Id) → same a n ≡ false → (g : NodeHistory) → node_history (as_history g) n ≡ NoActs
others n e NoActs = refl
others n e (Then g act o) = ap (λ (b : Bool). cond b (Then (node_history (as_history g) n) act o) (node_history (as_history g) n)) e ∙ others n e g

all_local : (g : NodeHistory) → IsLocal a g → BeginsEmpty g → (n : Id) → IsLocal n (node_history (as_history g) n) × BeginsEmpty (node_history (as_history g) n)
all_local g l b n = from (same a n) refl
  where
    from : (t : Bool) → same a n ≡ t → IsLocal n (node_history (as_history g) n) × BeginsEmpty (node_history (as_history g) n)
    from true e =
        subst (λ (m : Id). IsLocal m (node_history (as_history g) m) × BeginsEmpty (node_history (as_history g) m)) (same_is a n e)
        (subst (λ (x : NodeHistory). IsLocal a x × BeginsEmpty x) (sym (own g)) (l, b))
    from false e = subst (λ (x : NodeHistory). IsLocal n x × BeginsEmpty x) (sym (others n e g)) (tt, tt)

empty_first : (line : List ℕ) → BeginsEmpty (acts_of (log_of (acked line)))
unfolding join_checked processed_by next_value config_for next_config is_accepted is_nothing_new next_answers tasks_after
empty_first line = refl

sourced : (line : List ℕ) → IsSourcedAll (a ∷ []) (as_history (acts_of (log_of (acked line))))
unfolding join_checked processed_by next_value config_for next_config is_accepted is_nothing_new next_answers tasks_after
sourced line = (((((((((((tt, tt), (refl, λ e. cc)), tt), (0, (omega arith), refl)), tt), (1, (omega arith), refl)), (2, (omega arith), refl)), (3, (omega arith), refl)), tt), (4, (omega arith), refl)), (5, (omega arith), refl))

says : (line : List ℕ) → replies_of (items_of alone (log_of (accepted line)) (itself (message.Response (id 1 2)))) ≡ record { conn = 5; reply = reply.To 9 (answer.Acked (id 1 2)) } ∷ []
unfolding join_checked processed_by next_value config_for next_config is_accepted is_nothing_new next_answers tasks_after
says line = refl

legal : (line : List ℕ) → line_request line ≡ Ok put → IsLegal (a ∷ []) (as_history (acts_of (log_of (acked line))))
legal line e =
    assembled (a ∷ []) (as_history (acts_of (log_of (acked line)))) (all_local (acts_of (log_of (acked line))) (life_local alone (acked line) (acked_follows line e)) (empty_first line)) (sourced line)

is_life : (line : List ℕ) → line_request line ≡ Ok put → IsLifeIn (as_history (acts_of (log_of (acked line)))) alone (acked line)
is_life line e = record { follows = acked_follows line e; acts = own (acts_of (log_of (acked line))) }

-- one request is processed
abbrev waited : Waiting
waited = record { conn = 5; arrived = 8; request = put; processed = true }

processes : (line : List ℕ) → processed_of alone (log_of (acked line)) ≡ waited ∷ []
unfolding join_checked processed_by next_value config_for next_config is_accepted is_nothing_new next_answers tasks_after processed_into_next
processes line = refl

-- the law, of the last reply: the put is in a committed state
acknowledged : (line : List ℕ) → line_request line ≡ Ok put → IsAcked (as_history (acts_of (log_of (acked line)))) alone (acked line) 5 9 (id 1 2)
acknowledged line e =
    let h = as_history (acts_of (log_of (acked line))) in
    let out : Outgoing = record { conn = 5; reply = reply.To 9 (answer.Acked (id 1 2)) } in
    last_replies_are_true (a ∷ []) h (legal line e) alone (accepted line) (itself (message.Response (id 1 2))) (items_of alone (log_of (accepted line)) (itself (message.Response (id 1 2)))) (run_of_life h alone (acked line) (is_life line e)) out
    (subst (λ (outs : List Outgoing). Contains outs out) (sym (says line)) (0, (omega arith), refl))

record IsCommittedPut (h : History) : Type 0 where
  as_published : Published
  is_committed : IsCommitted h as_published
  is_id : id_of as_published.state ≡ id 1 2
  has : setting_under (107 ∷ []) as_published.state.value.settings ≡ Some (118 ∷ [])

abbrev head_or : List Waiting → Waiting
head_or [] = waited
head_or (x ∷ xs) = x

only_one : (r : Waiting) (earlier later after : List Waiting) → waited ∷ [] ≡ earlier ++ r ∷ later ++ after → (r ≡ waited) × (later ≡ [])
only_one r [] [] after same = (sym (ap (λ (l : List Waiting). head_or l) same), refl)
only_one r [] (x ∷ xs) after same = absurd cc
only_one r (x ∷ []) later after same = absurd cc
only_one r (x ∷ y ∷ ys) later after same = absurd cc

is_kept : (line : List ℕ) → line_request line ≡ Ok put → IsCommittedPut (as_history (acts_of (log_of (acked line))))
is_kept line e =
    let g = acknowledged line e in
    let o = only_one g.request g.earlier g.later g.after (sym (processes line) ∙ g.is_processed) in
    record {
      as_published = g.as_published;
      is_committed = g.is_committed;
      is_id = g.is_id;
      has = subst (λ (w : Waiting). MeetsUnlessUndone g.as_published.state.value w []) o.0 (subst (λ (l : List Waiting). MeetsUnlessUndone g.as_published.state.value g.request l) o.1 g.meets.0) refl;
    }

-- ---- a leader that was replaced and does not know it, with its own state as the last that it accepted: it is asked to put what is there

abbrev replaced : Bool → NextMaster
replaced by_second = record { me = a; term = 1; accepted = second; committed = a ∷ []; votes = a ∷ []; policy = record { shrink = true; second = by_second } }

abbrev put_again : Tasks
put_again = only (record { conn = 5; arrived = 8; request = put; processed = false } ∷ [])

-- by the first profile nothing is new, and it acks the put at once, with the state that it published before the line came
acked_at_once : next_answers (replaced false) put_again ≡ record { conn = 5; reply = reply.To 9 (answer.Acked (id 1 2)) } ∷ []
unfolding processed_by next_value config_for next_config is_accepted is_nothing_new next_answers
acked_at_once = refl

-- by the second it answers nobody, and makes a state, which needs the others
acked_by_others : (next_answers (replaced true) put_again ≡ []) × (is_nothing_new (replaced true) put_again ≡ false)
unfolding processed_by next_value config_for next_config is_accepted is_nothing_new next_answers
acked_by_others = (refl, refl)

-- so it is with an exclusion that changes nothing, of nodes that do not vote
abbrev exclude_again : Tasks
exclude_again = only (record { conn = 5; arrived = 8; request = record { id = 9; ask = ask.Exclude [] }; processed = false } ∷ [])

excluded_by_others : (next_answers (replaced true) exclude_again ≡ []) × (is_nothing_new (replaced true) exclude_again ≡ false)
unfolding processed_by next_value config_for next_config is_accepted is_nothing_new next_answers
excluded_by_others = (refl, refl)

-- and with one that asks to be shown the state: by the first profile it is shown the state that the node has accepted, by the second it waits
abbrev show : Tasks
show = only (record { conn = 5; arrived = 8; request = record { id = 9; ask = ask.State }; processed = false } ∷ [])

shown_at_once : next_answers (replaced false) show ≡ record { conn = 5; reply = reply.To 9 (answer.State second) } ∷ []
unfolding processed_by next_value config_for next_config is_accepted is_nothing_new next_answers
shown_at_once = refl

shown_by_others : (next_answers (replaced true) show ≡ []) × (is_nothing_new (replaced true) show ≡ false)
unfolding processed_by next_value config_for next_config is_accepted is_nothing_new next_answers
shown_by_others = (refl, refl)
