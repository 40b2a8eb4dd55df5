-- The next state out of its parts.
use Rattle.std.proofs.Common.{◌≡◌, ℕ, ◌-◌, Bool, true, false, not, ◌&&◌, List, [], ◌++◌, length, sym, ap, ◌∙◌, arith}
use Rattle.std.specs.Prelude.{if◌then◌else◌}
use Rattle.std.proofs.lemmas.List.{append-nil, append_assoc, length-append}
use Rattle.voting_config.specs.Ids.{Id}
use Rattle.cluster_state.specs.declared.state.ClusterValue.{ClusterValue}
use Rattle.master_tasks.specs.declared.waiting.Waiting.{Waiting}
use Rattle.master_tasks.specs.declared.waiting.Outgoing.{Outgoing}
use Rattle.master_tasks.specs.declared.next.Next.{Next}
use Rattle.master_tasks.specs.declared.next.Next.TheVariants.{Same, New}
use Rattle.master_tasks.specs.Replying.{Replies, room_for, with_sent}
use Rattle.master_tasks.specs.Queue.{Tasks}
use Rattle.master_tasks.specs.Processing.{Processed, processed_all}
use Rattle.master_tasks.specs.NextState.{Leader, value_before, processed_by, next_value, config_for, next_config, is_accepted, makes_anew, is_nothing_new, acks, unacked, next_answers, waiting_after, next_replies, next_of}

-- what was made
pub record Made (l : Leader) (t : Tasks) (value : ClusterValue) (waiting : List Waiting) (anew : Bool) (replies : Replies) (config : List Id) : Type 0 where
  pub value_is : value ≡ next_value l t
  pub waiting_is : waiting ≡ (processed_by l t).waiting
  pub anew_is : anew ≡ (processed_by l t).anew
  pub replies_are : replies ≡ with_sent (room_for (length t.waiting)) (processed_by l t).answers
  pub config_is : config ≡ next_config l t

pub made : (l : Leader) (t : Tasks) (before value : ClusterValue) (waiting : List Waiting) (anew : Bool) (replies : Replies) (config : List Id)
    → before ≡ value_before l.me t l.accepted.value
    → value ≡ (processed_all l.policy.second l.accepted before t.waiting).value
    → waiting ≡ (processed_all l.policy.second l.accepted before t.waiting).waiting
    → anew ≡ (processed_all l.policy.second l.accepted before t.waiting).anew
    → replies ≡ with_sent (room_for (length t.waiting)) (processed_all l.policy.second l.accepted before t.waiting).answers
    → config ≡ config_for l.me l.term l.accepted l.committed l.votes l.policy value
    → Made l t value waiting anew replies config
unfolding processed_by next_value next_config
made l t before value waiting anew replies config is value_is waiting_is anew_is replies_are config_is =
    let all : processed_all l.policy.second l.accepted before t.waiting ≡ processed_by l t = ap (λ (v : ClusterValue). processed_all l.policy.second l.accepted v t.waiting) is in
    let value_next : value ≡ next_value l t = value_is ∙ ap (λ (p : Processed). p.value) all in
    record {
      value_is = value_next;
      waiting_is = waiting_is ∙ ap (λ (p : Processed). p.waiting) all;
      anew_is = anew_is ∙ ap (λ (p : Processed). p.anew) all;
      replies_are = replies_are ∙ ap (λ (p : Processed). with_sent (room_for (length t.waiting)) p.answers) all;
      config_is = config_is ∙ ap (config_for l.me l.term l.accepted l.committed l.votes l.policy) value_next;
    }

-- whether no state comes of what was made
abbrev pub is_old : Leader → Tasks → Bool → List Id → ClusterValue → Bool
is_old l t anew config value = not (makes_anew l.policy t.additions anew) && is_accepted l.term l.accepted config value

nothing_new_is : (l : Leader) (t : Tasks) (value : ClusterValue) (waiting : List Waiting) (anew : Bool) (replies : Replies) (config : List Id) (b : Bool) → Made l t value waiting anew replies config → b ≡ is_old l t anew config value → is_nothing_new l t ≡ b
unfolding is_nothing_new
nothing_new_is l t value waiting anew replies config b m is =
    sym
    (is
    ∙ ap (λ (b : Bool). is_old l t b config value) m.anew_is
    ∙ ap (λ (c : List Id). is_old l t (processed_by l t).anew c value) m.config_is
    ∙ ap (λ (v : ClusterValue). is_old l t (processed_by l t).anew (next_config l t) v) m.value_is)

abbrev the_replies : List Outgoing → ℕ → Replies
the_replies sent room = record { sent = sent; room = room }

-- replies after replies
sent_twice : (out : Replies) (xs ys : List Outgoing) → with_sent (with_sent out xs) ys ≡ with_sent out (xs ++ ys)
sent_twice out xs ys =
    let sent : (out.sent ++ xs) ++ ys ≡ out.sent ++ (xs ++ ys) = append_assoc out.sent xs ys in
    let room : out.room - length xs - length ys ≡ out.room - length (xs ++ ys) = simp length-append (omega arith) in
    replies_same _ _ _ _ sent room
  where
    replies_same : (a b : List Outgoing) (m n : ℕ) → a ≡ b → m ≡ n → the_replies a m ≡ the_replies b n
    replies_same a b m n e f = cc

-- who waits on, the replies and the outcome, by whether nothing is new
abbrev waiting_if : Leader → List Waiting → Bool → List Waiting
waiting_if l waiting b = if b then unacked l waiting else waiting

abbrev replies_if : Leader → Tasks → Processed → Bool → Replies
replies_if l t p b = with_sent (room_for (length t.waiting)) (p.answers ++ (if b then acks l p.waiting else []))

abbrev next_if : Leader → Tasks → Bool → Next
next_if l t b = if b then Same (replies_if l t (processed_by l t) b) else New (next_config l t) (next_value l t) (replies_if l t (processed_by l t) b)

waiting_are : (l : Leader) (t : Tasks) (b : Bool) → is_nothing_new l t ≡ b → waiting_after l t ≡ waiting_if l (processed_by l t).waiting b
waiting_are l t b h = ap (waiting_if l (processed_by l t).waiting) h

next_is : (l : Leader) (t : Tasks) (b : Bool) → is_nothing_new l t ≡ b → next_of l t ≡ next_if l t b
unfolding next_of next_replies next_answers
next_is l t b h = ap (next_if l t) h

-- there is a new state
pub waiting_new : (l : Leader) (t : Tasks) (value : ClusterValue) (waiting : List Waiting) (anew : Bool) (replies : Replies) (config : List Id) → Made l t value waiting anew replies config → false ≡ is_old l t anew config value
    → waiting ≡ waiting_after l t
waiting_new l t value waiting anew replies config m is =
    m.waiting_is ∙ sym (waiting_are l t false (nothing_new_is l t value waiting anew replies config false m is))

pub next_new : (l : Leader) (t : Tasks) (value : ClusterValue) (waiting : List Waiting) (anew : Bool) (replies : Replies) (config : List Id) → Made l t value waiting anew replies config → false ≡ is_old l t anew config value
    → New config value replies ≡ next_of l t
next_new l t value waiting anew replies config m is =
    ap (λ (c : List Id). New c value replies) m.config_is
    ∙ ap (λ (v : ClusterValue). New (next_config l t) v replies) m.value_is
    ∙ ap (New (next_config l t) (next_value l t)) (m.replies_are ∙ ap (with_sent (room_for (length t.waiting))) (sym (append-nil (processed_by l t).answers)))
    ∙ sym (next_is l t false (nothing_new_is l t value waiting anew replies config false m is))

-- nothing is new
pub waiting_same : (l : Leader) (t : Tasks) (value : ClusterValue) (waiting : List Waiting) (anew : Bool) (replies : Replies) (config : List Id) → Made l t value waiting anew replies config → true ≡ is_old l t anew config value
    → unacked l waiting ≡ waiting_after l t
waiting_same l t value waiting anew replies config m is =
    ap (λ (ws : List Waiting). unacked l ws) m.waiting_is ∙ sym (waiting_are l t true (nothing_new_is l t value waiting anew replies config true m is))

pub next_same : (l : Leader) (t : Tasks) (value : ClusterValue) (waiting : List Waiting) (anew : Bool) (replies : Replies) (config : List Id) → Made l t value waiting anew replies config → true ≡ is_old l t anew config value
    → Same (with_sent replies (acks l waiting)) ≡ next_of l t
next_same l t value waiting anew replies config m is =
    ap Same
    (ap (λ (r : Replies). with_sent r (acks l waiting)) m.replies_are
    ∙ ap (λ (ws : List Waiting). with_sent (with_sent (room_for (length t.waiting)) (processed_by l t).answers) (acks l ws)) m.waiting_is
    ∙ sent_twice (room_for (length t.waiting)) (processed_by l t).answers (acks l (processed_by l t).waiting))
    ∙ sym (next_is l t true (nothing_new_is l t value waiting anew replies config true m is))
