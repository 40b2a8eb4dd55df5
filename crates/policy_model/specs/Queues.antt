-- For the contracts inside: what became of the requests that a leader queued.
use Rattle.std.specs.Prelude.{◌≡◌, ℕ, ◌+◌, Bool, true, false, ◌&&◌, List, [], ◌∷◌, ◌++◌, length, filter, nat_eq, if◌then◌else◌}
use Rattle.cluster_state.specs.declared.reply.Answer.{Answer}
use Rattle.cluster_state.specs.declared.reply.Answer.TheVariants as answer
use Rattle.cluster_state.specs.declared.reply.Reply.{Reply}
use Rattle.cluster_state.specs.declared.reply.Reply.TheVariants as reply
use Rattle.master_tasks.specs.declared.waiting.Waiting.{Waiting}
use Rattle.master_tasks.specs.declared.waiting.Outgoing.{Outgoing}
use Rattle.master_tasks.specs.Queue.{arriving}
use Rattle.policy_model.specs.declared.settings.Settings.{Settings}
use Rattle.policy_model.specs.Events.{Log, NoItems, And, Opens, Replies, Notes, Queued}
use Rattle.policy_model.specs.Entries.{Life, log_of}
use Rattle.policy_model.specs.LookBacks.{mode_of, moment_of, tasks_of}
use Rattle.policy_model.specs.Doing.{is_leader}
use Rattle.policy_model.specs.Follows.{Follows, is_struck}

-- the requests that were queued since the opening, the oldest first
abbrev pub queued_in : Log → List Waiting
queued_in NoItems = []
queued_in (And l (Opens found)) = []
queued_in (And l (Notes (Queued conn request))) = queued_in l ++ arriving conn (moment_of l) request ∷ []
queued_in (And l i) = queued_in l

-- what is answered as its line comes, and not queued
abbrev pub is_for_line : Answer → Bool
is_for_line (answer.NotMaster master) = true
is_for_line (answer.BadSetting length) = true
is_for_line (answer.QueueFull most) = true
is_for_line other = false

abbrev pub answers_line : Reply → Bool
answers_line (reply.BadLine fault) = true
answers_line (reply.To id answer) = is_for_line answer

-- the replies since then to requests that were queued
abbrev pub replied_in : Log → List Outgoing
replied_in NoItems = []
replied_in (And l (Opens found)) = []
replied_in (And l (Replies out)) = if answers_line out.reply then replied_in l else replied_in l ++ out ∷ []
replied_in (And l i) = replied_in l

-- a request, and a reply, by connection and id
abbrev pub is_from : ℕ → ℕ → Waiting → Bool
is_from conn id w = nat_eq w.conn conn && nat_eq w.request.id id

abbrev pub names : ℕ → Reply → Bool
names id (reply.BadLine fault) = false
names id (reply.To other answer) = nat_eq other id

abbrev pub is_to : ℕ → ℕ → Outgoing → Bool
is_to conn id out = nat_eq out.conn conn && names id out.reply

abbrev pub how_many : {X : Type 0} → (X → Bool) → List X → ℕ
how_many test xs = length (filter test xs)

-- some of the queued, in their order, each perhaps processed since
pub data AreAmong : List Waiting → List Waiting → Type 0 where
  NoneWaits : AreAmong [] []
  Waits : (w : Waiting) (processed : Bool) (ws qs : List Waiting)
      → AreAmong ws qs → AreAmong (record w { processed = processed } ∷ ws) (w ∷ qs)
  IsGone : (w : Waiting) (ws qs : List Waiting) → AreAmong ws qs → AreAmong ws (w ∷ qs)

-- each request that was queued waits in its place, or was replied to once
pub record IsQueue (queued waiting : List Waiting) (replied : List Outgoing) : Type 0 where
  pub in_order : AreAmong waiting queued
  pub each : (conn id : ℕ) → how_many (is_from conn id) queued ≡ how_many (is_from conn id) waiting + how_many (is_to conn id) replied

abbrev pub LawQueue : Type 0
LawQueue =
    (s : Settings) (life : Life) → Follows s life → is_struck life ≡ false
    → IsQueue (queued_in (log_of life)) (tasks_of s (log_of life)).waiting (replied_in (log_of life))

-- only a leader has requests that wait: another node has replied to all that it queued
abbrev pub LawOnlyLeaders : Type 0
LawOnlyLeaders =
    (s : Settings) (life : Life) → Follows s life → is_struck life ≡ false
    → is_leader (mode_of (log_of life)) ≡ false → (tasks_of s (log_of life)).waiting ≡ []
