-- For the contracts inside: that what clients are told by the second profile is linearizable, as Herlihy and Wing have it (1990), as statements:
-- there is one order of all requests that were answered, and of some that were not, in which each reply is the one that a map of registers
-- would give, and what was answered before another came stands before it.
use Rattle.std.specs.Prelude.{◌≡◌, ◌≢◌, ◌⊎◌, ℕ, true, Option, List, [], ◌∷◌, ◌++◌, fold}
use Rattle.std.specs.List.{Contains, All}
use Rattle.voting_config.specs.Ids.{Id}
use Rattle.cluster_state.specs.Settings.{Setting}
use Rattle.cluster_state.specs.declared.reply.Answer.{Answer}
use Rattle.cluster_state.specs.declared.reply.Answer.TheVariants as answer
use Rattle.cluster_state.specs.declared.reply.Reply.TheVariants as reply
use Rattle.cluster_state.specs.declared.request.Ask.TheVariants as ask
use Rattle.cluster_state.specs.declared.request.Request.{Request}
use Rattle.cluster_state.specs.declared.state.Kept.{Kept}
use Rattle.world_model.specs.Restarts.{IsAlone}
use Rattle.policy_model.specs.declared.settings.Settings.{Settings}
use Rattle.policy_model.specs.declared.events.Event.{Event}
use Rattle.policy_model.specs.Events.{Item}
use Rattle.policy_model.specs.Entries.{Life, Did, replies_of}
use Rattle.client_guarantees.specs.Asked.{setting_under, setting_after}
use Rattle.client_guarantees.specs.Processed.{CameBy}
use Rattle.system_laws.specs.Systems.{System, Nothing, Starts, Lives, Dies, Runs, run_of, IsSystem}
use Rattle.system_laws.specs.RestartedSystems.{IsSystemFrom}

-- A request, and when its line came: all that had happened before.
pub record Operation : Type 0 where
  pub came : System
  pub node : Id
  pub conn : ℕ
  pub request : Request

-- such a line came to a node when all this had happened
pub record IsLineOf (h : System) (n : Id) (event : Event) (o : Operation) : Type 0 where
  pub came : o.came ≡ h
  pub node : o.node ≡ n
  pub line : CameBy event o.conn o.request

abbrev pub Came : System → Operation → Type 0
Came Nothing o = ⊥
Came (Starts h s found) o = Came h o
Came (Lives h node (Did event items)) o = IsLineOf h node event o ⊎ Came h o
Came (Lives h node entry) o = Came h o
Came (Dies h node event items) o = IsLineOf h node event o ⊎ Came h o

-- A reply that a run of the second profile sent, and when: all that had happened by the end of its event.
pub record Response : Type 0 where
  pub sent : System
  pub node : Id
  pub conn : ℕ
  pub number : ℕ
  pub answer : Answer

-- `before` the event, `after` it
pub record IsReplyOf (before after : System) (n : Id) (items : List Item) (r : Response) : Type 0 where
  pub sent : r.sent ≡ after
  pub node : r.node ≡ n
  pub settings : Settings
  pub life : Life
  pub runs : run_of before n ≡ Runs settings life
  pub second : settings.policy.second ≡ true
  pub is_in : Contains (replies_of items) (record { conn = r.conn; reply = reply.To r.number r.answer })

abbrev pub Sent : System → Response → Type 0
Sent Nothing r = ⊥
Sent (Starts h s found) r = Sent h r
Sent (Lives h node (Did event items)) r = IsReplyOf h (Lives h node (Did event items)) node items r ⊎ Sent h r
Sent (Lives h node entry) r = Sent h r
Sent (Dies h node event items) r = IsReplyOf h (Dies h node event items) node items r ⊎ Sent h r

-- what had happened first
abbrev pub IsUpTo : System → System → Type 0
IsUpTo first Nothing = first ≡ Nothing
IsUpTo first (Starts h s found) = (first ≡ Starts h s found) ⊎ IsUpTo first h
IsUpTo first (Lives h node entry) = (first ≡ Lives h node entry) ⊎ IsUpTo first h
IsUpTo first (Dies h node event items) = (first ≡ Dies h node event items) ⊎ IsUpTo first h

-- the reply was sent before the line came
abbrev pub Precedes : Response → Operation → Type 0
Precedes r o = IsUpTo r.sent o.came

-- the node began no new run from there on
abbrev pub RunsOn : System → Id → System → Type 0
RunsOn first node Nothing = first ≡ Nothing
RunsOn first node (Starts h s found) = (first ≡ Starts h s found) ⊎ ((s.me ≢ node) × RunsOn first node h)
RunsOn first node (Lives h n entry) = (first ≡ Lives h n entry) ⊎ RunsOn first node h
RunsOn first node (Dies h n event items) = (first ≡ Dies h n event items) ⊎ RunsOn first node h

-- the reply is one to this request: to its connection, with its number, in the run in which it came
pub record IsReplyTo (o : Operation) (r : Response) : Type 0 where
  pub node : r.node ≡ o.node
  pub conn : r.conn ≡ o.conn
  pub number : r.number ≡ o.request.id
  pub began : r.sent ≢ o.came
  pub run : RunsOn o.came o.node r.sent

-- the register of a key, after these operations, one after another
abbrev pub register_after : List ℕ → Option (List ℕ) → List Operation → Option (List ℕ)
register_after key first os = fold (λ register o. setting_after key register o.request.ask) first os

-- What a map of registers replies: to a request for the state all that they hold; to others that they are done.
abbrev pub IsRight : List Setting → List Operation → Operation → Answer → Type 0
IsRight first earlier o (answer.State state) =
    (o.request.ask ≡ ask.State)
    × ((key : List ℕ) → setting_under key state.value.settings ≡ register_after key (setting_under key first) earlier)
IsRight first earlier o (answer.Acked id) = o.request.ask ≢ ask.State
IsRight first earlier o other = Unit {0}

-- A reply is one to an operation of the order, as a map of registers gives it there; and whatever came after the reply stands behind.
pub record HasItsPlace (first : List Setting) (order : List Operation) (r : Response) : Type 0 where
  pub earlier : List Operation
  pub operation : Operation
  pub later : List Operation
  pub is_there : order ≡ earlier ++ operation ∷ later
  pub replied : IsReplyTo operation r
  pub right : IsRight first earlier operation r.answer
  pub in_time : (o : Operation) → Contains earlier o → Precedes r o → ⊥

-- the answers that speak of committed states
abbrev pub IsDone : Answer → Type 0
IsDone (answer.Acked id) = Unit {0}
IsDone (answer.State state) = Unit {0}
IsDone other = ⊥

-- each stands there once: no line takes effect twice
abbrev pub AreApart : List Operation → Type 0
AreApart [] = Unit {0}
AreApart (o ∷ os) = ((p : Operation) → Contains os p → p.came ≢ o.came) × AreApart os

pub record IsLinearization (h : System) (first : List Setting) (order : List Operation) : Type 0 where
  pub came : All (λ o. Came h o) order
  pub once : AreApart order
  pub replies : (r : Response) → Sent h r → IsDone r.answer → HasItsPlace first order r

pub record IsLinearizable (h : System) (first : List Setting) : Type 0 where
  pub order : List Operation
  pub is : IsLinearization h first order

-- each system of nodes that follow the policy, from a bootstrap and from the restart of one node on
abbrev pub LawSystemIsLinearizable : Type 0
LawSystemIsLinearizable = (initial : List Id) (h : System) → IsSystem initial h → IsLinearizable h []

abbrev pub LawRestartedSystemIsLinearizable : Type 0
LawRestartedSystemIsLinearizable =
    (first : Id) (kept : Kept) (h : System) → IsAlone first kept → IsSystemFrom first kept h → IsLinearizable h kept.accepted.value.settings
