-- For the contracts inside: what stands after the echo of each line. It is the statement of `law_trace_follows`. The history and which
-- nodes are down give it, and these come from the parts before. Only how an act or an opening ended is left open here: that is the disk's.
use Rattle.std.specs.Prelude.{◌≡◌, ◌-◌, Bool, true, false, cond, ◌||◌, ◌⊎◌, Option, None, Some, List, [], ◌∷◌, ◌++◌, slice_get, if◌then◌else◌}
use Rattle.voting_config.specs.Ids.{Id, same}
use Rattle.cluster_state.specs.declared.state.Kept.{Kept}
use Rattle.world_model.specs.declared.acts.Act.{Act}
use Rattle.world_model.specs.declared.acts.Act.TheVariants.{Bootstrap, StartJoin, Value}
use Rattle.world_model.specs.declared.acts.Message.{Message}
use Rattle.world_model.specs.NodeState.{halted_of}
use Rattle.world_model.specs.Histories.{History, node_history, sent}
use Rattle.schedule_text.specs.declared.schedule.Line.{Line}
use Rattle.schedule_text.specs.declared.schedule.Line.TheVariants as line
use Rattle.trace_text.specs.declared.ending.Ending.{Ending}
use Rattle.trace_text.specs.declared.ending.Ending.TheVariants as ending
use Rattle.replay_node.specs.Sent.{taking}
use Rattle.schedule_replay.specs.Replayed.{value_with}
use Rattle.schedule_replay.specs.Parts.{ActShown, TracePart, Echo, Did, Opened, WasDown, WasUp, WentDown, DiskFailed, Unsent}
use Rattle.schedule_replay.specs.HistoryShown.{history_shown_from}

-- ---- which nodes are down

abbrev pub is_crash : Ending → Bool
is_crash ending.Crashed = true
is_crash other = false

-- a node goes down as it crashes, in an act, between two acts or in an opening, and by an opening that fails; it comes up by one that
-- succeeds
abbrev pub down_by : (Id → Bool) → TracePart → Id → Bool
down_by down (Did x) n = cond (same x.node n) (is_crash x.ending) (down n)
down_by down (Opened node found) n = cond (same node n) false (down n)
down_by down (WentDown node) n = cond (same node n) true (down n)
down_by down (DiskFailed node) n = cond (same node n) true (down n)
down_by down other n = down n

abbrev pub down_from : (Id → Bool) → List TracePart → Id → Bool
down_from down [] = down
down_from down (x ∷ xs) = down_from (down_by down x) xs

-- ---- what a line shows

-- the node does this act, unless it is down
abbrev pub ShowsAct : (is_down : Bool) → Id → Act → List TracePart → Type 0
ShowsAct true n act xs = xs ≡ WasDown n ∷ []
ShowsAct false n act xs = (x : ActShown) × (xs ≡ Did x ∷ []) × (x.node ≡ n) × (x.act ≡ act)

-- the node takes the message, where it was sent
abbrev pub ShowsDelivery : (is_down : Bool) → Id → Option Message → List TracePart → Type 0
ShowsDelivery is_down n None xs = xs ≡ (if is_down then WasDown n else Unsent) ∷ []
ShowsDelivery is_down n (Some message) xs = ShowsAct is_down n (taking message) xs

abbrev pub ShowsOpening : Id → List TracePart → Type 0
ShowsOpening n xs = ((found : Kept) × (xs ≡ Opened n found ∷ [])) ⊎ ((xs ≡ DiskFailed n ∷ []) ⊎ (xs ≡ WentDown n ∷ []))

-- the node is opened, where it is down or its disk has failed
abbrev pub ShowsRestart : (needs_opening : Bool) → Id → List TracePart → Type 0
ShowsRestart true n xs = ShowsOpening n xs
ShowsRestart false n xs = xs ≡ WasUp n ∷ []

abbrev pub ShowsLine : List Id → History → (Id → Bool) → Line → List TracePart → Type 0
ShowsLine initial h down (line.Boot n) xs = ShowsAct (down n) n (Bootstrap initial) xs
ShowsLine initial h down (line.StartJoin n candidate term) xs = ShowsAct (down n) n (StartJoin candidate term) xs
ShowsLine initial h down (line.Value n version text config) xs = ShowsAct (down n) n (Value version config (value_with text)) xs
ShowsLine initial h down (line.Deliver n number) xs = ShowsDelivery (down n) n (slice_get (sent h) (number - 1)) xs
ShowsLine initial h down (line.Crash n way) xs = xs ≡ (if down n then WasDown n else WentDown n) ∷ []
ShowsLine initial h down (line.Restart n) xs = ShowsRestart (down n || halted_of (node_history h n)) n xs
ShowsLine initial h down (line.Fuse n count way) xs = xs ≡ []
ShowsLine initial h down (line.Fail n count) xs = xs ≡ []
ShowsLine initial h down (line.Tick n now word) xs = xs ≡ []
ShowsLine initial h down (line.Client n bytes) xs = xs ≡ []
ShowsLine initial h down (line.Disconnect n peer) xs = xs ≡ []

-- the parts are the echo of the first line and what stands after it, and then those of the lines that are left
pub record Begins (ShowsFirst : List TracePart → Type 0) (ShowsRest : (first rest : List TracePart) → Type 0) (l : Line)
    (xs : List TracePart) : Type 0 where
  pub first : List TracePart
  pub rest : List TracePart
  pub are : xs ≡ Echo l ∷ (first ++ rest)
  pub shows_first : ShowsFirst first
  pub shows_rest : ShowsRest first rest

abbrev pub ShowsLines : List Id → History → (Id → Bool) → List Line → List TracePart → Type 0
ShowsLines initial h down [] xs = xs ≡ []
ShowsLines initial h down (l ∷ ls) xs =
    Begins (ShowsLine initial h down l) (λ first rest. ShowsLines initial (history_shown_from h first) (down_from down first) ls rest) l xs
