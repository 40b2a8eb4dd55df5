-- Part of the statement: which nodes are rescued, and how, or why they cannot be.
use Rattle.std.specs.Prelude.{◌≡◌, ℕ, ◌+◌, ◌||◌, Bool, false, Option, None, Some, Result, Ok, Err, List, [], ◌∷◌, ◌++◌, length, map, nat_lt, if◌then◌else◌}
use Rattle.std.specs.List.{list_any}
use Rattle.voting_config.specs.Ids.{Id, same}
use Rattle.world_model.specs.Histories.{sent}
use Rattle.schedule_text.specs.Limits.{most_bytes, most_lines, most_line_bytes}
use Rattle.schedule_text.specs.Lines.{line_text}
use Rattle.schedule_text.specs.Spelled.{with_feeds}
use Rattle.schedule_text.specs.declared.schedule.Line.{Line}
use Rattle.schedule_text.specs.declared.schedule.Schedule.{Schedule}
use Rattle.rescue_plan.specs.declared.answer.UpNode.{UpNode}
use Rattle.rescue_plan.specs.declared.answer.Plan.{Plan}
use Rattle.rescue_plan.specs.declared.answer.RescueRefused.{RescueRefused}
use Rattle.rescue_plan.specs.Planning.{planned}
use Rattle.schedule_replay.specs.declared.surveyed.SurveyedNode.{SurveyedNode}
use Rattle.schedule_replay.specs.Survey.{surveyed, world_after}
use Rattle.zen_app.specs.declared.refusals.RescueError.{RescueError}
use Rattle.zen_app.specs.declared.refusals.RescueError.TheVariants.{Refused, Memory}
use Rattle.zen_app.specs.declared.refusals.NoRescue.{NoRescue}
use Rattle.zen_app.specs.declared.refusals.NoRescue.TheVariants.{NotUp, Armed, NoPlan, Full}

-- the node of this id
abbrev pub found_in : List SurveyedNode → Id → Option SurveyedNode
found_in [] id = None
found_in (x ∷ xs) id = if same x.id id then Some x else found_in xs id

abbrev pub up_of : Option SurveyedNode → Option UpNode
up_of None = None
up_of (Some node) = node.up

abbrev pub is_armed : Option SurveyedNode → Bool
is_armed None = false
is_armed (Some node) = node.armed

infixl 10 ◌>>=◌
abbrev pub ◌>>=◌ : {A B : Type 0} → Result A NoRescue → (A → Result B NoRescue) → Result B NoRescue
(Ok x) >>= f = f x
(Err why) >>= f = Err why

-- what is known of the node, which must be up
abbrev pub one_up : Id → Option UpNode → Result UpNode NoRescue
one_up id None = Err (NotUp id)
one_up id (Some node) = Ok node

-- what is known of the nodes, each of which must be up, after those of `prefix`
abbrev pub all_up : List SurveyedNode → (prefix : List UpNode) → List Id → Result (List UpNode) NoRescue
all_up nodes prefix [] = Ok prefix
all_up nodes prefix (id ∷ ids) = one_up id (up_of (found_in nodes id)) >>= λ node. all_up nodes (prefix ++ node ∷ []) ids

-- no node has an order left
abbrev pub all_free : List SurveyedNode → List Id → Result (Unit {0}) NoRescue
all_free nodes [] = Ok tt
all_free nodes (id ∷ ids) = if is_armed (found_in nodes id) then Err (Armed id) else all_free nodes ids

abbrev pub chosen_of : List SurveyedNode → List Id → Result (List UpNode) NoRescue
chosen_of nodes ids = all_up nodes [] ids >>= λ up. all_free nodes ids >>= λ u. Ok up

abbrev pub or_no_plan : Result Plan RescueRefused → Result Plan NoRescue
or_no_plan (Ok p) = Ok p
or_no_plan (Err why) = Err (NoPlan why)

-- the plan for these nodes of a schedule
abbrev pub plan_after : Schedule → List Id → Result Plan NoRescue
plan_after s ids =
    let w = world_after s in
    chosen_of (map (λ n. surveyed w n) s.nodes) ids >>= λ up. or_no_plan (planned up (length (sent w.history)))

-- the lines as they are written
abbrev pub lines_text : List Line → List ℕ
lines_text lines = with_feeds (map (λ l. line_text l) lines)

-- a line is too long
abbrev pub is_long : Line → Bool
is_long l = nat_lt most_line_bytes (length (line_text l))

-- so many bytes and lines, the two of the header not counted, and these lines after them pass a limit of a schedule
abbrev pub is_full : (bytes lines : ℕ) → List Line → Bool
is_full bytes lines more = nat_lt most_bytes (bytes + length (lines_text more))
    || (nat_lt most_lines (2 + lines + length more) || list_any is_long more)

abbrev pub unless_full : (bytes lines : ℕ) → Plan → Result Plan NoRescue
unless_full bytes lines p = if is_full bytes lines p.lines then Err Full else Ok p

-- the lines of the plan as text, unless that is full
abbrev pub text_after : (bytes lines : ℕ) → Plan → Result (List ℕ) NoRescue
text_after bytes lines p = unless_full bytes lines p >>= λ q. Ok (lines_text q.lines)

-- the plan by which these nodes go on after a schedule of so many bytes, or why there is none
abbrev pub rescue_of : (bytes : ℕ) → Schedule → List Id → Result Plan NoRescue
rescue_of bytes s ids = plan_after s ids >>= unless_full bytes (length s.lines)

-- it answers this, unless memory ran out
abbrev pub Answers : {A B : Type 0} → (A → B) → Result A RescueError → Result B NoRescue → Type 0
Answers view (Ok x) answer = answer ≡ Ok (view x)
Answers view (Err (Refused why)) answer = answer ≡ Err why
Answers view (Err Memory) answer = Unit {0}
