-- A survey stands for what the nodes did.
use Rattle.std.proofs.Common.{◌≡◌, ℕ, ◌+◌, ◌<◌, ◌≤◌, Bool, ◌||◌, List, [], ◌∷◌, ◌++◌, length, map, take, get_or, refl, sym, ◌∙◌, ap, subst, arith}
use Rattle.std.specs.List.{AllByRecursion}
use Rattle.std.proofs.lemmas.List.{take_all, take_more}
use Rattle.voting_config.specs.Ids.{Id}
use Rattle.coord_state.specs.declared.coord.CoordState.{CoordState}
use Rattle.world_model.specs.NodeState.{halted_of}
use Rattle.replay_node.specs.NodeWorld.{NodeWorld, needs_opening}
use Rattle.replay_node.specs.Stands.{Journal, NodeStands, OpenStands, journal_ghosts}
use Rattle.replay_node.specs.Worlds.{World, fresh_world, node_world}
use Rattle.replay_node.specs.declared.node.ReplayNode.{ReplayNode}
use Rattle.schedule_text.specs.declared.level.Level.TheVariants.{Core}
use Rattle.schedule_text.specs.declared.schedule.Line.{Line}
use Rattle.schedule_text.specs.declared.schedule.Schedule.{Schedule}
use Rattle.schedule_text.specs.Lines.{FitsLine}
use Rattle.world_model.specs.Histories.{sent}
use Rattle.world_model.specs.declared.acts.Message.{Message}
use Rattle.schedule_replay.specs.Replayed.{after, replayed_from}
use Rattle.schedule_replay.specs.WorldStands.{AllStand, Stands, WritesLine}
use Rattle.schedule_replay.proofs.Tallying.{taken_more, all_taken, replayed_more}
use Rattle.schedule_replay.proofs.Sending.{lines_send}
use Rattle.schedule_replay.specs.declared.surveyed.SurveyedNode.{SurveyedNode}
use Rattle.schedule_replay.specs.Survey.{surveyed, surveyed_at, world_after}

-- an open node needs an opening where it is halted
pub open_needs : (me : Id) (c : CoordState Journal) (w : NodeWorld) → OpenStands me c w → needs_opening w ≡ journal_ghosts.has_stopped c.keeper
open_needs me c w o = ap (λ (b : Bool). b || halted_of w.acts) o.up ∙ (λ i. (sym o.acts i).halted)

-- ---- all nodes

-- what was found of these nodes is right, whatever they stand for
abbrev pub Finds : List ReplayNode → List SurveyedNode → Type 0
Finds nodes found = (ids : List Id) (w : World) → AllStand ids nodes w → found ≡ map (λ n. surveyed w n) ids

-- what is found of each node
abbrev pub FindsEach : List ReplayNode → List SurveyedNode → Type 0
FindsEach [] [] = Unit {0}
FindsEach (c ∷ cs) (x ∷ xs) = ((w : NodeWorld) → NodeStands c w → x ≡ surveyed_at c.me w) × FindsEach cs xs
FindsEach [] (x ∷ xs) = ⊥
FindsEach (c ∷ cs) [] = ⊥

pub each_more : (cs : List ReplayNode) (c : ReplayNode) (xs : List SurveyedNode) (x : SurveyedNode) → FindsEach cs xs → ((w : NodeWorld) → NodeStands c w → x ≡ surveyed_at c.me w) → FindsEach (cs ++ c ∷ []) (xs ++ x ∷ [])
each_more [] c [] x f one = (one, tt)
each_more [] c (y ∷ ys) x f one = absurd f
each_more (d ∷ ds) c [] x f one = absurd f
each_more (d ∷ ds) c (y ∷ ys) x f one = (f.0, each_more ds c ys x f.1 one)

pub finds : (cs : List ReplayNode) (xs : List SurveyedNode) → FindsEach cs xs → Finds cs xs
finds [] [] f [] w s = refl
finds [] [] f (i ∷ is) w s = absurd s
finds (c ∷ cs) (x ∷ xs) f [] w s = absurd s
finds (c ∷ cs) (x ∷ xs) f (i ∷ is) w s =
    let here : x ≡ surveyed w i = f.0 (node_world w i) s.1 ∙ ap (λ (n : Id). surveyed_at n (node_world w i)) s.0 in
    let rest : xs ≡ map (λ n. surveyed w n) is = finds cs xs f.1 is w s.2 in
    λ k. here k ∷ rest k
finds [] (x ∷ xs) f ids w s = absurd f
finds (c ∷ cs) [] f ids w s = absurd f

-- the nodes up to the one in hand, and with it
pub node_more : (cs : List ReplayNode) (i : ℕ) (c : ReplayNode) → i < length cs → c ≡ get_or cs i c → take (i + 1) cs ≡ take i cs ++ c ∷ []
node_more cs i c within is = take_more cs i c within ∙ ap (λ (x : ReplayNode). take i cs ++ x ∷ []) (sym is)

pub all_nodes : (cs : List ReplayNode) (i : ℕ) → length cs ≤ i → take i cs ≡ cs
all_nodes cs i past = take_all i cs past

pub each_step : (cs : List ReplayNode) (i : ℕ) (c : ReplayNode) (xs new : List SurveyedNode) (x : SurveyedNode) → i < length cs → c ≡ get_or cs i c → new ≡ xs ++ x ∷ [] → FindsEach (take i cs) xs → ((w : NodeWorld) → NodeStands c w → x ≡ surveyed_at c.me w) → FindsEach (take (i + 1) cs) new
each_step cs i c xs new x within is added each one =
    subst (λ (ds : List ReplayNode). FindsEach ds new) (sym (node_more cs i c within is))
    (subst (λ (ys : List SurveyedNode). FindsEach (take i cs ++ c ∷ []) ys) (sym added) (each_more (take i cs) c xs x each one))

-- ---- the lines

-- with the line in hand the replay stands for the lines up to it
pub line_stands : (ids initial : List Id) (nodes more : List ReplayNode) (messages sent_now : List Message) (was now : List ℕ) (lines : List Line) (i : ℕ) (line : Line) → i < length lines → line ≡ get_or lines i line
    → Stands ids nodes messages (replayed_from initial fresh_world (take i lines)) → WritesLine ids initial nodes more messages sent_now was now line → Stands ids more sent_now (replayed_from initial fresh_world (take (i + 1) lines))
line_stands ids initial nodes more messages sent_now was now lines i line within is stands writes =
    let w : World = replayed_from initial fresh_world (take i lines) in
    let next : replayed_from initial fresh_world (take (i + 1) lines) ≡ after initial w line =
    ap (λ (ls : List Line). replayed_from initial fresh_world ls) (taken_more lines i line within is) ∙ replayed_more initial fresh_world (take i lines) line
    in
    subst (λ (v : World). Stands ids more sent_now v) (sym next) (writes w stands).stands

-- in the end it stands for all lines
pub all_stands : (ids initial : List Id) (nodes : List ReplayNode) (messages : List Message) (lines all : List Line) (i : ℕ) → lines ≡ all → length lines ≤ i
    → Stands ids nodes messages (replayed_from initial fresh_world (take i lines)) → Stands ids nodes messages (replayed_from initial fresh_world all)
all_stands ids initial nodes messages lines all i are past stands = subst (λ (ls : List Line). Stands ids nodes messages (replayed_from initial fresh_world ls)) (all_taken lines i past ∙ are) stands

pub count_sent : (ids : List Id) (nodes : List ReplayNode) (messages : List Message) (w : World) → Stands ids nodes messages w → length messages ≡ length (sent w.history)
count_sent ids nodes messages w stands = ap (λ (ms : List Message). length ms) stands.messages_sent

pub count_few : (s : Schedule) (count : ℕ) → AllByRecursion (FitsLine Core s.nodes) s.lines → count ≡ length (sent (world_after s).history) → count ≤ length s.lines
count_few s count fits is = let few = lines_send s.initial fresh_world s.lines in omega (arith, few, is)
