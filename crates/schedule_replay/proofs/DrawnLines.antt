-- A generated schedule, line by line.
use Rattle.std.proofs.Common.{◌≡◌, ℕ, zero, suc, ◌+◌, ◌<◌, ◌≤◌, List, [], ◌∷◌, ◌++◌, length, length-append, refl, sym, ap, subst, ◌∙◌, arith, add-one}
use Rattle.world_model.specs.declared.acts.Message.{Message}
use Rattle.world_model.specs.Histories.{sent}
use Rattle.schedule_text.specs.declared.level.Level.TheVariants.{Core}
use Rattle.schedule_text.specs.declared.schedule.Line.{Line}
use Rattle.schedule_text.specs.declared.schedule.Schedule.{Schedule}
use Rattle.schedule_text.specs.Lines.{FitsLine}
use Rattle.schedule_generator.specs.Generated.{generated_from, line_at, lines_by}
use Rattle.schedule_generator.specs.Laws.{most_steps}
use Rattle.schedule_generator.proofs.Fitting.{line_good}
use Rattle.trace_summary.specs.Tallies.{Tallies}
use Rattle.trace_summary.specs.declared.summary.Tally.{Tally}
use Rattle.replay_node.specs.declared.node.ReplayNode.{ReplayNode}
use Rattle.replay_node.specs.Worlds.{fresh_world}
use Rattle.schedule_replay.specs.Generated.{count_sent, generated}
use Rattle.schedule_replay.specs.Replayed.{replayed_from}
use Rattle.schedule_replay.specs.Trace.{trace, trace_from}
use Rattle.schedule_replay.specs.Tallied.{Tallied}
use Rattle.schedule_replay.proofs.Sending.{few_sent}

-- the first lines of the number's schedules
abbrev pub lines_to : (number step : ℕ) → List Line
lines_to number step = lines_by count_sent number step

so_many : (number step : ℕ) → length (lines_to number step) ≡ step
so_many number zero = refl
so_many number (suc step) =
    let last : Line = line_at number step (count_sent (lines_to number step)) in
    omega (arith, so_many number step, length-append (lines_to number step) (last ∷ []))

-- what a replay holds is what was sent
pub held_is : (header : Schedule) (nodes : List ReplayNode) (messages : List Message) (tally : Tally) (done : List Line) → header ≡ generated_from [] → Tallied Tallies header.nodes header.initial nodes messages tally done → length messages ≡ count_sent done
held_is header nodes messages tally done e m =
    ap (λ (ms : List Message). length ms) m.stands.messages_sent
    ∙ ap (λ (x : Schedule). length (sent (replayed_from x.initial fresh_world done).history)) e

-- there are no more messages than lines
pub few_held : (number step : ℕ) → count_sent (lines_to number step) ≤ step
few_held number step = omega (arith, few_sent (lines_to number step), so_many number step)

-- the line of a part is one of the four nodes
pub line_fits : (header : Schedule) (number step sent : ℕ) (line : Line) → header ≡ generated_from [] → step < most_steps → sent ≤ most_steps → line ≡ line_at number step sent → FitsLine Core header.nodes line
line_fits header number step sent line e few few_messages is =
    subst (λ (x : Schedule). FitsLine Core x.nodes line) (sym e)
    (subst (λ (l : Line). FitsLine Core (generated_from []).nodes l) (sym is) (line_good step few number sent few_messages).fits)

-- and it is the next one
pub more_lines : (number step sent : ℕ) (line : Line) → line ≡ line_at number step sent → sent ≡ count_sent (lines_to number step) → lines_to number (step + 1) ≡ lines_to number step ++ line ∷ []
more_lines number step sent line is held =
    rw add-one (ap (λ (l : Line). lines_to number step ++ l ∷ []) (sym (is ∙ ap (λ (k : ℕ). line_at number step k) held)))

-- after the last line the tally is that of the trace
pub summed_up : (header : Schedule) (nodes : List ReplayNode) (messages : List Message) (tally : Tally) (number steps : ℕ) → header ≡ generated_from [] → Tallied Tallies header.nodes header.initial nodes messages tally (lines_to number steps) → Tallies tally (trace (generated number steps))
summed_up header nodes messages tally number steps e m = subst (λ (x : Schedule). Tallies tally (trace_from x.initial fresh_world (lines_to number steps))) e m.tallies
