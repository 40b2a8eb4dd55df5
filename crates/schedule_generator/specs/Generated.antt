-- Part of the statement: the schedules of a number.
use Rattle.std.specs.Prelude.{ℕ, false, zero, suc, ◌-◌, List, [], ◌∷◌, ◌++◌, codes, nat_lt, if◌then◌else◌}
use Rattle.voting_config.specs.Lists.{items_of}
use Rattle.schedule_text.specs.declared.schedule.Line.{Line}
use Rattle.schedule_text.specs.declared.schedule.Line.TheVariants.{Boot}
use Rattle.schedule_text.specs.declared.schedule.Schedule.{Schedule}
use Rattle.schedule_generator.specs.Draws.{after_draws, draw_of, seeded}
use Rattle.schedule_generator.specs.Drawn.{drawn_line, node_of}

-- The line of a step, counted from 0, after so many messages. The first three nodes boot; each step after them draws three words, which
-- no other step draws.
abbrev pub line_at : (number step sent : ℕ) → Line
line_at number step sent =
    if nat_lt step 3 then Boot (node_of step) else drawn_line step sent (draw_of (after_draws (step - 3) (seeded number)))

-- the schedule of these lines
abbrev pub generated_from : List Line → Schedule
generated_from lines = record { nodes = items_of (codes "a,b,c,d"); initial = items_of (codes "a,b,c"); voting_only = []; second = false; lines = lines }

-- So many lines, where this says how many messages some lines send: each line is that of its step, after the messages of all lines before
-- it.
abbrev pub lines_by : (messages : List Line → ℕ) → (number steps : ℕ) → List Line
lines_by messages number zero = []
lines_by messages number (suc steps) = lines_by messages number steps
    ++ line_at number steps (messages (lines_by messages number steps)) ∷ []

abbrev pub generated_by : (messages : List Line → ℕ) → (number steps : ℕ) → Schedule
generated_by messages number steps = generated_from (lines_by messages number steps)
