use Rattle.std.proofs.Common.{◌≡◌, ℕ, ◌≤◌, List, arith, subst, sym, ◌∙◌}
use Rattle.schedule_text.specs.declared.schedule.Line.{Line}
use Rattle.trace_summary.specs.Tallies.{Tallies}
use Rattle.replay_node.specs.Worlds.{fresh_world}
use Rattle.schedule_replay.specs.Generated.{count_sent, generated}
use Rattle.schedule_replay.specs.Replayed.{replayed_from}
use Rattle.schedule_replay.specs.Tallied.{Tallied}
use Rattle.schedule_replay.specs.Trace.{trace}
use Rattle.schedule_replay.proofs.DrawnLines.{few_held, held_is, line_fits, lines_to, more_lines, summed_up}
use Rattle.schedule_replay.proofs.Tallying.{Adds, one_more}
use Rattle.schedule_replay.proofs.generating.generate.Goals as goal

pub line-requires-in-steps-clause-fits : goal.line-requires-in-steps-clause-fits
line-requires-in-steps-clause-fits c =
    let held : c.len-sent.result ≡ count_sent (lines_to c.args.number c.steps.counter) =
    c.len-sent.ensures.value ∙ held_is c.empty_schedule-header.result _ _ _ (lines_to c.args.number c.steps.counter) c.empty_schedule-header.ensures c.steps.invariant.1 in
    let few : c.len-sent.result ≤ c.steps.counter = omega (arith, held, few_held c.args.number c.steps.counter) in
    line_fits c.empty_schedule-header.result c.args.number c.steps.counter c.len-sent.result c.in_ok-drawn.drawn c.empty_schedule-header.ensures (omega arith) (omega arith) (c.in_ok-drawn.ensures.line c.args.number c.steps.counter c.steps.invariant.0)

pub line-requires-in-steps-clause-stands : goal.line-requires-in-steps-clause-stands
line-requires-in-steps-clause-stands c = (replayed_from c.empty_schedule-header.result.initial fresh_world (lines_to c.args.number c.steps.counter), c.steps.invariant.1.stands)

pub steps-preserved : goal.steps-preserved
steps-preserved c =
    let held : c.len-sent.result ≡ count_sent (lines_to c.args.number c.steps.counter) =
    c.len-sent.ensures.value ∙ held_is c.empty_schedule-header.result _ _ _ (lines_to c.args.number c.steps.counter) c.empty_schedule-header.ensures c.steps.invariant.1 in (
      c.line.ensures.rest c.args.number c.steps.counter c.steps.invariant.0,
      subst (λ (done : List Line). Tallied Tallies c.empty_schedule-header.result.nodes c.empty_schedule-header.result.initial c.line-in-steps.new.self.nodes.items c.line-in-steps.new.self.sent c.add.new.self done)
          (sym (more_lines c.args.number c.steps.counter c.len-sent.result c.in_ok-drawn.drawn (c.in_ok-drawn.ensures.line c.args.number c.steps.counter c.steps.invariant.0) held))
          (one_more Tallies c.empty_schedule-header.result.nodes c.empty_schedule-header.result.initial _ _ _ _ _ _ _ c.line-in-steps.new.text _ c.in_ok-drawn.drawn c.clear.ensures c.steps.invariant.1 c.in_ok-line.ensures.done
          (subst (λ (piece : List ℕ). Adds Tallies c.steps.tally c.add.new.self piece) c.as_bytes-piece.ensures c.in_ok-add.ensures)),
    )

pub returns : goal.returns
returns c =
    let done : c.steps.counter ≡ c.args.steps = omega arith in
    c.finish.ensures _ (subst (λ (k : ℕ). Tallies c.steps.tally (trace (generated c.args.number k))) done
    (summed_up c.empty_schedule-header.result _ _ _ c.args.number c.steps.counter c.empty_schedule-header.ensures c.steps.invariant.1))
