-- The laws of a schedule.
use Rattle.std.proofs.Common.{◌≡◌, false, refl, sym, ◌∙◌, ap, subst}
use Rattle.world_model.specs.Histories.{History, sent, IsLegal}
use Rattle.replay_node.specs.Worlds.{fresh_world}
use Rattle.schedule_replay.specs.Replayed.{replayed}
use Rattle.schedule_replay.specs.TraceLaws.{LawTraceGivesHistory, LawPartsGoOn, LawTraceFollows, LawTraceShows, LawTraceAgrees}
use Rattle.schedule_replay.specs.TraceParts.{trace_parts}
use Rattle.schedule_replay.specs.Showing.{Shows}
use Rattle.schedule_replay.specs.HistoryShown.{numbered, history_shown}
use Rattle.schedule_replay.proofs.Along.{numbers}
use Rattle.schedule_replay.proofs.Following.{lines_show}
use Rattle.schedule_replay.proofs.Right.{steps_right, schedule_sound, schedule_legal}
use Rattle.schedule_replay.proofs.Showing.{sound_shows, shown_agrees}
use Rattle.schedule_replay.proofs.Telling.{steps_text, steps_told, steps_lines, go_on}

pub tells : LawTraceGivesHistory
tells s = record {
  text = steps_text s.initial fresh_world s.lines;
  lines = steps_lines s.initial fresh_world s.lines;
  history = steps_told s.initial fresh_world s.lines;
  messages = numbers fresh_world.history (trace_parts s) (steps_right s.initial fresh_world s.lines) ∙ ap (λ (h : History). numbered 0 (sent h)) (steps_told s.initial fresh_world s.lines);
}

pub goes_on : LawPartsGoOn
goes_on s more = go_on s.initial fresh_world s.lines more

pub follows : LawTraceFollows
follows s = lines_show s.initial fresh_world s.lines (λ n. false) (λ n. refl)

pub shows : LawTraceShows
shows s i =
    let same : history_shown (trace_parts s) ≡ replayed s = steps_told s.initial fresh_world s.lines in
    subst (λ (h : History). Shows h (trace_parts s)) same (sound_shows s.initial (trace_parts s) (schedule_sound s i) (subst (λ (h : History). IsLegal s.initial h) (sym same) (schedule_legal s i)))

pub agrees : LawTraceAgrees
agrees s i = shown_agrees s.initial (replayed s) (trace_parts s) (schedule_legal s i) (shows s i)
