-- The history of each schedule is legal.
use Rattle.std.proofs.Common.{◌≡◌, ◌≢◌, ℕ, ◌-◌, ◌<◌, Option, None, Some, List, [], ◌∷◌, length, refl, ap, arith, slice_get}
use Rattle.std.specs.List.{AllByRecursion, Contains}
use Rattle.std.proofs.lemmas.Option.{slice_get_within, get_or_from_slice_get}
use Rattle.voting_config.specs.Ids.{Id, most_ids}
use Rattle.cluster_state.specs.Fields.{ids}
use Rattle.zen_disk.specs.declared.orders.Order.TheVariants.{Stop, Fault}
use Rattle.world_model.specs.declared.acts.Act.TheVariants.{Bootstrap, StartJoin, Value}
use Rattle.world_model.specs.declared.acts.Message.{Message}
use Rattle.world_model.specs.Histories.{sent, IsLegal}
use Rattle.schedule_text.specs.declared.schedule.Line.{Line}
use Rattle.schedule_text.specs.declared.schedule.Line.TheVariants as line
use Rattle.schedule_text.specs.declared.level.Level.TheVariants.{Core}
use Rattle.schedule_text.specs.Lines.{FitsLine}
use Rattle.schedule_text.specs.Spelled.{IsSchedule}
use Rattle.schedule_text.specs.declared.schedule.Schedule.{Schedule}
use Rattle.trace_text.proofs.IdLists.{ids_set}
use Rattle.replay_node.specs.Sent.{taking}
use Rattle.replay_node.specs.Worlds.{World, fresh_world}
use Rattle.replay_node.proofs.MayAct.{sourced_taking, taking_shut}
use Rattle.replay_node.proofs.WorldSound.{SoundWorld, acted, armed, fresh, message_fits, reopened, stopped, taking_fits}
use Rattle.schedule_replay.specs.Legal.{LawReplayIsLegal}
use Rattle.schedule_replay.specs.Replayed.{after, message_at, replayed_from, took_some}
use Rattle.schedule_replay.specs.Survey.{world_after}
use Rattle.schedule_replay.proofs.FitLines.{set_fits, config_fits, text_fits}

taken : (initial : List Id) (w : World) (n : Id) (k : ℕ) (m : Option Message) → SoundWorld initial w → slice_get (sent w.history) k ≡ m → SoundWorld initial (took_some w n m)
taken initial w n k None s e = s
taken initial w n k (Some m) s e =
    let known : Contains (sent w.history) m = (k, slice_get_within (sent w.history) k m e, get_or_from_slice_get (sent w.history) k m m e) in
    acted initial w n (taking m) s (sourced_taking initial (sent w.history) m known) (taking_shut m) (taking_fits m (message_fits (sent w.history) k m s.messages e))

line_sound : (nodes initial : List Id) (w : World) (l : Line) → initial ≢ [] → (ids most_ids).Fits initial → FitsLine Core nodes l → SoundWorld initial w → SoundWorld initial (after initial w l)
line_sound nodes initial w (line.Boot n) named fits f s = acted initial w n (Bootstrap initial) s (refl, named) refl fits
line_sound nodes initial w (line.StartJoin n candidate term) named fits f s = acted initial w n (StartJoin candidate term) s tt refl tt
line_sound nodes initial w (line.Value n version text config) named fits f s = acted initial w n (Value version config _) s tt refl (config_fits nodes config f.3, text_fits text f.2)
line_sound nodes initial w (line.Deliver n number) named fits f s = taken initial w n (number - 1) (message_at w number) s refl
line_sound nodes initial w (line.Crash n way) named fits f s = stopped initial w n way s
line_sound nodes initial w (line.Restart n) named fits f s = reopened initial w n s
line_sound nodes initial w (line.Fuse n count way) named fits f s = armed initial w n (Stop count way) s
line_sound nodes initial w (line.Fail n count) named fits f s = armed initial w n (Fault count) s
line_sound nodes initial w (line.Tick n now word) named fits f s = s
line_sound nodes initial w (line.Client n bytes) named fits f s = s
line_sound nodes initial w (line.Disconnect n peer) named fits f s = s

lines_sound : (nodes initial : List Id) (w : World) (ls : List Line) → initial ≢ [] → (ids most_ids).Fits initial → AllByRecursion (FitsLine Core nodes) ls → SoundWorld initial w → SoundWorld initial (replayed_from initial w ls)
lines_sound nodes initial w [] named fits f s = s
lines_sound nodes initial w (l ∷ ls) named fits f s = lines_sound nodes initial (after initial w l) ls named fits f.1 (line_sound nodes initial w l named fits f.0 s)

none_named : (xs : List Id) → 0 < length xs → xs ≡ [] → ⊥
none_named xs some e = let zero_long : length xs ≡ 0 = ap (λ (l : List Id). length l) e in omega (arith, some, zero_long)

-- so of all nodes after the lines of a schedule
pub world_sound : (s : Schedule) → IsSchedule Core s → SoundWorld s.initial (world_after s)
world_sound s is = lines_sound s.nodes s.initial fresh_world s.lines (none_named s.initial is.some_initial) (set_fits s.initial (ids_set s.initial is.initial)) is.lines (fresh s.initial)

pub replay_is_legal : LawReplayIsLegal
replay_is_legal s well = from s.lines well.fit well.named
  where
    from : (ls : List Line) → AllByRecursion (FitsLine Core s.nodes) ls → (s.initial ≡ [] → ls ≡ []) → IsLegal s.initial (replayed_from s.initial fresh_world ls).history
    from [] f none = tt
    from (l ∷ ls) f none = (lines_sound s.nodes s.initial fresh_world (l ∷ ls) (λ e. let is = none e in cc) (set_fits s.initial well.initial) f (fresh s.initial)).legal
