-- Steps that are right, and tell a history that is legal, were told after legal histories all along: what an opening settles does not make a
-- history legal that was none before.
use Rattle.std.proofs.Common.{List, [], ◌∷◌}
use Rattle.voting_config.specs.Ids.{Id}
use Rattle.world_model.specs.Histories.{History, node_history, IsLegal}
use Rattle.world_model.specs.Settled.{is_kept}
use Rattle.world_model.proofs.AllSettled.{unsettled_legal}
use Rattle.schedule_replay.specs.Parts.{TracePart, Echo, Did, Opened, WasDown, WasUp, WentDown, DiskFailed, Unsent}
use Rattle.schedule_replay.specs.HistoryShown.{history_shown_by, history_shown_from}
use Rattle.schedule_replay.proofs.Along.{Along, IsRight, IsSound}

legal_before : (initial : List Id) (h : History) (x : TracePart) → IsLegal initial (history_shown_by h x) → IsLegal initial h
legal_before initial h (Did x) l = l.0
legal_before initial h (Opened n found) l = unsettled_legal initial h n (is_kept (node_history h n) found) l.0
legal_before initial h (Echo line) l = l
legal_before initial h (WasDown n) l = l
legal_before initial h (WasUp n) l = l
legal_before initial h (WentDown n) l = l
legal_before initial h (DiskFailed n) l = l
legal_before initial h Unsent l = l

sound_before : (initial : List Id) (h : History) (xs : List TracePart) → Along IsRight h xs → IsLegal initial (history_shown_from h xs) → IsLegal initial h × Along (IsSound initial) h xs
sound_before initial h [] r l = (l, tt)
sound_before initial h (x ∷ xs) r l =
    let rest = sound_before initial (history_shown_by h x) xs r.1 l in
    let before = legal_before initial h x rest.0 in
    (before, (record { right = r.0; before = before; behind = rest.0 }, rest.1))

pub sound_along : (initial : List Id) (h : History) (xs : List TracePart) → Along IsRight h xs → IsLegal initial (history_shown_from h xs) → Along (IsSound initial) h xs
sound_along initial h xs r l = (sound_before initial h xs r l).1
