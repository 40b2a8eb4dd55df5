-- What holds of each part of a trace where it stands, and lists that grow along the parts.
use Rattle.std.proofs.Common.{◌≡◌, ℕ, ◌+◌, false, None, Some, List, [], ◌∷◌, ◌++◌, length, refl, sym, ◌∙◌, ap, arith, append-nil, append_assoc}
use Rattle.std.specs.List.{flat_map}
use Rattle.voting_config.specs.Ids.{Id}
use Rattle.world_model.specs.declared.acts.Message.{Message}
use Rattle.world_model.specs.declared.acts.ActReply.TheVariants.{Taken, Refused, Stopped}
use Rattle.world_model.specs.declared.acts.Outcome.{Outcome}
use Rattle.world_model.specs.declared.acts.Outcome.TheVariants.{Answered, Disk, Crashed}
use Rattle.world_model.specs.Histories.{History, node_history, sent, sent_by, is_opening, IsLegal}
use Rattle.trace_text.specs.Published.{last_published}
use Rattle.world_model.specs.Settled.{is_kept, settled_for}
use Rattle.world_model.proofs.AllSettled.{settled_sent}
use Rattle.schedule_replay.specs.Parts.{ActShown, TracePart, Echo, Did, Opened, WasDown, WasUp, WentDown, DiskFailed, Unsent}
use Rattle.schedule_replay.specs.HistoryShown.{outcome_shown, history_shown_by, history_shown_from, some_numbered, numbered_in, messages_of, numbered}
use Rattle.schedule_replay.specs.ActShown.{message_sent, act_shown}

-- P holds of each part after the history that the parts before it tell
abbrev pub Along : (History → TracePart → Type 0) → History → List TracePart → Type 0
Along P h [] = Unit {0}
Along P h (x ∷ xs) = P h x × Along P (history_shown_by h x) xs

pub along_append : (P : History → TracePart → Type 0) (h : History) (xs ys : List TracePart) → Along P h xs → Along P (history_shown_from h xs) ys → Along P h (xs ++ ys)
along_append P h [] ys a b = b
along_append P h (x ∷ xs) ys a b = (a.0, along_append P (history_shown_by h x) xs ys a.1 b)

-- a list that each part lengthens by what it shows
pub grows : {X : Type 0} (list : History → List X) (show : TracePart → List X) (P : History → TracePart → Type 0) → ((h : History) (x : TracePart) → P h x → list h ++ show x ≡ list (history_shown_by h x))
    → (h : History) (xs : List TracePart) → Along P h xs → list h ++ flat_map show xs ≡ list (history_shown_from h xs)
grows list show P step h [] a = append-nil (list h)
grows list show P step h (x ∷ xs) a =
    sym (append_assoc (list h) (show x) (flat_map show xs))
    ∙ ap (λ l. l ++ flat_map show xs) (step h x a.0)
    ∙ grows list show P step (history_shown_by h x) xs a.1

-- the part of an act shows what the act did, after this history
pub record RightAct (h : History) (x : ActShown) : Type 0 where
  pub outcome : Outcome
  pub is_shown : x ≡ act_shown (length (sent h)) (last_published (node_history h x.node)) x.node x.act outcome
  pub tells : outcome_shown x.ending x.won x.sends ≡ outcome
  pub shut : is_opening x.act ≡ false

abbrev pub IsRight : History → TracePart → Type 0
IsRight h (Did x) = RightAct h x
IsRight h other = Unit {0}

-- the part is right, and the history is legal before it and after it
pub record IsSound (initial : List Id) (h : History) (x : TracePart) : Type 0 where
  pub right : IsRight h x
  pub before : IsLegal initial h
  pub behind : IsLegal initial (history_shown_by h x)

-- ---- the numbers of the messages

numbered_append : (count : ℕ) (ms ns : List Message) → numbered count (ms ++ ns) ≡ numbered count ms ++ numbered (count + length ms) ns
numbered_append count [] ns = ap (λ (k : ℕ). numbered k ns) (omega arith)
numbered_append count (m ∷ ms) ns =
    ap (λ l. record { number = count + 1; message = m } ∷ l)
    (numbered_append (count + 1) ms ns ∙ ap (λ (k : ℕ). numbered (count + 1) ms ++ numbered k ns) (omega arith))

sends_is : (count : ℕ) (o : Outcome) → some_numbered (message_sent (count + 1) o) ≡ numbered count (sent_by o)
sends_is count (Answered (Taken (Some m) w)) = refl
sends_is count (Answered (Taken None w)) = refl
sends_is count (Answered (Refused c)) = refl
sends_is count (Answered Stopped) = refl
sends_is count (Disk k) = refl
sends_is count (Crashed k) = refl

step_numbers : (h : History) (x : TracePart) → IsRight h x → numbered 0 (sent h) ++ numbered_in x ≡ numbered 0 (sent (history_shown_by h x))
step_numbers h (Did x) r =
    ap (λ (y : ActShown). numbered 0 (sent h) ++ some_numbered y.sends) r.is_shown
    ∙ ap (λ l. numbered 0 (sent h) ++ l) (sends_is (length (sent h)) r.outcome)
    ∙ ap (λ (k : ℕ). numbered 0 (sent h) ++ numbered k (sent_by r.outcome)) (omega arith)
    ∙ sym (numbered_append 0 (sent h) (sent_by r.outcome))
    ∙ ap (λ (o : Outcome). numbered 0 (sent h ++ sent_by o)) (sym r.tells)
step_numbers h (Opened n found) r =
    append-nil (numbered 0 (sent h))
    ∙ ap (λ (ms : List Message). numbered 0 ms) (sym (append-nil (sent (settled_for n (is_kept (node_history h n) found) h)) ∙ settled_sent n (is_kept (node_history h n) found) h))
step_numbers h (Echo l) r = append-nil (numbered 0 (sent h))
step_numbers h (WasDown n) r = append-nil (numbered 0 (sent h))
step_numbers h (WasUp n) r = append-nil (numbered 0 (sent h))
step_numbers h (WentDown n) r = append-nil (numbered 0 (sent h))
step_numbers h (DiskFailed n) r = append-nil (numbered 0 (sent h))
step_numbers h Unsent r = append-nil (numbered 0 (sent h))

pub numbers : (h : History) (xs : List TracePart) → Along IsRight h xs → numbered 0 (sent h) ++ messages_of xs ≡ numbered 0 (sent (history_shown_from h xs))
numbers h xs a = grows (λ (h : History). numbered 0 (sent h)) numbered_in IsRight step_numbers h xs a
