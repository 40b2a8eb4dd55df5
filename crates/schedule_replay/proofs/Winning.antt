-- The wins that the parts show are those of the history.
use Rattle.std.proofs.Common.{◌≡◌, ℕ, Bool, true, false, cond, Option, None, Some, List, [], ◌∷◌, ◌++◌, refl, sym, ◌∙◌, ap, subst, append-nil}
use Rattle.voting_config.specs.Ids.{Id}
use Rattle.world_model.specs.declared.acts.Act.{Act}
use Rattle.world_model.specs.declared.acts.Act.TheVariants.{TakeJoin}
use Rattle.world_model.specs.declared.acts.Message.{Message}
use Rattle.world_model.specs.declared.acts.ActReply.TheVariants.{Taken, Refused, Stopped}
use Rattle.world_model.specs.declared.acts.Outcome.{Outcome}
use Rattle.world_model.specs.declared.acts.Outcome.TheVariants.{Answered, Disk, Crashed}
use Rattle.world_model.specs.Acts.{NodeHistory, wins}
use Rattle.world_model.specs.NodeState.{term_of}
use Rattle.world_model.specs.Replies.{reply_of, IsOutcome}
use Rattle.world_model.specs.Histories.{History, Next, node_history, is_opening}
use Rattle.world_model.specs.Safety.{winners}
use Rattle.world_model.proofs.Guards.{join_guard}
use Rattle.replay_node.specs.Did.{is_won}
use Rattle.world_model.specs.Settled.{is_kept}
use Rattle.schedule_replay.specs.Parts.{ActShown, TracePart, Echo, Did, Opened, WasDown, WasUp, WentDown, DiskFailed, Unsent}
use Rattle.schedule_replay.specs.HistoryShown.{history_shown_by, history_shown_from, some_win, win_in, wins_of}
use Rattle.schedule_replay.specs.ActShown.{won_term}
use Rattle.schedule_replay.proofs.Along.{Along, grows, IsSound}
use Rattle.world_model.proofs.SettledLists.{win_added, winners_more, settled_winners}
use Rattle.schedule_replay.proofs.ActShown.{no_win}

-- an act other than a join wins nothing
quiet_win : (n : Id) (g : NodeHistory) (w : Bool) → is_won None ≡ w → some_win n None ≡ cond w (record { node = n; term = term_of g } ∷ []) []
quiet_win n g false e = refl
quiet_win n g true e = cc

taken_win : (n : Id) (g : NodeHistory) (act : Act) (s : Option Message) (w : Bool) → is_opening act ≡ false → Taken s w ≡ reply_of n g act → some_win n (won_term act (Answered (Taken s w))) ≡ win_added g n (Answered (Taken s w))
taken_win n g (TakeJoin j) s false shut h = refl
taken_win n g (TakeJoin j) s true shut h = ap (λ (term : ℕ). record { node = n; term = term } ∷ []) (join_guard n g j s true h).now
taken_win n g act s w shut h = quiet_win n g w (no_win n g act s w shut h)

lost_win : (n : Id) (act : Act) (o : Outcome) → wins o ≡ false → some_win n (won_term act o) ≡ []
lost_win n (TakeJoin j) o e = ap (λ (b : Bool). some_win n (cond b (Some j.term) None)) e
lost_win n act o e = refl

-- the term that is shown is the node's
pub win_is : (n : Id) (g : NodeHistory) (act : Act) (o : Outcome) → is_opening act ≡ false → IsOutcome n g act o → some_win n (won_term act o) ≡ win_added g n o
win_is n g act (Answered (Taken s w)) shut h = taken_win n g act s w shut h
win_is n g act (Answered (Refused c)) shut h = lost_win n act (Answered (Refused c)) refl
win_is n g act (Answered Stopped) shut h = lost_win n act (Answered Stopped) refl
win_is n g act (Disk k) shut h = lost_win n act (Disk k) refl
win_is n g act (Crashed k) shut h = lost_win n act (Crashed k) refl

step_wins : (initial : List Id) (h : History) (x : TracePart) → IsSound initial h x → winners h ++ win_in x ≡ winners (history_shown_by h x)
step_wins initial h (Did x) p =
    let r = p.right in
    let follows = subst (λ (o : Outcome). IsOutcome x.node (node_history h x.node) x.act o) r.tells p.behind.1.follows.follows in
    ap (λ (y : Option ℕ). winners h ++ some_win x.node y) (ap (λ (y : ActShown). y.won) r.is_shown)
    ∙ ap (λ l. winners h ++ l) (win_is x.node (node_history h x.node) x.act r.outcome r.shut follows)
    ∙ sym (winners_more h x.node x.act r.outcome)
    ∙ ap (λ (o : Outcome). winners (Next h x.node x.act o)) (sym r.tells)
step_wins initial h (Opened n found) p = append-nil (winners h) ∙ sym (settled_winners initial h n (is_kept (node_history h n) found) p.before)
step_wins initial h (Echo l) p = append-nil (winners h)
step_wins initial h (WasDown n) p = append-nil (winners h)
step_wins initial h (WasUp n) p = append-nil (winners h)
step_wins initial h (WentDown n) p = append-nil (winners h)
step_wins initial h (DiskFailed n) p = append-nil (winners h)
step_wins initial h Unsent p = append-nil (winners h)

pub wins_shown : (initial : List Id) (h : History) (xs : List TracePart) → Along (IsSound initial) h xs → winners h ++ wins_of xs ≡ winners (history_shown_from h xs)
wins_shown initial h xs a = grows winners win_in (IsSound initial) (step_wins initial) h xs a
