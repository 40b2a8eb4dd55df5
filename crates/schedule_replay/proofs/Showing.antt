-- Steps that are right after legal histories show the wins and the commits of the history that they tell. Nothing here is of a schedule.
use Rattle.std.proofs.Common.{◌≡◌, List, sym, ◌∙◌, ap, subst, ◌⊎◌, inl, inr}
use Rattle.std.specs.Prelude.{Contains}
use Rattle.voting_config.specs.Ids.{Id}
use Rattle.cluster_state.specs.declared.state.ClusterState.{ClusterState}
use Rattle.cluster_state.specs.declared.messages.ApplyCommit.{ApplyCommit}
use Rattle.world_model.specs.declared.acts.Message.TheVariants.{Commit as CommitMessage}
use Rattle.world_model.specs.Histories.{History, NoEntries, sent, IsLegal}
use Rattle.world_model.specs.Safety.{Win, Published, IsCommitted, IsSafe}
use Rattle.world_model.proofs.Legal.{none_of}
use Rattle.agreement.proofs.Laws.{safe_of_legal}
use Rattle.schedule_replay.specs.Showing.{Shows, Agrees}
use Rattle.schedule_replay.specs.Parts.{TracePart}
use Rattle.schedule_replay.specs.HistoryShown.{history_shown, states_of, wins_of}
use Rattle.schedule_replay.proofs.Along.{Along, IsSound}
use Rattle.schedule_replay.proofs.Winning.{wins_shown}
use Rattle.schedule_replay.proofs.Committing.{all_commits, all_committed, IsShown, all_shown}

module _ (initial : List Id) (xs : List TracePart) (a : Along (IsSound initial) NoEntries xs) where
  is_shown : (c : ApplyCommit) → Contains (sent (history_shown xs)) (CommitMessage c) → IsShown xs c
  is_shown c m = from (all_shown initial NoEntries xs c a m)
    where
      from : Contains (sent NoEntries) (CommitMessage c) ⊎ IsShown xs c → IsShown xs c
      from (inl k) = none_of (CommitMessage c) k
      from (inr k) = k

  -- the state that is shown for a commit is the one that is committed
  all_states : IsSafe initial (history_shown xs) → (p : Published) → IsCommitted (history_shown xs) p → Contains (states_of xs) p.state
  all_states safe p c =
      let k = is_shown (record { source = p.publisher; term = p.state.term; version = p.state.version }) c.1 in
      let q = all_committed initial NoEntries xs a k.state k.is_in in
      let same = safe.one_state q.as_published p q.is_committed c (ap (λ (x : ClusterState). x.version) q.is_state ∙ k.has_version) in
      subst (λ (x : ClusterState). Contains (states_of xs) x) (sym q.is_state ∙ same) k.is_in

  pub sound_shows : IsLegal initial (history_shown xs) → Shows (history_shown xs) xs
  sound_shows l = record {
    wins = wins_shown initial NoEntries xs a;
    commits = all_commits initial NoEntries xs a;
    committed = all_committed initial NoEntries xs a;
    all_committed = all_states (safe_of_legal initial (history_shown xs) l).0;
  }

-- and what a legal history shows agrees
pub shown_agrees : (initial : List Id) (h : History) (xs : List TracePart) → IsLegal initial h → Shows h xs → Agrees xs
shown_agrees initial h xs l shows = record { one_winner = one_winner; one_state = one_state }
  where
    safe : IsSafe initial h
    safe = (safe_of_legal initial h l).0

    one_winner : (v w : Win) → Contains (wins_of xs) v → Contains (wins_of xs) w → v.term ≡ w.term → v.node ≡ w.node
    one_winner v w a b e = safe.one_winner v w (subst (λ (l : List Win). Contains l v) shows.wins a) (subst (λ (l : List Win). Contains l w) shows.wins b) e

    one_state : (x y : ClusterState) → Contains (states_of xs) x → Contains (states_of xs) y → x.version ≡ y.version → x ≡ y
    one_state x y a b e =
        let p = shows.committed x a in
        let q = shows.committed y b in
        let version = ap (λ (z : ClusterState). z.version) p.is_state ∙ e ∙ ap (λ (z : ClusterState). z.version) (sym q.is_state) in
        sym p.is_state ∙ safe.one_state p.as_published q.as_published p.is_committed q.is_committed version ∙ q.is_state
