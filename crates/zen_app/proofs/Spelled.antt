-- The trace of a schedule that is spelled is safe, at each level.
use Rattle.std.proofs.Common.{◌≡◌, ℕ, ◌≤◌, ◌<◌, List, [], ◌∷◌, ◌++◌, true, length, refl, ap, subst, arith}
use Rattle.std.specs.Prelude.{Contains}
use Rattle.std.specs.List.{AllByRecursion}
use Rattle.voting_config.specs.Ids.{Id, IsIdSet, has}
use Rattle.world_model.specs.Safety.{Win}
use Rattle.agreement.proofs.Laws.{safe_of_legal}
use Rattle.schedule_text.specs.declared.level.Level.{Level}
use Rattle.schedule_text.specs.declared.level.Level.TheVariants.{Core, Node}
use Rattle.schedule_text.specs.declared.schedule.Line.{Line}
use Rattle.schedule_text.specs.declared.schedule.Schedule.{Schedule}
use Rattle.schedule_text.specs.Limits.{most_bytes}
use Rattle.schedule_text.specs.Lines.{FitsLine}
use Rattle.schedule_text.specs.Spelled.{Spells, Nothing, Text, Nobody}
use Rattle.schedule_replay.specs.Legal.{IsWellFormed}
use Rattle.schedule_replay.specs.Replayed.{replayed}
use Rattle.replay_node.specs.Clusters.{replayed_history}
use Rattle.trace_text.proofs.IdLists.{none_set, ids_set}
use Rattle.schedule_replay.proofs.TraceLaws.{tells, shows, agrees}
use Rattle.schedule_replay.proofs.WorldLegal.{replay_is_legal}
use Rattle.schedule_replay.proofs.ClusterLaws.{tells as cluster_tells, shows as cluster_shows, agrees as cluster_agrees}
use Rattle.cluster_replay.proofs.Schedules.{lives_follow, cluster_replay_is_legal, cluster_replies_are_true, voting_only_never_wins}
use Rattle.cluster_replay.proofs.Spelled.{well_formed, voting_only_among}
use Rattle.cluster_replay.specs.Laws.{IsWellFormed as IsClusterSchedule, node_of}
use Rattle.zen_app.specs.SafeTrace.{IsSafeTrace, IsSafeClusterTrace, IsSafeTraceAt, up_to}

pub spells_fits : (level : Level) (bytes : List ℕ) (s : Schedule) → Spells level bytes s → AllByRecursion (FitsLine level s.nodes) s.lines
spells_fits level _ _ Nothing = tt
spells_fits level _ _ (Text s is within) = is.lines
spells_fits level _ _ (Nobody s at none is within) = is.lines

pub spells_short : (level : Level) (bytes : List ℕ) (s : Schedule) → Spells level bytes s → length bytes ≤ most_bytes
spells_short level _ _ Nothing = omega arith
spells_short level _ _ (Text s is within) = within.bytes
spells_short level _ _ (Nobody s at none is within) = within.bytes

-- ---- level core

not_none : (xs : List Id) → 0 < length xs → xs ≡ [] → ⊥
not_none xs some e = let zero_long : length xs ≡ 0 = ap (λ (l : List Id). length l) e in omega (arith, some, zero_long)

spells_named : (bytes : List ℕ) (s : Schedule) → Spells Core bytes s → s.initial ≡ [] → s.lines ≡ []
spells_named _ _ Nothing e = refl
spells_named _ _ (Text s is within) e = absurd (not_none s.initial is.some_initial e)
spells_named _ _ (Nobody s at none is within) e = absurd (not_none s.initial is.some_initial e)

spells_set : (bytes : List ℕ) (s : Schedule) → Spells Core bytes s → IsIdSet s.initial
spells_set _ _ Nothing = none_set
spells_set _ _ (Text s is within) = ids_set s.initial is.initial
spells_set _ _ (Nobody s at none is within) = ids_set s.initial is.initial

spells_well_formed : (bytes : List ℕ) (s : Schedule) → Spells Core bytes s → IsWellFormed s
spells_well_formed bytes s spelled = record { initial = spells_set bytes s spelled; fit = spells_fits Core bytes s spelled; named = spells_named bytes s spelled }

spells_safe_core : (bytes : List ℕ) (s : Schedule) → Spells Core bytes s → IsSafeTrace s
spells_safe_core bytes s spelled =
    let well = spells_well_formed bytes s spelled in
    let legal = replay_is_legal s well in
    record { legal = legal; safe = (safe_of_legal s.initial (replayed s) legal).0; history = tells s; shows = shows s well; agrees = agrees s well }

-- ---- level node

all_first : {A : Type 0} (P : A → Type 0) (xs ys : List A) → AllByRecursion P (xs ++ ys) → AllByRecursion P xs
all_first P [] ys all = tt
all_first P (x ∷ xs) ys all = (all.0, all_first P xs ys all.1)

well_up_to : (s : Schedule) → IsClusterSchedule s → (first rest : List Line) → s.lines ≡ first ++ rest → IsClusterSchedule (up_to s first)
well_up_to s well first rest e = record {
  nodes = well.nodes;
  initial = well.initial;
  lines = all_first _ first rest (subst (λ (ls : List Line). AllByRecursion (λ (l : Line). has (node_of l) s.nodes ≡ true) ls) e well.lines);
}

spells_safe_cluster : (bytes : List ℕ) (s : Schedule) → Spells Node bytes s → IsSafeClusterTrace s
spells_safe_cluster bytes s spelled =
    let well = well_formed bytes s spelled in
    let legal = cluster_replay_is_legal s well in
    record {
      legal = legal;
      safe = (safe_of_legal s.initial (replayed_history s) legal).0;
      nodes = λ first rest e n listed. let by_then = well_up_to s well first rest e in
          record { life = lives_follow (up_to s first) by_then n listed; replies = cluster_replies_are_true (up_to s first) by_then n listed };
      history = cluster_tells s;
      shows = cluster_shows s legal;
      agrees = cluster_agrees s legal;
      voting_only = λ w won. voting_only_never_wins s well (voting_only_among bytes s spelled) w (subst (λ (l : List Win). Contains l w) (cluster_shows s legal).wins won);
    }

-- ---- each level

pub spells_safe_trace : (level : Level) (bytes : List ℕ) (s : Schedule) → Spells level bytes s → IsSafeTraceAt level s
spells_safe_trace Core bytes s spelled = spells_safe_core bytes s spelled
spells_safe_trace Node bytes s spelled = spells_safe_cluster bytes s spelled
