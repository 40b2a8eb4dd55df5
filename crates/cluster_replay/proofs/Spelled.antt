-- A schedule of whole nodes that bytes spell is one of which the laws speak.
use Rattle.std.proofs.Common.{◌≡◌, ℕ, true, List, [], ◌∷◌, refl}
use Rattle.std.specs.List.{AllByRecursion}
use Rattle.voting_config.specs.Ids.{Id, has, are_among}
use Rattle.schedule_text.specs.declared.level.Level.TheVariants.{Node}
use Rattle.schedule_text.specs.declared.schedule.Line.{Line}
use Rattle.schedule_text.specs.declared.schedule.Line.TheVariants as line
use Rattle.schedule_text.specs.declared.schedule.Schedule.{Schedule}
use Rattle.schedule_text.specs.Lines.{FitsLine}
use Rattle.schedule_text.specs.Spelled.{IsSchedule, Spells, Nothing, Text, Nobody}
use Rattle.trace_text.proofs.IdLists.{none_set, ids_set}
use Rattle.cluster_replay.specs.Laws.{IsWellFormed, node_of}

is_listed : (nodes : List Id) (l : Line) → FitsLine Node nodes l → has (node_of l) nodes ≡ true
is_listed nodes (line.Tick n now word) f = f.0
is_listed nodes (line.Client n bytes) f = f.0
is_listed nodes (line.Disconnect n peer) f = f.0
is_listed nodes (line.Deliver n number) f = f.0
is_listed nodes (line.Crash n way) f = f.0
is_listed nodes (line.Restart n) f = f
is_listed nodes (line.Fuse n count way) f = f.0
is_listed nodes (line.Fail n count) f = f.0
is_listed nodes (line.Boot n) f = absurd f
is_listed nodes (line.StartJoin n candidate term) f = absurd f
is_listed nodes (line.Value n version text config) f = absurd f

are_listed : (nodes : List Id) (ls : List Line) → AllByRecursion (FitsLine Node nodes) ls → AllByRecursion (λ (l : Line). has (node_of l) nodes ≡ true) ls
are_listed nodes [] f = tt
are_listed nodes (l ∷ ls) f = (is_listed nodes l f.0, are_listed nodes ls f.1)

formed : (s : Schedule) → IsSchedule Node s → IsWellFormed s
formed s is = record { nodes = ids_set s.nodes is.nodes; initial = ids_set s.initial is.initial; lines = are_listed s.nodes s.lines is.lines }

pub well_formed : (bytes : List ℕ) (s : Schedule) → Spells Node bytes s → IsWellFormed s
well_formed _ _ Nothing = record { nodes = none_set; initial = none_set; lines = tt }
well_formed _ _ (Text s is within) = formed s is
well_formed _ _ (Nobody s at none is within) = formed s is

pub voting_only_among : (bytes : List ℕ) (s : Schedule) → Spells Node bytes s → are_among s.nodes s.voting_only ≡ true
voting_only_among _ _ Nothing = refl
voting_only_among _ _ (Text s is within) = is.voting_only.1
voting_only_among _ _ (Nobody s at none is within) = is.voting_only.1
