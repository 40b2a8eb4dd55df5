-- Part of the statement: which bytes are a schedule.
use Rattle.std.specs.Prelude.{◌≡◌, ℕ, Bool, true, false, ◌<◌, ◌≤◌, List, [], ◌∷◌, ◌++◌, length, map, codes, IsTrue}
use Rattle.std.specs.List.{flat_map, AllByRecursion}
use Rattle.schedule_text.specs.declared.level.Level.{Level}
use Rattle.schedule_text.specs.declared.level.Level.TheVariants.{Core, Node}
use Rattle.schedule_text.specs.declared.schedule.Schedule.{Schedule}
use Rattle.schedule_text.specs.Limits.{most_bytes, most_lines, most_line_bytes}
use Rattle.voting_config.specs.Lists.{list_text, are_ids_after, line_feed}
use Rattle.voting_config.specs.Ids.{Id, are_among}
use Rattle.schedule_text.specs.Lines.{FitsLine, line_text}
use Rattle.schedule_text.specs.Reading.{no_schedule}

-- the header line of the voting-only nodes
abbrev pub voting_only_line : List Id → List ℕ
voting_only_line ids = codes "voting-only " ++ list_text ids

-- it is written only where some nodes are voting-only
abbrev pub voting_only_lines : List Id → List (List ℕ)
voting_only_lines [] = []
voting_only_lines (x ∷ xs) = voting_only_line (x ∷ xs) ∷ []

-- the header line of the profile, which stands only where it is the second
abbrev pub profile_lines : Bool → List (List ℕ)
profile_lines false = []
profile_lines true = codes "profile 2" ∷ []

-- the lines of a schedule, without their line feeds, with these between the initial nodes and the profile
abbrev pub lines_with : List (List ℕ) → Schedule → List (List ℕ)
lines_with voting_only s =
    (codes "nodes " ++ list_text s.nodes) ∷ (codes "initial " ++ list_text s.initial)
    ∷ voting_only ++ (profile_lines s.second ++ map line_text s.lines)

-- as they are written
abbrev pub text_lines : Schedule → List (List ℕ)
text_lines s = lines_with (voting_only_lines s.voting_only) s

-- each line with its line feed
abbrev pub with_feeds : List (List ℕ) → List ℕ
with_feeds lines = flat_map (λ (l : List ℕ). l ++ line_feed ∷ []) lines

-- a schedule, spelled
abbrev pub schedule_text : Schedule → List ℕ
schedule_text s = with_feeds (text_lines s)

-- any of the nodes may be voting-only at level node, and none at level core
abbrev pub AreVotingOnly : Level → (nodes voting_only : List Id) → Type 0
AreVotingOnly Core nodes ids = ids ≡ []
AreVotingOnly Node nodes ids = IsTrue (are_ids_after [] ids) × IsTrue (are_among nodes ids)

-- the nodes may go by the second profile at level node, and by the first at either
abbrev pub IsProfile : Level → (second : Bool) → Type 0
IsProfile Core second = second ≡ false
IsProfile Node second = Unit {0}

-- 1 to 64 nodes, some of them as the initial ones, the voting-only ones, the profile, and lines of these nodes and of the level
pub record IsSchedule (level : Level) (s : Schedule) : Type 0 where
  pub nodes : IsTrue (are_ids_after [] s.nodes)
  pub some_node : 0 < length s.nodes
  pub initial : IsTrue (are_ids_after [] s.initial)
  pub some_initial : 0 < length s.initial
  pub listed : IsTrue (are_among s.nodes s.initial)
  pub voting_only : AreVotingOnly level s.nodes s.voting_only
  pub second : IsProfile level s.second
  pub lines : AllByRecursion (FitsLine level s.nodes) s.lines

-- a text that is not too large
pub record IsWithin (lines : List (List ℕ)) : Type 0 where
  pub bytes : length (with_feeds lines) ≤ most_bytes
  pub count : length lines ≤ most_lines
  pub each : AllByRecursion (λ (l : List ℕ). length l ≤ most_line_bytes) lines

-- These bytes spell the schedule of the level: no byte, for the schedule of nothing; or its text; or, at level node, its text with a line that says
-- that nobody is voting-only, where nobody is. So a text spells one schedule, and a schedule without voting-only nodes has two texts, of which
-- the one without that line is written.
pub data Spells (level : Level) : List ℕ → Schedule → Type 0 where
  Nothing : Spells level [] no_schedule
  Text : (s : Schedule) → IsSchedule level s → IsWithin (text_lines s) → Spells level (schedule_text s) s
  Nobody : (s : Schedule) → level ≡ Node → s.voting_only ≡ [] → IsSchedule level s → IsWithin (lines_with (voting_only_line [] ∷ []) s)
      → Spells level (with_feeds (lines_with (voting_only_line [] ∷ []) s)) s
