-- Part of the statement: how the nodes of a trial ended, and what is written of that.
use Rattle.std.specs.Prelude.{ℕ, ◌==◌, ◌&&◌, ◌||◌, Bool, if◌then◌else◌, List, [], ◌∷◌, ◌++◌, codes, decimal}
use Rattle.std.specs.List.{list_any}
use Rattle.std.specs.Str.{bytes_eq}
use Rattle.voting_config.specs.Lists.{parts_of, space, line_feed}
use Rattle.zen_host.specs.HostCalls.{ToldEnd, told_end}
use Rattle.node_trial.specs.declared.ends.TrialEnds.{TrialEnds}
use Rattle.node_trial.specs.declared.node.TrialNode.{TrialNode}
use Rattle.node_trial.specs.declared.node.TrialNode.TheVariants as node
use Rattle.node_trial.specs.Nodes.{name_of}

-- how each of the three ended
pub record ToldEnds : Type 0 where
  pub a : ToldEnd
  pub b : ToldEnd
  pub c : ToldEnd

abbrev pub told_ends : TrialEnds → ToldEnds
told_ends ends = record { a = told_end ends.a; b = told_end ends.b; c = told_end ends.c }

-- ---- has a node won

abbrev pub first_of : List (List ℕ) → List ℕ
first_of [] = []
first_of (word ∷ words) = word

-- the first word of the line is `won`; a space ends a word
abbrev pub is_win : List ℕ → Bool
is_win line = bytes_eq (first_of (parts_of space line)) (codes "won")

-- a line of the output has `won` as its first word; what stands after the last line feed counts as a line
abbrev pub has_won : List ℕ → Bool
has_won output = list_any is_win (parts_of line_feed output)

abbrev pub one_has_won : ToldEnds → Bool
one_has_won ends = has_won ends.a.output || has_won ends.b.output || has_won ends.c.output

-- ---- has it passed

-- a node ended by itself: at a stop with status 0, or after its turns with 11
abbrev pub has_passed : ToldEnd → Bool
has_passed end = end.status == 0 || end.status == 11

abbrev pub have_passed : ToldEnds → Bool
have_passed ends = has_passed ends.a && has_passed ends.b && has_passed ends.c

-- ---- what is written

abbrev pub child_line : TrialNode → ToldEnd → List ℕ
child_line n end = codes "child " ++ name_of n ++ codes " status=" ++ decimal end.status ++ codes "\n"

abbrev pub won_line : Bool → List ℕ
won_line won = if won then codes "won=yes\n" else codes "won=no\n"

abbrev pub text_of : ToldEnds → List ℕ
text_of ends = child_line node.A ends.a ++ child_line node.B ends.b ++ child_line node.C ends.c ++ won_line (one_has_won ends)
