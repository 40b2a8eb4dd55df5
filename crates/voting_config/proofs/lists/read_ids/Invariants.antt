use Rattle.std.proofs.Common.{◌≡◌, ◌++◌, ◌∷◌, []}
use Rattle.voting_config.specs.Lists.{are_ids_after, parts_of, parts_in, left_in}
use Rattle.voting_config.proofs.lists.read_ids.Given as goal

abbrev pub invariant-loop-rest : goal.invariant-loop-rest
invariant-loop-rest l = record {
  tests : are_ids_after l.ids (l.item ∷ parts_in 44 l.rest) ≡ are_ids_after [] (parts_of 44 l.text);
  whole : l.ids ++ l.item ∷ parts_in 44 l.rest ≡ parts_of 44 l.text;
}

abbrev pub decreases-loop-rest : goal.decreases-loop-rest
decreases-loop-rest l = left_in l.rest
