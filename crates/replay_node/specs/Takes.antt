-- For the contracts inside: from which nodes a node took messages.
use Rattle.std.specs.Prelude.{◌≡◌, true, List}
use Rattle.voting_config.specs.Ids.{Id, has}
use Rattle.world_model.specs.declared.acts.Act.TheVariants.{TakeJoin, Response}
use Rattle.world_model.specs.Acts.{NodeHistory, NoActs, Then}

-- the joins and the responses that the node took came from these nodes
abbrev pub TakesFrom : List Id → NodeHistory → Type 0
TakesFrom ids NoActs = Unit {0}
TakesFrom ids (Then g (TakeJoin j) o) = TakesFrom ids g × (has j.source ids ≡ true)
TakesFrom ids (Then g (Response r) o) = TakesFrom ids g × (has r.source ids ≡ true)
TakesFrom ids (Then g act o) = TakesFrom ids g
