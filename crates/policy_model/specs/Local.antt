-- For the contracts inside: when each act among some items is answered as the node's acts so far say.
use Rattle.std.specs.Prelude.{◌≡◌, Bool, true, false, List, [], ◌∷◌}
use Rattle.world_model.specs.declared.acts.Act.{Act}
use Rattle.world_model.specs.declared.acts.Outcome.TheVariants.{Answered}
use Rattle.world_model.specs.Replies.{reply_at}
use Rattle.world_model.specs.Moves.{is_opening}
use Rattle.policy_model.specs.declared.settings.Settings.{Settings}
use Rattle.policy_model.specs.Events.{Item, Opens, Begins, Acts}
use Rattle.policy_model.specs.Views.{View}
use Rattle.policy_model.specs.Moves.{moved}

-- an item that an event adds and that is no act
abbrev pub is_quiet : Item → Bool
is_quiet (Opens found) = false
is_quiet (Begins event) = false
is_quiet (Acts act o) = false
is_quiet i = true

pub data IsQuiet : List Item → Type 0 where
  Silent : IsQuiet []
  Also : (i : Item) (is : List Item) → is_quiet i ≡ true → IsQuiet is → IsQuiet (i ∷ is)

-- of a node that is v at their beginning
pub data IsAnswered (s : Settings) : View → List Item → Type 0 where
  Ended : (v : View) → IsAnswered s v []
  ByAct : (v : View) (act : Act) (is : List Item) → is_opening act ≡ false
      → IsAnswered s (moved s v (Acts act (Answered (reply_at s.me v.node act)))) is
      → IsAnswered s v (Acts act (Answered (reply_at s.me v.node act)) ∷ is)
  ByQuiet : (v : View) (i : Item) (is : List Item) → is_quiet i ≡ true → IsAnswered s (moved s v i) is → IsAnswered s v (i ∷ is)
