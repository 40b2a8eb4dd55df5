-- Part of the statement: what a link gave a node, input by input.
use Rattle.std.specs.Prelude.{ℕ, List, [], ◌∷◌}
use Rattle.zen_link.specs.declared.link.Input.{Input}
use Rattle.zen_link.specs.declared.link.Input.TheVariants.{Bytes}

pub data Intake : Type 0 where
  -- an input that was read
  Read : (input : Input) → Intake
  -- bytes for which their connection's reader found no memory: the connection is dropped
  Unread : (conn : ℕ) → (bytes : List ℕ) → Intake
  -- no memory was found for an input, and none was taken
  Refused : Intake

-- the newest last
pub data Intakes : Type 0 where
  NoIntakes : Intakes
  Then : (before : Intakes) → (intake : Intake) → Intakes

-- with these more
abbrev pub followed : Intakes → List Intake → Intakes
followed before [] = before
followed before (i ∷ is) = followed (Then before i) is

-- the inputs that were taken
abbrev pub inputs_in : Intake → List Input
inputs_in (Read input) = input ∷ []
inputs_in (Unread conn bytes) = Bytes conn bytes ∷ []
inputs_in Refused = []
