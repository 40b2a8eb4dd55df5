-- For the contracts inside: what was answered is what there is, unless memory ran out.
use Rattle.std.specs.Prelude.{◌≡◌, Option, Some, None, Result, Ok, Err}
use Rattle.command_line.specs.declared.command.WordsError.{WordsError}
use Rattle.command_line.specs.declared.command.WordsError.TheVariants.{Usage, Memory}

abbrev pub Fails : {X : Type 0} → WordsError → Option X → Type 0
Fails Usage o = o ≡ None
Fails Memory o = Unit {0}

abbrev pub Gives : {X : Type 0} → Result X WordsError → Option X → Type 0
Gives (Ok x) o = o ≡ Some x
Gives (Err e) o = Fails e o

-- the same, of what is seen by view
abbrev pub GivesBy : {X Y : Type 0} → (X → Y) → Result X WordsError → Option Y → Type 0
GivesBy view (Ok x) o = o ≡ Some (view x)
GivesBy view (Err e) o = Fails e o
