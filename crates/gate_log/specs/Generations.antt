-- Part of the statement: the bodies that two files stand for, one of which is in use.
use Rattle.std.specs.Prelude.{◌≡◌, ◌⊎◌, ℕ, ◌+◌, ◌<◌, ◌≤◌, ◌^◌, nat_eq, nat_lt, nat_le, ◌==◌, List, [], ◌∷◌, ◌++◌, length, take, drop, Bool, ◌||◌, true, false, Option, Some, None, Result, Ok, Err, if◌then◌else◌}
use Rattle.std.specs.Result.{result_unwrap_or}
use Rattle.std.specs.Int.{w64, from_be_bytes}
use Rattle.zen_disk.specs.Moments.{Only}
use Rattle.zen_disk.specs.Sides.{Sides, Files, on, other, put}
use Rattle.zen_disk.specs.declared.side.Side.{Side}
use Rattle.zen_disk.specs.declared.side.Side.TheVariants.{Zero, One}
use Rattle.gate_log.specs.declared.why.Fault.{Fault}
use Rattle.gate_log.specs.declared.why.Fault.TheVariants.{Order}
use Rattle.gate_log.specs.declared.why.Why.{Why}
use Rattle.gate_log.specs.declared.why.Why.TheVariants.{At, Twin}
use Rattle.gate_log.specs.Journal.{bodies_of, laid, IsLaid}

-- a body that begins a generation, by its first byte: that of version 1 or of version 2
abbrev pub is_generation : List ℕ → Bool
is_generation [] = false
is_generation (tag ∷ rest) = tag == 4 || tag == 132

-- the epoch that such a body has
unfoldable pub epoch_in : List ℕ → ℕ
epoch_in body = from_be_bytes w64 (take 8 (drop 1 body))

-- the greatest epoch
abbrev pub last_epoch : ℕ
last_epoch = 2 ^ 62

-- it has an epoch from 1 on
abbrev pub has_epoch : List ℕ → Bool
has_epoch body = if nat_lt 8 (length body) then (if nat_le 1 (epoch_in body) then nat_le (epoch_in body) last_epoch else false) else false

-- the gate of the first of these bodies that begins a generation, where the first gate stands at p
unfoldable pub misplaced_from : ℕ → List (List ℕ) → Option ℕ
misplaced_from p [] = None
misplaced_from p (body ∷ bodies) = if is_generation body then Some p else misplaced_from (p + 5 + length body) bodies

-- a body that may stand first on this side
abbrev pub may_begin : Side → List ℕ → Bool
may_begin Zero body = if is_generation body then has_epoch body else true
may_begin One body = if is_generation body then has_epoch body else false

-- the gate of the first body that is not in order on this side
abbrev pub disorder : Side → List (List ℕ) → Option ℕ
disorder side [] = None
disorder side (body ∷ bodies) = if may_begin side body then misplaced_from (8 + 5 + length body) bodies else Some 8

abbrev pub checked : Option ℕ → List (List ℕ) → Result (List (List ℕ)) Fault
checked None bodies = Ok bodies
checked (Some p) bodies = Err (Order p)

-- the bodies of one side, or its first fault
abbrev pub in_order : Side → Result (List (List ℕ)) Fault → Result (List (List ℕ)) Fault
in_order side (Ok bodies) = checked (disorder side bodies) bodies
in_order side (Err fault) = Err fault

abbrev pub epoch_without : Side → Option ℕ
epoch_without Zero = Some 0
epoch_without One = None

-- the epoch of a side with these bodies; side one without any has none
abbrev pub epoch_of : Side → List (List ℕ) → Option ℕ
epoch_of side [] = epoch_without side
epoch_of side (body ∷ bodies) = if is_generation body then Some (epoch_in body) else Some 0

-- the side in use is that of the greater epoch
abbrev pub greater : ℕ → ℕ → Result Side Why
greater a b = if nat_eq a b then Err Twin else if nat_lt a b then Ok One else Ok Zero

abbrev pub chosen_by : Option ℕ → Option ℕ → Result Side Why
chosen_by (Some a) (Some b) = greater a b
chosen_by None (Some b) = Ok One
chosen_by a None = Ok Zero

-- two files, by the bodies of each
pub record Generations : Type 0 where
  pub bodies : Sides (List (List ℕ))
  pub side : Side

abbrev pub with_side : Sides (List (List ℕ)) → Result Side Why → Result Generations Why
with_side bodies (Ok side) = Ok (record { bodies = bodies; side = side })
with_side bodies (Err why) = Err why

abbrev pub chosen_of : Sides (List (List ℕ)) → Result Side Why
chosen_of bodies = chosen_by (epoch_of Zero bodies.zero) (epoch_of One bodies.one)

abbrev pub both : Result (List (List ℕ)) Fault → Result (List (List ℕ)) Fault → Result Generations Why
both (Err fault) one = Err (At Zero fault)
both (Ok zero) (Err fault) = Err (At One fault)
both (Ok zero) (Ok one) = with_side (record { zero = zero; one = one }) (chosen_of (record { zero = zero; one = one }))

-- what these bodies of side zero and of side one are together
abbrev pub together : Result (List (List ℕ)) Fault → Result (List (List ℕ)) Fault → Result Generations Why
together zero one = both (in_order Zero zero) (in_order One one)

-- the generations that two files stand for, or their first fault
unfoldable pub generations_of : Files → Result Generations Why
generations_of files = together (bodies_of files.zero) (bodies_of files.one)

-- the bodies in use
abbrev pub in_use : Generations → List (List ℕ)
in_use g = on g.side g.bodies

abbrev pub list_in_use : Result Generations Why → Result (List (List ℕ)) Why
list_in_use (Ok g) = Ok (in_use g)
list_in_use (Err why) = Err why

-- the bodies that two files stand for
abbrev pub bodies_in : Files → Result (List (List ℕ)) Why
bodies_in files = list_in_use (generations_of files)

abbrev pub no_generations : Generations
no_generations = record { bodies = record { zero = []; one = [] }; side = Zero }

abbrev pub standing_in : Files → Generations
standing_in files = result_unwrap_or (generations_of files) no_generations

-- The files are laid out, each up to its gate, all of it on the disk.
pub record IsSettledAs (g : Generations) (files : Files) (outcomes : Files → Type 0) (side : Side)
    (gate other_gate epoch : ℕ) : Type 0 where
  pub here : IsLaid (on side g.bodies) (on side files) gate
  pub there : IsLaid (on (other side) g.bodies) (on (other side) files) other_gate
  pub ordered : disorder side (on side g.bodies) ≡ None
  pub other_ordered : disorder (other side) (on (other side) g.bodies) ≡ None
  pub has_epoch_of : epoch_of side (on side g.bodies) ≡ Some epoch
  pub chosen : chosen_of g.bodies ≡ Ok side
  pub active : g.side ≡ side
  pub stands : generations_of files ≡ Ok g
  pub durable : Only files outcomes

abbrev pub IsSettled : Files → (Files → Type 0) → Side → ℕ → ℕ → ℕ → Type 0
IsSettled files outcomes side gate other_gate epoch = IsSettledAs (standing_in files) files outcomes side gate other_gate epoch

-- what a crash may leave stands for what it might have stood for before
abbrev pub StandsAsSome : (Files → Type 0) → Files → Type 0
StandsAsSome outcomes files = (d : Files) × outcomes d × (generations_of files ≡ generations_of d)

-- with this as the bodies of one side
abbrev pub with_bodies : Side → List (List ℕ) → Generations → Generations
with_bodies side bodies g = record g { bodies = put side bodies g.bodies }

-- with one body more in use
abbrev pub appended : Generations → List ℕ → Generations
appended g body = with_bodies g.side (in_use g ++ body ∷ []) g

-- after an append that a crash cut short: the generations, or these with one body more in use
abbrev pub IsAppended : Generations → List ℕ → Files → Type 0
IsAppended g body files = (generations_of files ≡ Ok g) ⊎ (generations_of files ≡ Ok (appended g body))

-- one body in use, on the side that was not
abbrev pub renewed : Generations → List ℕ → Generations
renewed g body = record { bodies = put (other g.side) (body ∷ []) g.bodies; side = other g.side }

-- After a renewal that a crash cut short: the generations, perhaps with nothing left on the side that is not in use; or
-- the body alone in use.
abbrev pub IsRenewed : Generations → List ℕ → Files → Type 0
IsRenewed g body files =
    (generations_of files ≡ Ok g)
    ⊎ ((generations_of files ≡ Ok (with_bodies (other g.side) [] g)) ⊎ (generations_of files ≡ Ok (renewed g body)))

-- a crash leaves the one list in use or the other
abbrev pub IsEitherList : List (List ℕ) → List (List ℕ) → Files → Type 0
IsEitherList before after files = (bodies_in files ≡ Ok before) ⊎ (bodies_in files ≡ Ok after)

-- this body begins the generation after this epoch
pub record Begins (epoch : ℕ) (body : List ℕ) : Type 0 where
  pub tagged : is_generation body ≡ true
  pub long : 8 < length body
  pub next : epoch_in body ≡ epoch + 1
  pub limit : epoch + 1 ≤ last_epoch

-- the bytes of these bodies with their lengths and gates, without a first that begins a generation
abbrev pub tail_of : List (List ℕ) → ℕ
tail_of [] = 0
tail_of (body ∷ bodies) = if is_generation body then length (laid bodies) else length (laid (body ∷ bodies))
