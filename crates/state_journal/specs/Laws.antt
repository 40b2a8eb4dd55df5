-- For the contracts inside: what the digests of bodies keep out, as a statement.
use Rattle.std.specs.Prelude.{◌≡◌, ℕ, List, true, Ok}
use Rattle.std.specs.List.{AllByRecursion}
use Rattle.cluster_state.specs.declared.state.Kept.{Kept}
use Rattle.state_journal.specs.Bodies.{guarded, is_guarded, prefix_of}
use Rattle.state_journal.specs.Journal.{record_of_bodies}

-- a body of version 2 is a tag, fields, and the digest of these
abbrev pub IsSound : List ℕ → Type 0
IsSound body = is_guarded body ≡ true → body ≡ guarded (prefix_of body)

-- where bodies make a record, each of them is sound: none of version 2 is read with a digest that is not its own
abbrev pub LawDigests : Type 0
LawDigests = (bodies : List (List ℕ)) (kept : Kept) → record_of_bodies bodies ≡ Ok kept → AllByRecursion IsSound bodies
