-- For the contracts inside: entries that a line may show.
use Rattle.std.specs.Prelude.{◌≡◌, false}
use Rattle.world_model.specs.Acts.{is_opening}
use Rattle.recorded_trace.specs.declared.entry.Entry.{Entry}
use Rattle.recorded_trace.specs.declared.entry.Entry.TheVariants.{Acted, Recorded}

-- an opening is a record, and no act
abbrev pub IsEntry : Entry → Type 0
IsEntry (Acted n e act) = is_opening act ≡ false
IsEntry (Recorded n shown) = Unit {0}
