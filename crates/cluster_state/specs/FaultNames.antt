-- Part of the statement: the names of the faults of fields.
use Rattle.std.specs.Prelude.{ℕ, List, codes}
use Rattle.cluster_state.specs.declared.fault.FieldError.{FieldError}
use Rattle.cluster_state.specs.declared.fault.FieldError.TheVariants as field

abbrev pub field_name : FieldError → List ℕ
field_name field.Short = codes "Short"
field_name field.TermTooLarge = codes "TermTooLarge"
field_name field.VersionTooLarge = codes "VersionTooLarge"
field_name field.BadFlag = codes "BadFlag"
field_name field.TooMany = codes "TooMany"
field_name field.BadId = codes "BadId"
field_name field.BadText = codes "BadText"
field_name field.NotOrdered = codes "NotOrdered"
field_name field.BadParent = codes "BadParent"
