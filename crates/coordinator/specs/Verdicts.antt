-- For the contracts inside: whether an act was taken, by its outcome.
use Rattle.std.specs.Prelude.{Bool, Result, Ok, Err}
use Rattle.world_model.specs.declared.acts.Outcome.{Outcome}
use Rattle.world_model.specs.declared.acts.Outcome.TheVariants.{Answered, Disk, Crashed}
use Rattle.world_model.specs.Replies.{is_taken}
use Rattle.coordinator.specs.declared.coordinator.DiskFailed.{DiskFailed}

abbrev pub verdict : Outcome → Result Bool DiskFailed
verdict (Answered reply) = Ok (is_taken reply)
verdict (Disk kept) = Err (record {})
verdict (Crashed kept) = Err (record {})
