use Rattle.std.proofs.Common.{[], ◌∷◌, refl}
use Rattle.gate_log.specs.Journal.{framed, sized}
use Rattle.storage_tests.proofs.gate_log_tests.answer.Goals as goal

pub append_framed-requires : goal.append_framed-requires
unfolding framed sized
append_framed-requires c = (1 ∷ 0 ∷ 0 ∷ 0 ∷ 0 ∷ 0 ∷ 0 ∷ 0 ∷ 1 ∷ [], refl, refl)
