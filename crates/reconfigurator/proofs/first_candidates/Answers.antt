use Rattle.std.proofs.Common.{◌∙◌, refl}
use Rattle.reconfigurator.proofs.Taking.{taken_first, taken_next}
use Rattle.reconfigurator.proofs.first_candidates.Goals as goal

pub returns : goal.returns
returns c =
    let one = taken_first c.args.count _ _ _ _ c.new-taken.ensures c.take_first-room.ensures.taken c.take_first-room.ensures.left in
    let two = taken_next c.args.count _ _ _ _ _ _ one c.take_first-room-2.ensures.taken c.take_first-room-2.ensures.left in
    let three = taken_next c.args.count _ _ _ _ _ _ two c.take_first-room-3.ensures.taken c.take_first-room-3.ensures.left in
    let four = taken_next c.args.count _ _ _ _ _ _ three c.take_first.ensures.taken c.take_first.ensures.left in
    four.taken_is
    ∙ rw (c.master_first-first.ensures, c.within.ensures, c.without.ensures, c.without-2.ensures, c.without-others.ensures, c.without-other_voters.ensures, c.only-leader.ensures) refl
