use Rattle.std.proofs.Common.{arith}
use Rattle.pre_vote.proofs.Sizes.{in_round, other_way, moved_within, room_in}
use Rattle.pre_vote.proofs.rounds.PreVotes.enter.Goals as goal

pub add-requires : goal.add-requires
add-requires c = room_in _ _ _ (in_round c.args.source _ _ c.self.view_is c.requires.room c.self.invariant.1)

pub invariant_of-self : goal.invariant_of-self
invariant_of-self c =
    let fewer = moved_within _ _ _ (in_round c.args.source _ _ c.self.view_is c.requires.room c.self.invariant.1) in
    rw (c.add.ensures, c.remove.ensures) (omega (arith, c.max-self-inside.ensures, c.self.invariant.0, c.requires.term), fewer)

pub invariant_of-self-else-is_vote : goal.invariant_of-self-else-is_vote
invariant_of-self-else-is_vote c =
    let fewer = moved_within _ _ _ (other_way _ _ _ (in_round c.args.source _ _ c.self.view_is c.requires.room c.self.invariant.1)) in
    rw (c.add-else-is_vote.ensures, c.remove-else-is_vote.ensures) (omega (arith, c.max-self-inside.ensures, c.self.invariant.0, c.requires.term), omega (arith, fewer))
