use Rattle.schedule_replay.proofs.WorldLegal.{replay_is_legal}
use Rattle.schedule_replay.proofs.laws.law_replay_is_legal.Goals as goal

pub returns : goal.returns
returns c = replay_is_legal
