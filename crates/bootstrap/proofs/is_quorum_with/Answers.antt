use Rattle.std.proofs.Common.{sym}
use Rattle.bootstrap.proofs.Counting.{is_quorum_of-with_id}
use Rattle.bootstrap.proofs.is_quorum_with.Goals as goal

pub returns : goal.returns
returns c = rw (c.len.ensures.value, c.count_with.ensures.value) (sym (is_quorum_of-with_id c.args.names.now c.args.me c.args.known.now))
