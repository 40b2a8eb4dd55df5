use Rattle.std.proofs.Common.{codes, decimal}
use Rattle.event_text.specs.Frames.{master_text}
use Rattle.voting_config.specs.Lists.{list_text}
use Rattle.event_text.proofs.Written.{three_fields}
use Rattle.event_text.proofs.frames.write_peers_answer.Goals as goal

pub returns : goal.returns
returns c =
    three_fields c.write_peers.result c.args.text.now c.word.new.self c.write_master.new.text c.write_term.new.text c.write_peers.new.text (codes "peersanswer ") (master_text c.args.master) (codes " ") (codes " ") (decimal c.args.term) (list_text c.args.known.now)
    c.in_ok-word.ensures c.in_ok-write_master.ensures c.in_ok-write_term.ensures c.write_peers.ensures
