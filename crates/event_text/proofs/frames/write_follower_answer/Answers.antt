use Rattle.std.proofs.Common.{codes, decimal}
use Rattle.event_text.specs.Frames.{answer_text, state_id_text}
use Rattle.event_text.proofs.Written.{three_fields}
use Rattle.event_text.proofs.frames.write_follower_answer.Goals as goal

pub returns : goal.returns
returns c =
    three_fields c.write_id.result c.args.text.now c.word.new.self c.write_answer.new.text c.write_term.new.text c.write_id.new.text (codes "followeranswer ") (answer_text c.args.good) (codes " ") (codes " ") (decimal c.args.term) (state_id_text c.args.applied)
    c.in_ok-word.ensures c.in_ok-write_answer.ensures c.in_ok-write_term.ensures c.write_id.ensures
