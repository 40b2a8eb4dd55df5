use Rattle.std.proofs.Common.{◌≡◌, ◌++◌, codes, decimal}
use Rattle.voting_config.specs.Lists.{list_text}
use Rattle.trace_text.specs.Trace.{id_text}
use Rattle.trace_text.proofs.Written.{record_written}
use Rattle.trace_text.proofs.nodes.write_record.Goals as goal

pub returns : goal.returns
returns c =
    let found = c.args.found.now in
    let id : c.write_state_id.new.text ≡ c.number_and.new.self ++ id_text found.accepted.term found.accepted.version = cc c.in_ok-write_state_id.ensures in
    let accepted : c.ids.new.self ≡ c.word-2.new.self ++ list_text found.accepted.config = cc c.in_ok-ids.ensures in
    let committed : c.ids-2.new.self ≡ c.word-3.new.self ++ list_text found.committed = cc c.in_ok-ids-2.ensures in
    record_written c.args.text.now (codes "record ") c.args.node (decimal found.term) (id_text found.accepted.term found.accepted.version) (list_text found.accepted.config) (list_text found.committed) (codes " ") (codes "\n")
    c.word-4.result c.word.new.self c.id_and.new.self c.number_and.new.self c.write_state_id.new.text c.word-2.new.self c.ids.new.self c.word-3.new.self c.ids-2.new.self c.word-4.new.self
    c.in_ok-word.ensures c.in_ok-id_and.ensures c.in_ok-number_and.ensures id c.in_ok-word-2.ensures accepted c.in_ok-word-3.ensures committed
    c.word-4.ensures
