use Rattle.std.proofs.lemmas.Result.{on_ok_weaker}
use Rattle.client_lines.proofs.writing.StateReplySerialize.serialize.Goals as goal

-- what is written, step by step
pub returns : goal.returns
returns g c =
    let log = g.S.Serializer.written in
    on_ok_weaker c.end_map.result (λ ended. (
      log c.begin_map.new.self,
      c.in_ok-begin_map.ensures,
      (
        log c.key.new.self,
        log c.u64.new.self,
        c.in_ok-key.ensures,
        c.in_ok-u64.ensures,
        (
          log c.key-2.new.self,
          log c.serialize.new.out,
          c.in_ok-key-2.ensures,
          c.in_ok-serialize.ensures,
          ended,
        ),
      ),
    )) c.end_map.ensures
