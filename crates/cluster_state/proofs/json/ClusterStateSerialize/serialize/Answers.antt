use Rattle.std.proofs.lemmas.Result.{on_ok_weaker}
use Rattle.cluster_state.proofs.json.ClusterStateSerialize.serialize.Goals as goal

-- what is written, step by step
pub returns : goal.returns
returns g c =
    let log = g.S.Serializer.written in
    on_ok_weaker c.end_map.result (λ ended. (
      log c.begin_map.new.self,
      c.in_ok-begin_map.ensures,
      (
        log c.key.new.self,
        log c.send_ids.new.out,
        c.in_ok-key.ensures,
        c.in_ok-send_ids.ensures,
        (
          log c.key-2.new.self,
          log c.send_ids-2.new.out,
          c.in_ok-key-2.ensures,
          c.in_ok-send_ids-2.ensures,
          (
            log c.key-3.new.self,
            log c.send_parent.new.out,
            c.in_ok-key-3.ensures,
            c.in_ok-send_parent.ensures,
            (
              log c.key-4.new.self,
              log c.u64.new.self,
              c.in_ok-key-4.ensures,
              c.in_ok-u64.ensures,
              (
                log c.key-5.new.self,
                log c.serialize.new.out,
                c.in_ok-key-5.ensures,
                c.in_ok-serialize.ensures,
                (
                  log c.key-6.new.self,
                  log c.u64-2.new.self,
                  c.in_ok-key-6.ensures,
                  c.in_ok-u64-2.ensures,
                  ended,
                ),
              ),
            ),
          ),
        ),
      ),
    )) c.end_map.ensures
