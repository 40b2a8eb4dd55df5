use Rattle.std.proofs.lemmas.Result.{on_ok_weaker}
use Rattle.cluster_state.proofs.json.ClusterValueSerialize.serialize.Goals as goal

-- what is written, step by step
pub returns : goal.returns
returns g c =
    let log = g.S.Serializer.written in
    on_ok_weaker c.end_map.result (λ ended. (
      log c.begin_map.new.self,
      c.in_ok-begin_map.ensures,
      (
        log c.key.new.self,
        log c.send_ids.new.out,
        c.in_ok-key.ensures,
        c.in_ok-send_ids.ensures,
        (
          log c.key-2.new.self,
          log c.send_master.new.out,
          c.in_ok-key-2.ensures,
          c.in_ok-send_master.ensures,
          (
            log c.key-3.new.self,
            log c.send_ids-2.new.out,
            c.in_ok-key-3.ensures,
            c.in_ok-send_ids-2.ensures,
            (
              log c.key-4.new.self,
              log c.send_settings.new.out,
              c.in_ok-key-4.ensures,
              c.in_ok-send_settings.ensures,
              ended,
            ),
          ),
        ),
      ),
    )) c.end_map.ensures
