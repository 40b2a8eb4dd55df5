use Rattle.std.proofs.Common.{refl}
use Rattle.cluster_state.proofs.fields.Reader.pass_state.Goals as goal

pub returns : goal.returns
returns c =
    let config = c.in_ok-pass_ids.ensures in
    let committed = c.in_ok-pass_ids-2.ensures in
    let value = c.in_ok-pass_value.ensures in (
      record { term = c.in_ok-id.id.term; version = c.in_ok-id.id.version; parent = c.in_ok-id.field-0-1; config = config.0; committed = committed.0; value = value.0 },
      rw (c.in_ok-id.ensures, config.1, committed.1, value.1) refl,
      refl,
    )
