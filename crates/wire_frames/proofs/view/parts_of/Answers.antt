use Rattle.std.proofs.Common.{ℕ, List, Ok, sym, ap, ◌∙◌}
use Rattle.cluster_state.specs.Field.{byte_at}
use Rattle.wire_frames.proofs.Viewing.{parts_told}
use Rattle.wire_frames.proofs.view.parts_of.Goals as goal

pub returns : goal.returns
returns c =
    parts_told (record { kind = c.in-Some.kind; from = c.in-Ok-id.from; to = c.in-Ok-id-2.to; fields = c.rest-fields.result }) c.args.body.now c.byte.new.self c.id.new.self c.in-Ok.byte
    (ap byte_at (sym c.new-reader.ensures) ∙ c.in-Ok.ensures)
    (sym c.in-Some.ensures)
    c.in-Ok-id.ensures
    (c.in-Ok-id-2.ensures ∙ ap (λ (r : List ℕ). Ok (c.in-Ok-id-2.to, r)) (sym c.rest-fields.ensures))
