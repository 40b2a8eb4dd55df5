use Rattle.std.proofs.Common.{◌∙◌, Some, ap, length, refl}
use Rattle.std.proofs.lemmas.Option.{slice_get_read}
use Rattle.std.specs.Cmp.Lexicographic.{same_text}
use Rattle.voting_config.specs.Ids.{Id}
use Rattle.schedule_replay.proofs.places.place_of.Goals as goal

pub returns-then-eq : goal.returns-then-eq
returns-then-eq c = slice_get_read c.args.ids.now (length c.args.ids.now) c.loop-i.i c.index-ids-i.result refl c.loop-i-test.true c.index-ids-i.is ∙ ap (λ (x : Id). Some x) (same_text c.index-ids-i.result c.args.n c.if-eq.ensures)
