use Rattle.std.proofs.Common.{sym, ◌∙◌}
use Rattle.coordinator.proofs.Committed.{counted_whole, counted_none}
use Rattle.coordinator.proofs.coordinator.Coordinator.on_response.Goals as goal

pub returns-then-not-counts_responses_of : goal.returns-then-not-counts_responses_of
returns-then-not-counts_responses_of g c =
    record { does = counted_none g.K.Keeper c.args.self.now _ c.args.p c.args.id (sym c.counts_responses_of.ensures ∙ c.if-not-counts_responses_of.true) }

pub returns : goal.returns
returns g c =
    record { does = counted_whole g.K.Keeper c.args.self.now c.take_response.new.self _ _ _ c.args.p c.args.id c.in-Ok.ensures.shown (sym c.counts_responses_of.ensures ∙ c.if-not-counts_responses_of.false) c.take_response.ensures.does }
