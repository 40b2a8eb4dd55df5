use Rattle.std.proofs.Common.{sym, ap, ◌∙◌}
use Rattle.cluster_state.specs.declared.state.ClusterState.{ClusterState}
use Rattle.coordinator.proofs.PreVoting.{counts_added, counts_nothing, counts_no_candidate}
use Rattle.coordinator.proofs.coordinator.Coordinator.on_pre_vote_answer.Goals as goal

pub returns-then-not-is_candidate-clause-does : goal.returns-then-not-is_candidate-clause-does
returns-then-not-is_candidate-clause-does g c =
    counts_no_candidate g.K.Keeper c.args.self.now _ c.args.from c.args.term c.args.last (sym c.is_candidate.ensures ∙ c.if-not-is_candidate.true)

pub returns-in-None-clause-does : goal.returns-in-None-clause-does
returns-in-None-clause-does g c =
    counts_nothing g.K.Keeper c.args.self.now c.count-counted.new.round _ c.args.from c.args.term c.args.last c.committed.result.now c.accepted.result.now.config c.committed.ensures (ap (λ (a : ClusterState). a.config) c.accepted.ensures.accepted) (sym c.count-counted.ensures.added ∙ c.in-None.is) c.count-counted.ensures.round

pub returns-in-Some-clause-does : goal.returns-in-Some-clause-does
returns-in-Some-clause-does g c =
    counts_added g.K.Keeper c.args.self.now c.go_to_election.new.self c.count-counted.new.round _ _ c.args.from c.args.term c.args.last c.in-Some.added c.committed.result.now c.accepted.result.now.config (sym c.is_candidate.ensures ∙ c.if-not-is_candidate.false) c.committed.ensures (ap (λ (a : ClusterState). a.config) c.accepted.ensures.accepted) (sym c.count-counted.ensures.added ∙ c.in-Some.is) c.count-counted.ensures.round c.go_to_election.ensures.does
