use Rattle.std.proofs.Common.{refl}
use Rattle.coordinator.proofs.Becoming.{becomes}
use Rattle.coordinator.proofs.coordinator.Coordinator.become_candidate.Goals as goal

pub returns-clause-does : goal.returns-clause-does
returns-clause-does g c =
    becomes g.K.Keeper c.args.self.now _ _ _ _ c.term.result c.fail_requests.ensures.shown refl refl refl c.term.ensures.term (rw (c.forget_answers.ensures.now, c.new-self.ensures, c.clear.ensures) refl) c.change_mode.ensures.shown
