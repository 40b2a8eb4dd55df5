use Rattle.std.proofs.Common.{◌∙◌, ap}
use Rattle.master_tasks.specs.Queue.{Tasks}
use Rattle.policy_model.specs.declared.events.MemberDrop.{MemberDrop}
use Rattle.policy_model.specs.Views.{View}
use Rattle.coordinator.specs.Lists.{Roomed}
use Rattle.coordinator.specs.Showing.{shown_in}
use Rattle.coordinator.proofs.OfLosses.{follower_dropped}
use Rattle.coordinator.proofs.coordinator.Coordinator.drop_follower.Goals as goal

pub returns-clause-does : goal.returns-clause-does
returns-clause-does g c =
    follower_dropped g.K.Keeper c.args.self.now c.forget_peer.new.self (shown_in c.args.out.now) _ c.args.p c.drop_member.new.self c.drop_member.ensures
    (ap (λ (l : Roomed MemberDrop). record (shown_in c.args.out.now) { drops = l.list }) c.push.ensures)
    (c.forget_peer.ensures.does (record c.args.out.now { drops = c.push.new.self }))

pub returns-clause-waiting : goal.returns-clause-waiting
returns-clause-waiting g c =
    ap (λ (v : View). v.tasks.waiting) (c.forget_peer.ensures.does c.args.out.now).goes.view ∙ ap (λ (t : Tasks). t.waiting) c.drop_member.ensures
