use Rattle.std.proofs.Common.{◌∙◌, List, ap, map, subst, sym}
use Rattle.replay_node.specs.declared.packed.PackedMessage.{PackedMessage}
use Rattle.replay_node.specs.Packed.{unpacked}
use Rattle.replay_node.specs.Sent.{message_of}
use Rattle.replay_node.proofs.Packing.{KeepsTo, at_length, more_keeps, more_view, on_err, same_keeps, same_view}
use Rattle.replay_node.proofs.sent_messages.SentMessages.push.Goals as goal

pub invariant_of-self : goal.invariant_of-self
invariant_of-self c = same_keeps c.self.inside.roster c.pack.new.roster c.self.inside.packed.items c.self.inside.last c.pack.ensures.roster c.self.invariant

pub invariant_of-self-in_err-next : goal.invariant_of-self-in_err-next
invariant_of-self-in_err-next c = same_keeps c.self.inside.roster c.pack.new.roster c.self.inside.packed.items c.self.inside.last c.pack.ensures.roster c.self.invariant

pub invariant_of-self-in_default : goal.invariant_of-self-in_default
invariant_of-self-in_default c = subst (λ (ps : List PackedMessage). KeepsTo c.pack.new.roster ps c.self.inside.last) (sym c.in_default.ensures.items) (same_keeps c.self.inside.roster c.pack.new.roster c.self.inside.packed.items c.self.inside.last c.pack.ensures.roster c.self.invariant)

pub invariant_of-self-2 : goal.invariant_of-self-2
invariant_of-self-2 c =
    more_keeps c.self.inside.roster c.pack.new.roster c.self.inside.packed.items c.self.inside.last c.pack.ensures.roster c.self.invariant
    c.push.new.self.items c.in_ok-packed.packed (message_of c.args.message.now) c.in_ok-packed.ensures.packed
    c.in_ok-next.next c.keep_last.new.last c.in-Ok.ensures.items (at_length c.in_ok-next.next c.len.result c.self.inside.packed.items (message_of c.args.message.now) (c.len.ensures ∙ c.self.inside.packed.ok.0) c.in_ok-next.ensures) c.keep_last.ensures

pub returns-in_err-packed-clause-err : goal.returns-in_err-packed-clause-err
returns-in_err-packed-clause-err c = on_err c.from_residual.result (same_view c.self.inside.roster c.pack.new.roster c.self.inside.packed.items c.self.inside.last c.pack.ensures.roster c.self.invariant c.args.self.now (sym c.self.view_is))

pub returns-in_err-next-clause-err : goal.returns-in_err-next-clause-err
returns-in_err-next-clause-err c = on_err c.from_residual-in_err-next.result (same_view c.self.inside.roster c.pack.new.roster c.self.inside.packed.items c.self.inside.last c.pack.ensures.roster c.self.invariant c.args.self.now (sym c.self.view_is))

pub returns-in_default-clause-err : goal.returns-in_default-clause-err
returns-in_default-clause-err c =
    ap (λ (ps : List PackedMessage). map (unpacked c.pack.new.roster) ps) c.in_default.ensures.items ∙ same_view c.self.inside.roster c.pack.new.roster c.self.inside.packed.items c.self.inside.last c.pack.ensures.roster c.self.invariant c.args.self.now (sym c.self.view_is)

pub returns-clause-ok : goal.returns-clause-ok
returns-clause-ok c =
    more_view c.self.inside.roster c.pack.new.roster c.self.inside.packed.items c.self.inside.last c.pack.ensures.roster c.self.invariant
    c.push.new.self.items c.in_ok-packed.packed (message_of c.args.message.now) c.in_ok-packed.ensures.packed c.args.self.now (sym c.self.view_is) c.in-Ok.ensures.items
