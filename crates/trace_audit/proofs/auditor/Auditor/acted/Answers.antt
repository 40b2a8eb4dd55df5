use Rattle.std.proofs.Common.{true, false, refl, sym}
use Rattle.world_model.specs.Histories.{Next, node_history, sent}
use Rattle.node_audit.specs.Endings.{outcome_shown}
use Rattle.trace_audit.proofs.Acting.{outcome_breaks, takes_act, not_halted}
use Rattle.trace_audit.proofs.Steps.{others_next, own_next}
use Rattle.trace_audit.proofs.auditor.Auditor.acted.Goals as goal

pub returns-then-not-may_end : goal.returns-then-not-may_end
returns-then-not-may_end c = λ initial h a.
    let g = node_history h c.args.id in
    let stands = c.in_ok-node.ensures.node (node_history h) a.nodes in
    let up = sym (c.if-is_down.ensures g stands) in
    outcome_breaks initial c.args.self.now h c.args.id c.args.ending c.args.act.now a c.requires up true c.if-not-names_initial.ensures refl
    c.in_ok-was_sent.field-0 (c.in_ok-was_sent.ensures (sent h) a.notes.sent) c.if-not-branch.false c.in_ok-reply.reply (c.in_ok-reply.ensures g stands up)
    false c.if-not-may_end.ensures refl

pub returns : goal.returns
returns c = λ initial h a.
    let n = c.args.id in
    let act = c.args.act.now in
    let g = node_history h n in
    let stands = c.in_ok-node.ensures.node (node_history h) a.nodes in
    let up = sym (c.if-is_down.ensures g stands) in
    let reply = c.in_ok-reply.reply in
    let is = c.in_ok-reply.ensures g stands up in
    let o = outcome_shown reply c.args.ending in
    let then = c.in_ok-node-2.ensures g reply stands up c.wins.ensures (c.if-not-may_end.ensures.0 refl) n is in
    let others = others_next h n act o c.take_out.new.nodes (c.in_ok-node.ensures.others (node_history h) a.nodes) in
    let nodes = c.in_ok-put_back.ensures (node_history (Next h n act o)) others (own_next h n act o c.in_ok-node-2.node then) in
    let notes = c.in_ok-add.ensures h act a.notes (λ w. c.term-term.ensures g stands (not_halted n g act reply c.requires is w) up) in
    takes_act initial c.args.self.now h n c.args.ending act a c.requires up true c.if-not-names_initial.ensures refl
    c.in_ok-was_sent.field-0 (c.in_ok-was_sent.ensures (sent h) a.notes.sent) c.if-not-branch.false reply is
    (record { alloc = c.args.self.now.alloc; initial = c.args.self.now.initial; nodes = c.put_back.new.nodes; notes = c.add.new.self }) true c.if-not-may_end.ensures refl
    refl nodes notes
