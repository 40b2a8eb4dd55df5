use Rattle.std.proofs.Common.{refl, sym}
use Rattle.world_model.specs.Histories.{node_history}
use Rattle.world_model.specs.Settled.{is_kept, settled_for}
use Rattle.trace_audit.proofs.Openings.{acts_then, kept_is, opened_audit, others_then, own_then, record_broken}
use Rattle.trace_audit.proofs.auditor.Auditor.recorded.Goals as goal

pub returns-then-not-shows_as : goal.returns-then-not-shows_as
returns-then-not-shows_as c = λ initial h a.
    let stands = c.in_ok-node.ensures.node (node_history h) a.nodes in
    record_broken initial h c.args.id c.args.shown.now c.in_ok-kept.kept (c.in_ok-kept.ensures (node_history h c.args.id) stands) (sym c.if-not-shows_as.ensures)

pub returns : goal.returns
returns c = λ initial h a.
    let n = c.args.id in
    let shown = c.args.shown.now in
    let kept = c.in_ok-kept.kept in
    let stands = c.in_ok-node.ensures.node (node_history h) a.nodes in
    let is = c.in_ok-kept.ensures (node_history h n) stands in
    let settled = settled_for n (is_kept (node_history h n) shown) h in
    let others = others_then h n shown kept c.take_out.new.nodes (c.in_ok-node.ensures.others (node_history h) a.nodes) in
    let own = own_then h n shown kept c.in_ok-node-2.node (c.in_ok-node-2.ensures (node_history settled n) (kept_is h n shown kept is)) in
    opened_audit initial c.args.self.now (record { alloc = c.args.self.now.alloc; initial = c.args.self.now.initial; nodes = c.put_back.new.nodes; notes = c.args.self.now.notes }) h n shown kept a is (sym c.if-not-shows_as.ensures)
    refl refl (c.in_ok-put_back.ensures (acts_then h n shown kept) others own)
