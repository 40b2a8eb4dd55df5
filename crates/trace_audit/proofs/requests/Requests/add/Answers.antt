use Rattle.trace_audit.proofs.Sendings.{request_added}
use Rattle.trace_audit.proofs.requests.Requests.add.Goals as goal

pub returns : goal.returns
returns c =
    let s = c.args.self.now in
    request_added s (record s { keys = c.insert.new.self }) c.args.request.now c.in_ok-key.key c.in_ok-key.ensures c.in_ok-insert.ensures.keys
