use Rattle.std.proofs.Common.{◌∙◌, ap}
use Rattle.std.specs.BTreeSet as tree_set
use Rattle.trace_audit.specs.Places.{RequestKey, request_cmp, key_kept}
use Rattle.trace_audit.proofs.requests.Requests.contains.Goals as goal

pub returns : goal.returns
returns c = c.contains.ensures ∙ ap (λ (y : RequestKey). tree_set.contains_by (λ k. request_cmp y (key_kept k)) c.args.self.now.keys) c.in_ok-key.ensures
