use Rattle.std.proofs.Common.{◌≡◌, true}
use Rattle.recorded_trace.proofs.Texts.{json_none, json_some}
use Rattle.recorded_trace.proofs.json.read_json.Goals as goal

pub returns-in-Ok : goal.returns-in-Ok
returns-in-Ok c = json_some _ _ c.in-Ok.ensures.ok.0 c.in-Ok.ensures.ok.1

pub returns-in-Err-2 : goal.returns-in-Err-2
returns-in-Err-2 c = json_none _ (c.in-Err.ensures.err (λ m. let t : c.is_memory.result ≡ true = c.is_memory.ensures.1 m in absurd (cc)))
