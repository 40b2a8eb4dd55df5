use Rattle.std.proofs.Common.{ℕ, ap}
use Rattle.std.specs.Prelude.{nat_eq}
use Rattle.serde_json.proofs.Views.{members_len-members_view}
use Rattle.recorded_trace.proofs.json.has_members.Goals as goal

pub returns-in-Some : goal.returns-in-Some
returns-in-Some c = rw (← c.in-Some.ensures, members_len-members_view) (ap (λ (n : ℕ). nat_eq n c.args.count) c.len.ensures.len)
