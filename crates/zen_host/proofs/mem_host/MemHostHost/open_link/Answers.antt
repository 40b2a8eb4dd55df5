use Rattle.std.proofs.Common.{◌≡◌, true, rules}
use Rattle.zen_disk.specs.Numbered.{next_number, is_listed}
use Rattle.zen_host.proofs.Refusals.{refused_by_list}
use Rattle.zen_host.proofs.mem_host.MemHostHost.open_link.Goals as goal

pub returns-then-is_to_fail-clause-moves : goal.returns-then-is_to_fail-clause-moves
returns-then-is_to_fail-clause-moves g c =
    let next : c.saturating_add-self.result ≡ next_number c.args.self.now.number = search rules in
    let listed : is_listed c.args.self.now.fails.items c.saturating_add-self.result ≡ true = search rules in
    refused_by_list c.args.self.now.fails.items c.args.self.now.number c.saturating_add-self.result c.args.self.now.link c.args.self.now.faults c.refuse_link.new.faults c.refuse_link.result next listed c.refuse_link.ensures.same
