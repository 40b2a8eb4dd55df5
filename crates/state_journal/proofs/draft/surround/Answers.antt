use Rattle.std.proofs.Common.{◌≡◌, ◌-◌, ◌+◌, ℕ, List, length, ap, ◌∙◌}
use Rattle.zen_disk.specs.Disk.{part, written}
use Rattle.state_journal.proofs.Laying.{surrounded}
use Rattle.state_journal.proofs.draft.surround.Goals as goal

pub returns-clause-frame : goal.returns-clause-frame
returns-clause-frame c =
    let head = c.args.head.now in
    let tail = c.args.tail.now in
    let both : c.put-2.new.bytes ≡ written (written c.args.bytes.now (21 - length head) head) c.args.end tail = c.put-2.ensures ∙ ap (λ (l : List ℕ). written l c.args.end tail) c.put.ensures in
    ap (part (21 - length head) (length head + (c.args.end - 21) + length tail)) both ∙ (surrounded c.args.bytes.now head c.args.end tail c.requires.head c.requires.end c.requires.tail).frame

pub returns-clause-same : goal.returns-clause-same
returns-clause-same c =
    let head = c.args.head.now in
    let tail = c.args.tail.now in
    let both : c.put-2.new.bytes ≡ written (written c.args.bytes.now (21 - length head) head) c.args.end tail = c.put-2.ensures ∙ ap (λ (l : List ℕ). written l c.args.end tail) c.put.ensures in
    ap (part 21 (c.args.end - 21)) both ∙ (surrounded c.args.bytes.now head c.args.end tail c.requires.head c.requires.end c.requires.tail).same
