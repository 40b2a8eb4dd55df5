use Rattle.std.proofs.Common.{◌+◌, ◌/◌, ◌%◌, ◌∷◌, [], append_assoc, arith}
use Rattle.text.proofs.Digits.{four_digits, three_digits}
use Rattle.text.proofs.numbers.put_few.Goals as goal

pub returns-then-number-lt1000-clause-items : goal.returns-then-number-lt1000-clause-items
returns-then-number-lt1000-clause-items c =
    let n = c.args.number in
    rw (c.put_pair-then-number-lt1000.ensures.items, c.push_reserved.ensures.items, three_digits n (omega arith) (omega arith))
    (append_assoc c.args.bytes.now.items ((48 + n / 100) ∷ []) ((48 + n % 100 / 10) ∷ (48 + n % 100 % 10) ∷ []))

pub returns-clause-items : goal.returns-clause-items
returns-clause-items c =
    let n = c.args.number in
    rw (c.put_pair-3.ensures.items, c.put_pair-2.ensures.items, four_digits n (omega arith) c.requires.few)
    (append_assoc c.args.bytes.now.items ((48 + n / 100 / 10) ∷ (48 + n / 100 % 10) ∷ []) ((48 + n % 100 / 10) ∷ (48 + n % 100 % 10) ∷ []))
