use Rattle.std.proofs.Common.{sym, arith}
use Rattle.std.proofs.lemmas.List.{ext_get_or}
use Rattle.std.proofs.lemmas.Slice.Eq.{bytes_eq-Decides}
use Rattle.schedule_text.proofs.words.is_same.Goals as goal

pub returns : goal.returns
returns c =
    let word = c.args.word.now in
    let other = c.args.other.now in
    sym ((bytes_eq-Decides word other).1 (ext_get_or 0 word other (omega arith) (λ k within. c.loop-i.invariant k (omega arith))))
