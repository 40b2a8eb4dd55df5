use Rattle.std.proofs.Common.{◌≡◌, ◌∙◌, sym, lit<, false, codes}
use Rattle.std.specs.Str.{bytes_eq}
use Rattle.std.proofs.lemmas.Iterator.Consumers.{map_from_collect}
use Rattle.std.proofs.lemmas.Iterator.Splits.{YieldsList-from_str_split}
use Rattle.command_line.proofs.lists.items.Goals as goal

pub returns : goal.returns
returns c =
    let other : bytes_eq c.args.text.now (codes "_") ≡ false = sym c.eq.ensures ∙ c.if-eq.false in
    rw other (map_from_collect _ c.collect.ensures.ran (YieldsList-from_str_split 44 c.args.text.now (lit< tt) c.split.ensures.text c.split.ensures.has_more c.split.ensures.pattern))
