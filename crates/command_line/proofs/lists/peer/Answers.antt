use Rattle.std.proofs.Common.{◌≡◌, ◌∙◌, Some, sym, arith}
use Rattle.std.proofs.lemmas.Str.Pattern.{split_once_first}
use Rattle.std.specs.String.{string_bytes}
use Rattle.command_line.specs.Values.{id_of}
use Rattle.command_line.proofs.Listing.{peer_split}
use Rattle.command_line.proofs.lists.peer.Goals as goal

pub returns : goal.returns
returns c =
    let item = c.args.item.now in
    let name = c.in-Some.name.now in
    let address = c.in-Some.address.now in
    let id : id_of name ≡ Some c.in_ok-id.id = sym c.id.ensures ∙ c.in_ok-id.ensures.ok_part in
    peer_split item name address (string_bytes c.in_ok-address.address) c.in_ok-id.id
    (split_once_first 61 item (Some (c.in-Some.name, c.in-Some.address)) c.in-Some.ensures.cases (omega arith))
    id (sym c.is_empty.ensures ∙ c.if-is_empty.false) c.in_ok-address.ensures.ok
