use Rattle.std.proofs.Common.{◌≡◌, ◌∙◌, sym, ap, ℕ, List, length, vec_len, Option}
use Rattle.std.specs.Prelude.{◌==◌, option_map}
use Rattle.serde_json.specs.View.{view}
use Rattle.voting_config.specs.Ids.{Id}
use Rattle.cluster_state.specs.declared.request.Ask.TheVariants.{Exclude}
use Rattle.client_lines.proofs.Exclusions.{exclude_of-array}
use Rattle.client_lines.proofs.reading.ids_to_exclude.Goals as goal

pub returns : goal.returns
returns c =
    let values = c.in_ok-values.values.now in
    let long : length values.items ≡ vec_len values = rw c.deref.ensures.value at c.deref.ensures.len in
    let found = exclude_of-array (view c.args.value.now) values.items (sym c.in_ok-values.ensures) (ap (λ (n : ℕ). n == 0) long ∙ sym c.is_empty.ensures ∙ c.if-is_empty.false) in
    ap (λ (ids : Option (List Id)). option_map Exclude ids) (rw (← c.deref.ensures.value) c.read_ids.ensures) ∙ found
