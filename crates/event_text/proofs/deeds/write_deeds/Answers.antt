use Rattle.std.proofs.Common.{◌≡◌, ◌++◌, OnOk, subst, List}
use Rattle.policy_model.specs.declared.events.Deed.{Deed}
use Rattle.event_text.specs.Deeds.{deeds_text}
use Rattle.event_text.proofs.Told.{told_as_it_is}
use Rattle.event_text.proofs.deeds.write_deeds.Goals as goal

pub returns-clause-text : goal.returns-clause-text
returns-clause-text c =
    let w = c.write_struck_deeds in
    let P : List Deed → Type 0 = λ ss. OnOk w.result (w.new.text ≡ c.args.text.now ++ deeds_text c.args.node c.args.published.now ss) in
    subst P (told_as_it_is c.args.deeds.now) w.ensures.text
