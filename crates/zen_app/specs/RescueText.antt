-- Part of the statement: why there is no rescue, as text.
use Rattle.std.specs.Prelude.{ℕ, List, ◌++◌, codes, decimal}
use Rattle.rescue_plan.specs.declared.answer.RescueRefused.{RescueRefused}
use Rattle.rescue_plan.specs.declared.answer.RescueRefused.TheVariants.{NoQuorum, Exhausted}
use Rattle.zen_app.specs.declared.refusals.NoRescue.{NoRescue}
use Rattle.zen_app.specs.declared.refusals.NoRescue.TheVariants.{NotUp, Armed, NoPlan, Full}

-- how many of how many
abbrev pub share_text : ℕ × ℕ → List ℕ
share_text share = decimal share.0 ++ (codes "/" ++ decimal share.1)

abbrev pub refused_text : RescueRefused → List ℕ
refused_text (NoQuorum committed accepted) = codes "NoQuorum("
    ++ (share_text committed ++ (codes "," ++ (share_text accepted ++ codes ")")))
refused_text (Exhausted term version) = codes "Exhausted(" ++ (decimal term ++ (codes "," ++ (decimal version ++ codes ")")))

abbrev pub why_text : NoRescue → List ℕ
why_text (NotUp id) = codes "NotUp(" ++ (id ++ codes ")")
why_text (Armed id) = codes "Armed(" ++ (id ++ codes ")")
why_text (NoPlan why) = refused_text why
why_text Full = codes "Full"

abbrev pub no_rescue_line : NoRescue → List ℕ
no_rescue_line why = codes "zen: no rescue: " ++ (why_text why ++ codes "\n")
