use Rattle.std.proofs.Common.{◌≡◌, ◌∙◌, ap, true}
use Rattle.clap.specs.Words.{app_of}
use Rattle.clap.specs.Simple.{app_of_fields, on_top}
use Rattle.command_line.proofs.shape.bare.Goals as goal

pub returns : goal.returns
returns c =
    let first : app_of c.no_binary_name.result ≡ on_top (λ s. record s { no_binary_name = true }) (app_of c.new.result) = ap app_of_fields c.no_binary_name.ensures in
    let second : app_of c.disable_help_flag.result ≡ on_top (λ s. record s { disable_help_flag = true }) (app_of c.no_binary_name.result) = ap app_of_fields c.disable_help_flag.ensures in
    let third : app_of c.disable_help_subcommand.result ≡ on_top (λ s. record s { disable_help_subcommand = true }) (app_of c.disable_help_flag.result) = ap app_of_fields c.disable_help_subcommand.ensures in
    let fourth : app_of c.disable_version_flag.result ≡ on_top (λ s. record s { disable_version_flag = true }) (app_of c.disable_help_subcommand.result) = ap app_of_fields c.disable_version_flag.ensures in
    fourth ∙ ap (on_top (λ s. record s { disable_version_flag = true })) (third ∙ ap (on_top (λ s. record s { disable_help_subcommand = true })) (second ∙ ap (on_top (λ s. record s { disable_help_flag = true })) (first ∙ ap (on_top (λ s. record s { no_binary_name = true })) c.new.ensures.app)))
