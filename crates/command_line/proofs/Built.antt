-- What clap builds of the commands.
use Rattle.std.proofs.Common.{◌≡◌, refl, true}
use Rattle.clap.specs.Simple.{built}
use Rattle.clap.specs.Faults.{is_simple_and_free}
use Rattle.clap.proofs.OnLiterals.{clap_on_literals}
use Rattle.command_line.specs.Program.{program_app, commands}
use Rattle.command_line.proofs.Levels.{top}

pub built_is : built program_app ≡ top commands
unfolding clap_on_literals
built_is = refl

pub is_simple_program : is_simple_and_free program_app ≡ true
unfolding clap_on_literals
is_simple_program = refl
