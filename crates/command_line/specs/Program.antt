-- Part of the statement: the commands, and the command line as clap is given it.
use Rattle.std.specs.Prelude.{◌≡◌, true, false, List, [], ◌∷◌, ◌++◌, map, Some, codes}
use Rattle.clap.specs.Words.{App, Rule, Shape, app_of, new_rule, with_rule}
use Rattle.clap.specs.Simple.{new_shape}
use Rattle.clap.specs.declared.builder.action.ArgAction.TheVariants.{SetTrue}
use Rattle.clap.specs.declared.builder.command.Command.{Command}
use Rattle.clap.specs.declared.builder.command.Command.TheViews.{out-Command}
use Rattle.command_line.specs.Given.{Text, Named, option, flag, CommandForm}

-- what each command takes
abbrev pub replay_takes : List Named
replay_takes = option (codes "level") ∷ []

abbrev pub inspect_takes : List Named
inspect_takes = option (codes "dir") ∷ []

-- of a node: who and where it is, and then how it is to run
abbrev pub node_place_takes : List Named
node_place_takes = option (codes "id") ∷ option (codes "dir") ∷ option (codes "listen") ∷ option (codes "peers") ∷ []

abbrev pub node_takes : List Named
node_takes = node_place_takes
    ++ option (codes "initial") ∷ option (codes "voting-only") ∷ option (codes "turns") ∷ option (codes "profile") ∷ option (codes "history")
    ∷ flag (codes "no-shrink") ∷ []

abbrev pub generate_takes : List Named
generate_takes = option (codes "number") ∷ option (codes "steps") ∷ []

abbrev pub trial_takes : List Named
trial_takes = option (codes "program") ∷ option (codes "dir") ∷ option (codes "port") ∷ option (codes "turns") ∷ []

abbrev pub rescue_takes : List Named
rescue_takes = option (codes "up") ∷ []

abbrev pub unsafe_bootstrap_takes : List Named
unsafe_bootstrap_takes = option (codes "id") ∷ option (codes "dir") ∷ []

abbrev pub detach_cluster_takes : List Named
detach_cluster_takes = option (codes "dir") ∷ []

abbrev pub audit_takes : List Named
audit_takes = []

abbrev pub commands : List CommandForm
commands =
    (codes "replay", replay_takes) ∷ (codes "inspect", inspect_takes) ∷ (codes "node", node_takes)
    ∷ (codes "generate", generate_takes) ∷ (codes "trial", trial_takes) ∷ (codes "rescue", rescue_takes)
    ∷ (codes "unsafe-bootstrap", unsafe_bootstrap_takes) ∷ (codes "detach-cluster", detach_cluster_takes) ∷ (codes "audit", audit_takes)
    ∷ []

-- ---- as clap is given it

abbrev pub raw : Named → Rule
raw (option n) = record (new_rule n) { long = Some n }
raw (flag n) = record (new_rule n) { long = Some n; action = Some SetTrue }

pub record HasOneMore (old : Command) (r : Rule) (new : Command) : Type 0 where
  pub app : app_of new ≡ with_rule (app_of old) r
  pub globals : (out-Command new).has_globals ≡ (out-Command old).has_globals

abbrev pub raw_app : Text → List Named → App
raw_app name ks = record { top = record (new_shape name) { rules = map raw ks }; subs = [] }

pub record IsLeaf (name : Text) (ks : List Named) (c : Command) : Type 0 where
  pub app : app_of c ≡ raw_app name ks
  pub globals : (out-Command c).has_globals ≡ false

abbrev pub raw_of : CommandForm → Shape
raw_of e = (raw_app e.0 e.1).top

abbrev pub program_app : App
program_app = record {
  top = record (new_shape (codes "zen")) {
    is_leaf = false;
    no_binary_name = true;
    disable_help_flag = true;
    disable_help_subcommand = true;
    disable_version_flag = true;
  };
  subs = map raw_of commands;
}

-- ---- not part of the statement

-- the program before its commands
abbrev pub bare_app : App
bare_app = record {
  top = record (new_shape (codes "zen"))
      { no_binary_name = true; disable_help_flag = true; disable_help_subcommand = true; disable_version_flag = true };
  subs = [];
}
