use Rattle.std.proofs.Common.{codes}
use Rattle.clap.specs.Words.{App, with_subcommand}
use Rattle.command_line.specs.Program.{replay_takes, inspect_takes, node_takes, generate_takes, trial_takes, rescue_takes, unsafe_bootstrap_takes, detach_cluster_takes, audit_takes, bare_app, raw_of}
use Rattle.command_line.proofs.shape.program.Goals as goal

abbrev zen_1 : App
zen_1 = with_subcommand bare_app (raw_of (codes "replay", replay_takes))

abbrev zen_2 : App
zen_2 = with_subcommand zen_1 (raw_of (codes "inspect", inspect_takes))

abbrev zen_3 : App
zen_3 = with_subcommand zen_2 (raw_of (codes "node", node_takes))

abbrev zen_4 : App
zen_4 = with_subcommand zen_3 (raw_of (codes "generate", generate_takes))

abbrev zen_5 : App
zen_5 = with_subcommand zen_4 (raw_of (codes "trial", trial_takes))

abbrev zen_6 : App
zen_6 = with_subcommand zen_5 (raw_of (codes "rescue", rescue_takes))

abbrev zen_7 : App
zen_7 = with_subcommand zen_6 (raw_of (codes "unsafe-bootstrap", unsafe_bootstrap_takes))

abbrev zen_8 : App
zen_8 = with_subcommand zen_7 (raw_of (codes "detach-cluster", detach_cluster_takes))

pub returns : goal.returns
returns c =
    let one = c.in_ok-program.ensures bare_app (codes "replay", replay_takes) c.bare.ensures c.leaf.ensures in
    let two = c.in_ok-program-2.ensures zen_1 (codes "inspect", inspect_takes) one c.leaf-2.ensures in
    let three = c.in_ok-program-3.ensures zen_2 (codes "node", node_takes) two c.node.ensures in
    let four = c.in_ok-program-4.ensures zen_3 (codes "generate", generate_takes) three c.leaf-3.ensures in
    let five = c.in_ok-program-5.ensures zen_4 (codes "trial", trial_takes) four c.leaf-4.ensures in
    let six = c.in_ok-program-6.ensures zen_5 (codes "rescue", rescue_takes) five c.leaf-5.ensures in
    let seven = c.in_ok-program-7.ensures zen_6 (codes "unsafe-bootstrap", unsafe_bootstrap_takes) six c.leaf-6.ensures in
    let eight = c.in_ok-program-8.ensures zen_7 (codes "detach-cluster", detach_cluster_takes) seven c.leaf-7.ensures in
    c.with_command-9.ensures zen_8 (codes "audit", audit_takes) eight c.leaf-8.ensures
