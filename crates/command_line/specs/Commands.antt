-- Part of the statement: which command the words are.
use Rattle.std.specs.Prelude.{◌≡◌, ℕ, ◌==◌, ◌&&◌, ◌||◌, Bool, true, false, not, if◌then◌else◌, List, [], length, slice_index, codes, nat_lt}
use Rattle.std.specs.Prelude.{Option, Some, None, is_some, option_and_then, Result, Ok, Err}
use Rattle.std.specs.Str.{bytes_eq}
use Rattle.clap.specs.Words.{Row, fault_of, first_of, subcommand_of, subcommand_rows_of}
use Rattle.clap.specs.declared.parser.matches.ArgMatches.{ArgMatches}
use Rattle.voting_config.specs.Ids.{Id}
use Rattle.schedule_text.specs.declared.level.Level.{Level}
use Rattle.schedule_text.specs.declared.level.Level.TheVariants as level
use Rattle.zen_host.specs.HostCalls.{ToldSettings}
use Rattle.command_line.specs.declared.command.HistoryLevel.{HistoryLevel}
use Rattle.command_line.specs.declared.command.HistoryLevel.TheVariants as history
use Rattle.command_line.specs.declared.command.ProgramCommand.{ProgramCommand}
use Rattle.command_line.specs.declared.command.ProgramCommand.TheVariants as command
use Rattle.command_line.specs.declared.command.WordsError.{WordsError}
use Rattle.command_line.specs.declared.command.WordsError.TheVariants.{Usage, Memory}
use Rattle.command_line.specs.Given.{Text, look, words_given}
use Rattle.command_line.specs.Lists.{initial_of, up_of, peers_of}
use Rattle.command_line.specs.Program.{commands, program_app}
use Rattle.command_line.specs.Values.{Look, ◌>>=◌, text_at, is_set, id_of, address_of, number_of, number_within}

abbrev pub level_of : Text → Option Level
level_of t =
    if bytes_eq t (codes "core") then Some level.Core
    else (if bytes_eq t (codes "node") then Some level.Node
    else None)

abbrev pub replay_of : Look → Option ProgramCommand
replay_of look = text_at (codes "level") look >>= level_of >>= λ level. Some (command.Replay level)

abbrev pub inspect_of : Look → Option ProgramCommand
inspect_of look = text_at (codes "dir") look >>= λ dir. Some (command.Inspect dir)

-- the node, the address at which it listens, and its peers
abbrev pub link_of : Look → Option ToldSettings
link_of look =
    text_at (codes "id") look >>= id_of >>= λ id.
    text_at (codes "listen") look >>= address_of >>= λ listen.
    text_at (codes "peers") look >>= peers_of >>= λ peers.
    Some (record { me = id; listen = listen; peers = peers })

-- the voting-only nodes: none where the option is not given
abbrev pub voting_only_of : Look → Option (List Id)
voting_only_of look = if is_some (look (codes "voting-only")) then text_at (codes "voting-only") look >>= initial_of else Some []

-- whether the profile of the policy is the second: it is where the option is not given
abbrev pub profile_of : Text → Option Bool
profile_of t =
    if bytes_eq t (codes "1") then Some false
    else (if bytes_eq t (codes "2") then Some true
    else None)

abbrev pub second_of : Look → Option Bool
second_of look = if is_some (look (codes "profile")) then text_at (codes "profile") look >>= profile_of else Some true

-- how much of its life a node writes: all where the option is not given
abbrev pub history_level_of : Text → Option HistoryLevel
history_level_of t =
    if bytes_eq t (codes "all") then Some history.All
    else (if bytes_eq t (codes "acts") then Some history.Acts
    else (if bytes_eq t (codes "none") then Some history.Nothing
    else None))

abbrev pub history_of : Look → Option HistoryLevel
history_of look = if is_some (look (codes "history")) then text_at (codes "history") look >>= history_level_of else Some history.All

-- after how many inputs a node ends: a number, or `all`, the greatest of 64 bits
abbrev pub turns_of : Text → Option ℕ
turns_of t = if bytes_eq t (codes "all") then Some 18446744073709551615 else number_of t

abbrev pub node_of : Look → Option ProgramCommand
node_of look =
    text_at (codes "initial") look >>= initial_of >>= λ initial.
    voting_only_of look >>= λ voting_only.
    second_of look >>= λ second.
    text_at (codes "turns") look >>= turns_of >>= λ turns.
    history_of look >>= λ level.
    link_of look >>= λ link.
    text_at (codes "dir") look >>= λ dir.
    Some (command.Node (record {
      link = link;
      dir = dir;
      initial = initial;
      voting_only = voting_only;
      shrink = not (is_set (codes "no-shrink") look);
      second = second;
      turns = turns;
      history = level;
    }))

-- how many steps a generated schedule has at most
abbrev pub most_steps : ℕ
most_steps = 100000

abbrev pub steps_of : Text → Option ℕ
steps_of t = number_within 0 most_steps t

abbrev pub generate_of : Look → Option ProgramCommand
generate_of look =
    text_at (codes "number") look >>= number_of >>= λ number.
    text_at (codes "steps") look >>= steps_of >>= λ steps.
    Some (command.Generate number steps)

-- of a trial's ports the first one: two more follow
abbrev pub port_of : Text → Option ℕ
port_of t = number_within 1 65533 t

abbrev pub trial_of : Look → Option ProgramCommand
trial_of look =
    text_at (codes "port") look >>= port_of >>= λ port.
    text_at (codes "turns") look >>= number_of >>= λ turns.
    text_at (codes "program") look >>= λ program.
    text_at (codes "dir") look >>= λ dir.
    Some (command.Trial (record { program = program; dir = dir; port = port; turns = turns }))

abbrev pub rescue_of : Look → Option ProgramCommand
rescue_of look = text_at (codes "up") look >>= up_of >>= λ up. Some (command.Rescue up)

abbrev pub unsafe_bootstrap_of : Look → Option ProgramCommand
unsafe_bootstrap_of look =
    text_at (codes "id") look >>= id_of >>= λ id.
    text_at (codes "dir") look >>= λ dir.
    Some (command.UnsafeBootstrap id dir)

abbrev pub detach_cluster_of : Look → Option ProgramCommand
detach_cluster_of look = text_at (codes "dir") look >>= λ dir. Some (command.DetachCluster dir)

-- the command of this name, where these values stand with the names of its options
abbrev pub command_by : Text → Look → Option ProgramCommand
command_by name look =
    if bytes_eq name (codes "replay") then replay_of look
    else (if bytes_eq name (codes "inspect") then inspect_of look
    else (if bytes_eq name (codes "node") then node_of look
    else (if bytes_eq name (codes "generate") then generate_of look
    else (if bytes_eq name (codes "trial") then trial_of look
    else (if bytes_eq name (codes "rescue") then rescue_of look
    else (if bytes_eq name (codes "unsafe-bootstrap") then unsafe_bootstrap_of look
    else (if bytes_eq name (codes "detach-cluster") then detach_cluster_of look
    else (if bytes_eq name (codes "audit") then Some command.Audit
    else None))))))))

-- the command that the words are
abbrev pub command_of : List Text → Option ProgramCommand
command_of words = option_and_then (λ p. command_by p.0.0 (look p.0.1 p.1)) (words_given commands words)

-- ---- for private clauses

-- a word that begins with one hyphen, or is no more than two, is never among the words of a command
abbrev pub is_fair : Text → Bool
is_fair w = length w == 0 || (not (slice_index w 0 == 45) || (nat_lt 2 (length w) && slice_index w 1 == 45))

abbrev pub entered_command : Option (Text × List Row) → Option ProgramCommand
entered_command o = option_and_then (λ p. command_by p.0 (λ name. first_of name p.1)) o

abbrev pub FailsToParse : WordsError → List Text → Type 0
FailsToParse Usage words = ¬ (fault_of program_app words ≡ [])
FailsToParse Memory words = Unit {0}

abbrev pub Parses : Result ArgMatches WordsError → List Text → Type 0
Parses (Ok m) words = (fault_of program_app words ≡ []) × (subcommand_rows_of m ≡ subcommand_of program_app words)
Parses (Err e) words = FailsToParse e words
