-- Lines that are written out: the definition computes.
use Rattle.std.proofs.Common.{◌≡◌, refl, [], ◌∷◌, Some, None, codes, true, false}
use Rattle.command_line.specs.Commands.{command_of}
use Rattle.command_line.specs.Lists.{initial_of, peers_of}
use Rattle.schedule_text.specs.declared.level.Level.TheVariants.{Core, Node}
use Rattle.command_line.specs.declared.command.HistoryLevel.TheVariants as history
use Rattle.command_line.specs.declared.command.ProgramCommand.TheVariants.{Replay, Inspect, Node, UnsafeBootstrap, DetachCluster, Audit}

core_level : command_of (codes "replay" ∷ codes "--level" ∷ codes "core" ∷ []) ≡ Some (Replay Core)
core_level = refl

attached_level : command_of (codes "replay" ∷ codes "--level=node" ∷ []) ≡ Some (Replay Node)
attached_level = refl

no_level : command_of (codes "replay" ∷ codes "--level" ∷ codes "none" ∷ []) ≡ None
no_level = refl

twice : command_of (codes "replay" ∷ codes "--level=core" ∷ codes "--level" ∷ codes "core" ∷ []) ≡ None
twice = refl

two_hyphens : command_of (codes "replay" ∷ codes "--level" ∷ codes "core" ∷ codes "--" ∷ []) ≡ None
two_hyphens = refl

folder : command_of (codes "inspect" ∷ codes "--dir" ∷ codes "a" ∷ []) ≡ Some (Inspect (codes "a"))
folder = refl

no_folder : command_of (codes "inspect" ∷ codes "--dir=" ∷ []) ≡ None
no_folder = refl

node : command_of (codes "node" ∷ codes "--no-shrink" ∷ codes "--id" ∷ codes "a" ∷ codes "--dir=d" ∷ codes "--listen=h" ∷ codes "--peers" ∷ codes "c=x,b=y" ∷ codes "--initial=c,a" ∷ codes "--voting-only" ∷ codes "b" ∷ codes "--turns=7" ∷ [])
    ≡ Some (Node (record {
      link = record { me = codes "a"; listen = codes "h"; peers = record { id = codes "c"; address = codes "x" } ∷ record { id = codes "b"; address = codes "y" } ∷ [] };
      dir = codes "d";
      initial = codes "a" ∷ codes "c" ∷ [];
      voting_only = codes "b" ∷ [];
      shrink = false;
      second = true;
      turns = 7;
      history = history.All;
    }))
node = refl

first_profile : command_of (codes "node" ∷ codes "--profile" ∷ codes "1" ∷ codes "--id=a" ∷ codes "--dir=d" ∷ codes "--listen=h" ∷ codes "--peers=_" ∷ codes "--initial=_" ∷ codes "--turns=7" ∷ [])
    ≡ Some (Node (record {
      link = record { me = codes "a"; listen = codes "h"; peers = [] };
      dir = codes "d";
      initial = [];
      voting_only = [];
      shrink = true;
      second = false;
      turns = 7;
      history = history.All;
    }))
first_profile = refl

no_profile : command_of (codes "node" ∷ codes "--profile=3" ∷ codes "--id=a" ∷ codes "--dir=d" ∷ codes "--listen=h" ∷ codes "--peers=_" ∷ codes "--initial=_" ∷ codes "--turns=7" ∷ []) ≡ None
no_profile = refl

acts_for_good : command_of (codes "node" ∷ codes "--history=acts" ∷ codes "--id=a" ∷ codes "--dir=d" ∷ codes "--listen=h" ∷ codes "--peers=_" ∷ codes "--initial=_" ∷ codes "--turns" ∷ codes "all" ∷ [])
    ≡ Some (Node (record {
      link = record { me = codes "a"; listen = codes "h"; peers = [] };
      dir = codes "d";
      initial = [];
      voting_only = [];
      shrink = true;
      second = true;
      turns = 18446744073709551615;
      history = history.Acts;
    }))
acts_for_good = refl

no_history : command_of (codes "node" ∷ codes "--history=act" ∷ codes "--id=a" ∷ codes "--dir=d" ∷ codes "--listen=h" ∷ codes "--peers=_" ∷ codes "--initial=_" ∷ codes "--turns=7" ∷ []) ≡ None
no_history = refl

alone : command_of (codes "unsafe-bootstrap" ∷ codes "--dir" ∷ codes "d" ∷ codes "--id=a" ∷ []) ≡ Some (UnsafeBootstrap (codes "a") (codes "d"))
alone = refl

no_one : command_of (codes "unsafe-bootstrap" ∷ codes "--dir=d" ∷ codes "--id=A" ∷ []) ≡ None
no_one = refl

detached : command_of (codes "detach-cluster" ∷ codes "--dir" ∷ codes "d" ∷ []) ≡ Some (DetachCluster (codes "d"))
detached = refl

audited : command_of (codes "audit" ∷ []) ≡ Some Audit
audited = refl

audit_takes_nothing : command_of (codes "audit" ∷ codes "t.txt" ∷ []) ≡ None
audit_takes_nothing = refl

one_id_twice : initial_of (codes "a,b,a") ≡ None
one_id_twice = refl

no_ids : initial_of (codes "_") ≡ Some []
no_ids = refl

one_peer_twice : peers_of (codes "a=h,a=i") ≡ None
one_peer_twice = refl

led_by_zero : command_of (codes "generate" ∷ codes "--number=7" ∷ codes "--steps=07" ∷ []) ≡ None
led_by_zero = refl

too_many_steps : command_of (codes "generate" ∷ codes "--number=7" ∷ codes "--steps=100001" ∷ []) ≡ None
too_many_steps = refl
