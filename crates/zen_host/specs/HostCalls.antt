-- Part of the statement: the calls of a host that may be refused, with their arguments and answers.
use Rattle.std.specs.Prelude.{◌≡◌, ℕ, Bool, true, false, Option, None, Some, Result, Ok, Err, List, [], ◌∷◌, ◌++◌, length, map, string_bytes}
use Rattle.voting_config.specs.Ids.{Id}
use Rattle.zen_link.specs.declared.link.Peer.{Peer}
use Rattle.zen_link.specs.declared.link.LinkSettings.{LinkSettings}
use Rattle.zen_host.specs.declared.host.Ended.{Ended}
use Rattle.zen_host.specs.declared.host.HostError.{HostError}
use Rattle.zen_host.specs.declared.host.HostError.TheVariants.{Failed, Memory}

-- a peer, and the text of its address
pub record ToldPeer : Type 0 where
  pub id : Id
  pub address : List ℕ

-- with what a link is opened: the node, the text of the address at which it listens, and its peers
pub record ToldSettings : Type 0 where
  pub me : Id
  pub listen : List ℕ
  pub peers : List ToldPeer

abbrev pub told_peer : Peer → ToldPeer
told_peer peer = record { id = peer.id; address = string_bytes peer.address }

abbrev pub told_settings : LinkSettings → ToldSettings
told_settings settings = record { me = settings.me; listen = string_bytes settings.listen; peers = map told_peer settings.peers.items }

-- how a child ended: its status, and what it wrote
pub record ToldEnd : Type 0 where
  pub status : ℕ
  pub output : List ℕ

abbrev pub told_end : Ended → ToldEnd
told_end ended = record { status = ended.status; output = ended.output.items }

-- A call, and whether it was refused as Failed; a wait is noted with how the child ended, unless it was refused. A child is named by the
-- number of the call that spawned it.
pub data HostCall : Type 0 where
  OpensDisk : (dir : List ℕ) → (refused : Bool) → HostCall
  OpensLink : (settings : ToldSettings) → (refused : Bool) → HostCall
  Spawns : (program : List ℕ) → (words : List (List ℕ)) → (refused : Bool) → HostCall
  WaitsFor : (child : ℕ) → (ended : Option ToldEnd) → HostCall
  Kills : (child : ℕ) → (refused : Bool) → HostCall

-- with one more call, where the host tells its calls
abbrev pub and_call : Option (List HostCall) → HostCall → Option (List HostCall)
and_call None call = None
and_call (Some calls) call = Some (calls ++ call ∷ [])

-- the call was noted with its answer, but for one that found no memory
abbrev pub Notes : {T : Type 0} → Option (List HostCall) → Option (List HostCall) → (Bool → HostCall) → Result T HostError → Type 0
Notes was now call (Ok x) = now ≡ and_call was (call false)
Notes was now call (Err Failed) = now ≡ and_call was (call true)
Notes was now call (Err Memory) = now ≡ was

-- the same of a wait for this child
abbrev pub NotesWait : Option (List HostCall) → Option (List HostCall) → ℕ → Result Ended HostError → Type 0
NotesWait was now child (Ok ended) = now ≡ and_call was (WaitsFor child (Some (told_end ended)))
NotesWait was now child (Err Failed) = now ≡ and_call was (WaitsFor child None)
NotesWait was now child (Err Memory) = now ≡ was

-- the last of these calls has this number, where the host tells its calls
abbrev pub IsNumber : Option (List HostCall) → ℕ → Type 0
IsNumber None number = Unit {0}
IsNumber (Some calls) number = number ≡ length calls
