-- Part of the statement: what a trial does: the calls that it makes of the host, and what it writes.
use Rattle.std.specs.Prelude.{◌≡◌, ◌⊎◌, ℕ, Bool, true, false, Option, None, Some, Result, Ok, Err, List, [], ◌∷◌, ◌++◌}
use Rattle.zen_host.specs.HostCalls.{HostCall, Spawns, WaitsFor, Kills, ToldEnd, and_call, IsNumber}
use Rattle.zen_host.specs.declared.host.HostError.{HostError}
use Rattle.zen_host.specs.declared.host.HostError.TheVariants as host
use Rattle.zen_link.specs.Streams.{Appended, AppendedPrefix}
use Rattle.node_trial.specs.declared.node.TrialNode.{TrialNode}
use Rattle.node_trial.specs.declared.running.TrialEnd.{TrialEnd}
use Rattle.node_trial.specs.declared.running.TrialEnd.TheVariants as end
use Rattle.node_trial.specs.Nodes.{ToldTrial, nodes, words_of}
use Rattle.node_trial.specs.Ends.{ToldEnds, have_passed, text_of}

-- ---- the calls, from those told before to those told now

-- these nodes are started, one after the other, as these children
abbrev pub Starts : ToldTrial → List TrialNode → (children : List ℕ) → (was now : Option (List HostCall)) → Type 0
Starts t [] [] was now = now ≡ was
Starts t (n ∷ ns) (child ∷ children) was now =
    IsNumber (and_call was (Spawns t.program (words_of t n) false)) child
    × Starts t ns children (and_call was (Spawns t.program (words_of t n) false)) now
Starts t ns children was now = ⊥

-- these children are waited for, one after the other, and end so
abbrev pub Waits : (children : List ℕ) → List ToldEnd → (was now : Option (List HostCall)) → Type 0
Waits [] [] was now = now ≡ was
Waits (child ∷ children) (ended ∷ ends) was now = Waits children ends (and_call was (WaitsFor child (Some ended))) now
Waits children ends was now = ⊥

-- a call is refused as Failed, or it is not noted, since no memory was found for it
abbrev pub Refuses : HostCall → (was now : Option (List HostCall)) → HostError → Type 0
Refuses call was now host.Failed = now ≡ and_call was call
Refuses call was now host.Memory = now ≡ was

-- a child is killed, unless that is refused, which is noted, or finds no memory
abbrev pub IsKilled : (child : ℕ) → (was now : Option (List HostCall)) → Type 0
IsKilled child was now = (now ≡ was) ⊎ ((refused : Bool) × (now ≡ and_call was (Kills child refused)))

-- these children are killed, one after the other
abbrev pub AreKilled : (children : List ℕ) → (was now : Option (List HostCall)) → Type 0
AreKilled [] was now = now ≡ was
AreKilled (child ∷ children) was now = (between : Option (List HostCall)) × IsKilled child was between × AreKilled children between now

-- ---- how far a trial comes

-- some nodes were started; the host gave no child for the next one, and was asked to kill those of the nodes before it
pub record Unstarted (t : ToldTrial) (was now : Option (List HostCall)) (error : HostError) : Type 0 where
  pub started : List TrialNode
  pub next : TrialNode
  pub later : List TrialNode
  pub are_nodes : nodes ≡ started ++ next ∷ later
  pub children : List ℕ
  pub begun : Option (List HostCall)
  pub starts : Starts t started children was begun
  pub refused : Option (List HostCall)
  pub refuses : Refuses (Spawns t.program (words_of t next) true) begun refused error
  pub killed : AreKilled children refused now

-- some of these children have ended; the host did not say how the next one did, and was asked to kill those after it
pub record Unwaited (children : List ℕ) (was now : Option (List HostCall)) (error : HostError) : Type 0 where
  pub ended : List ℕ
  pub next : ℕ
  pub later : List ℕ
  pub are_children : children ≡ ended ++ next ∷ later
  pub ends : List ToldEnd
  pub waited : Option (List HostCall)
  pub waits : Waits ended ends was waited
  pub refused : Option (List HostCall)
  pub refuses : Refuses (WaitsFor next None) waited refused error
  pub killed : AreKilled later refused now

-- ---- the trial

-- how a trial ends that the host cut short
abbrev pub end_by : HostError → TrialEnd
end_by host.Failed = end.HostFault
end_by host.Memory = end.NoMemory

-- at these ends each child was waited for, and the host said how it ended
abbrev pub has_waited : TrialEnd → Bool
has_waited end.Done = true
has_waited end.TrialFailed = true
has_waited end.WriteFault = true
has_waited end.NoMemory = false
has_waited end.HostFault = false

-- what is written where each child was waited for, and the end of the trial
abbrev pub WritesEnds : ToldEnds → (was now : Option (List ℕ)) → TrialEnd → Type 0
WritesEnds ends was now end.Done = Appended was now (text_of ends) × (have_passed ends ≡ true)
WritesEnds ends was now end.TrialFailed = Appended was now (text_of ends) × (have_passed ends ≡ false)
WritesEnds ends was now end.WriteFault = AppendedPrefix was now (text_of ends)
WritesEnds ends was now end.NoMemory = Appended was now []
WritesEnds ends was now end.HostFault = ⊥

module _ (t : ToldTrial) (was now : Option (List HostCall)) (written written_now : Option (List ℕ)) (e : TrialEnd) where
  -- not every node was started
  pub record CutAtStart : Type 0 where
    pub error : HostError
    pub is_end : e ≡ end_by error
    pub unstarted : Unstarted t was now error
    pub nothing : Appended written written_now []

  -- every node was started, and not every one waited for
  pub record CutAtWait : Type 0 where
    pub error : HostError
    pub is_end : e ≡ end_by error
    pub children : List ℕ
    pub begun : Option (List HostCall)
    pub starts : Starts t nodes children was begun
    pub unwaited : Unwaited children begun now error
    pub nothing : Appended written written_now []

  -- every node was started, and then waited for
  pub record IsWhole : Type 0 where
    pub children : List ℕ
    pub begun : Option (List HostCall)
    pub starts : Starts t nodes children was begun
    pub ends : ToldEnds
    pub waits : Waits children (ends.a ∷ ends.b ∷ ends.c ∷ []) begun now
    pub tells : WritesEnds ends written written_now e

  -- The whole trial: of the calls told before it and after it, of what was written before it and after it, and of its end.
  abbrev pub Tried : Type 0
  Tried = CutAtStart ⊎ (CutAtWait ⊎ IsWhole)

-- ---- for private clauses

-- the children were started, or the start was cut short
abbrev pub Begins : {C : Type 0} → ToldTrial → (was now : Option (List HostCall)) → Result C HostError → (C → List ℕ) → Type 0
Begins t was now (Ok children) numbers = Starts t nodes (numbers children) was now
Begins t was now (Err error) numbers = Unstarted t was now error

-- the children were waited for, or that was cut short
abbrev pub Awaits : {E : Type 0} → (E → ToldEnds) → (children : List ℕ) → (was now : Option (List HostCall)) → Result E HostError → Type 0
Awaits told children was now (Ok ends) = Waits children ((told ends).a ∷ (told ends).b ∷ (told ends).c ∷ []) was now
Awaits told children was now (Err error) = Unwaited children was now error
