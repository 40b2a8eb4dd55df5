-- Where a trial was cut short, from the calls that were made.
use Rattle.std.proofs.Common.{◌≡◌, ℕ, Bool, true, false, Option, Some, None, List, [], ◌∷◌, Err, refl, ◌∙◌, ap, subst}
use Rattle.zen_host.specs.HostCalls.{HostCall, Spawns, WaitsFor, ToldEnd, Notes, NotesWait, and_call, IsNumber}
use Rattle.zen_host.specs.declared.host.HostError.{HostError}
use Rattle.zen_host.specs.declared.host.HostError.TheVariants as host
use Rattle.node_trial.specs.declared.node.TrialNode.{TrialNode}
use Rattle.node_trial.specs.declared.node.TrialNode.TheVariants as node
use Rattle.node_trial.specs.Nodes.{ToldTrial, words_of}
use Rattle.node_trial.specs.Trials.{Starts, Refuses, IsKilled, AreKilled, Unstarted, Unwaited}

-- ---- single calls; what a call would have given makes no difference where it is refused

refuses : (call : Bool → HostCall) (was now : Option (List HostCall)) (e : HostError) → Notes {T = Unit {0}} was now call (Err e) → Refuses (call true) was now e
refuses call was now host.Failed h = h
refuses call was now host.Memory h = h

refuses_wait : (child : ℕ) (was now : Option (List HostCall)) (e : HostError) → NotesWait was now child (Err e) → Refuses (WaitsFor child None) was now e
refuses_wait child was now host.Failed h = h
refuses_wait child was now host.Memory h = h

one_killed : (child : ℕ) (was now : Option (List HostCall)) → IsKilled child was now → AreKilled (child ∷ []) was now
one_killed child was now h = (now, h, refl)

-- ---- starting

module _ (t : ToldTrial) (was : Option (List HostCall)) where
  abbrev pub called : Option (List HostCall) → TrialNode → Option (List HostCall)
  called calls n = and_call calls (Spawns t.program (words_of t n) false)

  numbered : (calls calls_now : Option (List HostCall)) (n : TrialNode) (child : ℕ) → calls_now ≡ called calls n → IsNumber calls_now child → IsNumber (called calls n) child
  numbered calls calls_now n child is number = subst (λ (c : Option (List HostCall)). IsNumber c child) is number

  one_started : (one : Option (List HostCall)) (a : ℕ) → one ≡ called was node.A → IsNumber one a → Starts t (node.A ∷ []) (a ∷ []) was one
  one_started one a is number = (numbered was one node.A a is number, is)

  two_started : (one two : Option (List HostCall)) (a b : ℕ) → one ≡ called was node.A → IsNumber one a → two ≡ called one node.B → IsNumber two b → Starts t (node.A ∷ node.B ∷ []) (a ∷ b ∷ []) was two
  two_started one two a b is number is_next next =
      let both : two ≡ called (called was node.A) node.B = is_next ∙ ap (λ (c : Option (List HostCall)). called c node.B) is in
      (numbered was one node.A a is number, (numbered (called was node.A) two node.B b both next, both))

  pub cut_at_a : (now : Option (List HostCall)) (e : HostError) → Notes {T = Unit {0}} was now (Spawns t.program (words_of t node.A)) (Err e) → Unstarted t was now e
  cut_at_a now e h = record {
    started = [];
    next = node.A;
    later = node.B ∷ node.C ∷ [];
    are_nodes = refl;
    children = [];
    begun = was;
    starts = refl;
    refused = now;
    refuses = refuses (Spawns t.program (words_of t node.A)) was now e h;
    killed = refl;
  }

  pub cut_at_b : (one two now : Option (List HostCall)) (a : ℕ) (e : HostError) → one ≡ called was node.A → IsNumber one a → Notes {T = Unit {0}} one two (Spawns t.program (words_of t node.B)) (Err e)
      → IsKilled a two now → Unstarted t was now e
  cut_at_b one two now a e is number h killed = record {
    started = node.A ∷ [];
    next = node.B;
    later = node.C ∷ [];
    are_nodes = refl;
    children = a ∷ [];
    begun = one;
    starts = one_started one a is number;
    refused = two;
    refuses = refuses (Spawns t.program (words_of t node.B)) one two e h;
    killed = one_killed a two now killed;
  }

  pub cut_at_c : (one two three now : Option (List HostCall)) (a b : ℕ) (e : HostError) → one ≡ called was node.A → IsNumber one a → two ≡ called one node.B → IsNumber two b
      → Notes {T = Unit {0}} two three (Spawns t.program (words_of t node.C)) (Err e) → AreKilled (a ∷ b ∷ []) three now → Unstarted t was now e
  cut_at_c one two three now a b e is number is_next next h killed = record {
    started = node.A ∷ node.B ∷ [];
    next = node.C;
    later = [];
    are_nodes = refl;
    children = a ∷ b ∷ [];
    begun = two;
    starts = two_started one two a b is number is_next next;
    refused = three;
    refuses = refuses (Spawns t.program (words_of t node.C)) two three e h;
    killed = killed;
  }

-- ---- waiting

module _ (was : Option (List HostCall)) (a b c : ℕ) where
  two_waited : (one two : Option (List HostCall)) (x y : ToldEnd) → one ≡ and_call was (WaitsFor a (Some x)) → two ≡ and_call one (WaitsFor b (Some y)) → two ≡ and_call (and_call was (WaitsFor a (Some x))) (WaitsFor b (Some y))
  two_waited one two x y is is_next = is_next ∙ ap (λ (calls : Option (List HostCall)). and_call calls (WaitsFor b (Some y))) is

  pub cut_at_first : (one now : Option (List HostCall)) (e : HostError) → NotesWait was one a (Err e) → AreKilled (b ∷ c ∷ []) one now → Unwaited (a ∷ b ∷ c ∷ []) was now e
  cut_at_first one now e h killed = record {
    ended = [];
    next = a;
    later = b ∷ c ∷ [];
    are_children = refl;
    ends = [];
    waited = was;
    waits = refl;
    refused = one;
    refuses = refuses_wait a was one e h;
    killed = killed;
  }

  pub cut_at_second : (one two now : Option (List HostCall)) (x : ToldEnd) (e : HostError) → one ≡ and_call was (WaitsFor a (Some x)) → NotesWait one two b (Err e) → IsKilled c two now → Unwaited (a ∷ b ∷ c ∷ []) was now e
  cut_at_second one two now x e is h killed = record {
    ended = a ∷ [];
    next = b;
    later = c ∷ [];
    are_children = refl;
    ends = x ∷ [];
    waited = one;
    waits = is;
    refused = two;
    refuses = refuses_wait b one two e h;
    killed = one_killed c two now killed;
  }

  pub cut_at_third : (one two now : Option (List HostCall)) (x y : ToldEnd) (e : HostError) → one ≡ and_call was (WaitsFor a (Some x)) → two ≡ and_call one (WaitsFor b (Some y)) → NotesWait two now c (Err e)
      → Unwaited (a ∷ b ∷ c ∷ []) was now e
  cut_at_third one two now x y e is is_next h = record {
    ended = a ∷ b ∷ [];
    next = c;
    later = [];
    are_children = refl;
    ends = x ∷ y ∷ [];
    waited = two;
    waits = two_waited one two x y is is_next;
    refused = now;
    refuses = refuses_wait c two now e h;
    killed = refl;
  }
