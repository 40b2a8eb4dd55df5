-- What a run of a node leaves on the disk of its journal.
use Rattle.std.proofs.Common.{ℕ, Option, Some, List, [], ◌∷◌}
use Rattle.cluster_state.specs.declared.state.Kept.{Kept}
use Rattle.policy_model.specs.declared.settings.Settings.{Settings}
use Rattle.policy_model.specs.declared.events.Event.TheVariants.{Start}
use Rattle.policy_model.specs.Entries.{Life, Lived, Entry}
use Rattle.zen_link.specs.declared.link.Traffic.{Traffic}
use Rattle.node_loop.specs.declared.node.End.{End}
use Rattle.node_loop.specs.Connections.{course_from, last_made}
use Rattle.node_loop.specs.Crashes.{Along, Holds}
use Rattle.node_loop.specs.Happenings.{Comes, Makes}
use Rattle.node_loop.specs.Intakes.{NoIntakes}
use Rattle.node_loop.specs.Reports.{Output}
use Rattle.node_loop.specs.Turns.{IsRestOf, ServesOn, Serves, Unopened, Served}
use Rattle.node_loop.proofs.Telling.{mapped_left}

module _ {X : Type 0} (output : X → Output) (text : Life → Entry → List ℕ) (s : Settings) (life : Life) (end : End) (o1 : Option (List ℕ)) (w0 w1 : Option (List (Traffic X)))
    (stands stands2 : Life → Type 0) (a0 a1 turns : ℕ) (also : (l : Life) → stands l → stands2 l) where
  on_mapped : (o0 : Option (List ℕ)) → ServesOn output text s life end o0 o1 w0 w1 stands a0 a1 turns → ServesOn output text s life end o0 o1 w0 w1 stands2 a0 a1 turns
  on_mapped o0 on =
      let same = mapped_left output text s life (Makes (Comes Start) ∷ course_from NoIntakes on.taken) (Some end) o0 o1 w0 w1 stands stands2 (λ left. IsRestOf left (last_made (Comes Start ∷ []) NoIntakes on.taken)) also on.tells on.last in
      record {
        taken = on.taken;
        tells = same.0;
        last = same.1;
        asked = on.asked;
        at_most = on.at_most;
        every = on.every;
        stop = on.stop;
      }

  -- what a run comes to says as much of another fact on its lives
  pub serves_mapped : (o0 : Option (List ℕ)) (opening : List ℕ)
      → Serves output text s life end o0 o1 w0 w1 stands a0 a1 turns opening → Serves output text s life end o0 o1 w0 w1 stands2 a0 a1 turns opening
  serves_mapped o0 opening (Unopened unsaid cut same unasked still) = Unopened unsaid cut same unasked (also life still)
  serves_mapped o0 opening (Served mid written on) = Served mid written (on_mapped mid on)

-- what is told by a part of the node
module _ {C D : Type 0} (stands_for : C → Settings → Life → Type 0) (stands_on : D → Settings → Life → Type 0) (told : Type 0)
    (moment : D → ℕ) (left_since : D → ℕ → Option Kept → Type 0) (faults : D → ℕ) (part : C → D)
    (also : (now : C) (s : Settings) (life : Life) → stands_for now s life → stands_on (part now) s life) where
  along_of : (s : Settings) (old now : C) (life : Life) (es : List Entry) → Along stands_for told (λ c. moment (part c)) (λ c. left_since (part c)) s old now life es
      → Along stands_on told moment left_since s (part old) (part now) life es
  along_of s old now life [] still = λ t. let only = still t in record { later = only.later; since = only.since }
  along_of s old now life (e ∷ es) along = (
    part along.0,
    record { stands = also along.0 s (Lived life e) along.1.stands; any_moment = λ t. let only = along.1.any_moment t in record { later = only.later; since = only.since } },
    along_of s along.0 now (Lived life e) es along.2,
  )

  pub holds_of : (old now : C) (s : Settings) (life new : Life) → Holds stands_for told (λ c. moment (part c)) (λ c. left_since (part c)) (λ c. faults (part c)) old now s life new
      → Holds stands_on told moment left_since faults (part old) (part now) s life new
  holds_of old now s life new h = record {
    stands = also now s new h.stands;
    entries = h.entries;
    reached = h.reached;
    along = along_of s old now life h.entries h.along;
    later = h.later;
    struck = h.struck;
    uncrashed = h.uncrashed;
  }
