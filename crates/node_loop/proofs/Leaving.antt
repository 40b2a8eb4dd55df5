-- What a crash leaves in one run of reports after another.
use Rattle.std.proofs.Common.{◌≡◌, ◌≤◌, refl, sym, ap, subst, ◌∙◌, ℕ, Bool, true, false, Option, List, [], ◌∷◌, ◌++◌, arith}
use Rattle.zen_disk.specs.Faults.{Rose}
use Rattle.zen_disk.specs.Moments.{LeavesOnly, joins, quiet}
use Rattle.cluster_state.specs.declared.state.Kept.{Kept}
use Rattle.policy_model.specs.Entries.{Life, Lived, Entry, Did, Gone, Bad, NoMemory, Unread, log_of}
use Rattle.policy_model.specs.Events.{acts_of}
use Rattle.policy_model.specs.Follows.{is_struck}
use Rattle.zen_link.specs.declared.link.Traffic.{Traffic}
use Rattle.node_loop.specs.declared.connection.Connection.{Connection}
use Rattle.node_loop.specs.declared.node.End.{End}
use Rattle.node_loop.specs.Intakes.{Intakes}
use Rattle.node_loop.specs.Happenings.{Mark}
use Rattle.node_loop.specs.Connections.{course_from, last_made}
use Rattle.node_loop.specs.WritesAndSends.{WritesAndSends}
use Rattle.node_loop.specs.Turns.{IsRestOf, Turns}
use Rattle.node_loop.specs.Reports.{Output, IsIdle, lived}
use Rattle.node_loop.specs.declared.event_node.EventNode.{Ghosts}
use Rattle.node_loop.specs.Crashes.{IsLeftBy, Along, has_crashed}
use Rattle.node_loop.specs.Nodes.{HoldsBy}
use Rattle.policy_model.specs.declared.settings.Settings.{Settings}
use Rattle.node_loop.proofs.Telling.{lived_more, mapped, mapped_left}

module _ {C : Type 0} (stands_for : C → Settings → Life → Type 0) (told : Type 0) (moment : C → ℕ) (left_since : C → ℕ → Option Kept → Type 0) (s : Settings) where
  abbrev Goes : (old now : C) → Life → List Entry → Type 0
  Goes old now life es = Along stands_for told moment left_since s old now life es

  -- where nothing was done before them
  along_after : (old mid now : C) (life : Life) (es : List Entry) → (told → LeavesOnly moment left_since old mid (λ found. ⊥)) → Goes mid now life es → Goes old now life es
  along_after old mid now life [] still then = λ t. joins moment left_since old mid now (λ found. ⊥) (λ found. ⊥) (λ found. ⊥) (still t) (then t) (λ found none. none) (λ found none. none)
  along_after old mid now life (e ∷ es) still then = (
    then.0,
    record {
      stands = then.1.stands;
      any_moment = λ t. joins moment left_since old mid then.0 (λ found. ⊥) (IsLeftBy life e) (IsLeftBy life e) (still t) (then.1.any_moment t) (λ found none. absurd none) (λ found by. by);
    },
    then.2,
  )

  -- further entries
  along_more : (old mid now : C) (life : Life) (xs ys : List Entry) → Goes old mid life xs → Goes mid now (lived life xs) ys → Goes old now life (xs ++ ys)
  along_more old mid now life [] ys still then = along_after old mid now life ys still then
  along_more old mid now life (e ∷ xs) ys first then = (first.0, first.1, along_more first.0 mid now (Lived life e) xs ys first.2 then)

-- a fault is one of the first run or of the second
rose_more : (a b c : ℕ) (half new : Bool) → a ≤ b → b ≤ c → (half ≡ true → Rose a b) → (half ≡ false → new ≡ true → Rose b c) → new ≡ true → Rose a c
rose_more a b c true new ab bc first second is = λ fell. omega (arith, first refl (omega (arith, fell, bc)), bc)
rose_more a b c false new ab bc first second is = λ fell. second refl is (omega (arith, fell, ab))

-- ---- an entry of no event

idle_struck : (life : Life) (e : Entry) → IsIdle e → is_struck (Lived life e) ≡ is_struck life
idle_struck life (Did event items) is = absurd is
idle_struck life (Gone conn) is = refl
idle_struck life (Bad conn fault) is = refl
idle_struck life NoMemory is = refl
idle_struck life (Unread conn) is = refl

idle_log : (life : Life) (e : Entry) → IsIdle e → log_of (Lived life e) ≡ log_of life
idle_log life (Did event items) is = absurd is
idle_log life (Gone conn) is = refl
idle_log life (Bad conn fault) is = refl
idle_log life NoMemory is = refl
idle_log life (Unread conn) is = refl

module _ {C Y : Type 0} (k : Ghosts C Y) (s : Settings) where
  -- nothing was done
  pub holds_still : (now : C) (life : Life) → k.stands_for now s life → HoldsBy k now now s life life
  holds_still now life stands = record {
    stands = stands;
    entries = [];
    reached = refl;
    along = λ t. quiet k.moment k.left_since now (λ found. ⊥);
    later = omega arith;
    struck = λ up is. absurd (let never : true ≡ false = sym is ∙ up in cc);
    uncrashed = refl;
  }

  -- one after the other
  pub holds_more : (old mid now : C) (life half new : Life) → HoldsBy k old mid s life half → HoldsBy k mid now s half new
      → HoldsBy k old now s life new
  holds_more old mid now life half new first second = record {
    stands = second.stands;
    entries = first.entries ++ second.entries;
    reached = lived_more life first.entries second.entries ∙ ap (λ l. lived l second.entries) first.reached ∙ second.reached;
    along = along_more k.stands_for k.told k.moment k.left_since s old mid now life first.entries second.entries first.along
        (subst (λ l. Along k.stands_for k.told k.moment k.left_since s mid now l second.entries) (sym first.reached) second.along);
    later = omega (arith, first.later, second.later);
    struck = λ up is. rose_more (k.faults old) (k.faults mid) (k.faults now) (is_struck half) (is_struck new) first.later second.later (first.struck up) second.struck is;
    uncrashed = second.uncrashed ∙ first.uncrashed;
  }

  -- a report of no event
  pub holds_idle : ((node : C) (s : Settings) (life : Life) (report : Entry) → IsIdle report → k.stands_for node s life → k.stands_for node s (Lived life report))
      → (old : C) (first : Life) (node : C) (s2 : Settings) (life : Life) (report : Entry) → IsIdle report → HoldsBy k old node s2 first life
      → HoldsBy k old node s2 first (Lived life report)
  holds_idle idle old first node s2 life report is h = record {
    stands = idle node s2 life report is h.stands;
    entries = h.entries ++ report ∷ [];
    reached = lived_more first h.entries (report ∷ []) ∙ ap (λ l. Lived l report) h.reached;
    along = along_more k.stands_for k.told k.moment k.left_since s2 old node node first h.entries (report ∷ []) h.along
        (subst (λ l. Along k.stands_for k.told k.moment k.left_since s2 node node l (report ∷ [])) (sym h.reached)
        (node, record { stands = idle node s2 life report is h.stands; any_moment = λ t. quiet k.moment k.left_since node (IsLeftBy life report) }, λ t. quiet k.moment k.left_since node (λ found. ⊥)));
    later = h.later;
    struck = λ up now. h.struck up (sym (idle_struck life report is) ∙ now);
    uncrashed = ap (λ l. has_crashed (acts_of l)) (idle_log life report is) ∙ h.uncrashed;
  }

  module _ {X : Type 0} (output : X → Output) (text : Life → Entry → List ℕ) where
    pub carried : (old mid now : C) (life half : Life) (c : List Mark) (end : Option End) (o0 o1 : Option (List ℕ)) (w0 w1 : Option (List (Traffic X)))
        → HoldsBy k old mid s life half
        → WritesAndSends output text s half c end o0 o1 w0 w1 (HoldsBy k mid now s half)
        → WritesAndSends output text s half c end o0 o1 w0 w1 (HoldsBy k old now s life)
    carried old mid now life half c end o0 o1 w0 w1 first tells = mapped output text s half c end o0 o1 w0 w1 (HoldsBy k mid now s half) (HoldsBy k old now s life)
        (λ l holds. holds_more old mid now life half l first holds) tells

    pub carried_turns : (old mid now : C) (life half : Life) (taken : Intakes) (end : Option End) (o0 o1 : Option (List ℕ)) (w0 w1 : Option (List (Traffic X))) (readings : List Connection) (a0 a1 n : ℕ)
        → HoldsBy k old mid s life half
        → Turns output text s half taken end o0 o1 w0 w1 (HoldsBy k mid now s half) readings a0 a1 n
        → Turns output text s half taken end o0 o1 w0 w1 (HoldsBy k old now s life) readings a0 a1 n
    carried_turns old mid now life half taken end o0 o1 w0 w1 readings a0 a1 n first turns =
        let same = mapped_left output text s half (course_from taken turns.taken) end o0 o1 w0 w1 (HoldsBy k mid now s half) (HoldsBy k old now s life) (λ left. IsRestOf left (last_made [] taken turns.taken))
        (λ l holds. holds_more old mid now life half l first holds) turns.tells turns.last in
        record {
          taken = turns.taken;
          tells = same.0;
          last = same.1;
          reads = turns.reads;
          asked = turns.asked;
          at_most = turns.at_most;
          every = turns.every;
          stop = turns.stop;
        }
