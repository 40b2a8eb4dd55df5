-- What is reported of one event, by how far it came.
use Rattle.std.proofs.Common.{◌≡◌, ℕ, false, Option, None, Some, List, [], ◌∷◌, refl, ap, subst}
use Rattle.zen_link.specs.Streams.{Appended, AppendedPart}
use Rattle.policy_model.specs.declared.settings.Settings.{Settings}
use Rattle.policy_model.specs.declared.events.Event.{Event}
use Rattle.policy_model.specs.Entries.{Life, Lived}
use Rattle.zen_link.specs.declared.link.Traffic.{Traffic}
use Rattle.zen_link.specs.declared.link.Traffic.TheVariants.{Gave}
use Rattle.node_loop.specs.declared.node.End.{End}
use Rattle.node_loop.specs.declared.node.End.TheVariants as ends
use Rattle.zen_link.specs.Told.{Adds}
use Rattle.node_loop.specs.Happenings.{Happening, Comes, Makes}
use Rattle.node_loop.specs.Reports.{Output, IsIdle, StandsFor, moves_in}
use Rattle.policy_model.specs.Entries.{Entry, Did, Bad, Gone, NoMemory, Unread as UnreadEntry}
use Rattle.node_loop.specs.EventNodes.{Does, IsHalted}
use Rattle.policy_model.specs.Follows.{EntryFollows}
use Rattle.node_loop.specs.WritesAndSends.{WritesAndSends, CutShort, IsUp, says_all, Grows}
use Rattle.node_loop.proofs.Appending.{cut_none, cut_part}
use Rattle.node_loop.proofs.Telling.{says, says_part, grows_added, grows_none}

module _ {C S : Type 0} (stands_for : C → Settings → Life → Type 0) (output : S → Output) (text : Life → Entry → List ℕ) (s : Settings) (life : Life) (event : Event) (now : C) (sealed : S) where
  pub done_said : (lines : List ℕ) (o0 o1 : Option (List ℕ)) (w0 w1 : Option (List (Traffic S))) (a b : ℕ) → Does stands_for text s life event now output (record { sealed = sealed; lines = Some lines })
      → Appended o0 o1 lines → Adds w0 w1 (Gave sealed) a b
      → WritesAndSends output text s life (Makes (Comes event) ∷ []) None o0 o1 w0 w1 (stands_for now s)
  done_said lines o0 o1 w0 w1 a b does written adds =
      let sends : Gave (output sealed) ∷ [] ≡ moves_in (Did event does.items) = rw does.whole (ap (λ x. Gave x ∷ []) does.sends) in
      says output text s life (Comes event) (Did event does.items) None o0 o1 w0 w1 (stands_for now s)
      refl does.next does.stands (λ on. record { started = refl; unstruck = does.whole })
      (subst (λ l. Appended o0 o1 l) does.said written)
      (subst (λ m. Grows output w0 w1 m) sends (grows_added output w0 w1 (Gave sealed) a b adds)) (λ is. absurd cc) (λ is. absurd cc)

  pub done_part : (lines : List ℕ) (o0 o1 : Option (List ℕ)) (w : Option (List (Traffic S))) → Does stands_for text s life event now output (record { sealed = sealed; lines = Some lines })
      → AppendedPart o0 o1 lines
      → WritesAndSends output text s life (Makes (Comes event) ∷ []) (Some ends.Write) o0 o1 w w (stands_for now s)
  done_part lines o0 o1 w does prefix =
      says_part output text s life (Comes event) (Did event does.items) ends.Write o0 o1 w (stands_for now s)
      refl refl does.next does.stands (cut_part o0 o1 (text life (Did event does.items)) (subst (λ l. AppendedPart o0 o1 l) does.said prefix))

  pub done_silent : (lines : Option (List ℕ)) (o : Option (List ℕ)) (w : Option (List (Traffic S))) → Does stands_for text s life event now output (record { sealed = sealed; lines = lines })
      → WritesAndSends output text s life (Makes (Comes event) ∷ []) (Some ends.Memory) o o w w (stands_for now s)
  done_silent lines o w does =
      says_part output text s life (Comes event) (Did event does.items) ends.Memory o o w (stands_for now s)
      refl refl does.next does.stands (cut_none o (text life (Did event does.items)))

module _ {C S : Type 0} (stands_for : C → Settings → Life → Type 0) (output : S → Output) (text : Life → Entry → List ℕ) (s : Settings) (life : Life) (event : Event) (now : C) (told : Option (List (Traffic S))) where
  pub struck_said : (lines : List ℕ) (o0 o1 : Option (List ℕ)) → IsHalted stands_for text s life event now (Some lines)
      → Appended o0 o1 lines
      → WritesAndSends output text s life (Makes (Comes event) ∷ []) (Some ends.Disk) o0 o1 told told (stands_for now s)
  struck_said lines o0 o1 does written =
      says output text s life (Comes event) (Did event does.items) (Some ends.Disk) o0 o1 told told (stands_for now s)
      refl does.next does.stands (λ on. absurd cc)
      (subst (λ l. Appended o0 o1 l) does.said written)
      (rw does.fault (grows_none output told told refl)) (λ is. does.fault) (λ is. absurd cc)

  pub struck_part : (lines : List ℕ) (o0 o1 : Option (List ℕ)) → IsHalted stands_for text s life event now (Some lines)
      → AppendedPart o0 o1 lines
      → WritesAndSends output text s life (Makes (Comes event) ∷ []) (Some ends.Write) o0 o1 told told (stands_for now s)
  struck_part lines o0 o1 does prefix =
      says_part output text s life (Comes event) (Did event does.items) ends.Write o0 o1 told (stands_for now s)
      refl refl does.next does.stands (cut_part o0 o1 (text life (Did event does.items)) (subst (λ l. AppendedPart o0 o1 l) does.said prefix))

  pub struck_silent : (lines : Option (List ℕ)) (o : Option (List ℕ)) → IsHalted stands_for text s life event now lines
      → WritesAndSends output text s life (Makes (Comes event) ∷ []) (Some ends.Memory) o o told told (stands_for now s)
  struck_silent lines o does =
      says_part output text s life (Comes event) (Did event does.items) ends.Memory o o told (stands_for now s)
      refl refl does.next does.stands (cut_none o (text life (Did event does.items)))

-- a report of no event
idle_up : (life : Life) (r : Entry) → IsIdle r → IsUp life → IsUp (Lived life r)
idle_up life (Did event items) i up = absurd i
idle_up life (Bad conn fault) i up = record { started = up.started; unstruck = up.unstruck }
idle_up life (Gone conn) i up = record { started = up.started; unstruck = up.unstruck }
idle_up life NoMemory i up = record { started = up.started; unstruck = up.unstruck }
idle_up life (UnreadEntry conn) i up = record { started = up.started; unstruck = up.unstruck }

idle_next : (s : Settings) (life : Life) (r : Entry) → IsIdle r → IsUp life → EntryFollows s life r
idle_next s life (Did event items) i up = absurd i
idle_next s life (Bad conn fault) i up = up.unstruck
idle_next s life (Gone conn) i up = up.unstruck
idle_next s life NoMemory i up = up.unstruck
idle_next s life (UnreadEntry conn) i up = up.unstruck

module _ {C S : Type 0} (stands_for : C → Settings → Life → Type 0) (output : S → Output) (text : Life → Entry → List ℕ) (s : Settings) (life : Life) (now : C)
    (idle : (node : C) (s : Settings) (life : Life) (report : Entry) → IsIdle report → stands_for node s life → stands_for node s (Lived life report)) (h : Happening) (r : Entry) (is : IsIdle r) (up : IsUp life) (stands : stands_for now s life) (st : StandsFor r h) where
  -- whose line is written, and whose connection is dropped where it is one
  pub idle_said : (o0 o1 : Option (List ℕ)) (w0 w1 : Option (List (Traffic S))) → Appended o0 o1 (text life r) → Grows output w0 w1 (moves_in r)
      → WritesAndSends output text s life (Makes h ∷ []) None o0 o1 w0 w1 (stands_for now s)
  idle_said o0 o1 w0 w1 written grows =
      says output text s life h r None o0 o1 w0 w1 (stands_for now s) st (idle_next s life r is up) (idle now s life r is stands) (λ on. idle_up life r is up) written grows (λ is. absurd cc) (λ is. absurd cc)

  pub idle_part : (end : End) (o0 o1 : Option (List ℕ)) (w : Option (List (Traffic S))) → says_all (Some end) ≡ false → CutShort end o0 o1 (text life r)
      → WritesAndSends output text s life (Makes h ∷ []) (Some end) o0 o1 w w (stands_for now s)
  idle_part end o0 o1 w ends cut = says_part output text s life h r end o0 o1 w (stands_for now s) ends st (idle_next s life r is up) (idle now s life r is stands) cut
