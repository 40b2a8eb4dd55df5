-- Peers that are met, asked and told.
use Rattle.std.proofs.Common.{◌≡◌, ℕ, ◌≤◌, Bool, false, List, [], ◌∷◌, ◌++◌, length, Option, None, Some, refl, sym, ap, subst, ◌∙◌}
use Rattle.std.proofs.lemmas.List.{length-map}
use Rattle.std.specs.Prelude.{if◌then◌else◌}
use Rattle.state_journal.specs.declared.keeper.Keeper.{Ghosts}
use Rattle.voting_config.specs.Ids.{Id, most_ids}
use Rattle.election_clock.specs.Delays.{is_due}
use Rattle.peer_finder.specs.Peers.{PeerFinder, known_set}
use Rattle.wire_frames.specs.declared.frame.Frame.{Frame}
use Rattle.wire_frames.specs.declared.frame.WireMessage.TheVariants as message
use Rattle.policy_model.specs.Events.{Item, Notes, PeersAsked}
use Rattle.policy_model.specs.Parts.{peers_asked}
use Rattle.policy_model.specs.Views.{View}
use Rattle.policy_model.specs.Doing.{send_all}
use Rattle.policy_model.specs.Discovery.{asks_peers}
use Rattle.coordinator.specs.Asks.{asks_of, AreAsks, ArePlannedAsks}
use Rattle.coordinator.specs.Lists.{Roomed}
use Rattle.coordinator.specs.Plans.{frame_to}
use Rattle.coordinator.specs.Showing.{Shown}
use Rattle.coordinator.specs.Views.{view_in}
use Rattle.coordinator.specs.Does.{Makes}
use Rattle.coordinator.specs.declared.coordinator.Coordinator.{Coordinator}
use Rattle.coordinator.proofs.Composing.{makes_then}
use Rattle.coordinator.proofs.Becoming.{makes_as}
use Rattle.coordinator.proofs.Quiet.{makes_nothing, makes_note, sends_shown}

-- frames to few nodes are few
pub few_asks : (me : Id) (known : List Id) (asks : List Frame) → asks ≡ asks_of me known → length known ≤ most_ids → length asks ≤ most_ids
few_asks me known asks is few = subst (λ (n : ℕ). n ≤ most_ids) (sym (ap length is ∙ length-map known (λ (to : Id). frame_to me (message.PeersAsk known) to))) few

pub asks_are : (me : Id) (finder : PeerFinder) (moment : ℕ) (planned : Option (Roomed Frame)) (asks : Roomed Frame) → ArePlannedAsks me finder moment planned → planned ≡ Some asks → AreAsks me finder moment asks
asks_are me finder moment planned asks are is = subst (λ (a : Option (Roomed Frame)). ArePlannedAsks me finder moment a) is are

module _ {K : Type 0} (k : Ghosts K) where
  abbrev view : Coordinator K → View
  view c = view_in k c

  abbrev Make : (old new : Coordinator K) (sent sent_now : Shown) → List Item → Type 0
  Make old new sent sent_now is = Makes k old new sent sent_now is

  -- discovery is due: the frames that were made go out
  pub asks_made : (old : Coordinator K) (f : PeerFinder) (o o1 : Shown) (asks : Roomed Frame) → AreAsks old.settings.me old.finder old.moment asks → f ≡ peers_asked old.finder old.moment
      → o1 ≡ record o { frames = o.frames ++ asks.list } → Make old (record old { finder = f }) o o1 (asks_peers old.settings (view old))
  asks_made old f o o1 asks are asked shown =
      let s = old.settings in
      let v = view old in
      let known = known_set old.finder in
      let mid = record old { finder = f } in
      let noted : Make old mid o o (Notes PeersAsked ∷ []) = makes_note k old mid o PeersAsked refl refl refl (ap (λ (x : PeerFinder). record v { finder = x }) asked) in
      let sends : Make mid mid o o1 (send_all s known (message.PeersAsk known)) = sends_shown k mid o o1 known known (message.PeersAsk known) refl (shown ∙ ap (λ (l : List Frame). record o { frames = o.frames ++ l }) are.frames) in
      makes_as k old mid o o1 _ _ (makes_then k old mid mid o o o1 (Notes PeersAsked ∷ []) (send_all s known (message.PeersAsk known)) noted sends)
      (ap (λ (b : Bool). if b then Notes PeersAsked ∷ send_all s (known_set v.finder) (message.PeersAsk (known_set v.finder)) else []) (sym are.due))

  pub asks_nobody : (old : Coordinator K) (o : Shown) (asks : Option (Roomed Frame)) → ArePlannedAsks old.settings.me old.finder old.moment asks → asks ≡ None → Make old old o o (asks_peers old.settings (view old))
  asks_nobody old o asks planned none =
      let s = old.settings in
      let v = view old in
      let due : is_due old.finder.due old.moment ≡ false = subst (λ (a : Option (Roomed Frame)). ArePlannedAsks s.me old.finder old.moment a) none planned in
      makes_as k old old o o _ _ (makes_nothing k old o)
      (ap (λ (b : Bool). if b then Notes PeersAsked ∷ send_all s (known_set v.finder) (message.PeersAsk (known_set v.finder)) else []) (sym due))

  -- an act of the core leaves them as they were planned
  pub asks_kept : (old mid : Coordinator K) (asks : Option (Roomed Frame)) → mid ≡ record old { core = mid.core } → ArePlannedAsks old.settings.me old.finder old.moment asks → ArePlannedAsks mid.settings.me mid.finder mid.moment asks
  asks_kept old mid asks same planned = subst (λ (c : Coordinator K). ArePlannedAsks c.settings.me c.finder c.moment asks) (sym same) planned
