-- Lists of frames and of replies change nothing but what is shown.
use Rattle.std.proofs.Common.{◌≡◌, ℕ, List, [], ◌∷◌, ◌++◌, map, refl, sym, ap, subst, ◌∙◌}
use Rattle.state_journal.specs.declared.keeper.Keeper.{Ghosts}
use Rattle.std.proofs.lemmas.List.{append_assoc, append-nil}
use Rattle.voting_config.specs.Ids.{Id}
use Rattle.coord_state.specs.declared.coord.CoordState.{CoordState}
use Rattle.master_tasks.specs.declared.waiting.Outgoing.{Outgoing}
use Rattle.wire_frames.specs.declared.frame.Frame.{Frame}
use Rattle.wire_frames.specs.declared.frame.WireMessage.{WireMessage}
use Rattle.policy_model.specs.declared.settings.Settings.{Settings}
use Rattle.policy_model.specs.declared.events.Mode.{Mode}
use Rattle.policy_model.specs.Events.{Note, Item, Replies, Notes, ChangesMode}
use Rattle.policy_model.specs.Views.{View}
use Rattle.policy_model.specs.Moves.{mode_changed, noted}
use Rattle.policy_model.specs.Doing.{send, send_all, reply_all}
use Rattle.policy_model.proofs.Sweeps.{moved_all-replies, moved_all-sends}
use Rattle.coordinator.specs.Plans.{frame_to}
use Rattle.coordinator.specs.Showing.{Shown, showing, showing_all}
use Rattle.coordinator.specs.CoreActs.{CoreDid}
use Rattle.coordinator.specs.Views.{view_in}
use Rattle.coordinator.specs.Does.{Makes}
use Rattle.coordinator.specs.declared.coordinator.Coordinator.{Coordinator}

showing-replies : (s : Settings) (o : Shown) (answers : List Outgoing) → record o { replies = o.replies ++ answers } ≡ showing_all o (reply_all s answers)
showing-replies s o [] = ap (λ (l : List Outgoing). record o { replies = l }) (append-nil o.replies)
showing-replies s o (a ∷ rest) = ap (λ (l : List Outgoing). record o { replies = l }) (sym (append_assoc o.replies (a ∷ []) rest)) ∙ showing-replies s (showing o (Replies a)) rest

showing-sends : (s : Settings) (o : Shown) (ids : List Id) (m : WireMessage) → record o { frames = o.frames ++ map (λ (to : Id). frame_to s.me m to) ids } ≡ showing_all o (send_all s ids m)
showing-sends s o [] m = ap (λ (l : List Frame). record o { frames = l }) (append-nil o.frames)
showing-sends s o (id ∷ ids) m =
    ap (λ (l : List Frame). record o { frames = l }) (sym (append_assoc o.frames (frame_to s.me m id ∷ []) (map (λ (to : Id). frame_to s.me m to) ids)))
    ∙ showing-sends s (showing o (send s id m)) ids m

module _ {K : Type 0} (k : Ghosts K) where
  abbrev view : Coordinator K → View
  view c = view_in k c

  abbrev Make : (old new : Coordinator K) (sent sent_now : Shown) → List Item → Type 0
  Make old new sent sent_now is = Makes k old new sent sent_now is

  did-replies : (s : Settings) (c : CoordState K) (answers : List Outgoing) → CoreDid k c c (reply_all s answers)
  did-replies s c [] = refl
  did-replies s c (a ∷ rest) = did-replies s c rest

  did-sends : (s : Settings) (c : CoordState K) (ids : List Id) (m : WireMessage) → CoreDid k c c (send_all s ids m)
  did-sends s c [] m = refl
  did-sends s c (id ∷ ids) m = did-sends s c ids m

  pub makes_nothing : (c : Coordinator K) (o : Shown) → Make c c o o []
  makes_nothing c o = record { goes = record { settings = refl; clock = refl; view = refl; core = refl }; shown = refl }

  pub makes_replies : (c : Coordinator K) (o : Shown) (answers : List Outgoing) → Make c c o (record o { replies = o.replies ++ answers }) (reply_all c.settings answers)
  makes_replies c o answers = record {
    goes = record { settings = refl; clock = refl; view = sym (moved_all-replies c.settings (view c) answers); core = did-replies c.settings c.core answers };
    shown = showing-replies c.settings o answers;
  }

  pub makes_sends : (c : Coordinator K) (o : Shown) (ids : List Id) (m : WireMessage) → Make c c o (record o { frames = o.frames ++ map (λ (to : Id). frame_to c.settings.me m to) ids }) (send_all c.settings ids m)
  makes_sends c o ids m = record {
    goes = record { settings = refl; clock = refl; view = sym (moved_all-sends c.settings (view c) ids m); core = did-sends c.settings c.core ids m };
    shown = showing-sends c.settings o ids m;
  }

  -- the same of ids in other words
  pub sends_shown : (c : Coordinator K) (o o1 : Shown) (ids each : List Id) (m : WireMessage) → each ≡ ids → o1 ≡ record o { frames = o.frames ++ map (λ (to : Id). frame_to c.settings.me m to) each }
      → Make c c o o1 (send_all c.settings ids m)
  sends_shown c o o1 ids each m same shown =
      subst (λ (x : Shown). Make c c o x (send_all c.settings ids m)) (ap (λ (l : List Id). record o { frames = o.frames ++ map (λ (to : Id). frame_to c.settings.me m to) l }) (sym same) ∙ sym shown) (makes_sends c o ids m)

  -- one frame
  pub makes_send : (c : Coordinator K) (o : Shown) (to : Id) (m : WireMessage) → Make c c o (showing o (send c.settings to m)) (send c.settings to m ∷ [])
  makes_send c o to m = record { goes = record { settings = refl; clock = refl; view = refl; core = refl }; shown = refl }

  -- the mode changed
  pub makes_mode : (old new : Coordinator K) (o o_now : Shown) (mode : Mode) (term : ℕ) → new.settings ≡ old.settings → new.moment ≡ old.moment → new.core ≡ old.core → view new ≡ mode_changed (view old) mode term → o_now ≡ showing o (ChangesMode mode term)
      → Make old new o o_now (ChangesMode mode term ∷ [])
  makes_mode old new o o_now mode term settings moment_is core is shown = record { goes = record { settings = settings; clock = moment_is; view = is; core = core }; shown = shown }

  -- a rule ran
  pub makes_note : (old new : Coordinator K) (o : Shown) (note : Note) → new.settings ≡ old.settings → new.moment ≡ old.moment → new.core ≡ old.core → view new ≡ noted old.settings (view old) note → Make old new o o (Notes note ∷ [])
  makes_note old new o note settings moment_is core is = record { goes = record { settings = settings; clock = moment_is; view = is; core = core }; shown = refl }
