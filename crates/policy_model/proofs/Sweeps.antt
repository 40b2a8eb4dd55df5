-- What lists of frames and of replies make of a view, and what they show.
use Rattle.std.proofs.Common.{◌≡◌, List, [], ◌∷◌, ◌++◌, map, refl, ap, sym, ◌∙◌}
use Rattle.std.proofs.lemmas.List.{append_assoc}
use Rattle.std.specs.List.{flat_map}
use Rattle.voting_config.specs.Ids.{Id}
use Rattle.wire_frames.specs.declared.frame.Frame.{Frame}
use Rattle.wire_frames.specs.declared.frame.WireMessage.{WireMessage}
use Rattle.master_tasks.specs.declared.waiting.Outgoing.{Outgoing}
use Rattle.policy_model.specs.declared.settings.Settings.{Settings}
use Rattle.policy_model.specs.Events.{Item}
use Rattle.policy_model.specs.declared.events.Deed.{Deed}
use Rattle.policy_model.specs.Entries.{deeds_in, deeds_of, frames_in, replies_in}
use Rattle.policy_model.specs.Views.{View}
use Rattle.policy_model.specs.Moves.{moved, moved_all}
use Rattle.policy_model.specs.Doing.{send_all, reply_all}

pub moved_all-append : (s : Settings) (v : View) (xs ys : List Item) → moved_all s v (xs ++ ys) ≡ moved_all s (moved_all s v xs) ys
moved_all-append s v [] ys = refl
moved_all-append s v (x ∷ xs) ys = moved_all-append s (moved s v x) xs ys

pub moved_all-replies : (s : Settings) (v : View) (answers : List Outgoing) → moved_all s v (reply_all s answers) ≡ v
moved_all-replies s v [] = refl
moved_all-replies s v (x ∷ xs) = moved_all-replies s v xs

pub moved_all-sends : (s : Settings) (v : View) (ids : List Id) (m : WireMessage) → moved_all s v (send_all s ids m) ≡ v
moved_all-sends s v [] m = refl
moved_all-sends s v (x ∷ xs) m = moved_all-sends s v xs m

pub deeds-append : (xs ys : List Item) → deeds_of (xs ++ ys) ≡ deeds_of xs ++ deeds_of ys
deeds-append [] ys = refl
deeds-append (x ∷ xs) ys = ap (λ (l : List Deed). deeds_in x ++ l) (deeds-append xs ys) ∙ sym (append_assoc (deeds_in x) (deeds_of xs) (deeds_of ys))

pub frames-append : (xs ys : List Item) → flat_map frames_in (xs ++ ys) ≡ flat_map frames_in xs ++ flat_map frames_in ys
frames-append [] ys = refl
frames-append (x ∷ xs) ys = ap (λ (l : List Frame). frames_in x ++ l) (frames-append xs ys) ∙ sym (append_assoc (frames_in x) (flat_map frames_in xs) (flat_map frames_in ys))

pub replies-append : (xs ys : List Item) → flat_map replies_in (xs ++ ys) ≡ flat_map replies_in xs ++ flat_map replies_in ys
replies-append [] ys = refl
replies-append (x ∷ xs) ys = ap (λ (l : List Outgoing). replies_in x ++ l) (replies-append xs ys) ∙ sym (append_assoc (replies_in x) (flat_map replies_in xs) (flat_map replies_in ys))

pub frames-replies : (s : Settings) (answers : List Outgoing) → flat_map frames_in (reply_all s answers) ≡ []
frames-replies s [] = refl
frames-replies s (x ∷ xs) = frames-replies s xs

pub replies-replies : (s : Settings) (answers : List Outgoing) → flat_map replies_in (reply_all s answers) ≡ answers
replies-replies s [] = refl
replies-replies s (x ∷ xs) = ap (λ (l : List Outgoing). x ∷ l) (replies-replies s xs)

pub frames-sends : (s : Settings) (ids : List Id) (m : WireMessage) → flat_map frames_in (send_all s ids m) ≡ map (λ to. record { from = s.me; to = to; message = m }) ids
frames-sends s [] m = refl
frames-sends s (x ∷ xs) m = ap (λ (l : List Frame). record { from = s.me; to = x; message = m } ∷ l) (frames-sends s xs m)
