-- What later states have of earlier ones.
use Rattle.std.proofs.Common.{◌≡◌, ℕ, Bool, true, false, ◌||◌, Option, None, Some, List, [], ◌∷◌, ◌++◌, refl, sym, ◌∙◌, ap, subst, inl, inr}
use Rattle.std.specs.List.{Contains, list_any}
use Rattle.std.proofs.lemmas.Bool.{both_ways, or_parts}
use Rattle.voting_config.specs.Ids.{Id}
use Rattle.voting_config.proofs.Sets.{same_is}
use Rattle.cluster_state.specs.declared.state.ClusterState.{ClusterState}
use Rattle.cluster_state.specs.declared.state.ClusterValue.{ClusterValue}
use Rattle.cluster_state.specs.declared.state.StateId.{StateId}
use Rattle.cluster_state.specs.declared.request.Ask.{Ask}
use Rattle.cluster_state.specs.declared.request.Ask.TheVariants as ask
use Rattle.master_tasks.specs.declared.waiting.Waiting.{Waiting}
use Rattle.world_model.specs.Histories.{History, IsLegal}
use Rattle.world_model.specs.Safety.{Published, published, IsCommitted, Descends, Itself as DescendsItself, Child, IsAtMost, IsIdAtMost}
use Rattle.agreement.specs.Agree.{DescendsFromCommitted}
use Rattle.agreement.proofs.Laws.{safe_of_legal}
use Rattle.policy_model.specs.declared.settings.Settings.{Settings}
use Rattle.policy_model.specs.Events.{Item, Log, NoItems, And, added}
use Rattle.policy_model.specs.Entries.{Life}
use Rattle.policy_model.specs.LookBacks.{node_of, tasks_of, master_of}
use Rattle.client_guarantees.specs.Asked.{MeetsEach, Meets, is_about, may_undo, setting_under, setting_after, setting_after_all}
use Rattle.client_guarantees.specs.Lasting.{IsPartOf, IsMadeAt, Itself, Over, Lasts, AckLasts}
use Rattle.client_guarantees.proofs.Folding.{last_setting_stands}

-- ---- requests one after another

after_both : (key : List ℕ) (o : Option (List ℕ)) (xs ys : List Waiting) → setting_after_all key o (xs ++ ys) ≡ setting_after_all key (setting_after_all key o xs) ys
after_both key o [] ys = refl
after_both key o (x ∷ xs) ys = after_both key (setting_after key o x.request.ask) xs ys

abbrev are_about : List ℕ → List Waiting → Bool
are_about key ws = list_any (λ w. is_about key w.request.ask) ws

-- a request of another matter leaves it
other_stays : (key : List ℕ) (o : Option (List ℕ)) (a : Ask) → is_about key a ≡ false → setting_after key o a ≡ o
other_stays key o (ask.Put k text) e = rw e refl
other_stays key o (ask.Remove k) e = rw e refl
other_stays key o (ask.Exclude ids) e = refl
other_stays key o (ask.Clear wait) e = refl
other_stays key o ask.State e = refl

others_stay : (key : List ℕ) (o : Option (List ℕ)) (ws : List Waiting) → are_about key ws ≡ false → setting_after_all key o ws ≡ o
others_stay key o [] e = refl
others_stay key o (w ∷ ws) e =
    let parts = or_parts (is_about key w.request.ask) (are_about key ws) e in
    others_stay key (setting_after key o w.request.ask) ws parts.1 ∙ other_stays key o w.request.ask parts.0

-- what was asked for is there, where it was not undone
said : (key : List ℕ) (o : Option (List ℕ)) (value : ClusterValue) (a : Ask) (later : List Waiting) → is_about key a ≡ true → are_about key later ≡ false
    → (list_any (λ u. may_undo u.request.ask a) later ≡ false → Meets value a) → setting_under key value.settings ≡ setting_after key o a
said key o value (ask.Put k text) later e n m =
    let same : k ≡ key = same_is k key e in
    rw e (subst (λ (x : List ℕ). setting_under x value.settings ≡ Some text) same (m (subst (λ (x : List ℕ). are_about x later ≡ false) (sym same) n)))
said key o value (ask.Remove k) later e n m =
    let same : k ≡ key = same_is k key e in
    rw e (subst (λ (x : List ℕ). setting_under x value.settings ≡ None) same (m (subst (λ (x : List ℕ). are_about x later ≡ false) (sym same) n)))
said key o value (ask.Exclude ids) later e n m = absurd (both_ways _ refl e)
said key o value (ask.Clear wait) later e n m = absurd (both_ways _ refl e)
said key o value ask.State later e n m = absurd (both_ways _ refl e)

-- the value has what the last of the requests says that sets or removes the key
stands : (key : List ℕ) (o : Option (List ℕ)) (value : ClusterValue) (w : Waiting) (later : List Waiting) → MeetsEach value (w ∷ later) → is_about key w.request.ask || are_about key later ≡ true
    → setting_under key value.settings ≡ setting_after_all key (setting_after key o w.request.ask) later
stands key o value w [] m e = own (is_about key w.request.ask) refl
  where
    own : (b : Bool) → is_about key w.request.ask ≡ b → setting_under key value.settings ≡ setting_after key o w.request.ask
    own true a = said key o value w.request.ask [] a refl m.0
    own false a = absurd (both_ways _ (rw a refl) e)
stands key o value w (u ∷ later) m e = from (are_about key (u ∷ later)) refl (stands key (setting_after key o w.request.ask) value u later m.1)
  where
    own : (b : Bool) → is_about key w.request.ask ≡ b → are_about key (u ∷ later) ≡ false → setting_under key value.settings ≡ setting_after_all key (setting_after key o w.request.ask) (u ∷ later)
    own true a n = said key o value w.request.ask (u ∷ later) a n m.0 ∙ sym (others_stay key (setting_after key o w.request.ask) (u ∷ later) n)
    own false a n = absurd (both_ways _ (rw a n) e)

    from : (b : Bool) → are_about key (u ∷ later) ≡ b → (are_about key (u ∷ later) ≡ true → setting_under key value.settings ≡ setting_after_all key (setting_after key (setting_after key o w.request.ask) u.request.ask) later)
        → setting_under key value.settings ≡ setting_after_all key (setting_after key o w.request.ask) (u ∷ later)
    from true n rest = rest n
    from false n rest = own (is_about key w.request.ask) refl n

-- ---- moments of a log

pub part-self : (l : Log) → IsPartOf l l
part-self NoItems = refl
part-self (And l i) = inl refl

pub part-added : (m l : Log) (is : List Item) → IsPartOf m l → IsPartOf m (added l is)
part-added m l [] p = p
part-added m l (i ∷ is) p = part-added m (And l i) is (inr p)

-- ---- states one over another

pub legal_descends : (initial : List Id) (h : History) → IsLegal initial h → DescendsFromCommitted h
legal_descends initial h legal = (safe_of_legal initial h legal).1

module _ (Seen : Settings → Log → Type 0) (h : History) where
  -- how a published state was made
  pub record WasMade (p : Published) : Type 0 where
    pub settings : Settings
    pub moment : Log
    pub requests : List Waiting
    pub seen : Seen settings moment
    pub made : IsMadeAt settings moment p requests

  made_of : (s : Settings) (moment : Log) (p : Published) (requests : List Waiting) → IsMadeAt s moment p requests → (key : List ℕ)
      → setting_under key p.state.value.settings ≡ setting_after_all key (setting_under key p.parent.value.settings) requests
  made_of s moment p requests m key =
      ap (λ (v : ClusterValue). setting_under key v.settings) m.value
      ∙ last_setting_stands (master_of s moment) (tasks_of s moment) key
      ∙ ap (λ (ws : List Waiting). setting_after_all key (setting_under key (node_of moment).accepted.value.settings) ws) (sym m.processed)
      ∙ ap (λ (x : ClusterState). setting_after_all key (setting_under key x.value.settings) requests) (sym m.parent)

  descent-lasts : (made : (p : Published) → Contains (published h) p → WasMade p) → (base state : ClusterState) → Descends h base state → Lasts Seen h base state
  descent-lasts made base state DescendsItself = record { between = []; made = Itself; settings = λ key. refl }
  descent-lasts made base state (Child p is_in d) =
      let rest : Lasts Seen h base p.parent = descent-lasts made base p.parent d in
      let now : WasMade p = made p is_in in
      record {
        between = rest.between ++ now.requests;
        made = Over p now.settings now.moment rest.between now.requests is_in now.seen now.made rest.made;
        settings = λ key.
            made_of now.settings now.moment p now.requests now.made key
            ∙ ap (λ (o : Option (List ℕ)). setting_after_all key o now.requests) (rest.settings key)
            ∙ sym (after_both key (setting_under key base.value.settings) rest.between now.requests);
      }

  pub settings_last : DescendsFromCommitted h → ((p : Published) → Contains (published h) p → WasMade p)
      → (c : Published) → IsCommitted h c → (p : Published) → Contains (published h) p → IsAtMost c.state p.state → Lasts Seen h c.state p.state
  settings_last descends made c is_committed p is_in at_most = descent-lasts made c.state p.state (descends p c is_in is_committed at_most)

  pub ack_lasts : DescendsFromCommitted h → ((p : Published) → Contains (published h) p → WasMade p) → (s : Settings) (life : Life) → AckLasts Seen h s life
  ack_lasts descends made s life conn number id ack p is_in at_most =
      let c = ack.as_published in
      let below : IsAtMost c.state p.state = subst (λ (x : StateId). IsIdAtMost x.term x.version p.state.term p.state.version) (sym ack.is_id) at_most in
      let lasts : Lasts Seen h c.state p.state = settings_last descends made c ack.is_committed p is_in below in
      record {
        between = lasts.between;
        made = lasts.made;
        settings = λ key about.
            lasts.settings key
            ∙ ap (λ (o : Option (List ℕ)). setting_after_all key o lasts.between) (stands key None c.state.value ack.request ack.later ack.meets (rw about refl))
            ∙ sym (after_both key None (ack.request ∷ ack.later) lasts.between);
      }
