-- The moments of one node: the beginnings of its acts.
use Rattle.std.proofs.Common.{◌≡◌, Bool, false, Some, refl, sym, subst, ◌⊎◌, inl, inr}
use Rattle.world_model.specs.Acts.{Act, Outcome, NodeHistory, Message, NoActs, Then, Taken, Answered, is_first}

-- p is the beginning of g
abbrev pub Begins : NodeHistory → NodeHistory → Type 0
Begins p NoActs = p ≡ NoActs
Begins p (Then g act outcome) = (p ≡ Then g act outcome) ⊎ Begins p g

pub begins_self : (g : NodeHistory) → Begins g g
begins_self NoActs = refl
begins_self (Then g act o) = inl refl

pub begins_trans : (p q g : NodeHistory) → Begins p q → Begins q g → Begins p g
begins_trans p q NoActs h k = subst (λ (x : NodeHistory). Begins p x) k h
begins_trans p q (Then g act o) h (inl e) = subst (λ (x : NodeHistory). Begins p x) e h
begins_trans p q (Then g act o) h (inr k) = inr (begins_trans p q g h k)

-- before an act, also without it
pub begins_before : (p g : NodeHistory) (act : Act) (o : Outcome) → Begins (Then p act o) g → Begins p g
begins_before p g act o h = begins_trans p (Then p act o) g (inr (begins_self p)) h

-- the act and its outcome by other names
pub begins_as : (p g : NodeHistory) (a b : Act) (o u : Outcome) → a ≡ b → o ≡ u → Begins (Then p a o) g → Begins (Then p b u) g
begins_as p g a b o u e d h = subst (λ (x : NodeHistory). Begins x g) (λ i. Then p (e i) (d i)) h

-- of two beginnings one begins the other
pub begins_order : (p q g : NodeHistory) → Begins p g → Begins q g → Begins p q ⊎ Begins q p
begins_order p q NoActs h k = inl (subst (λ (x : NodeHistory). Begins p x) (sym k) h)
begins_order p q (Then g act o) (inl e) k = inr (subst (λ (x : NodeHistory). Begins q x) (sym e) k)
begins_order p q (Then g act o) (inr h) (inl e) = inl (subst (λ (x : NodeHistory). Begins p x) (sym e) (inr h))
begins_order p q (Then g act o) (inr h) (inr k) = begins_order p q g h k

-- of two acts that were done, they are one, or one came before the other
pub acts_order : (p q g : NodeHistory) (a b : Act) (o u : Outcome) → Begins (Then p a o) g → Begins (Then q b u) g
    → (Then p a o ≡ Then q b u) ⊎ (Begins (Then p a o) q ⊎ Begins (Then q b u) p)
acts_order p q g a b o u h k = from (begins_order _ _ g h k)
  where
    from : (Begins (Then p a o) (Then q b u) ⊎ Begins (Then q b u) (Then p a o)) → (Then p a o ≡ Then q b u) ⊎ (Begins (Then p a o) q ⊎ Begins (Then q b u) p)
    from (inl (inl e)) = inl e
    from (inl (inr i)) = inr (inl i)
    from (inr (inl e)) = inl (sym e)
    from (inr (inr i)) = inr (inr i)

-- an act of g was done
pub done_is_not_first : (p g : NodeHistory) (a : Act) (o : Outcome) → Begins (Then p a o) g → is_first g ≡ false
done_is_not_first p NoActs a o h = cc
done_is_not_first p (Then g b u) a o h = refl

-- g sent the message
pub record IsSent (g : NodeHistory) (message : Message) : Type 0 where
  pub before : NodeHistory
  pub act : Act
  pub flag : Bool
  pub is_in : Begins (Then before act (Answered (Taken (Some message) flag))) g

pub sent_later : (p g : NodeHistory) (m : Message) → Begins p g → IsSent p m → IsSent g m
sent_later p g m h s = record { before = s.before; act = s.act; flag = s.flag; is_in = begins_trans _ p g s.is_in h }

-- the last act sent it, or one before
pub sent_cases : (g : NodeHistory) (act : Act) (o : Outcome) (m : Message) → IsSent (Then g act o) m → ((flag : Bool) × (o ≡ Answered (Taken (Some m) flag))) ⊎ IsSent g m
sent_cases g act o m s = from s.is_in
  where
    from : Begins (Then s.before s.act (Answered (Taken (Some m) s.flag))) (Then g act o) → ((flag : Bool) × (o ≡ Answered (Taken (Some m) flag))) ⊎ IsSent g m
    from (inl e) = inl (s.flag, (cc))
    from (inr h) = inr (record { before = s.before; act = s.act; flag = s.flag; is_in = h })
