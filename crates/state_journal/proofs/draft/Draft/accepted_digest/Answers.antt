use Rattle.std.proofs.Common.{ℕ, List, ◌∷◌, ◌≡◌, ap, sym, ◌∙◌, subst}
use Rattle.std.specs.Prelude.{Option, IfSome}
use Rattle.std.proofs.lemmas.List.{append-nil}
use Rattle.sha2.specs.Sha256.{sha256}
use Rattle.state_journal.proofs.draft.Draft.accepted_digest.Goals as goal

pub returns-in-Some : goal.returns-in-Some
returns-in-Some c =
    let is : c.in-Some.digest ≡ sha256 (130 ∷ c.args.self.now.state) =
    subst (λ (known : Option (List ℕ)). IfSome known (λ (d : List ℕ). d ≡ sha256 (130 ∷ c.args.self.now.state))) c.in-Some.is c.requires in
    is ∙ ap (λ (l : List ℕ). sha256 (130 ∷ l)) (sym (append-nil c.args.self.now.state))
