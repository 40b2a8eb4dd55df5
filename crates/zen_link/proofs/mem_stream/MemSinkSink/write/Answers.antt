use Rattle.std.proofs.Common.{◌≡◌, ◌∙◌, refl, sym, ap, inl, List, ℕ, true}
use Rattle.zen_disk.specs.Numbered.{is_listed}
use Rattle.zen_link.proofs.mem_stream.MemSinkSink.write.Goals as goal

pub returns-then-contains-clause-moves : goal.returns-then-contains-clause-moves
returns-then-contains-clause-moves c =
    let number = c.saturating_add-self.result in
    let listed : is_listed c.args.self.now.fails.items number ≡ true =
    sym (ap (λ (l : List ℕ). is_listed l number) c.deref.ensures.value) ∙ sym c.contains.ensures.value ∙ c.if-contains.true in
    record {
      number = c.saturating_add-self.ensures;
      fails = refl;
      most = refl;
      listed = λ yes. refl;
      count = tt;
      refused = λ err. inl listed;
      faults = λ ok. absurd cc;
    }
