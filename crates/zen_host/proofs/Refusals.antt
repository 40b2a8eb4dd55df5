-- A refused opening.
use Rattle.std.proofs.Common.{◌≡◌, ℕ, true, Option, List, Err, refl, inl}
use Rattle.zen_disk.specs.Numbered.{next_number, is_listed}
use Rattle.zen_host.specs.MemHost.{MemOpens}
use Rattle.zen_host.specs.declared.host.HostError.{HostError}
use Rattle.zen_host.specs.declared.host.HostError.TheVariants.{Failed, Memory}

-- of a call whose number is listed
pub refused_by_list : {D : Type 0} (fails : List ℕ) (number number_now : ℕ) (disk : Option D) (faults faults_now : ℕ) (e : HostError) → number_now ≡ next_number number → is_listed fails number_now ≡ true → (e ≡ Memory → faults_now ≡ faults)
    → MemOpens fails fails number number_now disk disk faults faults_now (Err e)
refused_by_list fails number number_now disk faults faults_now Failed next listed same =
    record { next = next; same_list = refl; listed = λ _. refl; given = tt; refused = λ _. inl listed; kept = λ _. refl; no_fault = λ h. absurd (h refl) }
refused_by_list fails number number_now disk faults faults_now Memory next listed same =
    record { next = next; same_list = refl; listed = λ _. refl; given = tt; refused = λ _. inl listed; kept = λ _. refl; no_fault = λ _. same refl }
