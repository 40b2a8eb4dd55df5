-- The numbers in the words of a command are within their bounds.
use Rattle.std.proofs.Common.{◌≡◌, ℕ, ◌<◌, ◌≤◌, Bool, true, false, ◌&&◌, Option, None, Some, List, [], ◌∷◌, length, refl, subst, arith}
use Rattle.std.specs.Prelude.{if◌then◌else◌, nat_le, codes}
use Rattle.std.specs.Str.{bytes_eq}
use Rattle.voting_config.specs.Ids.{Id}
use Rattle.std.proofs.lemmas.Bool.{leb-true, and_parts}
use Rattle.command_line.specs.declared.command.ProgramCommand.{ProgramCommand}
use Rattle.zen_app.specs.Runs.{IsWithin}
use Rattle.command_line.specs.declared.command.ProgramCommand.TheVariants.{Audit}
use Rattle.command_line.specs.Commands.{level_of, replay_of, inspect_of, link_of, node_of, voting_only_of, second_of, turns_of, history_of, generate_of, trial_of, rescue_of, unsafe_bootstrap_of, detach_cluster_of, command_by, command_of, steps_of, port_of, most_steps}
use Rattle.command_line.specs.Given.{Text, look, words_given}
use Rattle.command_line.specs.Lists.{initial_of, some_of, up_of}
use Rattle.command_line.specs.Program.{commands}
use Rattle.command_line.specs.Values.{Look, ◌>>=◌, text_at, id_of, number_of, number_within}

-- of what there is, if anything
abbrev pub OfSome : {A : Type 0} → (A → Type 0) → Option A → Type 0
OfSome P None = Unit {0}
OfSome P (Some x) = P x

of_both : {A B : Type 0} (P : A → Type 0) (Q : B → Type 0) (o : Option A) (f : A → Option B) → OfSome P o → ((x : A) → P x → OfSome Q (f x)) → OfSome Q (o >>= f)
of_both P Q None f h go = tt
of_both P Q (Some x) f h go = go x h

of_last : {A B : Type 0} (Q : B → Type 0) (o : Option A) (f : A → Option B) → ((x : A) → OfSome Q (f x)) → OfSome Q (o >>= f)
of_last Q None f go = tt
of_last Q (Some x) f go = go x

of_chosen : {A : Type 0} (Q : A → Type 0) (b : Bool) (x y : Option A) → OfSome Q x → OfSome Q y → OfSome Q (if b then x else y)
of_chosen Q true x y hx hy = hx
of_chosen Q false x y hx hy = hy

of_within : (least most n : ℕ) (b : Bool) → (nat_le least n && nat_le n most) ≡ b → OfSome (λ (m : ℕ). (least ≤ m) × (m ≤ most)) (if b then Some n else None)
of_within least most n true is = let parts = and_parts (nat_le least n) (nat_le n most) is in (leb-true least n parts.0, leb-true n most parts.1)
of_within least most n false is = tt

of_number : (least most : ℕ) (t : Text) → OfSome (λ (m : ℕ). (least ≤ m) × (m ≤ most)) (number_within least most t)
of_number least most t = of_last (λ (m : ℕ). (least ≤ m) × (m ≤ most)) (number_of t) (λ (n : ℕ). if nat_le least n && nat_le n most then Some n else None) (λ n. of_within least most n (nat_le least n && nat_le n most) refl)

of_replay : (look : Look) → OfSome IsWithin (replay_of look)
of_replay look = of_last IsWithin (text_at (codes "level") look >>= level_of) _ (λ level. tt)

of_inspect : (look : Look) → OfSome IsWithin (inspect_of look)
of_inspect look = of_last IsWithin (text_at (codes "dir") look) _ (λ dir. tt)

of_node : (look : Look) → OfSome IsWithin (node_of look)
of_node look =
    of_last IsWithin (text_at (codes "initial") look >>= initial_of) _ (λ initial.
    of_last IsWithin (voting_only_of look) _ (λ voting_only.
    of_last IsWithin (second_of look) _ (λ second.
    of_last IsWithin (text_at (codes "turns") look >>= turns_of) _ (λ turns.
    of_last IsWithin (history_of look) _ (λ level.
    of_last IsWithin (link_of look) _ (λ link.
    of_last IsWithin (text_at (codes "dir") look) _ (λ dir. tt)))))))

of_steps : (o : Option Text) → OfSome (λ (n : ℕ). n ≤ most_steps) (o >>= steps_of)
of_steps None = tt
of_steps (Some t) = of_second (number_within 0 most_steps t) (of_number 0 most_steps t)
  where
    of_second : (o : Option ℕ) → OfSome (λ (m : ℕ). (0 ≤ m) × (m ≤ most_steps)) o → OfSome (λ (n : ℕ). n ≤ most_steps) o
    of_second None h = tt
    of_second (Some n) h = h.1

of_port : (o : Option Text) → OfSome (λ (n : ℕ). (1 ≤ n) × (n ≤ 65533)) (o >>= port_of)
of_port None = tt
of_port (Some t) = of_number 1 65533 t

of_generate : (look : Look) → OfSome IsWithin (generate_of look)
of_generate look =
    of_last IsWithin (text_at (codes "number") look >>= number_of) _ (λ number.
    of_both (λ (n : ℕ). n ≤ most_steps) IsWithin (text_at (codes "steps") look >>= steps_of) _ (of_steps (text_at (codes "steps") look)) (λ steps within. within))

of_trial : (look : Look) → OfSome IsWithin (trial_of look)
of_trial look =
    of_both (λ (n : ℕ). (1 ≤ n) × (n ≤ 65533)) IsWithin (text_at (codes "port") look >>= port_of) _ (of_port (text_at (codes "port") look)) (λ port within.
    of_last IsWithin (text_at (codes "turns") look >>= number_of) _ (λ turns.
    of_last IsWithin (text_at (codes "program") look) _ (λ program.
    of_last IsWithin (text_at (codes "dir") look) _ (λ dir. within))))

of_up : (o : Option Text) → OfSome (λ (ids : List Id). 0 < length ids) (o >>= up_of)
of_up None = tt
of_up (Some t) = of_some (initial_of t)
  where
    of_some : (o : Option (List Id)) → OfSome (λ (ids : List Id). 0 < length ids) (o >>= some_of)
    of_some None = tt
    of_some (Some []) = tt
    of_some (Some (id ∷ ids)) = omega arith

of_rescue : (look : Look) → OfSome IsWithin (rescue_of look)
of_rescue look = of_both (λ (ids : List Id). 0 < length ids) IsWithin (text_at (codes "up") look >>= up_of) _ (of_up (text_at (codes "up") look)) (λ ids some. some)

of_unsafe_bootstrap : (look : Look) → OfSome IsWithin (unsafe_bootstrap_of look)
of_unsafe_bootstrap look =
    of_last IsWithin (text_at (codes "id") look >>= id_of) _ (λ id.
    of_last IsWithin (text_at (codes "dir") look) _ (λ dir. tt))

of_detach_cluster : (look : Look) → OfSome IsWithin (detach_cluster_of look)
of_detach_cluster look = of_last IsWithin (text_at (codes "dir") look) _ (λ dir. tt)

of_command : (name : Text) (look : Look) → OfSome IsWithin (command_by name look)
of_command name look =
    of_chosen IsWithin (bytes_eq name (codes "replay")) (replay_of look) _ (of_replay look)
    (of_chosen IsWithin (bytes_eq name (codes "inspect")) (inspect_of look) _ (of_inspect look)
    (of_chosen IsWithin (bytes_eq name (codes "node")) (node_of look) _ (of_node look)
    (of_chosen IsWithin (bytes_eq name (codes "generate")) (generate_of look) _ (of_generate look)
    (of_chosen IsWithin (bytes_eq name (codes "trial")) (trial_of look) _ (of_trial look)
    (of_chosen IsWithin (bytes_eq name (codes "rescue")) (rescue_of look) _ (of_rescue look)
    (of_chosen IsWithin (bytes_eq name (codes "unsafe-bootstrap")) (unsafe_bootstrap_of look) _ (of_unsafe_bootstrap look)
    (of_chosen IsWithin (bytes_eq name (codes "detach-cluster")) (detach_cluster_of look) _ (of_detach_cluster look)
    (of_chosen IsWithin (bytes_eq name (codes "audit")) (Some Audit) None tt tt))))))))

pub all_within : (words : List Text) → OfSome IsWithin (command_of words)
all_within words = of_last IsWithin (words_given commands words) _ (λ p. of_command p.0.0 (look p.0.1 p.1))

pub words_within : (words : List Text) (c : ProgramCommand) → command_of words ≡ Some c → IsWithin c
words_within words c is = subst (λ (o : Option ProgramCommand). OfSome IsWithin o) is (all_within words)
