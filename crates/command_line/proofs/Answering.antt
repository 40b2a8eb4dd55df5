-- From what clap answers to the command.
use Rattle.std.proofs.Common.{◌≡◌, ◌∙◌, sym, refl, ap, subst, true, List, [], ◌∷◌, inl, inr, Option, Some, None, option_map, Result}
use Rattle.std.proofs.lemmas.Bool.{and_parts}
use Rattle.clap.specs.Words.{App, Row, fault_of, is_simple, is_simple_and_free, subcommand_of, subcommand_rows_of, subcommand_name_of, first_of, first_value, found_of, rows_of, kind_of, HasKind, Kinds}
use Rattle.clap.specs.declared.error.Error.{Error}
use Rattle.clap.specs.declared.error.kind.ErrorKind.TheVariants as kind
use Rattle.clap.specs.declared.parser.matches.ArgMatches.{ArgMatches}
use Rattle.clap.specs.declared.parser.matches.ArgMatches.TheViews.{out-ArgMatches, out-SubCommand}
use Rattle.clap.proofs.WalkLemmas.{first_value-rows}
use Rattle.std.specs.Box.{box_value}
use Rattle.std.proofs.Math.Path.{fun_ext}
use Rattle.command_line.specs.Given.{Text}
use Rattle.command_line.specs.Program.{program_app}
use Rattle.command_line.specs.Commands.{command_by, entered_command}
use Rattle.command_line.specs.Answers.{Gives}
use Rattle.command_line.specs.declared.command.ProgramCommand.{ProgramCommand}
use Rattle.command_line.specs.declared.command.WordsError.{WordsError}
use Rattle.command_line.proofs.Built.{is_simple_program}

-- ---- clap's answer

simple_too : (a : App) → is_simple_and_free a ≡ true → is_simple a ≡ true
simple_too a h = (and_parts (is_simple a) _ h).0

pub parsed_ok : (a : App) (words : List Text) (rows : Type 0) (x : Option (Text × List Row)) → a ≡ program_app → (is_simple_and_free a ≡ true → fault_of a words ≡ []) → (is_simple a ≡ true → rows × (x ≡ subcommand_of a words))
    → (fault_of program_app words ≡ []) × (x ≡ subcommand_of program_app words)
parsed_ok a words rows x e faults matches =
    let free : is_simple_and_free a ≡ true = ap is_simple_and_free e ∙ is_simple_program in
    (ap (λ (b : App). fault_of b words) (sym e) ∙ faults free, (matches (simple_too a free)).1 ∙ ap (λ (b : App). subcommand_of b words) e)

pub parsed_err : (a : App) (words : List Text) (e : Error) → a ≡ program_app → (is_simple_and_free a ≡ true → HasKind (fault_of a words) e) → ¬ (kind_of e ≡ kind.OutOfMemory) → ¬ (fault_of program_app words ≡ [])
parsed_err a words e is kinds other none = go (fault_of a words) (ap (λ (b : App). fault_of b words) is ∙ none) (kinds (ap is_simple_and_free is ∙ is_simple_program))
  where
    go : (ks : Kinds) → ks ≡ [] → HasKind ks e → ⊥
    go ks f (inl m) = other m
    go [] f (inr x) = x
    go (k ∷ ks) f (inr x) = absurd (cc)

-- ---- the subcommand

both_parts : {X : Type 0} (o : Option X) (f : X → Text) (g : X → List Row) (n : Text) (rs : List Row) → Some n ≡ option_map f o → Some rs ≡ option_map (λ (p : Text × List Row). p.1) (option_map {U = Text × List Row} (λ b. (f b, g b)) o) → option_map {U = Text × List Row} (λ b. (f b, g b)) o ≡ Some (n, rs)
both_parts None f g n rs a b = absurd (cc)
both_parts (Some x) f g n rs a b =
    let same : f x ≡ n = cc in
    let alike : g x ≡ rs = cc in
    rw (same, alike) refl

pub entered_is : (m : ArgMatches) (n : Text) (rs : List Row) → Some n ≡ subcommand_name_of m → Some rs ≡ option_map (λ p. p.1) (subcommand_rows_of m) → subcommand_rows_of m ≡ Some (n, rs)
entered_is m n rs name_is rows_are = both_parts (out-ArgMatches m).subcommand (λ b. (out-SubCommand (box_value b)).name.now) (λ b. rows_of (found_of (out-SubCommand (box_value b)).matches)) n rs name_is rows_are

-- the command by what clap found is that by the rows
pub entered_gives : (m inner : ArgMatches) (n : Text) (r : Result ProgramCommand WordsError) → Some n ≡ subcommand_name_of m → Some (rows_of (found_of inner)) ≡ option_map (λ p. p.1) (subcommand_rows_of m) → Gives r (command_by n (first_value (found_of inner))) → Gives r (entered_command (subcommand_rows_of m))
entered_gives m inner n r name_is rows_are h =
    let looks : first_value (found_of inner) ≡ (λ id. first_of id (rows_of (found_of inner))) = fun_ext (first_value-rows (found_of inner)) in
    let gives : Gives r (command_by n (λ id. first_of id (rows_of (found_of inner)))) = subst (λ (f : Text → Option Text). Gives r (command_by n f)) looks h in
    subst (λ (o : Option (Text × List Row)). Gives r (entered_command o)) (sym (entered_is m n (rows_of (found_of inner)) name_is rows_are)) gives
