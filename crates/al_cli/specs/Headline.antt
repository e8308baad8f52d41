-- What valid words do, said by itself.
use Rattle.std.specs.Prelude.{⊤, ◌≡◌, ℕ, List, [], ◌∷◌, Some, None, Ok, ℤ}
use Rattle.al_rules.specs.Refusals.{Noted, accepted}
use Rattle.al_io.specs.Contents.{Contents, contents_of}
use Rattle.al_text.specs.Numbers.{numbers_of}
use Rattle.al_words.specs.declared.command.Command.{Command}
use Rattle.al_words.specs.declared.command.Job.{Job}
use Rattle.al_words.specs.Words.{command}
use Rattle.al_words.specs.Jobs.{job_of, source_name, input_names}
use Rattle.al_cli.specs.Shown.{missing_loop}

-- the inputs of these names are there, and are these numbers, one after another
abbrev pub HaveInputs : Contents → List (List ℕ) → List (List ℤ) → Type 0
HaveInputs files [] [] = ⊤
HaveInputs files (name ∷ names) (ns ∷ others) =
    ((text : List ℕ) × (contents_of files name ≡ Some text) × (numbers_of text ≡ Ok ns)) × HaveInputs files names others
HaveInputs files _ _ = ⊥

-- The files hold the source of an accepted program, and inputs that are lists of numbers.
pub record Holds (words : List (List ℕ)) (files : Contents) (job : Job) (program : Noted)
    (inputs : List (List ℤ)) : Type 0 where
  pub source : List ℕ
  pub there : contents_of files (source_name words job) ≡ Some source
  pub is_accepted : accepted source ≡ Ok program
  pub have_inputs : HaveInputs files (input_names words job) inputs

-- Words, source and inputs are valid: what they ask for is done.
pub data IsValid (words : List (List ℕ)) (files : Contents) : Type 0 where
  to_do : (c : Command) (job : Job) (program : Noted) (inputs : List (List ℤ)) → command words ≡ Ok c
      → job_of c ≡ Some job → Holds words files job program inputs → missing_loop c program ≡ None → IsValid words files
  to_show : (c : Command) → command words ≡ Ok c → job_of c ≡ None → IsValid words files
