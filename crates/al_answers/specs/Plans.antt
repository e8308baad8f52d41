-- A plan says which files are read, one after another, and what answer comes of their bytes.
use Rattle.std.specs.Prelude.{◌≡◌, ⊤, ℕ, suc, List, [], ◌∷◌, Option, Some, None}
use Rattle.al_io.specs.Contents.{Contents, beginning_of}
use Rattle.al_answers.specs.declared.answers.Answer.{Answer}
use Rattle.al_answers.specs.Lines.{absent_line}

pub data Plan : Type 0 where
  -- the file of a name is read, at most so many bytes of it, and then it goes on by what was read
  Reads : List ℕ → ℕ → (List ℕ → Plan) → Plan
  Answers : Answer → Plan

-- one line to standard error, and nothing to standard output
abbrev pub failed : ℕ → List ℕ → Answer
failed status line = record { status = status; out = []; err = line }

-- a file that is not there
abbrev pub absent : List ℕ → Answer
absent name = failed 4 (absent_line name)

abbrev pub answer_or : Answer → Option Answer → Answer
answer_or other (Some a) = a
answer_or other None = other

abbrev pub number_or_zero : Option ℕ → ℕ
number_or_zero (Some n) = n
number_or_zero None = 0

abbrev pub if_there : {A : Type 0} → Option (List ℕ) → (List ℕ → A) → Option A
if_there (Some bytes) f = Some (f bytes)
if_there None f = None

-- the answer of a plan over files of known contents
abbrev pub played : Contents → Plan → Answer
played files (Reads name most next) = answer_or (absent name)
    (if_there (beginning_of files name most) (λ bytes. played files (next bytes)))
played files (Answers a) = a

-- how many files it reads of them
abbrev pub reads_on : Contents → Plan → ℕ
reads_on files (Reads name most next) = suc
    (number_or_zero (if_there (beginning_of files name most) (λ bytes. reads_on files (next bytes))))
reads_on files (Answers a) = 0

-- it reads files of these names, in this order, and may end before the last
abbrev pub ReadsInOrder : List (List ℕ) → Plan → Type 0
ReadsInOrder names (Answers a) = ⊤
ReadsInOrder [] (Reads name most next) = ⊥
ReadsInOrder (n ∷ ns) (Reads name most next) = (name ≡ n) × ((bytes : List ℕ) → ReadsInOrder ns (next bytes))

-- whatever the files hold, its answers are such
abbrev pub AllAnswers : (Answer → Type 0) → Plan → Type 0
AllAnswers P (Reads name most next) = (bytes : List ℕ) → AllAnswers P (next bytes)
AllAnswers P (Answers a) = P a
