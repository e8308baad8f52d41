-- What holds of the typed tree of a program.
use Rattle.std.specs.Prelude.{◌≡◌, ℕ, ◌<◌, List, length, All, Some, Ok, flat_map, slice_get}
use Rattle.al_grammar.specs.Characters.{Bytes}
use Rattle.al_core.specs.declared.choices.LoopInfo.{LoopInfo}
use Rattle.al_source.specs.declared.source_tree.Program.{Program}
use Rattle.al_core.specs.declared.values.Obj.{Obj}
use Rattle.al_core.specs.declared.values.Obj.TheVariants.{Global}
use Rattle.al_core.specs.declared.values.Addr.{Addr}
use Rattle.al_core.specs.declared.values.Addr.TheVariants.{Word, Head, Local}
use Rattle.al_core.specs.declared.typed_tree.TFunc.{TFunc}
use Rattle.al_core.specs.declared.typed_tree.Typed.{Typed}
use Rattle.al_core.specs.Accepted.{terms_of, calls_of}
use Rattle.al_core.specs.Loops.{for_loops_in, PlacedLoop, program_loops}
use Rattle.al_rules.specs.Candidates.{variables}
use Rattle.al_rules.specs.Notes.{notes_of}
use Rattle.al_rules.specs.Programs.{Resolved}
use Rattle.al_rules.specs.Refusals.{accepted}
use Rattle.al_rules.specs.WellFormed.{IsWellFormed}

-- It is well formed: each number is in range, and each value of the kind that its place wants.
abbrev pub ResolvedIsWellFormed : Type 0
ResolvedIsWellFormed = (p : Program) (typed : Typed) → Resolved p typed → IsWellFormed typed

-- a global of the program
abbrev pub IsThereObject : Typed → Obj → Type 0
IsThereObject typed (Global n) = n < length typed.globals
IsThereObject typed _ = ⊥

-- a local of the function, or a global of the program
abbrev pub IsThere : Typed → TFunc → Addr → Type 0
IsThere typed f (Local n) = n < length f.locals
IsThere typed f (Word o w) = IsThereObject typed o
IsThere typed f (Head o) = ⊥

-- All that a function mentions is there: each variable, each function that it calls, and the note of each annotated
-- loop in it.
pub record IsInRange (typed : Typed) (f : TFunc) : Type 0 where
  pub variables : All (IsThere typed f) (flat_map variables f.body)
  pub calls : All (λ g. g < length typed.funcs) (calls_of (terms_of f.body))
  pub loops : All (λ l. l.number < length typed.loops) (for_loops_in f.body)

abbrev pub NumbersAreInRange : Type 0
NumbersAreInRange = (p : Program) (typed : Typed) → Resolved p typed → All (IsInRange typed) typed.funcs

-- Each annotated loop has a note, and its number is its place among the loops of the program.
pub record AreInPlace (typed : Typed) : Type 0 where
  pub as_many : length (program_loops typed) ≡ length typed.loops
  pub number : (n : ℕ) (l : PlacedLoop) → slice_get (program_loops typed) n ≡ Some l → l.loop.number ≡ n

abbrev pub LoopsAreInPlace : Type 0
LoopsAreInPlace = (p : Program) (typed : Typed) → Resolved p typed → AreInPlace typed

-- A tree is well formed, and these are the entries of its annotated loops.
pub record IsFormedWith (typed : Typed) (infos : List LoopInfo) : Type 0 where
  pub formed : IsWellFormed typed
  pub entries : notes_of typed ≡ Ok infos

-- That is so of an accepted source.
abbrev pub AcceptedIsFormed : Type 0
AcceptedIsFormed =
    (source : Bytes) (typed : Typed) (infos : List LoopInfo)
    → accepted source ≡ Ok (typed, infos) → IsFormedWith typed infos
