-- What a run is given.
use Rattle.std.specs.Prelude.{◌≡◌, ℕ, List, length, Option, Some, slice_get}
use Rattle.al_core.specs.declared.choices.Choice.{Choice}
use Rattle.al_core.specs.declared.typed_tree.TFunc.{TFunc}
use Rattle.al_core.specs.declared.typed_tree.Typed.{Typed}
use Rattle.al_core.specs.Limits.{AreInRange}
use Rattle.al_core.specs.Lines.{IsLineSize}
use Rattle.al_core.specs.Loops.{Loop, loop_at}
use Rattle.al_core.specs.Report.{by_choices}
use Rattle.al_core.specs.Run.{Setting, sizes_of}
use Rattle.al_code.specs.declared.lowered.Code.{Code}
use Rattle.al_code.specs.Stands.{StandsFor}
use Rattle.al_code.specs.Valid.{IsValid}
use Rattle.al_engine.specs.declared.job.Job.{Job}

-- Each loop has as many locals as the function that it names, as every loop of a well-formed tree has.
abbrev pub LoopsHaveLocals : Typed → Type 0
LoopsHaveLocals typed =
    (k : ℕ) (l : Loop) → loop_at typed k ≡ Some l
    → (f : TFunc) → slice_get typed.funcs l.info.func ≡ Some f → l.locals ≡ length f.locals

-- the code stands for the tree
pub record IsCodeOf (typed : Typed) (code : Code) : Type 0 where
  pub stands : StandsFor code typed
  pub locals : LoopsHaveLocals typed

-- each choice's conflicts are found by lines of one of the five sizes
abbrev pub HaveLineSizes : List (Option Choice) → Type 0
HaveLineSizes choices = (k : ℕ) (c : Choice) → slice_get choices k ≡ Some (Some c) → IsLineSize c.line

-- a run may begin
pub record MayRun (j : Job) : Type 0 where
  pub valid : IsValid j.code.now
  pub range : AreInRange j.knobs
  pub lines : HaveLineSizes j.choices.now

-- a tree with what the run is given
abbrev pub setting_of : Job → Typed → Setting
setting_of j typed = record {
  typed = typed;
  input = j.input.now;
  sizes = sizes_of j.knobs;
  modes = by_choices j.choices.now;
}
