-- Code that shows what is planned for a typed tree stands for the tree.
use Rattle.std.specs.Prelude.{refl, Option, None, Some}
use Rattle.al_core.specs.Access.{in_iteration}
use Rattle.al_core.specs.Meaning.{Outside, Inside}
use Rattle.al_core.specs.declared.typed_tree.TFunc.{TFunc}
use Rattle.al_code.specs.Answerers.{answered, listed}
use Rattle.al_code.specs.Stands.{AreEntryOf}
use Rattle.al_code.specs.declared.lowered.Entry.{Entry}
use Rattle.al_code.specs.declared.lowered.Code.{Code}
use Rattle.al_code_laws.specs.Laid.{LiesAt}
use Rattle.al_code_laws.proofs.CallRuns.{functions_stand}
use Rattle.al_code_laws.proofs.Iterations.{iterations_stand}
use Rattle.al_code_laws.specs.Laws.{CodeStands}

entries_of : (code : Code) (f : Option TFunc) (e : Option Entry) → LiesAt code f e → AreEntryOf f e
entries_of code (Some f) (Some e) l = record { params = l.params; locals = l.locals }
entries_of code None None l = tt
entries_of code (Some f) None l = absurd l
entries_of code None (Some e) l = absurd l

pub code_stands : CodeStands
code_stands code typed laid = record {
  globals = laid.globals;
  main = laid.main;
  entries = λ f. entries_of code _ _ (laid.funcs f);
  loops = laid.loops;
  by_answerer = λ answer input. functions_stand (answered answer) Outside input code typed.funcs laid.funcs;
  by_list = λ input. functions_stand listed Outside input code typed.funcs laid.funcs;
  iterations = λ k l is.
      let lies = laid.bodies k l is in (
        lies.has.0.op.body,
        lies.has.0.op.has_body,
        λ input. iterations_stand in_iteration Inside input code typed.funcs laid.funcs k l.body lies l refl,
      );
}
