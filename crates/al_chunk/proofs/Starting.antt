-- Where an iteration starts: in the code and in the tree.
use Rattle.std.proofs.Common.{◌≡◌, ℕ, zero, suc, ◌<◌, List, [], ◌∷◌, length, Option, Some, None, refl, sym, ap, ◌∙◌, arith}
use Rattle.std.specs.Prelude.{slice_get, option_map}
use Rattle.al_core.specs.declared.choices.LoopInfo.{LoopInfo}
use Rattle.al_core.specs.declared.typed_tree.TFunc.{TFunc}
use Rattle.al_core.specs.declared.typed_tree.Typed.{Typed}
use Rattle.al_core.specs.Loops.{Loop}
use Rattle.al_laws.proofs.Words.{some_none, same_some}
use Rattle.al_code.specs.declared.lowered.Body.{Body}
use Rattle.al_code.specs.declared.lowered.Code.{Code}
use Rattle.al_code.specs.declared.lowered.Entry.{Entry}
use Rattle.al_code.specs.Stands.{AreEntryOf}
use Rattle.al_code.specs.Valid.{IsValid}
use Rattle.al_exec.proofs.Beginnings.{body_number}
use Rattle.al_chunk.specs.Loops.{StandsForLoop}

there : {X : Type 0} (xs : List X) (k : ℕ) → k < length xs → (x : X) × (slice_get xs k ≡ Some x)
there [] k h = absurd (omega arith)
there (x ∷ xs) zero h = (x, refl)
there (x ∷ xs) (suc k) h = there xs k (omega arith)

-- the loop's body, and the function in which it stands
pub record Place (code : Code) (info : LoopInfo) : Type 0 where
  pub entry : Entry
  pub has_entry : slice_get code.funcs info.func ≡ Some entry
  pub body : Body
  pub has_body : slice_get code.bodies info.number ≡ Some body

pub placed : (code : Code) → IsValid code → (info : LoopInfo) → slice_get code.loops info.number ≡ Some info → Place code info
placed code valid info one =
    let b = there code.bodies info.number (body_number code valid info one) in
    let h = valid.loops info.number info b.0 one b.1 in
    record { entry = h.func; has_entry = h.has_func; body = b.0; has_body = b.1 }

-- what the tree says of the loop is what the code says
pub same_info : (code : Code) (typed : Typed) (l : Loop) (info : LoopInfo) → slice_get code.loops info.number ≡ Some info
    → StandsForLoop code info.number typed l → l.info ≡ info
same_info code typed l info one s =
    same_some l.info info (sym (s.stands.loops info.number ∙ ap (option_map (λ (l : Loop). l.info)) s.loop) ∙ one)

entry_locals : (f : Option TFunc) (o : Option Entry) (e : Entry) → AreEntryOf f o → o ≡ Some e → (g : TFunc) × (f ≡ Some g) × (e.locals ≡ length g.locals)
entry_locals (Some f) (Some d) e h is = (f, refl, ap (λ (e : Entry). e.locals) (sym (same_some d e is)) ∙ h.locals)
entry_locals (Some f) None e h is = absurd (some_none e (sym is))
entry_locals None (Some d) e h is = absurd h
entry_locals None None e h is = absurd (some_none e (sym is))

-- the loop has as many locals as the code's function
pub same_locals : (code : Code) (typed : Typed) (l : Loop) (info : LoopInfo) (e : Entry) → slice_get code.loops info.number ≡ Some info
    → StandsForLoop code info.number typed l → slice_get code.funcs info.func ≡ Some e → e.locals ≡ l.locals
same_locals code typed l info e one s has =
    let f = entry_locals (slice_get typed.funcs info.func) (slice_get code.funcs info.func) e (s.stands.entries info.func) has in
    f.2 ∙ sym (s.locals f.0 (ap (λ (i : LoopInfo). slice_get typed.funcs i.func) (same_info code typed l info one s) ∙ f.1))
