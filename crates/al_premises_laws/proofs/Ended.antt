-- An execution ends without a trap, actions add no steps, and ends are alike.
use Rattle.std.proofs.Common.{◌≡◌, ℕ, List, [], ◌∷◌, Some, None, false, refl, ap, ◌∙◌, arith}
use Rattle.std.specs.Prelude.{cond, is_some, pos}
use Rattle.std.specs.FinMap as map
use Rattle.al_core.specs.declared.reports.Ending.TheVariants.{Done}
use Rattle.al_core.specs.declared.values.Val.{Val}
use Rattle.al_core.specs.declared.values.Val.TheVariants.{Int}
use Rattle.al_core.specs.declared.values.Obj.{Obj}
use Rattle.al_core.specs.declared.values.Obj.TheVariants.{Global, Serial, Iter}
use Rattle.al_core.specs.World.{World}
use Rattle.al_core.specs.Orders.{obj_cmp, obj_eq}
use Rattle.al_core.specs.Memory.{has_object}
use Rattle.al_core.specs.Access.{in_iteration, load, store, make, free}
use Rattle.al_core.specs.Action.{State, bind, pure, lift, asks, spend, get_frame, set_frame}
use Rattle.al_core.specs.Meaning.{Flow, Inside, call_to, value, place, execute}
use Rattle.al_core.specs.Values.{words_of}
use Rattle.al_core.specs.Chunk.{chunk_start, chunk_end}
use Rattle.al_core.specs.Iteration.{iteration}
use Rattle.al_core.specs.Readiness.{IsFresh, IsNameFrom}
use Rattle.al_core.specs.Run.{start, outside}
use Rattle.al_core.specs.Serial.{plain_loop, direct}
use Rattle.al_laws.specs.Ends.{EndsAlike}
use Rattle.al_laws.proofs.Falls.{value_never_adds, call_never_adds, never_adds_steps}
use Rattle.al_laws.proofs.Orders.{obj_total}
use Rattle.al_rounds_laws.proofs.NoReds.{plain_without_reds}
use Rattle.al_runs_laws.specs.Small.{small, small_choices, below, first_body, next}
use Rattle.al_premises_laws.specs.Executions.{first, at_first, making, at_making, raw_in_order, setting}
use Rattle.al_premises_laws.specs.Met.{EndIsMet, PartsAddNothing, ActionsAreMet, TrapsAlike, EndsAreMet, NumbersFit}
use Rattle.al_premises_laws.proofs.Outcomes.{stmt_roll, kind_roll, expr_roll}

-- ---- an execution

object : (o : Obj) → map.get at_making.objects o ≡ cond (obj_eq o (Serial 0)) (Some (Int (pos 7) ∷ [])) None
object o =
    map.get-insert obj_total map.empty (Serial 0) (Int (pos 7) ∷ []) o
    ∙ ap (cond (obj_eq o (Serial 0)) (Some (Int (pos 7) ∷ []))) (map.get-empty obj_cmp o)

is_unnamed : (e from to : ℕ) (o : Obj) → IsNameFrom e from to o → has_object at_making o ≡ false
is_unnamed e from to (Global k) h = absurd h
is_unnamed e from to (Serial k) h = absurd h
is_unnamed e from to (Iter f j k) h = ap is_some (object (Iter f j k))

fresh : (c : ℕ) → IsFresh making at_making c
fresh c = is_unnamed 2 (chunk_start making c) (chunk_end making c)

plain_ends : (plain_loop making at_making).ending ≡ Done
unfolding plain_loop iteration execute value place bind pure lift asks spend get_frame set_frame load store make free words_of
plain_ends = simp (stmt_roll, kind_roll, expr_roll, map.get-insert {X = List Val} obj_total)

pub end_is_met : EndIsMet
end_is_met = (
  omega arith,
  ap (λ e. e.ending) (plain_without_reds making raw_in_order 2 at_making refl refl refl (omega arith) (omega arith) (fresh 0, tt))
      ∙ plain_ends,
  omega arith,
)

-- ---- actions

module _ {S : Type 0} (world : World S) (now : S) where
  parts_add_nothing : PartsAddNothing world now
  parts_add_nothing = (
    value_never_adds world Inside [] (call_to world Inside small.funcs [] 1) (call_never_adds world Inside small.funcs [] 1) (below 3) 6,
    never_adds_steps world Inside small.funcs [] 1 first_body,
    never_adds_steps world Inside small.funcs [] 1 next,
    omega arith,
  )

pub actions_are_met : ActionsAreMet
actions_are_met = (
  parts_add_nothing in_iteration (direct first at_first),
  parts_add_nothing (outside (setting small_choices)) (start (setting small_choices)).world,
)

-- ---- ends

answers_alike : {S : Type 0} (flow : Flow) (s : State S) → EndsAlike (pure flow s) (pure flow s)
unfolding pure
answers_alike flow s = record { answer = refl; budget = refl; world = refl; frame = refl }

traps_alike : {S : Type 0} (now : S) → TrapsAlike now
unfolding lift
traps_alike now = (record { answer = refl; budget = refl; world = refl; frame = tt }, answers_alike)

pub ends_are_met : EndsAreMet
ends_are_met = (traps_alike (direct first at_first), traps_alike (start (setting small_choices)).world)

-- ---- numbers

pub numbers_fit : NumbersFit
numbers_fit = (grind arith, grind arith, grind arith)
