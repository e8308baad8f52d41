-- What chunks record: one reads a global, and one makes an object and frees another one.
use Rattle.std.proofs.Common.{◌≡◌, List, [], ◌∷◌, Some, None, Bool, true, false, refl, sym, ap, subst, ◌∙◌, arith}
use Rattle.std.proofs.Math.Bool.{true≢false}
use Rattle.std.specs.Prelude.{cond, pos, Contains, is_some}
use Rattle.std.specs.FinMap as map
use Rattle.std.specs.FinSet as set
use Rattle.std.specs.FinSet.{FinSet}
use Rattle.al_core.specs.declared.values.Addr.{Addr}
use Rattle.al_core.specs.declared.values.Addr.TheVariants.{Word, Head}
use Rattle.al_core.specs.declared.values.Val.{Val}
use Rattle.al_core.specs.declared.values.Obj.TheVariants.{Global, Serial, Iter}
use Rattle.al_core.specs.declared.values.Val.TheVariants.{Int}
use Rattle.al_core.specs.Orders.{obj_cmp, addr_cmp}
use Rattle.al_core.specs.Access.{load, store, make, free, print}
use Rattle.al_core.specs.Action.{bind, pure, lift, asks, spend, get_frame, set_frame}
use Rattle.al_core.specs.Meaning.{value, place, execute}
use Rattle.al_core.specs.Values.{operate, words_of}
use Rattle.al_core.specs.Iteration.{iteration}
use Rattle.al_core.specs.Chunk.{outcome, made_objects}
use Rattle.al_core.specs.Clash.{meets}
use Rattle.al_core.specs.Memory.{Memory, add, remove}
use Rattle.al_laws.proofs.Orders.{obj_total, addr_total}
use Rattle.al_laws.proofs.Overlay.{get_made_objects}
use Rattle.al_laws.proofs.Untouched.{off_untouched}
use Rattle.al_rounds_laws.proofs.Sets.{not_met}
use Rattle.al_runs_laws.specs.Small.{small_reductions}
use Rattle.al_premises_laws.specs.Executions.{first, second, making, at_first, at_second, at_making}
use Rattle.al_premises_laws.specs.Met.{ReadIsMet, MadeIsMet, FreedIsMet, OffIsMet, SetsMeet}
use Rattle.al_premises_laws.proofs.Memories.{object_of}
use Rattle.al_premises_laws.proofs.Outcomes.{stmt_roll, kind_roll, expr_roll, place_roll, untouched_is_met}

first_writes : (outcome first [] at_first 0).touched ≡ set.insert set.empty (Word (Global 0) 0)
unfolding outcome iteration execute value place bind pure lift asks spend get_frame set_frame load store print operate
first_writes = simp (stmt_roll, kind_roll, expr_roll, place_roll, object_of (pos 0) (pos 0) (pos 0) (pos 0), set.contains-empty)

second_reads : (outcome first [] at_first 1).reads
    ≡ set.insert (set.insert (set.insert set.empty (Head (Global 0))) (Word (Global 0) 0)) (Head (Global 1))
unfolding outcome iteration execute value place bind pure lift asks spend get_frame set_frame load store print operate
second_reads = simp (stmt_roll, kind_roll, expr_roll, place_roll, object_of (pos 0) (pos 0) (pos 0) (pos 0), set.contains-empty)

making_frees : (outcome making [] at_making 0).freed ≡ Serial 0 ∷ []
unfolding outcome iteration execute value place bind pure lift asks spend get_frame set_frame load store make free words_of
making_frees = simp (
  stmt_roll,
  kind_roll,
  expr_roll,
  set.contains-empty,
  set.contains-insert {R = addr_cmp} addr_total,
  set.contains-insert {R = obj_cmp} obj_total,
  map.get-insert {X = List Val} obj_total,
)

abbrev left : Memory
left = remove (add at_making (Iter 2 0 0) (Int (pos 0) ∷ [])) (Serial 0)

making_makes : (outcome making [] at_making 0).made ≡ made_objects left (set.insert set.empty (Iter 2 0 0))
unfolding outcome iteration execute value place bind pure lift asks spend get_frame set_frame load store make free words_of
making_makes = simp (
  stmt_roll,
  kind_roll,
  expr_roll,
  set.contains-empty,
  set.contains-insert {R = addr_cmp} addr_total,
  set.contains-insert {R = obj_cmp} obj_total,
  map.get-insert {X = List Val} obj_total,
)

there : map.get left.objects (Iter 2 0 0) ≡ Some (Int (pos 0) ∷ [])
there = simp (map.get-remove {X = List Val} obj_total, map.get-insert {X = List Val} obj_total)

pub made_is_met : MadeIsMet
made_is_met =
    let made = set.insert set.empty (Iter 2 0 0) in
    ap (λ z. is_some (map.get z (Iter 2 0 0))) making_makes
    ∙ ap is_some (map.get-entries (made_objects left made) (Iter 2 0 0) ∙ get_made_objects left made (Iter 2 0 0)
    ∙ ap (λ b. cond b (map.get left.objects (Iter 2 0 0)) None) (set.contains-insert obj_total set.empty (Iter 2 0 0) (Iter 2 0 0))
    ∙ there)

pub off_is_met : OffIsMet
off_is_met = off_untouched second small_reductions at_second 4 (Word (Global 1) 0) untouched_is_met.0 untouched_is_met.1

among : (a b : FinSet addr_cmp) → (q : Addr) → set.contains a q ≡ true → set.contains b q ≡ true → meets a b ≡ true
among a b q h k = by (meets a b) refl
  where
    by : (r : Bool) → meets a b ≡ r → r ≡ true
    by true e = refl
    by false e = absurd (true≢false (sym k ∙ not_met a b q e h))

is_written : set.contains (outcome first [] at_first 0).touched (Word (Global 0) 0) ≡ true
is_written = ap (λ z. set.contains z (Word (Global 0) 0)) first_writes ∙ set.contains-insert addr_total set.empty (Word (Global 0) 0) (Word (Global 0) 0)

pub read_is_met : ReadIsMet
read_is_met =
    ap (λ z. set.contains z (Word (Global 0) 0)) second_reads
    ∙ simp (set.contains-insert {R = addr_cmp} addr_total)

pub sets_meet : SetsMeet
sets_meet = among _ _ (Word (Global 0) 0) is_written read_is_met

pub freed_is_met : FreedIsMet
freed_is_met = subst (λ z. Contains z (Serial 0)) (sym making_frees) (0, omega arith, refl)
