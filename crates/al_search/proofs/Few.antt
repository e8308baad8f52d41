-- At most 80 choices are tried.
use Rattle.std.proofs.Common.{◌≡◌, ◌≤◌, ◌+◌, ◌*◌, ℕ, suc, List, [], ◌∷◌, Option, Some, None, length, map, take, min, Result, Ok, Err, IfOk, refl, ◌∙◌, arith}
use Rattle.std.proofs.lemmas.List.{length-append, length-map, length-take}
use Rattle.std.specs.List.{flat_map, filter_map}
use Rattle.al_core.specs.declared.choices.Choice.{Choice}
use Rattle.al_core.specs.declared.choices.LoopInfo.{LoopInfo}
use Rattle.al_core.specs.declared.choices.Red.{Red}
use Rattle.al_core.specs.declared.typed_tree.Typed.{Typed}
use Rattle.al_core.specs.Lines.{with_line}
use Rattle.al_core.specs.Loops.{PlacedLoop, program_loops}
use Rattle.al_rules.specs.Candidates.{with_reductions, reduction_lists, all_together, reductions_of, reduction_of, firsts, variables, choices_of, choices}
use Rattle.std.specs.Prelude.{slice_get}
use Rattle.std.specs.declared.alloc.AllocError.{AllocError}

eight_each : (ls : List (List Red)) → length (flat_map with_reductions ls) ≡ 8 * length ls
eight_each [] = refl
eight_each (reds ∷ ls) =
    let more = eight_each ls in
    length-append (with_reductions reds) (flat_map with_reductions ls) ∙ rw more (omega arith)

lists_few : (rs : List Red) → length rs ≤ 8 → length (reduction_lists rs) ≤ 10
lists_few rs h = rw (length-append (map (λ (r : Red). r ∷ []) rs) (all_together rs), length-map rs (λ (r : Red). r ∷ [])) (by_length rs h)
  where
    by_length : (rs : List Red) → length rs ≤ 8 → suc (length rs + length (all_together rs)) ≤ 10
    by_length [] h = omega arith
    by_length (r ∷ []) h = omega arith
    by_length (r ∷ q ∷ rs) h = omega arith

taken : {A : Type 0} (n : ℕ) (xs : List A) → length (take n xs) ≤ n
taken n xs = rw (length-take n xs) (min-le n (length xs))
  where
    min-le : (m n : ℕ) → min m n ≤ m
    min-le m n = grind arith

of_loop : (typed : Typed) (info : LoopInfo) (l : Option PlacedLoop) → length (choices_of typed info l) ≤ 80
of_loop typed info None = omega arith
of_loop typed info (Some l) =
    let rs = reductions_of typed info l.loop.body in
    let few : length rs ≤ 8 = taken 8 (filter_map (reduction_of typed info l.loop.body) (firsts [] (variables l.loop.body))) in
    let lists = lists_few rs few in
    rw (eight_each (reduction_lists rs)) (omega arith)

pub choices_few : (typed : Typed) (info : LoopInfo) → length (choices typed info) ≤ 80
unfolding choices
choices_few typed info = of_loop typed info (slice_get (program_loops typed) info.number)

pub few : (line : ℕ) (typed : Typed) (info : LoopInfo) → length (map (with_line line) (choices typed info)) ≤ 80
few line typed info = rw (length-map (choices typed info) (with_line line)) (choices_few typed info)

pub few_lined : (line : ℕ) (typed : Typed) (info : LoopInfo) (xs : List Choice) (r : Result (List Choice) AllocError)
    → xs ≡ choices typed info → IfOk r (λ cs. cs ≡ map (with_line line) xs) → IfOk r (λ cs. length cs ≤ 80)
few_lined line typed info xs (Ok cs) is h = rw (h, is) (few line typed info)
few_lined line typed info xs (Err e) is h = tt
