-- Where a run starts its globals hold what they are written to start at.
use Rattle.std.proofs.Common.{◌≡◌, ℕ, zero, suc, ◌+◌, List, [], ◌∷◌, Option, Some, None, Bool, true, false, cond, refl, sym, ap, subst, ◌∙◌, arith, add-zero}
use Rattle.std.specs.Prelude.{pos, is_some, slice_get, slice_set, slice_index, replicate}
use Rattle.std.specs.FinMap as fin
use Rattle.std.proofs.Math.Bool.{true≢false}
use Rattle.al_core.specs.declared.values.Obj.{Obj}
use Rattle.al_core.specs.declared.values.Obj.TheVariants.{Global, Serial, Iter}
use Rattle.al_core.specs.declared.values.Val.{Val}
use Rattle.al_core.specs.declared.values.Val.TheVariants.{Int}
use Rattle.al_core.specs.declared.values.Kind.{Kind}
use Rattle.al_core.specs.declared.values.Kind.TheVariants as kind
use Rattle.al_core.specs.declared.typed_tree.TGlobal.{TGlobal}
use Rattle.al_core.specs.Orders.{obj_numbers, obj_cmp, obj_eq}
use Rattle.al_core.specs.Memory.{word_in}
use Rattle.al_core.specs.Run.{Setting, start_words, globals_from, start}
use Rattle.al_laws.specs.Names.{HasOnly}
use Rattle.al_laws.proofs.Orders.{obj_total, obj_itself}
use Rattle.al_laws.proofs.Stays.{obj_differs}
use Rattle.al_laws.proofs.Words.{same_some, some_none}
use Rattle.al_rules.specs.Names.{AllOf, more}
use Rattle.al_rules.specs.WellFormed.{is_some_kind, is_int_global, IsFormedGlobal}
use Rattle.al_graded_laws.proofs.Graded.{Fineness, FineAll}
use Rattle.al_graded_laws.proofs.Steady.{fine_set, fine_replicate}
use Rattle.al_graded_laws.proofs.Values.{zero_fits}
use Rattle.al_kinds_laws.specs.Programs.{IsProgram}
use Rattle.al_kinds_laws.proofs.KeptKinds.{Kept}
use Rattle.al_kinds_laws.proofs.Taking.{shut_int}
use Rattle.al_runs_laws.proofs.LoopsInRounds.{IsBefore}
use Rattle.al_runs_laws.proofs.Outside.{shut, F}

-- ---- the objects at the start

by_insert : (n : ℕ) (t : TGlobal) (gs : List TGlobal) (o : Obj)
    → fin.get (globals_from n (t ∷ gs)) o ≡ cond (obj_eq o (Global n)) (Some (start_words t)) (fin.get (globals_from (n + 1) gs) o)
by_insert n t gs o = fin.get-insert obj_total (globals_from (n + 1) gs) (Global n) (start_words t) o

number_of : Obj → ℕ
number_of o = slice_index (obj_numbers o) 1

first_of : Obj → ℕ
first_of o = slice_index (obj_numbers o) 0

global_at : (n : ℕ) (gs : List TGlobal) (k : ℕ) (t : TGlobal) → slice_get gs k ≡ Some t → fin.get (globals_from n gs) (Global (n + k)) ≡ Some (start_words t)
unfolding number_of
global_at n [] k t e = absurd (some_none t (sym e))
global_at n (a ∷ gs) zero t e =
    ap (λ m. fin.get (globals_from n (a ∷ gs)) (Global m)) (add-zero n)
    ∙ by_insert n a gs (Global n) ∙ ap (λ b. cond b (Some (start_words a)) (fin.get (globals_from (n + 1) gs) (Global n))) (obj_itself (Global n))
    ∙ ap (λ z. Some (start_words z)) (same_some a t e)
global_at n (a ∷ gs) (suc k) t e =
    let later : n + suc k ≡ (n + 1) + k = omega arith in
    let differs = obj_differs (Global (n + suc k)) (Global n) (λ s. absurd (omega (arith, ap number_of s))) in
    by_insert n a gs (Global (n + suc k))
    ∙ ap (λ b. cond b (Some (start_words a)) (fin.get (globals_from (n + 1) gs) (Global (n + suc k)))) differs
    ∙ ap (λ m. fin.get (globals_from (n + 1) gs) (Global m)) later ∙ global_at (n + 1) gs k t e

-- only globals are there
no_iter : (n : ℕ) (gs : List TGlobal) (i j k : ℕ) → fin.get (globals_from n gs) (Iter i j k) ≡ None
unfolding first_of
no_iter n [] i j k = fin.get-empty obj_cmp (Iter i j k)
no_iter n (t ∷ gs) i j k =
    let differs = obj_differs (Iter i j k) (Global n) (λ s. absurd (omega (arith, ap first_of s))) in
    by_insert n t gs (Iter i j k)
    ∙ ap (λ b. cond b (Some (start_words t)) (fin.get (globals_from (n + 1) gs) (Iter i j k))) differs ∙ no_iter (n + 1) gs i j k

module _ (G : Fineness) (zero_fine : G.num (pos 0)) where
  fine_start : (t : TGlobal) → G.num t.start → FineAll G (start_words t)
  fine_start t f = fine_set G (replicate t.words (Int (pos 0))) 0 (Int t.start) f (fine_replicate G t.words zero_fine)

  by_here : (b : Bool) (t : TGlobal) (x : Option (List Val)) (ws : List Val) → G.num t.start → ((us : List Val) → x ≡ Some us → FineAll G us)
      → cond b (Some (start_words t)) x ≡ Some ws → FineAll G ws
  by_here true t x ws f h e = subst (FineAll G) (same_some (start_words t) ws e) (fine_start t f)
  by_here false t x ws f h e = h ws e

  fine_globals : (n : ℕ) (gs : List TGlobal) → ((k : ℕ) (t : TGlobal) → slice_get gs k ≡ Some t → G.num t.start) → (o : Obj) (ws : List Val)
      → fin.get (globals_from n gs) o ≡ Some ws → FineAll G ws
  fine_globals n [] h o ws e = absurd (some_none ws (sym e ∙ fin.get-empty obj_cmp o))
  fine_globals n (t ∷ gs) h o ws e =
      by_here (obj_eq o (Global n)) t (fin.get (globals_from (n + 1) gs) o) ws (h 0 t refl)
      (λ us i. fine_globals (n + 1) gs (λ k q j. h (suc k) q j) o us i) (sym (by_insert n t gs o) ∙ e)

formed_at : (gs : List TGlobal) (k : ℕ) (t : TGlobal) → AllOf IsFormedGlobal gs → slice_get gs k ≡ Some t → IsFormedGlobal t
formed_at [] k t h e = absurd (some_none t (sym e))
formed_at (a ∷ gs) zero t (more h hs) e = subst IsFormedGlobal (same_some a t e) h
formed_at (a ∷ gs) (suc k) t (more h hs) e = formed_at gs k t hs e

module _ (g : Setting) (p : IsProgram g.typed g.input) where
  -- the global of a number that is one integer
  record IsInt (k : ℕ) : Type 0 where
    pub global : TGlobal
    pub stands : slice_get g.typed.globals k ≡ Some global
    pub scalar : global.scalar ≡ Some kind.Int

  int_global : (k : ℕ) (x : Option TGlobal) → slice_get g.typed.globals k ≡ x → is_int_global x ≡ true → IsInt k
  int_global k (Some t) e i = record { global = t; stands = e; scalar = some_int t.scalar i }
    where
      some_int : (x : Option Kind) → is_some_kind x kind.Int ≡ true → x ≡ Some kind.Int
      some_int (Some kind.Int) i = refl
      some_int (Some kind.Ptr) i = absurd (true≢false (sym i))
      some_int None i = absurd (true≢false (sym i))
  int_global k None e i = absurd (true≢false (sym i))

  -- the first word of such a global
  first_word : (t : TGlobal) → t.words ≡ 1 → slice_get (start_words t) 0 ≡ Some (Int t.start)
  first_word t e = ap (λ n. slice_get (slice_set (replicate n (Int (pos 0))) 0 (Int t.start)) 0) e

  pub starts_known : Kept zero_fits (shut g p) [] [] (start g).world.content
  starts_known = record {
    log = tt;
    memory = record {
      objects = fine_globals (F g p) zero_fits 0 g.typed.globals p.starts;
      locals = (omega arith, λ k v e. absurd (some_none v (sym e)));
      shuts = λ k s.
          let i = int_global k (slice_get g.typed.globals k) refl (shut_int g.typed k s) in
          let words = (formed_at g.typed.globals k i.global p.formed.globals i.stands).words kind.Int i.scalar in
          let at : 0 + k ≡ k = omega arith in
          let found = ap (λ m. fin.get (globals_from 0 g.typed.globals) (Global m)) (sym at) ∙ global_at 0 g.typed.globals k i.global i.stands in
          (i.global.start, ap (λ x. word_in x 0) found ∙ first_word i.global words);
    };
  }

  pub starts_named : HasOnly (IsBefore 0) (start g).world.content.memory
  starts_named (Global k) t = tt
  starts_named (Serial k) t = tt
  starts_named (Iter e j k) t = absurd (true≢false (sym t ∙ ap is_some (no_iter 0 g.typed.globals e j k)))
