-- Where there is no note fault, a loop's own reductions and those of its choices are accepted for it.
use Rattle.std.proofs.Common.{◌≡◌, ◌≢◌, ℕ, zero, suc, ◌+◌, ◌≤◌, ◌==◌, Bool, true, false, not, ◌&&◌, ◌||◌, cond, nat_le, nat_lt, if◌then◌else◌, List, [], ◌∷◌, map, take, length, find, filter_map, flat_map, Option, Some, None, option_map, slice_get, All, AllPairs, refl, sym, ap, ◌∙◌, subst, arith, eq-eqb, eqb-true, leb-true, true≢false, add-zero, zero-add}
use Rattle.std.specs.List.{list_any, cons_option}
use Rattle.std.proofs.lemmas.List.Kept.{AllPairs-cons}
use Rattle.al_source.specs.declared.limits.TheConstants.{TRIED_REDUCTIONS}
use Rattle.al_source.specs.declared.source_tree.Program.{Program}
use Rattle.al_source.specs.declared.annotations.Policy.{Policy}
use Rattle.al_source.specs.declared.operators.RedOp.{RedOp}
use Rattle.al_core.specs.declared.choices.Choice.{Choice}
use Rattle.al_core.specs.declared.choices.LoopInfo.{LoopInfo}
use Rattle.al_core.specs.declared.choices.Red.{Red}
use Rattle.al_core.specs.declared.values.Addr.{Addr}
use Rattle.al_core.specs.declared.values.Addr.TheVariants.{Word, Head, Local}
use Rattle.al_core.specs.declared.values.Obj.{Obj}
use Rattle.al_core.specs.declared.values.Obj.TheVariants.{Global, Serial, Iter}
use Rattle.al_core.specs.declared.values.Kind.{Kind}
use Rattle.al_core.specs.declared.values.Kind.TheVariants as kind
use Rattle.al_core.specs.declared.typed_tree.TStmt.{TStmt}
use Rattle.al_core.specs.declared.typed_tree.TFunc.{TFunc}
use Rattle.al_core.specs.declared.typed_tree.TGlobal.{TGlobal}
use Rattle.al_core.specs.declared.typed_tree.TLocal.{TLocal}
use Rattle.al_core.specs.declared.typed_tree.TNote.{TNote}
use Rattle.al_core.specs.declared.typed_tree.Typed.{Typed}
use Rattle.al_core.specs.Orders.{addr_eq}
use Rattle.al_core.specs.Loops.{Loop}
use Rattle.al_core.specs.Accepted.{only_updates, terms_of, takes_in, mentions_in, is_bound, IsRedLocal, IsRedGlobal, IsRedObject, IsRedVariable, IsAccepted}
use Rattle.al_laws.proofs.Orders.{addr_itself}
use Rattle.al_rules.specs.declared.faults.NoteKind.{NoteKind}
use Rattle.al_rules.specs.declared.faults.NoteKind.TheVariants.{IndexChanges, BoundChanges, Leaves, ReductionName, ReductionAddress, ReductionUsed}
use Rattle.al_rules.specs.Names.{AllOf, none, more}
use Rattle.al_rules.specs.ForLoops.{is_kind, is_integer}
use Rattle.al_rules.specs.ForLoops as loops
use Rattle.al_rules.specs.Bodies.{assigns, assigns_bound, has_return, has_break, is_reached, is_taken, any_from, is_mentioned_there, is_misused, has_update}
use Rattle.al_rules.specs.Notes.{stand_twice, is_counter_or_bound, first_kind, wrong_in, notes_of, note_fault, infos, or_no_infos}
use Rattle.al_rules.specs.Candidates.{variables, firsts, scalar_is_int, is_integer_global, is_outside, is_local_of, is_integer_object, is_variable, reduces, may_reduce, operators, reduction_of, reductions_of, all_together, reduction_lists, in_both_orders, policies, with_reductions, choices_of, choices}
use Rattle.al_rules.specs.WellFormed.{is_one, local_kind, is_some_kind, is_int_global, IsNoted, IsNotedAt, IsWellFormed}
use Rattle.al_rules.specs.Programs.{Resolved}
use Rattle.al_rules_laws.specs.ReductionLaws.{IsAcceptedFor}
use Rattle.al_rules_laws.proofs.Logic.{and_parts, and_both, not_true, or_none, some_is}
use Rattle.al_rules_laws.proofs.ProgramsSound.{no_fault}
use Rattle.al_rules_laws.proofs.FormedPrograms.{resolved_is_well_formed}
use Rattle.al_rules_laws.proofs.ReachedFunctions.{is_found}
use Rattle.al_rules_laws.proofs.LoopEntries.{all_told, all_map, all_append, EntryOf, EntriesOf, entries_are, numbered_length, numbered_at, loop_there}

-- ---- lists

-- what holds of each element and each later one
data Pairs {A : Type 0} (R : A → A → Type 0) : List A → Type 0 where
  alone : Pairs R []
  before : {a : A} {rest : List A} → AllOf (R a) rest → Pairs R rest → Pairs R (a ∷ rest)

pairs_told : {A : Type 0} {R : A → A → Type 0} {xs : List A} → Pairs R xs → AllPairs R xs
pairs_told alone = λ i j d lt within. absurd (omega arith)
pairs_told {R = R} (before {a = a} {rest = rest} h hs) = AllPairs-cons R a rest (all_told h) (pairs_told hs)

all_take : {A : Type 0} {P : A → Type 0} (n : ℕ) {xs : List A} → AllOf P xs → AllOf P (take n xs)
all_take zero h = none
all_take (suc n) none = none
all_take (suc n) (more h hs) = more h (all_take n hs)

pairs_take : {A : Type 0} {R : A → A → Type 0} (n : ℕ) {xs : List A} → Pairs R xs → Pairs R (take n xs)
pairs_take zero h = alone
pairs_take (suc n) alone = alone
pairs_take (suc n) (before h hs) = before (all_take n h) (pairs_take n hs)

no_element : {A : Type 0} (p : A → Bool) (xs : List A) → list_any p xs ≡ false → AllOf (λ x. p x ≡ false) xs
no_element p [] e = none
no_element p (x ∷ xs) e = let q = or_none (p x) (list_any p xs) e in more q.0 (no_element p xs q.1)

at_element : {A : Type 0} {P : A → Type 0} (xs : List A) (k : ℕ) (x : A) → AllOf P xs → slice_get xs k ≡ Some x → P x
at_element [] k x h e = absurd cc
at_element {P = P} (y ∷ ys) zero x (more h hs) e = subst P (some_is e) h
at_element (y ∷ ys) (suc k) x (more h hs) e = at_element ys k x hs e

passes : {A : Type 0} (p : A → Bool) (xs : List A) (x : A) → find p xs ≡ Some x → p x ≡ true
passes p [] x e = absurd cc
passes p (y ∷ ys) x e = by (p y) refl (λ e. passes p ys x e) e
  where
    by : (b : Bool) → p y ≡ b → (find p ys ≡ Some x → p x ≡ true) → cond b (Some y) (find p ys) ≡ Some x → p x ≡ true
    by true is later e = ap p (sym (some_is e)) ∙ is
    by false is later e = later e

-- ---- one variable

module _ (typed : Typed) (info : LoopInfo) (locals : ℕ) (body : TStmt) where
  abbrev loop : Loop
  loop = record { info = info; locals = locals; body = body }

  abbrev Good : Red → Type 0
  Good r = IsRedVariable typed loop r.at × (only_updates r.op r.at body ≡ true)

  abbrev Apart : Red → Red → Type 0
  Apart r q = r.at ≢ q.at

  -- what the tests on a variable and its operator say
  record Tested (r : Red) : Type 0 where
    variable : is_variable typed info r.at ≡ true
    free : is_counter_or_bound info r.at ≡ false
    untaken : is_taken typed r.at ≡ false
    used : is_misused typed body r.op r.at ≡ false

  int_kind : (v : TLocal) (k : Kind) → v.kind ≡ k → is_kind k ≡ true → v.kind ≡ kind.Int
  int_kind v kind.Int is e = is
  int_kind v kind.Ptr is e = absurd cc

  apart_from : (m n : ℕ) → (m == n) ≡ false → m ≢ n
  apart_from m n f e = true≢false (sym (eq-eqb m n e) ∙ f)

  red_local : (k : ℕ) → is_local_of info (slice_get typed.funcs info.func) k ≡ true → is_counter_or_bound info (Local k) ≡ false → IsRedLocal typed loop k
  red_local k e free = by (slice_get typed.funcs info.func) refl e
    where
      of : (f : TFunc) → slice_get typed.funcs info.func ≡ Some f → (m : Option TLocal) → slice_get f.locals k ≡ m → loops.is_int_local m ≡ true
          → is_outside info k ≡ true → IsRedLocal typed loop k
      of f stands None at int outside = absurd cc
      of f stands (Some v) at int outside = record {
        integer = (f, v, stands, at, int_kind v v.kind refl int);
        outside = not_true (nat_le info.first k && nat_lt k info.last) outside;
        no_counter = apart_from k info.counter (or_none (k == info.counter) (is_bound info.bound k) free).0;
        no_bound = (or_none (k == info.counter) (is_bound info.bound k) free).1;
      }

      by : (m : Option TFunc) → slice_get typed.funcs info.func ≡ m → is_local_of info m k ≡ true → IsRedLocal typed loop k
      by None stands e = absurd cc
      by (Some f) stands e = let q = and_parts (is_integer f.locals k) (is_outside info k) e in of f stands (slice_get f.locals k) refl q.0 q.1

  -- where no function passes the test, none of this number does
  none_from : (test : ℕ → TFunc → Bool) (n k : ℕ) (fs : List TFunc) (f : TFunc) → any_from test n fs ≡ false → slice_get fs k ≡ Some f → test (n + k) f ≡ false
  none_from test n k [] f e at = absurd cc
  none_from test n zero (g ∷ fs) f e at = (λ t. test (add-zero n t) (sym (some_is at) t)) ∙ (or_none (test n g) (any_from test (n + 1) fs) e).0
  none_from test n (suc k) (g ∷ fs) f e at =
      ap (λ m. test m f) (next n k) ∙ none_from test (n + 1) k fs f (or_none (test n g) (any_from test (n + 1) fs) e).1 at
    where
      next : (n k : ℕ) → n + suc k ≡ n + 1 + k
      next n k = omega arith

  second_false : (a b : Bool) → a ≡ true → (a && b) ≡ false → b ≡ false
  second_false true b is e = e
  second_false false b is e = absurd cc

  red_global : (k : ℕ) → is_integer_global (slice_get typed.globals k) ≡ true → is_taken typed (Word (Global k) 0) ≡ false
      → is_mentioned_there typed body (Word (Global k) 0) ≡ false → IsRedGlobal typed loop k
  red_global k int untaken unreached = record {
    integer = by (slice_get typed.globals k) refl int;
    untaken = all_told (no_element (λ func. takes_in (Word (Global k) 0) (terms_of func.body)) typed.funcs untaken);
    unreached = λ f func r at.
        second_false (is_reached typed body f) (mentions_in (Word (Global k) 0) (terms_of func.body)) (is_found typed body r)
        (ap (λ n. is_reached typed body n && mentions_in (Word (Global k) 0) (terms_of func.body)) (sym (zero-add f))
        ∙ none_from (λ n g. is_reached typed body n && mentions_in (Word (Global k) 0) (terms_of g.body)) 0 f typed.funcs func unreached at);
  }
    where
      of : (g : TGlobal) → slice_get typed.globals k ≡ Some g → (m : Option Kind) → g.scalar ≡ m → scalar_is_int m ≡ true
          → (g : TGlobal) × (slice_get typed.globals k ≡ Some g) × (g.scalar ≡ Some kind.Int)
      of g at None is e = absurd cc
      of g at (Some kind.Int) is e = (g, at, is)
      of g at (Some kind.Ptr) is e = absurd cc

      by : (m : Option TGlobal) → slice_get typed.globals k ≡ m → is_integer_global m ≡ true
          → (g : TGlobal) × (slice_get typed.globals k ≡ Some g) × (g.scalar ≡ Some kind.Int)
      by (Some g) at e = of g at g.scalar refl e
      by None at e = absurd cc

  red_object : (o : Obj) (w : ℕ) → is_integer_object typed o w ≡ true → is_taken typed (Word o w) ≡ false → is_mentioned_there typed body (Word o w) ≡ false
      → IsRedObject typed loop o w
  red_object (Global k) w int untaken unreached =
      let q = and_parts (is_integer_global (slice_get typed.globals k)) (w == 0) int in
      let is = eqb-true w 0 q.1 in (
        red_global k q.0 (subst (λ v. is_taken typed (Word (Global k) v) ≡ false) is untaken) (subst (λ v. is_mentioned_there typed body (Word (Global k) v)
            ≡ false) is unreached),
        is,
      )
  red_object (Serial k) w int untaken unreached = absurd cc
  red_object (Iter e j k) w int untaken unreached = absurd cc

  red_variable : (a : Addr) → is_variable typed info a ≡ true → is_counter_or_bound info a ≡ false → is_taken typed a ≡ false
      → is_mentioned_there typed body a ≡ false → IsRedVariable typed loop a
  red_variable (Local k) is free untaken unreached = red_local k is free
  red_variable (Word o w) is free untaken unreached = red_object o w is untaken unreached
  red_variable (Head o) is free untaken unreached = absurd cc

  good_red : (r : Red) → Tested r → Good r
  good_red r t =
      let q = or_none (not (only_updates r.op r.at body)) (is_mentioned_there typed body r.at) t.used in
      (red_variable r.at t.variable t.free t.untaken q.1, not_false (only_updates r.op r.at body) q.0)
    where
      not_false : (b : Bool) → not b ≡ false → b ≡ true
      not_false true e = refl
      not_false false e = absurd cc

  -- ---- lists of reductions

  abbrev Fit : List Red → Type 0
  Fit reds = AllOf Good reds × Pairs Apart reds

  is_accepted : {reds : List Red} → Fit reds → IsAccepted typed loop reds
  is_accepted h = record {
    distinct = pairs_told h.1;
    variables = all_told (all_map (λ r g. g.0) h.0);
    updated = all_told (all_map (λ r g. g.1) h.0);
  }

  unequal : (a b : Addr) → addr_eq a b ≡ false → a ≢ b
  unequal a b f e = true≢false (sym (addr_itself a) ∙ ap (addr_eq a) e ∙ f)

  -- ---- the loop's own

  once : (reds : List Red) → stand_twice reds ≡ false → Pairs Apart reds
  once [] e = alone
  once (r ∷ rs) e =
      let q = or_none (list_any (λ q. addr_eq r.at q.at) rs) (stand_twice rs) e in
      before (all_map (λ q f. unequal r.at q.at f) (no_element (λ q. addr_eq r.at q.at) rs q.0)) (once rs q.1)

  -- where no test holds
  no_test : (ts : List (Bool × NoteKind)) → first_kind ts ≡ None → AllOf (λ t. t.0 ≡ false) ts
  no_test [] e = none
  no_test (t ∷ ts) e = let q = by t.0 refl e in more q.0 (no_test ts q.1)
    where
      by : (b : Bool) → t.0 ≡ b → (if b then Some t.1 else first_kind ts) ≡ None → (t.0 ≡ false) × (first_kind ts ≡ None)
      by true is e = absurd cc
      by false is e = (is, e)

  record Unfaulted : Type 0 where
    once : stand_twice info.own.reds ≡ false
    free : list_any (λ r. is_counter_or_bound info r.at) info.own.reds ≡ false
    untaken : list_any (λ r. is_taken typed r.at) info.own.reds ≡ false
    used : list_any (λ r. is_misused typed body r.op r.at) info.own.reds ≡ false

  -- the tests on the reductions
  abbrev in_annotation : List (Bool × NoteKind)
  in_annotation =
      (stand_twice info.own.reds || list_any (λ r. is_counter_or_bound info r.at) info.own.reds, ReductionName)
      ∷ (list_any (λ r. is_taken typed r.at) info.own.reds, ReductionAddress)
      ∷ (list_any (λ r. is_misused typed body r.op r.at) info.own.reds, ReductionUsed)
      ∷ []

  unfaulted : wrong_in typed info body ≡ None → Unfaulted
  unfaulted e =
      by (no_test ((assigns info.counter body, IndexChanges) ∷ (assigns_bound info.bound body, BoundChanges) ∷ (
        has_return body
            || has_break body,
        Leaves,
      ) ∷ in_annotation) e)
    where
      by : {b c d : Bool × NoteKind} → AllOf (λ t. t.0 ≡ false) (b ∷ c ∷ d ∷ in_annotation) → Unfaulted
      by (more _ (more _ (more _ (more names (more taken (more used none)))))) =
          let q = or_none (stand_twice info.own.reds) (list_any (λ r. is_counter_or_bound info r.at) info.own.reds) names in
          record { once = q.0; free = q.1; untaken = taken; used = used }

  own_tested : {reds : List Red} → AllOf (λ r. is_variable typed info r.at ≡ true) reds → AllOf (λ r. is_counter_or_bound info r.at ≡ false) reds
      → AllOf (λ r. is_taken typed r.at ≡ false) reds
      → AllOf (λ r. is_misused typed body r.op r.at ≡ false) reds → AllOf Good reds
  own_tested none none none none = none
  own_tested (more {a = r} a as') (more b bs) (more c cs) (more d ds) =
      more (good_red r (record { variable = a; free = b; untaken = c; used = d })) (own_tested as' bs cs ds)

  -- ---- choices

  new_ones : (seen as' : List Addr) → AllOf (λ b. list_any (addr_eq b) seen ≡ false) (firsts seen as')
  new_ones seen [] = none
  new_ones seen (a ∷ as') = by (list_any (addr_eq a) seen) refl (new_ones seen as') (new_ones (a ∷ seen) as')
    where
      by : (c : Bool) → list_any (addr_eq a) seen ≡ c → AllOf (λ b. list_any (addr_eq b) seen ≡ false) (firsts seen as')
          → AllOf (λ b. list_any (addr_eq b) (a ∷ seen) ≡ false) (firsts (a ∷ seen) as')
          → AllOf (λ b. list_any (addr_eq b) seen ≡ false) (if c then firsts seen as' else a ∷ firsts (a ∷ seen) as')
      by true is h i = h
      by false is h i = more is (all_map (λ b e. (or_none (addr_eq b a) (list_any (addr_eq b) seen) e).1) i)

  firsts_apart : (seen as' : List Addr) → Pairs (λ a b. a ≢ b) (firsts seen as')
  firsts_apart seen [] = alone
  firsts_apart seen (a ∷ as') = by (list_any (addr_eq a) seen) (firsts_apart seen as') (firsts_apart (a ∷ seen) as')
    where
      by : (c : Bool) → Pairs (λ a b. a ≢ b) (firsts seen as') → Pairs (λ a b. a ≢ b) (firsts (a ∷ seen) as')
          → Pairs (λ a b. a ≢ b) (if c then firsts seen as' else a ∷ firsts (a ∷ seen) as')
      by true h i = h
      by false h i = before (all_map (λ b e same. unequal b a (or_none (addr_eq b a) (list_any (addr_eq b) seen) e).0 (sym same)) (new_ones (a ∷ seen) as')) i

  -- a reduction that is tried, and its variable
  record Tried (a : Addr) (r : Red) : Type 0 where
    at : a ≡ r.at
    good : Good r

  tried : (a : Addr) (r : Red) → reduction_of typed info body a ≡ Some r → Tried a r
  tried a r e = by (may_reduce typed info a) refl e
    where
      of : may_reduce typed info a ≡ true → (m : Option RedOp) → find (reduces typed info body a) operators ≡ m
          → option_map (λ op. record { op = op; at = a }) m ≡ Some r → Tried a r
      of may None is e = absurd cc
      of may (Some op) is e =
          let q = and_parts (is_variable typed info a && not (is_counter_or_bound info a)) (not (is_taken typed a)) may in
          let v = and_parts (is_variable typed info a) (not (is_counter_or_bound info a)) q.0 in
          let u = and_parts (not (is_misused typed body op a)) (has_update op a body) (passes (reduces typed info body a) operators op is) in
          subst (Tried a) (some_is {A = Red} e) (record {
            at = refl;
            good = good_red (record { op = op; at = a }) (record {
              variable = v.0;
              free = not_true (is_counter_or_bound info a) v.1;
              untaken = not_true (is_taken typed a) q.1;
              used = not_true (is_misused typed body op a) u.0;
            });
          })

      by : (b : Bool) → may_reduce typed info a ≡ b
          → (if b then option_map (λ op. record { op = op; at = a }) (find (reduces typed info body a) operators) else None) ≡ Some r → Tried a r
      by true may e = of may (find (reduces typed info body a) operators) refl e
      by false may e = absurd cc

  abbrev reductions : List Addr → List Red
  reductions as' = filter_map (reduction_of typed info body) as'

  all_tried : (as' : List Addr) → AllOf Good (reductions as')
  all_tried [] = none
  all_tried (a ∷ as') = by (reduction_of typed info body a) refl (all_tried as')
    where
      by : (m : Option Red) → reduction_of typed info body a ≡ m → AllOf Good (reductions as') → AllOf Good (cons_option m (reductions as'))
      by None is h = h
      by (Some r) is h = more (tried a r is).good h

  apart_later : (a : Addr) (r : Red) → a ≡ r.at → {as' : List Addr} → AllOf (λ b. a ≢ b) as' → AllOf (Apart r) (reductions as')
  apart_later a r at none = none
  apart_later a r at (more {a = b} {rest = as'} n ns) = by (reduction_of typed info body b) refl (apart_later a r at ns)
    where
      by : (m : Option Red) → reduction_of typed info body b ≡ m → AllOf (Apart r) (reductions as') → AllOf (Apart r) (cons_option m (reductions as'))
      by None is h = h
      by (Some q) is h = more (λ same. n (at ∙ same ∙ sym (tried b q is).at)) h

  tried_apart : {as' : List Addr} → Pairs (λ a b. a ≢ b) as' → Pairs Apart (reductions as')
  tried_apart alone = alone
  tried_apart (before {a = a} {rest = as'} n ns) = by (reduction_of typed info body a) refl (tried_apart ns)
    where
      by : (m : Option Red) → reduction_of typed info body a ≡ m → Pairs Apart (reductions as') → Pairs Apart (cons_option m (reductions as'))
      by None is h = h
      by (Some r) is h = before (apart_later a r (tried a r is).at n) h

  reductions_fit : Fit (reductions_of typed info body)
  reductions_fit =
      let names = firsts [] (variables body) in
      (all_take TRIED_REDUCTIONS (all_tried names), pairs_take TRIED_REDUCTIONS (tried_apart (firsts_apart [] (variables body))))

  each_alone : {rs : List Red} → AllOf Good rs → AllOf Fit (map (λ r. r ∷ []) rs)
  each_alone none = none
  each_alone (more h hs) = more (more h none, before none alone) (each_alone hs)

  together : (rs : List Red) → Fit rs → AllOf Fit (all_together rs)
  together [] h = none
  together (r ∷ []) h = none
  together (r ∷ q ∷ rs) h = more h none

  lists_fit : (rs : List Red) → Fit rs → AllOf Fit (reduction_lists rs)
  lists_fit rs h = more (none, alone) (all_append (each_alone h.0) (together rs h))

  abbrev FitChoice : Choice → Type 0
  FitChoice c = Fit c.reds

  in_policies : (reds : List Red) → Fit reds → (ps : List Policy) → AllOf FitChoice (flat_map (in_both_orders reds) ps)
  in_policies reds h [] = none
  in_policies reds h (p ∷ ps) = more h (more h (in_policies reds h ps))

  in_lists : {lists : List (List Red)} → AllOf Fit lists → AllOf FitChoice (flat_map with_reductions lists)
  in_lists none = none
  in_lists (more {a = reds} h hs) = all_append (in_policies reds h policies) (in_lists hs)

-- ---- the laws

-- a reduction of an annotation is one of a variable
noted_variable : (typed : Typed) (note : TNote) (info : LoopInfo) → note.func ≡ info.func → note.first ≡ info.first → (a : Addr) → IsNotedAt typed note a
    → is_variable typed info a ≡ true
noted_variable typed note info func first (Local k) h =
    let stands = ap (slice_get typed.funcs) (sym func) ∙ h.stands in
    ap (λ m. is_local_of info m k) stands
    ∙ and_both (int_of (slice_get h.func.locals k) h.integer) (outside_of k info.first info.last (subst (λ n. k + 1 ≤ n) first h.outside))
  where
    int_kind : (k : Kind) → is_one k kind.Int ≡ true → is_kind k ≡ true
    int_kind kind.Int e = refl
    int_kind kind.Ptr e = absurd cc

    int_of : (m : Option TLocal) → is_some_kind (local_kind m) kind.Int ≡ true → loops.is_int_local m ≡ true
    int_of (Some v) e = int_kind v.kind e
    int_of None e = absurd cc

    outside_of : (k first last : ℕ) → k + 1 ≤ first → not (nat_le first k && nat_lt k last) ≡ true
    outside_of k first last le = by (nat_le first k) refl
      where
        by : (b : Bool) → nat_le first k ≡ b → not (b && nat_lt k last) ≡ true
        by true e = let under = leb-true first k e in absurd (omega arith)
        by false e = refl
noted_variable typed note info func first (Word (Global k) w) h = and_both (int_of (slice_get typed.globals k) h.0) (eq-eqb w 0 h.1)
  where
    scalar : (m : Option Kind) → is_some_kind m kind.Int ≡ true → scalar_is_int m ≡ true
    scalar (Some kind.Int) e = refl
    scalar (Some kind.Ptr) e = absurd cc
    scalar None e = absurd cc

    int_of : (m : Option TGlobal) → is_int_global m ≡ true → is_integer_global m ≡ true
    int_of (Some g) e = scalar g.scalar e
    int_of None e = absurd cc
noted_variable typed note info func first (Word (Serial k) w) h = absurd h
noted_variable typed note info func first (Word (Iter e j k) w) h = absurd h
noted_variable typed note info func first (Head o) h = absurd h

module _ (typed : Typed) (info : LoopInfo) (e : EntryOf typed info) where
  accepted_by : {reds : List Red} → Fit typed info (length e.loop.func.locals) e.loop.loop.body reds → IsAcceptedFor typed info reds
  accepted_by h = record {
    loop = record { info = info; locals = length e.loop.func.locals; body = e.loop.loop.body };
    stands = loop_there typed info e;
    entry = refl;
    accepted = is_accepted typed info (length e.loop.func.locals) e.loop.loop.body h;
  }

  own_accepted : IsWellFormed typed → IsAcceptedFor typed info info.own.reds
  own_accepted wf =
      let u = unfaulted typed info (length e.loop.func.locals) e.loop.loop.body e.right in
      let noted : AllOf (IsNoted typed e.note) info.own.reds =
      subst (λ (i : LoopInfo). AllOf (IsNoted typed e.note) i.own.reds) e.is (at_element typed.loops info.number e.note wf.reductions e.noted) in
      accepted_by (
        own_tested typed info (length e.loop.func.locals) e.loop.loop.body
            (all_map (λ r h. noted_variable typed e.note info (ap (λ (i : LoopInfo). i.func) e.is) (ap (λ (i : LoopInfo). i.first) e.is) r.at h) noted)
            (no_element (λ r. is_counter_or_bound info r.at) info.own.reds u.free)
            (no_element (λ r. is_taken typed r.at) info.own.reds u.untaken)
            (no_element (λ r. is_misused typed e.loop.loop.body r.op r.at) info.own.reds u.used),
        once typed info (length e.loop.func.locals) e.loop.loop.body info.own.reds u.once,
      )

  choices_accepted : All (λ c. IsAcceptedFor typed info c.reds) (choices typed info)
  unfolding choices
  choices_accepted =
      all_told (all_map (λ c h. accepted_by h)
      (subst (λ m. AllOf (FitChoice typed info (length e.loop.func.locals) e.loop.loop.body) (choices_of typed info m)) (sym e.there)
      (in_lists typed info (length e.loop.func.locals) e.loop.loop.body
      (lists_fit typed info (length e.loop.func.locals) e.loop.loop.body (reductions_of typed info e.loop.loop.body)
      (reductions_fit typed info (length e.loop.func.locals) e.loop.loop.body)))))

-- what holds of the entries holds where there is no note fault
of_entries : (P : Typed → List LoopInfo → Type 0)
    → ((typed : Typed) (entries : List LoopInfo) → EntriesOf typed 0 (0 + length typed.loops) entries → IsWellFormed typed → P typed entries)
    → (q : Program) (typed : Typed) → Resolved q typed → note_fault typed ≡ None → P typed (infos typed)
of_entries P f q typed resolved unfaulted =
    let wf = resolved_is_well_formed q typed resolved in
    let n = no_fault (notes_of typed) unfaulted in
    subst (λ r. P typed (or_no_infos r)) (sym n.1) (f typed n.0 (entries_are typed n.0 wf.loops n.1) wf)

pub as_many_entries : (q : Program) (typed : Typed) → Resolved q typed → note_fault typed ≡ None → length (infos typed) ≡ length typed.loops
as_many_entries = of_entries
    (λ typed entries. length entries ≡ length typed.loops)
    (λ typed entries e wf. sym (zero-add (length entries)) ∙ numbered_length e.numbered ∙ zero-add (length typed.loops))

pub entry_at : (q : Program) (typed : Typed) → Resolved q typed → note_fault typed ≡ None → (n : ℕ) (info : LoopInfo) → slice_get (infos typed) n ≡ Some info
    → info.number ≡ n
entry_at = of_entries
    (λ typed entries. (n : ℕ) (info : LoopInfo) → slice_get entries n ≡ Some info → info.number ≡ n)
    (λ typed entries e wf n info at. numbered_at entries n info e.numbered at ∙ zero-add n)

pub own_reductions_are_accepted : (q : Program) (typed : Typed) → Resolved q typed → note_fault typed ≡ None
    → All (λ info. IsAcceptedFor typed info info.own.reds) (infos typed)
own_reductions_are_accepted = of_entries
    (λ typed entries. All (λ info. IsAcceptedFor typed info info.own.reds) entries)
    (λ typed entries e wf. all_told (all_map (λ info h. own_accepted typed info h wf) e.each))

pub choices_are_accepted : (q : Program) (typed : Typed) → Resolved q typed → note_fault typed ≡ None
    → All (λ info. All (λ c. IsAcceptedFor typed info c.reds) (choices typed info)) (infos typed)
choices_are_accepted = of_entries
    (λ typed entries. All (λ info. All (λ c. IsAcceptedFor typed info c.reds) (choices typed info)) entries)
    (λ typed entries e wf. all_told (all_map (λ info h. choices_accepted typed info h) e.each))
