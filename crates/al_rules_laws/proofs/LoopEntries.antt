-- Where there is no note fault, each entry is that of a loop that stands in the tree.
use Rattle.std.proofs.Common.{◌≡◌, ℕ, zero, suc, ◌+◌, Bool, true, false, if◌then◌else◌, List, [], ◌∷◌, ◌++◌, length, Option, Some, None, Result, Ok, option_and_then, slice_get, refl, sym, ap, ◌∙◌, subst, arith, add-zero, zero-add, All, ◌<◌}
use Rattle.std.proofs.lemmas.List.Elements.{All-nil, All-cons}
use Rattle.std.proofs.lemmas.Option.{slice_get_within}
use Rattle.al_source.specs.Steps.{and_then}
use Rattle.al_source.specs.declared.operators.BinOp.{BinOp}
use Rattle.al_source.specs.declared.operators.BinOp.TheVariants as op
use Rattle.al_core.specs.declared.choices.Bound.{Bound}
use Rattle.al_core.specs.declared.choices.Bound.TheVariants as bound
use Rattle.al_core.specs.declared.choices.LoopInfo.{LoopInfo}
use Rattle.al_core.specs.declared.typed_tree.TExpr.{TExpr, out-TExpr}
use Rattle.al_core.specs.declared.typed_tree.TPlace.{TPlace}
use Rattle.al_core.specs.declared.typed_tree.TExpr.TheOpen.{TExpr-F}
use Rattle.al_core.specs.declared.typed_tree.TStmt.{TStmt, out-TStmt}
use Rattle.al_core.specs.declared.typed_tree.TKind.{TKind, out-TKind}
use Rattle.al_core.specs.declared.typed_tree.TKind.TheOpen.{TKind-F}
use Rattle.al_core.specs.declared.typed_tree.TLocal.{TLocal}
use Rattle.al_core.specs.declared.typed_tree.TNote.{TNote}
use Rattle.al_core.specs.declared.typed_tree.TFunc.{TFunc}
use Rattle.al_core.specs.declared.typed_tree.Typed.{Typed}
use Rattle.al_core.specs.Loops.{ForLoop, for_loops_in, PlacedLoop, program_loops, Start, start_of, Loop, started_loop, noted_loop, loop_at}
use Rattle.al_core.specs.Loops as meaning
use Rattle.al_rules.specs.declared.faults.NoteKind.{NoteKind}
use Rattle.al_rules.specs.declared.faults.NoteCause.{NoteCause}
use Rattle.al_rules.specs.Names.{AllOf, none, more}
use Rattle.al_rules.specs.ForLoops.{is_integer, form_by, form_of, counter_in, counter_of, counts, is_local, bound_in, bound_by, bound_of}
use Rattle.al_rules.specs.Notes.{wrong_in, info_of, unless_wrong, formed, entry_of, entries, notes_of}
use Rattle.al_rules.specs.WellFormed.{Standing, counted_all, loops_from, notes_from}
use Rattle.al_rules_laws.proofs.Logic.{then_ok, some_is}
use Rattle.al_rules_laws.proofs.TreeLoops.{Stand, loops_stand, StandIn, nothing, one, program_stands}
use Rattle.al_rules_laws.proofs.TreeLoops as tree

-- ---- lists

pub all_map : {A : Type 0} {P Q : A → Type 0} → ((a : A) → P a → Q a) → {xs : List A} → AllOf P xs → AllOf Q xs
all_map f none = none
all_map f (more {a = a} h hs) = more (f a h) (all_map f hs)

pub all_append : {A : Type 0} {P : A → Type 0} {xs ys : List A} → AllOf P xs → AllOf P ys → AllOf P (xs ++ ys)
all_append none k = k
all_append (more h hs) k = more h (all_append hs k)

all_split : {A : Type 0} {P : A → Type 0} (xs ys : List A) → AllOf P (xs ++ ys) → AllOf P xs × AllOf P ys
all_split [] ys h = (none, h)
all_split (x ∷ xs) ys (more h hs) = let q = all_split xs ys hs in (more h q.0, q.1)

pub all_told : {A : Type 0} {P : A → Type 0} {xs : List A} → AllOf P xs → All P xs
all_told {P = P} none = All-nil P
all_told {P = P} (more {a = a} {rest = rest} h hs) = All-cons P a rest h (all_told hs)

-- ---- the numbers of loops

-- what is numbered one after another, from one number to below another
pub data Numbered {A : Type 0} (number : A → ℕ) : ℕ → List A → ℕ → Type 0 where
  done : {n : ℕ} → Numbered number n [] n
  next : {n m : ℕ} {a : A} {rest : List A} → number a ≡ n → Numbered number (n + 1) rest m → Numbered number n (a ∷ rest) m

pub numbered_length : {A : Type 0} {number : A → ℕ} {n m : ℕ} {xs : List A} → Numbered number n xs m → n + length xs ≡ m
numbered_length {n = n} done = add-zero n
numbered_length {n = n} (next {rest = rest} e d) = later n (length rest) ∙ numbered_length d
  where
    later : (n k : ℕ) → n + suc k ≡ n + 1 + k
    later n k = omega arith

pub numbered_at : {A : Type 0} {number : A → ℕ} (xs : List A) {n m : ℕ} (k : ℕ) (x : A) → Numbered number n xs m → slice_get xs k ≡ Some x → number x ≡ n + k
numbered_at [] k x d at = absurd cc
numbered_at {number = number} (y ∷ ys) {n = n} zero x (next e d) at = ap number (sym (some_is at)) ∙ e ∙ sym (add-zero n)
numbered_at (y ∷ ys) {n = n} (suc k) x (next e d) at = numbered_at ys k x d at ∙ later n k
  where
    later : (n k : ℕ) → n + 1 + k ≡ n + suc k
    later n k = omega arith

abbrev pub entry_number : LoopInfo → ℕ
entry_number info = info.number

-- ---- the places of loops

abbrev loop_number : PlacedLoop → ℕ
loop_number l = l.loop.number

module _ (typed : Typed) where
  numbered_loops : (n : ℕ) (notes : List TNote) (ls : List PlacedLoop) → StandIn typed (notes_from n notes) ls → Numbered loop_number n ls (n + length notes)
  numbered_loops n [] _ nothing = subst (λ m. Numbered loop_number n [] m) (sym (add-zero n)) done
  numbered_loops n (note ∷ notes) _ (one {l = l} {ls = ls} is stands p) =
      next (sym is) (subst (λ m. Numbered loop_number (n + 1) ls m) (later n (length notes)) (numbered_loops (n + 1) notes ls p))
    where
      later : (n k : ℕ) → n + 1 + k ≡ n + suc k
      later n k = omega arith

  noted_stand : loops_from 0 typed.funcs ≡ notes_from 0 typed.loops → StandIn typed (notes_from 0 typed.loops) (program_loops typed)
  noted_stand loops = subst (λ sts. StandIn typed sts (program_loops typed)) loops (program_stands typed)

  loops_numbered : loops_from 0 typed.funcs ≡ notes_from 0 typed.loops → Numbered loop_number 0 (program_loops typed) (0 + length typed.loops)
  loops_numbered loops = numbered_loops 0 typed.loops (program_loops typed) (noted_stand loops)

  pub as_many_loops : loops_from 0 typed.funcs ≡ notes_from 0 typed.loops → length (program_loops typed) ≡ length typed.loops
  as_many_loops loops = sym (zero-add (length (program_loops typed))) ∙ numbered_length (loops_numbered loops) ∙ zero-add (length typed.loops)

  pub loop_in_place : loops_from 0 typed.funcs ≡ notes_from 0 typed.loops → (n : ℕ) (l : PlacedLoop)
      → slice_get (program_loops typed) n ≡ Some l → l.loop.number ≡ n
  loop_in_place loops n l at = numbered_at (program_loops typed) n l (loops_numbered loops) at ∙ zero-add n

-- ---- the notes of loops

abbrev pub Told : Typed → Standing → Type 0
Told typed st = (note : TNote) × (slice_get typed.loops st.number ≡ Some note) × (note.func ≡ st.func)

notes_told : (typed : Typed) (n : ℕ) (notes : List TNote) → ((k : ℕ) (x : TNote) → slice_get notes k ≡ Some x → slice_get typed.loops (n + k) ≡ Some x)
    → AllOf (Told typed) (notes_from n notes)
notes_told typed n [] h = none
notes_told typed n (note ∷ notes) h =
    more (note, ap (slice_get typed.loops) (omega arith) ∙ h 0 note refl, refl)
    (notes_told typed (n + 1) notes (λ k x e. ap (slice_get typed.loops) (omega arith) ∙ h (suc k) x e))

-- each loop of a function has its note
pub told_at : (typed : Typed) (n k : ℕ) (fs : List TFunc) (f : TFunc) → slice_get fs k ≡ Some f → AllOf (Told typed) (loops_from n fs)
    → AllOf (Told typed) ((counted_all (n + k) f.body).loops f.params)
told_at typed n k [] f at t = absurd cc
told_at typed n zero (g ∷ fs) f at t =
    subst (λ (h : TFunc). AllOf (Told typed) ((counted_all (n + 0) h.body).loops h.params)) (some_is at)
    (subst (λ m. AllOf (Told typed) ((counted_all m g.body).loops g.params)) (sym (add-zero n))
    (all_split ((counted_all n g.body).loops g.params) (loops_from (n + 1) fs) t).0)
told_at typed n (suc k) (g ∷ fs) f at t =
    subst (λ m. AllOf (Told typed) ((counted_all m f.body).loops f.params)) (later n k)
    (told_at typed (n + 1) k fs f at (all_split ((counted_all n g.body).loops g.params) (loops_from (n + 1) fs) t).1)
  where
    later : (n k : ℕ) → n + 1 + k ≡ n + suc k
    later n k = omega arith

within : (typed : Typed) {func : ℕ} {sts : List Standing} {ls : List ForLoop} → Stand func sts ls → AllOf (Told typed) sts
    → AllOf (λ l. l.number < length typed.loops) ls
within typed tree.none none = none
within typed (tree.more {l = l} same f p) (more h hs) =
    more (subst (λ n. n < length typed.loops) same (slice_get_within typed.loops _ h.0 h.1)) (within typed p hs)

pub all_loops_told : (typed : Typed) → loops_from 0 typed.funcs ≡ notes_from 0 typed.loops → AllOf (Told typed) (loops_from 0 typed.funcs)
all_loops_told typed loops = subst (AllOf (Told typed)) (sym loops) (notes_told typed 0 typed.loops (λ k x e. ap (slice_get typed.loops) (omega arith) ∙ e))

pub loops_told : (typed : Typed) → loops_from 0 typed.funcs ≡ notes_from 0 typed.loops → (k : ℕ) (f : TFunc) → slice_get typed.funcs k ≡ Some f
    → AllOf (λ l. l.number < length typed.loops) (for_loops_in f.body)
loops_told typed loops k f at = within typed (loops_stand (0 + k) f.body f.params) (told_at typed 0 k typed.funcs f at (all_loops_told typed loops))

-- ---- entries

-- the loop that an entry is of, with its note and its form
pub record EntryOf (typed : Typed) (info : LoopInfo) : Type 0 where
  pub loop : PlacedLoop
  pub note : TNote
  pub form : ℕ × Bound
  pub noted : slice_get typed.loops info.number ≡ Some note
  pub there : slice_get (program_loops typed) info.number ≡ Some loop
  pub stands : slice_get typed.funcs note.func ≡ Some loop.func
  pub formed : form_of loop.func.locals loop.loop ≡ Some form
  pub right : wrong_in typed info loop.loop.body ≡ None
  pub is : info_of info.number note form ≡ info

module _ (typed : Typed) where
  -- at this place among the notes and the loops
  record At (n : ℕ) (l : PlacedLoop) (note : TNote) : Type 0 where
    noted : slice_get typed.loops n ≡ Some note
    there : slice_get (program_loops typed) n ≡ Some l
    stands : slice_get typed.funcs note.func ≡ Some l.func

  entry_at : (n : ℕ) (l : PlacedLoop) (note : TNote) → At n l note → (form : ℕ × Bound) → form_of l.func.locals l.loop ≡ Some form
      → wrong_in typed (info_of n note form) l.loop.body ≡ None → EntryOf typed (info_of n note form)
  entry_at n l note at form is right = record {
    loop = l;
    note = note;
    form = form;
    noted = at.noted;
    there = at.there;
    stands = at.stands;
    formed = is;
    right = right;
    is = refl;
  }

  abbrev EntryHere : ℕ → LoopInfo → Type 0
  EntryHere n info = EntryOf typed info × (info.number ≡ n)

  one_entry : (n : ℕ) (l : PlacedLoop) (note : TNote) (info : LoopInfo) → At n l note → entry_of typed n l note ≡ Ok info → EntryHere n info
  one_entry n l note info at e = by (form_of l.func.locals l.loop) refl e
    where
      right : (form : ℕ × Bound) → form_of l.func.locals l.loop ≡ Some form → (wrong : Option NoteKind)
          → wrong_in typed (info_of n note form) l.loop.body ≡ wrong → unless_wrong (info_of n note form) wrong ≡ Ok info → EntryHere n info
      right form is (Some kind) w e = absurd cc
      right form is None w e = subst (EntryHere n) (same e) (entry_at n l note at form is w, refl)
        where
          same : ◌≡◌ {A = Result LoopInfo NoteCause} (Ok (info_of n note form)) (Ok info) → info_of n note form ≡ info
          same e = cc

      by : (m : Option (ℕ × Bound)) → form_of l.func.locals l.loop ≡ m → formed typed l.loop.body n note m ≡ Ok info → EntryHere n info
      by None is e = absurd cc
      by (Some form) is e = right form is (wrong_in typed (info_of n note form) l.loop.body) refl e

  pub record EntriesOf (n m : ℕ) (infos : List LoopInfo) : Type 0 where
    pub each : AllOf (EntryOf typed) infos
    pub numbered : Numbered entry_number n infos m

  all_entries : (n : ℕ) (notes : List TNote) (ls : List PlacedLoop) (infos : List LoopInfo) → StandIn typed (notes_from n notes) ls
      → ((k : ℕ) (x : TNote) → slice_get notes k ≡ Some x → slice_get typed.loops (n + k) ≡ Some x)
      → ((k : ℕ) (l : PlacedLoop) → slice_get ls k ≡ Some l → slice_get (program_loops typed) (n + k) ≡ Some l)
      → entries typed n ls notes ≡ Ok infos → EntriesOf n (n + length notes) infos
  all_entries n [] _ infos nothing h g e =
      subst (EntriesOf n (n + 0)) (same e) (record { each = none; numbered = subst (λ m. Numbered entry_number n [] m) (sym (add-zero n)) done })
    where
      same : ◌≡◌ {A = Result (List LoopInfo) NoteCause} (Ok []) (Ok infos) → [] ≡ infos
      same e = cc
  all_entries n (note ∷ notes) _ infos (one {l = l} {ls = ls} numbered stands p) h g e =
      let a = then_ok (entry_of typed n l note) (λ info. and_then (entries typed (n + 1) ls notes) (λ infos. Ok (info ∷ infos))) infos e in
      let b = then_ok (entries typed (n + 1) ls notes) (λ infos. Ok (a.0 ∷ infos)) infos a.2 in
      let at : At n l note = record {
        noted = ap (slice_get typed.loops) (sym (add-zero n)) ∙ h 0 note refl;
        there = ap (slice_get (program_loops typed)) (sym (add-zero n)) ∙ g 0 l refl;
        stands = stands;
      } in
      let first = one_entry n l note a.0 at a.1 in
      let rest = all_entries (n + 1) notes ls b.0 p (λ k x e. ap (slice_get typed.loops) (later n k)
      ∙ h (suc k) x e) (λ k x e. ap (slice_get (program_loops typed)) (later n k) ∙ g (suc k) x e) b.1 in
      subst (EntriesOf n (n + suc (length notes))) (same (a.0 ∷ b.0) b.2) (record {
        each = more first.0 rest.each;
        numbered = next first.1 (subst (λ m. Numbered entry_number (n + 1) b.0 m) (later n (length notes)) rest.numbered);
      })
    where
      later : (n k : ℕ) → n + 1 + k ≡ n + suc k
      later n k = omega arith

      same : (us : List LoopInfo) → ◌≡◌ {A = Result (List LoopInfo) NoteCause} (Ok us) (Ok infos) → us ≡ infos
      same us e = cc

  pub entries_are : (infos : List LoopInfo) → loops_from 0 typed.funcs ≡ notes_from 0 typed.loops → notes_of typed ≡ Ok infos
      → EntriesOf 0 (0 + length typed.loops) infos
  unfolding notes_of
  entries_are infos loops e =
      all_entries 0 typed.loops (program_loops typed) infos
      (noted_stand typed loops)
      (λ k x e. ap (slice_get typed.loops) (zero-add k) ∙ e)
      (λ k l e. ap (slice_get (program_loops typed)) (zero-add k) ∙ e)
      e

-- ---- the loop of an entry

-- what its form says of a loop
pub record Formed (locals : List TLocal) (l : ForLoop) (form : ℕ × Bound) : Type 0 where
  pub counter : counter_of locals l.first ≡ Some form.0
  pub bound : bound_of locals form.0 l.test ≡ Some form.1

pub form_parts : (locals : List TLocal) (l : ForLoop) (form : ℕ × Bound) → form_of locals l ≡ Some form → Formed locals l form
form_parts locals l form e = by (counter_of locals l.first) refl e
  where
    in_third : (counter : ℕ) (b : Bound) → counter_of locals l.first ≡ Some counter → bound_of locals counter l.test ≡ Some b → (c : Bool)
        → (if c then Some (counter, b) else None) ≡ Some form → Formed locals l form
    in_third counter b is at true e = subst (Formed locals l) (some_is {A = ℕ × Bound} e) (record { counter = is; bound = at })
    in_third counter b is at false e = absurd cc

    in_test : (counter : ℕ) (m : Option Bound) → counter_of locals l.first ≡ Some counter → bound_of locals counter l.test ≡ m
        → option_and_then (λ bound. if counts counter l.third then Some (counter, bound) else None) m ≡ Some form → Formed locals l form
    in_test counter (Some b) is at e = in_third counter b is at (counts counter l.third) e
    in_test counter None is at e = absurd cc

    by : (m : Option ℕ) → counter_of locals l.first ≡ m → option_and_then (form_by locals l) m ≡ Some form → Formed locals l form
    by (Some counter) is e = in_test counter (bound_of locals counter l.test) is refl e
    by None is e = absurd cc

bound_inside : (locals : List TLocal) (counter : ℕ) (y : TExpr-F TExpr TPlace) (b : Bound) → bound_in locals counter y ≡ Some b → meaning.bound_in y ≡ b
bound_inside locals counter (TExpr-F.Number n) b e = some_is e
bound_inside locals counter (TExpr-F.Local n) b e = by _ e
  where
    by : (c : Bool) → (if c then Some (bound.Local n) else None) ≡ Some b → bound.Local n ≡ b
    by true e = some_is e
    by false e = absurd cc
bound_inside locals counter (TExpr-F.Load want p) b e = absurd cc
bound_inside locals counter (TExpr-F.Addr p) b e = absurd cc
bound_inside locals counter (TExpr-F.Unary o x) b e = absurd cc
bound_inside locals counter (TExpr-F.Binary o x y) b e = absurd cc
bound_inside locals counter (TExpr-F.Same equal x y) b e = absurd cc
bound_inside locals counter (TExpr-F.And x y) b e = absurd cc
bound_inside locals counter (TExpr-F.Or x y) b e = absurd cc
bound_inside locals counter (TExpr-F.Call f xs) b e = absurd cc
bound_inside locals counter (TExpr-F.Input x) b e = absurd cc
bound_inside locals counter TExpr-F.Inputs b e = absurd cc
bound_inside locals counter (TExpr-F.Choose o x y) b e = absurd cc
bound_inside locals counter (TExpr-F.Calloc x size) b e = absurd cc
bound_inside locals counter (TExpr-F.Free x) b e = absurd cc

pub bound_less : (locals : List TLocal) (counter : ℕ) (o : BinOp) (x y : TExpr) (b : Bound) → bound_by locals counter (TExpr-F.Binary o x y) ≡ Some b
    → bound_in locals counter (out-TExpr y) ≡ Some b
bound_less locals counter op.Lt x y b e = by (is_local counter (out-TExpr x)) e
  where
    by : (c : Bool) → (if c then bound_in locals counter (out-TExpr y) else None) ≡ Some b → bound_in locals counter (out-TExpr y) ≡ Some b
    by true e = e
    by false e = absurd cc
bound_less locals counter op.Mul x y b e = absurd cc
bound_less locals counter op.Div x y b e = absurd cc
bound_less locals counter op.Rem x y b e = absurd cc
bound_less locals counter op.Add x y b e = absurd cc
bound_less locals counter op.Sub x y b e = absurd cc
bound_less locals counter op.Shl x y b e = absurd cc
bound_less locals counter op.Shr x y b e = absurd cc
bound_less locals counter op.Le x y b e = absurd cc
bound_less locals counter op.Gt x y b e = absurd cc
bound_less locals counter op.Ge x y b e = absurd cc
bound_less locals counter op.Eq x y b e = absurd cc
bound_less locals counter op.Ne x y b e = absurd cc
bound_less locals counter op.BitAnd x y b e = absurd cc
bound_less locals counter op.BitXor x y b e = absurd cc
bound_less locals counter op.BitOr x y b e = absurd cc

right_is : (locals : List TLocal) (counter : ℕ) (y : TExpr-F TExpr TPlace) (b : Bound) → bound_by locals counter y ≡ Some b → meaning.right_side y ≡ b
right_is locals counter (TExpr-F.Binary o x y) b e = bound_inside locals counter (out-TExpr y) b (bound_less locals counter o x y b e)
right_is locals counter (TExpr-F.Number n) b e = absurd cc
right_is locals counter (TExpr-F.Local n) b e = absurd cc
right_is locals counter (TExpr-F.Load want p) b e = absurd cc
right_is locals counter (TExpr-F.Addr p) b e = absurd cc
right_is locals counter (TExpr-F.Unary o x) b e = absurd cc
right_is locals counter (TExpr-F.Same equal x y) b e = absurd cc
right_is locals counter (TExpr-F.And x y) b e = absurd cc
right_is locals counter (TExpr-F.Or x y) b e = absurd cc
right_is locals counter (TExpr-F.Call f xs) b e = absurd cc
right_is locals counter (TExpr-F.Input x) b e = absurd cc
right_is locals counter TExpr-F.Inputs b e = absurd cc
right_is locals counter (TExpr-F.Choose o x y) b e = absurd cc
right_is locals counter (TExpr-F.Calloc x size) b e = absurd cc
right_is locals counter (TExpr-F.Free x) b e = absurd cc

same_bound : (locals : List TLocal) (counter : ℕ) (test : Option TExpr) (b : Bound) → bound_of locals counter test ≡ Some b → meaning.bound_of test ≡ b
same_bound locals counter (Some test) b e = right_is locals counter (out-TExpr test) b e
same_bound locals counter None b e = absurd cc

-- the counter is the local that the first part sets
start_inside : (locals : List TLocal) (line : ℕ) (x : TKind-F TKind TStmt) (k : ℕ) → counter_in locals x ≡ Some k
    → (start : Start) × (meaning.start_in line x ≡ Some start) × (start.counter ≡ k)
start_inside locals line (TKind-F.SetLocal n e) k is = (record { counter = n; value = e; line = line }, refl, by (is_integer locals n) is)
  where
    by : (b : Bool) → (if b then Some n else None) ≡ Some k → n ≡ k
    by true is = some_is is
    by false is = absurd cc
start_inside locals line TKind-F.Empty k is = absurd cc
start_inside locals line (TKind-F.Store p e) k is = absurd cc
start_inside locals line (TKind-F.UpdateLocal op n e) k is = absurd cc
start_inside locals line (TKind-F.UpdateAt op p e) k is = absurd cc
start_inside locals line (TKind-F.Call e) k is = absurd cc
start_inside locals line (TKind-F.Print format es) k is = absurd cc
start_inside locals line (TKind-F.If e a b) k is = absurd cc
start_inside locals line (TKind-F.While e a) k is = absurd cc
start_inside locals line (TKind-F.For first test third body number) k is = absurd cc
start_inside locals line (TKind-F.Block ss) k is = absurd cc
start_inside locals line (TKind-F.Return e) k is = absurd cc
start_inside locals line TKind-F.Break k is = absurd cc
start_inside locals line TKind-F.Continue k is = absurd cc

start_there : (locals : List TLocal) (first : Option TStmt) (k : ℕ) → counter_of locals first ≡ Some k
    → (start : Start) × (start_of first ≡ Some start) × (start.counter ≡ k)
start_there locals (Some s) k is = start_inside locals (out-TStmt s).line (out-TKind (out-TStmt s).kind) k is
start_there locals None k is = absurd cc

-- The loop in the tree has this entry and this body.
pub loop_there : (typed : Typed) (info : LoopInfo) (e : EntryOf typed info)
    → loop_at typed info.number ≡ Some (record { info = info; locals = length e.loop.func.locals; body = e.loop.loop.body })
loop_there typed info e =
    ap (λ m. noted_loop info.number m (slice_get (program_loops typed) info.number)) e.noted
    ∙ ap (noted_loop info.number (Some e.note)) e.there
    ∙ ap (started_loop info.number e.note e.loop) start.1
    ∙ (λ t. Some (record { info = entry (start.2 t) (bounds t); locals = length e.loop.func.locals; body = e.loop.loop.body }))
    ∙ ap (λ (i : LoopInfo). Some (record { info = i; locals = length e.loop.func.locals; body = e.loop.loop.body })) e.is
  where
    parts : Formed e.loop.func.locals e.loop.loop e.form
    parts = form_parts e.loop.func.locals e.loop.loop e.form e.formed

    start : (start : Start) × (start_of e.loop.loop.first ≡ Some start) × (start.counter ≡ e.form.0)
    start = start_there e.loop.func.locals e.loop.loop.first e.form.0 parts.counter

    bounds : meaning.bound_of e.loop.loop.test ≡ e.form.1
    bounds = same_bound e.loop.func.locals e.form.0 e.loop.loop.test e.form.1 parts.bound

    entry : ℕ → Bound → LoopInfo
    entry counter b = info_of info.number e.note (counter, b)
