-- What a step of the walk does to the locals, the loops and the names so far, where the names so far stand for locals.
use Rattle.std.proofs.Common.{◌≡◌, ℕ, zero, suc, ◌+◌, ◌<◌, ◌≤◌, max, List, [], ◌∷◌, ◌++◌, length, Option, Some, None, option_map, slice_get, slice_set, refl, sym, ap, ◌∙◌, subst, arith, append_assoc, append-nil, length-append, le_trans, le-add_right, le_of_eq, zero-add}
use Rattle.al_source.specs.declared.source_tree.CType.{CType}
use Rattle.al_core.specs.declared.choices.Choice.{Choice}
use Rattle.al_core.specs.declared.choices.Red.{Red}
use Rattle.al_core.specs.declared.values.Addr.{Addr}
use Rattle.al_core.specs.declared.values.Addr.TheVariants as addr
use Rattle.al_core.specs.declared.values.Kind.{Kind}
use Rattle.al_core.specs.declared.typed_tree.TLocal.{TLocal}
use Rattle.al_core.specs.declared.typed_tree.TNote.{TNote}
use Rattle.al_core.specs.declared.typed_tree.Typed.{Typed}
use Rattle.al_rules.specs.Names.{Name, AllOf, none, more}
use Rattle.al_rules.specs.Types.{kind_of}
use Rattle.al_rules.specs.Scopes.{Binding, in_scope, nested}
use Rattle.al_rules.specs.Walks.{Progress, with_end, local_of, or_integer}
use Rattle.al_rules.specs.WellFormed.{Standing, Counted, none_counted, both_counted, notes_from, for_counted, IsNoted, IsNotedAt}
use Rattle.al_rules_laws.proofs.Logic.{some_is}
use Rattle.al_rules_laws.proofs.WalkFacts.{added, begun_loop, ended_loop, scoped}
use Rattle.al_rules_laws.proofs.FormedExpressions.{Placed}

-- ---- lists

pub get_front : {A : Type 0} (xs ys : List A) (k : ℕ) (x : A) → slice_get xs k ≡ Some x → slice_get (xs ++ ys) k ≡ Some x
get_front [] ys k x e = absurd cc
get_front (z ∷ zs) ys zero x e = e
get_front (z ∷ zs) ys (suc k) x e = get_front zs ys k x e

pub get_last : {A : Type 0} (xs ys : List A) (x : A) → slice_get (xs ++ x ∷ ys) (length xs) ≡ Some x
get_last [] ys x = refl
get_last (z ∷ zs) ys x = get_last zs ys x

set_last : {A : Type 0} (xs ys : List A) (x y : A) → slice_set (xs ++ x ∷ ys) (length xs) y ≡ xs ++ y ∷ ys
set_last [] ys x y = refl
set_last (z ∷ zs) ys x y = ap (λ us. z ∷ us) (set_last zs ys x y)

-- one list goes on as another
pub record Prefix {A : Type 0} (xs ys : List A) : Type 0 where
  pub rest : List A
  pub is : xs ++ rest ≡ ys

pub prefix_refl : {A : Type 0} (xs : List A) → Prefix xs xs
prefix_refl xs = record { rest = []; is = append-nil xs }

pub prefix_trans : {A : Type 0} {xs ys zs : List A} → Prefix xs ys → Prefix ys zs → Prefix xs zs
prefix_trans {xs = xs} p q = record { rest = p.rest ++ q.rest; is = sym (append_assoc xs p.rest q.rest) ∙ ap (λ us. us ++ q.rest) p.is ∙ q.is }

pub prefix_get : {A : Type 0} {xs ys : List A} (k : ℕ) (x : A) → Prefix xs ys → slice_get xs k ≡ Some x → slice_get ys k ≡ Some x
prefix_get {xs = xs} k x p e = subst (λ us. slice_get us k ≡ Some x) p.is (get_front xs p.rest k x e)

pub prefix_length : {A : Type 0} {xs ys : List A} → Prefix xs ys → length xs ≤ length ys
prefix_length {xs = xs} p = le_trans (le-add_right (length xs) (length p.rest)) (le_of_eq (sym (length-append xs p.rest) ∙ ap length p.is))

pub placed_grows : {xs ys : List TLocal} {bs : List Binding} → Prefix xs ys → AllOf (Placed xs) bs → AllOf (Placed ys) bs
placed_grows p none = none
placed_grows p (more {a = b} h hs) = more (record { local = h.local; stands = prefix_get b.number h.local p h.stands; kind = h.kind }) (placed_grows p hs)

-- ---- notes

abbrev stood : ℕ → TNote → Standing
stood n note = record { number = n; func = note.func; line = note.line; first = note.first; last = note.last }

notes_get : (n k : ℕ) (notes : List TNote) → slice_get (notes_from n notes) k ≡ option_map (stood (n + k)) (slice_get notes k)
notes_get n k [] = refl
notes_get n zero (note ∷ notes) = ap (λ m. Some (stood m note)) (omega arith)
notes_get n (suc k) (note ∷ notes) = notes_get (n + 1) k notes ∙ ap (λ m. option_map (stood m) (slice_get notes k)) (omega arith)

notes_set : (n k : ℕ) (notes : List TNote) (note : TNote) → notes_from n (slice_set notes k note) ≡ slice_set (notes_from n notes) k (stood (n + k) note)
notes_set n k [] note = refl
notes_set n zero (x ∷ notes) note = ap (λ m. stood m note ∷ notes_from (n + 1) notes) (omega arith)
notes_set n (suc k) (x ∷ notes) note =
    ap (λ us. stood n x ∷ us) (notes_set (n + 1) k notes note ∙ ap (λ m. slice_set (notes_from (n + 1) notes) k (stood m note)) (omega arith))

pub notes_more : (n : ℕ) (notes : List TNote) (note : TNote) → notes_from n (notes ++ note ∷ []) ≡ notes_from n notes ++ stood (n + length notes) note ∷ []
notes_more n [] note = ap (λ m. stood m note ∷ []) (omega arith)
notes_more n (x ∷ notes) note =
    ap (λ us. stood n x ∷ us) (notes_more (n + 1) notes note ∙ ap (λ m. notes_from (n + 1) notes ++ stood m note ∷ []) (omega arith))

pub notes_length : (n : ℕ) (notes : List TNote) → length (notes_from n notes) ≡ length notes
notes_length n [] = refl
notes_length n (x ∷ notes) = ap suc (notes_length (n + 1) notes)

-- the end of a loop is told in its own note
pub notes_end : (notes : List TNote) (last : ℕ) (front back : List Standing) (x : Standing) → notes_from 0 notes ≡ front ++ x ∷ back
    → notes_from 0 (with_end notes (length front) last (slice_get notes (length front))) ≡ front ++ record x { last = last } ∷ back
notes_end notes last front back x e = by (slice_get notes (length front)) refl
  where
    at : slice_get (notes_from 0 notes) (length front) ≡ Some x
    at = ap (λ us. slice_get us (length front)) e ∙ get_last front back x

    by : (m : Option TNote) → slice_get notes (length front) ≡ m
        → notes_from 0 (with_end notes (length front) last m) ≡ front ++ record x { last = last } ∷ back
    by None is = let d : None ≡ Some x = sym (notes_get 0 (length front) notes ∙ ap (option_map (stood (0 + length front))) is) ∙ at in absurd cc
    by (Some note) is =
        let d : Some (stood (0 + length front) note) ≡ Some x = sym (notes_get 0 (length front) notes ∙ ap (option_map (stood (0 + length front))) is) ∙ at in
        let same : stood (0 + length front) note ≡ x = cc in
        notes_set 0 (length front) notes (record note { last = last })
        ∙ ap (λ us. slice_set us (length front) (stood (0 + length front) (record note { last = last }))) e
        ∙ set_last front back x (stood (0 + length front) (record note { last = last }))
        ∙ ap (λ (y : Standing). front ++ record y { last = last } ∷ back) same

-- ---- steps

abbrev pub ScopeGood : Progress → Type 0
ScopeGood s = AllOf (Placed s.locals) (in_scope s.scope)

module _ (typed : Typed) (locals : List TLocal) where
  -- what holds of the notes
  abbrev pub Noted : TNote → Type 0
  Noted note = AllOf (IsNoted typed note) note.own.reds

  pub record Stepped (s z : Progress) (c : Counted) (F : Type 0) : Type 0 where
    pub grows : Prefix s.locals z.locals
    pub counts : c.after (length s.locals) ≡ length z.locals
    pub notes : notes_from 0 z.loops ≡ notes_from 0 s.loops ++ c.loops (length s.locals)
    pub scope : ScopeGood z
    pub facts : Prefix z.locals locals → F
    pub reductions : Prefix z.locals locals → AllOf Noted s.loops → AllOf Noted z.loops

  abbrev pub Step : Progress → Progress → Counted → Type 0 → Type 0
  Step s z c F = ScopeGood s → Stepped s z c F

  pub step_here : {s : Progress} {F : Type 0} → (ScopeGood s → Prefix s.locals locals → F) → Step s s none_counted F
  step_here {s = s} f ok = record {
    grows = prefix_refl s.locals;
    counts = refl;
    notes = sym (append-nil (notes_from 0 s.loops));
    scope = ok;
    facts = f ok;
    reductions = λ p h. h;
  }

  pub step_then : {s m z : Progress} {c d : Counted} {E F : Type 0} → Step s m c E → Step m z d F → Step s z (both_counted c d) (E × F)
  step_then {s = s} {m = m} {z = z} {c = c} {d = d} p q ok =
      let a = p ok in
      let b = q a.scope in
      record {
        grows = prefix_trans a.grows b.grows;
        counts = ap d.after a.counts ∙ b.counts;
        notes =
            b.notes
            ∙ ap (λ us. us ++ d.loops (length m.locals)) a.notes
            ∙ append_assoc (notes_from 0 s.loops) (c.loops (length s.locals)) (d.loops (length m.locals))
            ∙ ap (λ n. notes_from 0 s.loops ++ (c.loops (length s.locals) ++ d.loops n)) (sym a.counts);
        scope = b.scope;
        facts = λ p. (a.facts (prefix_trans b.grows p), b.facts p);
        reductions = λ p h. b.reductions p (a.reductions (prefix_trans b.grows p) h);
      }

  pub step_as : {s z : Progress} {c d : Counted} {F : Type 0} → c ≡ d → Step s z c F → Step s z d F
  step_as {s = s} {z = z} {F = F} same p = subst (λ c. Step s z c F) same p

  pub step_map : {s z : Progress} {c : Counted} {E F : Type 0} → (E → F) → Step s z c E → Step s z c F
  step_map f p ok =
      let a = p ok in
      record { grows = a.grows; counts = a.counts; notes = a.notes; scope = a.scope; facts = λ p. f (a.facts p); reductions = a.reductions }

  -- with a fact of the names before it
  pub step_with : {s z : Progress} {c : Counted} {E F : Type 0} → (ScopeGood s → Prefix s.locals locals → E) → Step s z c F → Step s z c (E × F)
  step_with f p ok =
      let a = p ok in
      record {
        grows = a.grows;
        counts = a.counts;
        notes = a.notes;
        scope = a.scope;
        facts = λ p.
            (f ok (prefix_trans a.grows p), a.facts p);
        reductions = a.reductions;
      }

  pub step_within : {s z : Progress} {c : Counted} {F : Type 0} → Step (scoped s (nested s.scope)) z c F → Step s (scoped z s.scope) c F
  step_within p ok =
      let a = p ok in
      record { grows = a.grows; counts = a.counts; notes = a.notes; scope = placed_grows a.grows ok; facts = a.facts; reductions = a.reductions }

  -- one more local
  pub step_add : (name : Name) (a : CType) (s : Progress) (k : Kind) → kind_of a ≡ Some k
      → Step s (added name a s) (record { after = λ j. max j (length s.locals + 1); loops = λ j. [] }) (Unit {0})
  step_add name a s k is ok = record {
    grows = record { rest = local_of name a ∷ []; is = refl };
    counts = counted_one (length s.locals) ∙ sym (length-append s.locals (local_of name a ∷ []));
    notes = sym (append-nil (notes_from 0 s.loops));
    scope = more (record {
      local = local_of name a;
      stands = get_last s.locals [] (local_of name a);
      kind = is
          ∙ ap (λ m. Some (or_integer m)) (sym is);
    }) (placed_grows (record { rest = local_of name a ∷ []; is = refl }) ok);
    facts = λ p. tt;
    reductions = λ p h. h;
  }
    where
      counted_one : (n : ℕ) → max n (n + 1) ≡ n + 1
      counted_one n = grind arith

  -- a local that is there is set
  pub step_set : (m : ℕ) (s : Progress) {F : Type 0} → (ScopeGood s → m < length s.locals) → (ScopeGood s → Prefix s.locals locals → F)
      → Step s s (record { after = λ j. max j (m + 1); loops = λ j. [] }) F
  step_set m s lt f ok = record {
    grows = prefix_refl s.locals;
    counts = counted_none m (length s.locals) (lt ok);
    notes = sym (append-nil (notes_from 0 s.loops));
    scope = ok;
    facts = f ok;
    reductions = λ p h. h;
  }
    where
      counted_none : (m n : ℕ) → m < n → max n (m + 1) ≡ n
      counted_none m n lt = grind arith

  noted_more : {notes : List TNote} {note : TNote} → AllOf Noted notes → Noted note → AllOf Noted (notes ++ note ∷ [])
  noted_more none h = more h none
  noted_more (more g gs) h = more g (noted_more gs h)

  -- the end of a loop changes nothing of its reductions
  noted_at : (note : TNote) (last : ℕ) (a : Addr) → IsNotedAt typed note a → IsNotedAt typed (record note { last = last }) a
  noted_at note last (addr.Local k) h = record { func = h.func; stands = h.stands; integer = h.integer; outside = h.outside }
  noted_at note last (addr.Word o w) h = h
  noted_at note last (addr.Head o) h = h

  noted_end : (note : TNote) (last : ℕ) {reds : List Red} → AllOf (IsNoted typed note) reds → AllOf (IsNoted typed (record note { last = last })) reds
  noted_end note last none = none
  noted_end note last (more {a = r} h hs) = more (noted_at note last r.at h) (noted_end note last hs)

  noted_set : {notes : List TNote} (k : ℕ) (note : TNote) → AllOf Noted notes → Noted note → AllOf Noted (slice_set notes k note)
  noted_set k note none h = none
  noted_set zero note (more g gs) h = more h gs
  noted_set (suc k) note (more g gs) h = more g (noted_set k note gs h)

  noted_get : {notes : List TNote} (k : ℕ) (note : TNote) → AllOf Noted notes → slice_get notes k ≡ Some note → Noted note
  noted_get k note none e = absurd cc
  noted_get zero note (more g gs) e = subst Noted (some_is e) g
  noted_get (suc k) note (more g gs) e = noted_get k note gs e

  noted_with_end : (notes : List TNote) (k last : ℕ) (m : Option TNote) → slice_get notes k ≡ m → AllOf Noted notes → AllOf Noted (with_end notes k last m)
  noted_with_end notes k last None is h = h
  noted_with_end notes k last (Some note) is h = noted_set k (record note { last = last }) h (noted_end note last (noted_get k note h is))

  -- an annotated loop, whose first and third part have no loops
  pub step_loop : (func line : ℕ) (own : Choice) {s m z : Progress} {head body : Counted} {E F : Type 0}
      → ((j : ℕ) → head.loops j ≡ [])
      → (ScopeGood s → Prefix s.locals locals → length s.locals ≤ length m.locals
      → AllOf (IsNoted typed (record { func = func; line = line; own = own; first = length m.locals; last = length m.locals })) own.reds)
      → Step s m head E → Step (begun_loop func line own m) z body F
      → Step s (ended_loop (length m.loops) z) (for_counted func line (Some (length m.loops)) head body) (E × F)
  step_loop func line own {s = s} {m = m} {z = z} {head = head} {body = body} quiet reds p q ok =
      let a = p ok in
      let b = q a.scope in
      let first = length m.locals in
      let entry : TNote = record { func = func; line = line; own = own; first = first; last = first } in
      let x : Standing = record { number = length m.loops; func = func; line = line; first = first; last = first } in
      let before : notes_from 0 z.loops ≡ notes_from 0 m.loops ++ x ∷ body.loops first =
      b.notes ∙ ap (λ us. us ++ body.loops first) (notes_more 0 m.loops entry)
      ∙ append_assoc (notes_from 0 m.loops) (stood (0 + length m.loops) entry ∷ []) (body.loops first)
      ∙ ap (λ n. notes_from 0 m.loops ++ stood n entry ∷ body.loops first) (zero-add (length m.loops)) in
      let told = notes_end z.loops (length z.locals) (notes_from 0 m.loops) (body.loops first) x before in
      let there : notes_from 0 (with_end z.loops (length m.loops) (length z.locals) (slice_get z.loops (length m.loops)))
      ≡ notes_from 0 m.loops ++ record x { last = length z.locals } ∷ body.loops first =
      ap (λ n. notes_from 0 (with_end z.loops n (length z.locals) (slice_get z.loops n))) (sym (notes_length 0 m.loops)) ∙ told in
      record {
        grows = prefix_trans a.grows b.grows;
        counts = ap body.after a.counts ∙ b.counts;
        notes =
            there
            ∙ ap (λ us. us ++ record x { last = length z.locals } ∷ body.loops first) (a.notes ∙ ap (λ us. notes_from 0 s.loops ++ us) (quiet (length s.locals))
            ∙ append-nil (notes_from 0 s.loops))
            ∙ ap (λ us. notes_from 0 s.loops ++ record x { last = length z.locals } ∷ (us ++ body.loops first)) (sym (quiet (length s.locals)))
            ∙ ap (λ l. notes_from 0 s.loops ++ record x { last = l } ∷ (head.loops (length s.locals) ++ body.loops first)) (sym b.counts)
            ∙ ap (λ f. notes_from 0 s.loops
            ++ record { number = length m.loops; func = func; line = line; first = f; last = body.after f } ∷ (head.loops (length s.locals)
            ++ body.loops f)) (sym a.counts);
        scope = b.scope;
        facts = λ p. (a.facts (prefix_trans b.grows p), b.facts p);
        reductions = λ p h.
            noted_with_end z.loops (length m.loops) (length z.locals) (slice_get z.loops (length m.loops)) refl
            (b.reductions p
            (noted_more (a.reductions (prefix_trans b.grows p) h) (reds ok (prefix_trans (prefix_trans a.grows b.grows) p) (prefix_length a.grows))));
      }
