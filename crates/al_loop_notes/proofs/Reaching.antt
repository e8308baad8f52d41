-- How the marks come to tell which functions are reached.
use Rattle.std.proofs.Common.{◌≡◌, ℕ, zero, suc, ◌+◌, ◌<◌, ◌≤◌, ◌⊎◌, inl, inr, List, [], ◌∷◌, ◌++◌, length, get_or, set, replicate, Option, Some, None, refl, sym, ap, ◌∙◌, arith, subst, length-append}
use Rattle.std.proofs.lemmas.Bool.{or_left, or_right, eqb-true, eq-eqb, cases_lt, false≢true}
use Rattle.std.proofs.lemmas.Bool.Decides.{eqb_tells}
use Rattle.std.proofs.lemmas.List.{append-nil, get_or-set_same, get_or-set_other, get_or-replicate, length-set}
use Rattle.std.proofs.lemmas.List.Folds.{list_any-append}
use Rattle.std.proofs.lemmas.Grind.{common_steps}
use Rattle.std.proofs.lemmas.Option.{slice_get_past, slice_get_within, get_or_from_slice_get, slice_get-get_or}
use Rattle.std.specs.Prelude.{Bool, true, false, ◌==◌, slice_get, if◌then◌else◌}
use Rattle.al_core.specs.declared.typed_tree.TStmt.{TStmt}
use Rattle.al_core.specs.declared.typed_tree.TFunc.{TFunc}
use Rattle.al_core.specs.declared.typed_tree.Typed.{Typed}
use Rattle.al_core.specs.Accepted.{terms, calls_of}
use Rattle.al_rules.specs.Bodies.{has, calls_in, is_reached}
use Rattle.al_loop_notes.specs.Uses.{stmt_uses, func_uses, callees}
use Rattle.al_loop_notes.specs.Reach.{IsReach, calls_then, new_calls, mark_then, marked}
use Rattle.al_loop_notes.proofs.Terms.{stmt_called, body_called}
use Rattle.al_loop_notes.proofs.Paths.{one_of, calls_one, reached_direct, reached_further, reached_only}

abbrev pub is_marked : List Bool → ℕ → Bool
is_marked marks n = get_or marks n false

-- the function is marked, or is to be visited
abbrev pub IsSeen : List Bool → List ℕ → ℕ → Type 0
IsSeen marks todo n = (is_marked marks n ≡ true) ⊎ (has n todo ≡ true)

-- what is marked or to be visited is reached, and nothing is forgotten
pub record Reaching (typed : Typed) (s : TStmt) (marks : List Bool) (todo : List ℕ) : Type 0 where
  pub count : length marks ≡ length typed.funcs
  pub mark : (n : ℕ) → is_marked marks n ≡ true → is_reached typed s n ≡ true
  pub left : (n : ℕ) → has n todo ≡ true → is_reached typed s n ≡ true
  pub start : (n : ℕ) → n < length typed.funcs → has n (calls_of (terms s)) ≡ true → IsSeen marks todo n
  pub next : (m n : ℕ) → is_marked marks m ≡ true → n < length typed.funcs → calls_one typed m n ≡ true → IsSeen marks todo n

has_front : (n : ℕ) (xs ys : List ℕ) → has n xs ≡ true → has n (xs ++ ys) ≡ true
has_front n xs ys is = list_any-append (λ m. m == n) xs ys ∙ or_left (has n xs) (has n ys) is

has_back : (n : ℕ) (xs ys : List ℕ) → has n ys ≡ true → has n (xs ++ ys) ≡ true
has_back n xs ys is = list_any-append (λ m. m == n) xs ys ∙ or_right (has n xs) (has n ys) is

has_part : (n : ℕ) (xs ys : List ℕ) → has n (xs ++ ys) ≡ true → (has n xs ≡ true) ⊎ (has n ys ≡ true)
has_part n xs ys is = one_of (has n xs) (has n ys) (sym (list_any-append (λ m. m == n) xs ys) ∙ is)

has_one : (n : ℕ) → has n (n ∷ []) ≡ true
has_one n = or_left (n == n) false (eq-eqb n n refl)

is_one : (m n : ℕ) → has m (n ∷ []) ≡ true → n ≡ m
is_one m n is = elim (one_of (n == m) false is) [ inl e ↦ eqb-true n m e | inr e ↦ absurd (false≢true e) ]

some_mark : {m : Option Bool} {b : Bool} → m ≡ None → m ≡ Some b → ⊥
some_mark e f = absurd (cc)

none_marked : (k n : ℕ) → is_marked (replicate k false) n ≡ false
none_marked k n = elim (cases_lt n k) [ inl lt ↦ get_or-replicate k n false false lt | inr ge ↦ grind (arith, common_steps) ]

no_func : (funcs : List TFunc) (n : ℕ) → slice_get funcs n ≡ None → n < length funcs → ⊥
no_func [] n is lt = omega arith
no_func (f ∷ fs) zero is lt = absurd (cc)
no_func (f ∷ fs) (suc n) is lt = no_func fs n is (omega arith)

module _ (typed : Typed) (s : TStmt) where
  pub begins : Reaching typed s (replicate (length typed.funcs) false) (callees (stmt_uses s))
  begins = record {
    count = grind (arith, common_steps);
    mark = λ n is. absurd (false≢true (sym (none_marked (length typed.funcs) n) ∙ is));
    left = λ n is. reached_direct typed s n (sym (stmt_called n s) ∙ is);
    start = λ n lt is. inr (stmt_called n s ∙ is);
    next = λ m n is lt c. absurd (false≢true (sym (none_marked (length typed.funcs) m) ∙ is));
  }

  module _ (marks : List Bool) (rest : List ℕ) (n : ℕ) (r : Reaching typed s marks (rest ++ n ∷ [])) where
    -- a function that needs no visit
    module _ (seen : n < length typed.funcs → is_marked marks n ≡ true) where
      still_seen : (k : ℕ) → k < length typed.funcs → IsSeen marks (rest ++ n ∷ []) k → IsSeen marks rest k
      still_seen k lt h =
          elim h [
            | inl e ↦ inl e
            | inr e ↦ elim (has_part k rest (n ∷ []) e) [
              | inl e ↦ inr e
              | inr e ↦ inl (subst (λ (i : ℕ). i < length typed.funcs
                  → is_marked marks i ≡ true) (is_one k n e) seen lt)
            ]
          ]

      passes_over : Reaching typed s marks rest
      passes_over = record {
        count = r.count;
        mark = r.mark;
        left = λ k is. r.left k (has_front k rest (n ∷ []) is);
        start = λ k lt is. still_seen k lt (r.start k lt is);
        next = λ m k is lt c. still_seen k lt (r.next m k is lt c);
      }

    -- a function that is visited
    module _ (f : TFunc) (func : slice_get typed.funcs n ≡ Some f) where
      within : n < length typed.funcs
      within = slice_get_within typed.funcs n f func

      in_marks : n < length marks
      in_marks = subst (λ (k : ℕ). n < k) (sym r.count) within

      marks_it : is_marked (set marks n true) n ≡ true
      marks_it = get_or-set_same marks n true false in_marks

      marks_still : (k : ℕ) → is_marked marks k ≡ true → is_marked (set marks n true) k ≡ true
      marks_still k is =
          elim (eqb_tells k n) [
            | inl e ↦ subst (λ (i : ℕ). is_marked (set marks n true) i
                ≡ true) (sym e.1) marks_it
            | inr e ↦ get_or-set_other marks n k true false e.1 ∙ is
          ]

      its_calls : (k : ℕ) → has k (callees (func_uses f)) ≡ calls_one typed n k
      its_calls k = body_called k f.body ∙ ap (λ (o : Option TFunc). has k (calls_in o)) (sym func)

      itself : is_reached typed s n ≡ true
      itself = r.left n (has_back n rest (n ∷ []) (has_one n))

      seen_then : (k : ℕ) → IsSeen marks (rest ++ n ∷ []) k → IsSeen (set marks n true) (rest ++ callees (func_uses f)) k
      seen_then k h =
          elim h [
            | inl e ↦ inl (marks_still k e)
            | inr e ↦ elim (has_part k rest (n ∷ []) e) [
              | inl e ↦ inr (has_front k rest (callees (func_uses f)) e)
              | inr e ↦ inl (subst (λ (i : ℕ). is_marked (set marks n true) i ≡ true) (is_one k n e) marks_it)
            ]
          ]

      visits : Reaching typed s (set marks n true) (rest ++ callees (func_uses f))
      visits = record {
        count = length-set marks n true ∙ r.count;
        mark = λ k is. elim (eqb_tells k n) [
          | inl e ↦ subst (λ (i : ℕ). is_reached typed s i
              ≡ true) (sym e.1) itself
          | inr e ↦ r.mark k (sym (get_or-set_other marks n k true false e.1) ∙ is)
        ];
        left = λ k is. elim
            (has_part k rest (callees (func_uses f)) is) [
              | inl e ↦ r.left k (has_front k rest (n ∷ []) e)
              | inr e ↦ reached_further typed s n k within itself
                  (sym (its_calls k) ∙ e)
            ];
        start = λ k lt is. seen_then k (r.start k lt is);
        next = λ m k is lt c. elim (eqb_tells m n) [
          | inl e ↦ inr (has_back k rest (callees (func_uses f)) (its_calls k ∙ subst (λ (i : ℕ). calls_one typed i k ≡ true) e.1 c))
          | inr e ↦ seen_then k (r.next m k (sym (get_or-set_other marks n m true false e.1) ∙ is) lt c)
        ];
      }

    with_none : (b : Option Bool) → Reaching typed s marks rest → Reaching typed s marks (rest ++ [])
    with_none b h = subst (λ (l : List ℕ). Reaching typed s marks l) (sym (append-nil rest)) h

    goes_by : (o : Option TFunc) (b : Option Bool) → slice_get typed.funcs n ≡ o → slice_get marks n ≡ b
        → Reaching typed s (mark_then o b marks n) (rest ++ calls_then o b)
    goes_by (Some f) (Some false) func mark = visits f func
    goes_by (Some f) (Some true) func mark = with_none (Some true) (passes_over (λ lt. get_or_from_slice_get marks n true false mark))
    goes_by (Some f) None func mark =
        with_none None (passes_over (λ lt. absurd (some_mark mark (slice_get-get_or marks n false (subst (λ (k : ℕ). n < k) (sym r.count) lt)))))
    goes_by None b func mark = with_none b (passes_over (λ lt. absurd (no_func typed.funcs n func lt)))

    pub goes : Reaching typed s (marked typed.funcs marks n) (rest ++ new_calls typed.funcs marks n)
    goes = goes_by (slice_get typed.funcs n) (slice_get marks n) refl refl

  -- ---- the end

  either_way : (a b : Bool) → (a ≡ true → b ≡ true) → (b ≡ true → a ≡ true) → a ≡ b
  either_way true b h k = sym (h refl)
  either_way false true h k = k refl
  either_way false false h k = refl

  marked_or_none : (marks : List Bool) (n : ℕ) → IsSeen marks [] n → is_marked marks n ≡ true
  marked_or_none marks n h = elim h [ inl e ↦ e | inr e ↦ absurd (false≢true e) ]

  calls_nothing : (f g : ℕ) → length typed.funcs ≤ f → calls_one typed f g ≡ true → ⊥
  calls_nothing f g past is = false≢true (sym (ap (λ (o : Option TFunc). has g (calls_in o)) (slice_get_past typed.funcs f past)) ∙ is)

  pub ends : (marks : List Bool) → Reaching typed s marks [] → IsReach typed s marks
  ends marks r = record {
    count = r.count;
    each = λ n lt. either_way (is_marked marks n) (is_reached typed s n) (r.mark n)
        (reached_only typed s (is_marked marks) (λ g below is. marked_or_none marks g (r.start g below is))
        (λ f g is below c. marked_or_none marks g (r.next f g is below c)) calls_nothing n lt);
  }

-- ---- the visits end

-- how many calls the functions have that are not marked
abbrev pub calls_left : List TFunc → List Bool → ℕ
calls_left [] marks = 0
calls_left (f ∷ fs) [] = 0
calls_left (f ∷ fs) (m ∷ ms) = (if m then 0 else length (callees (func_uses f))) + calls_left fs ms

spent_here : (g : TFunc) (fs : List TFunc) (m : Bool) (ms : List Bool) (f : TFunc) → Some g ≡ Some f → Some m ≡ Some false
    → (if m then 0 else length (callees (func_uses g))) + calls_left fs ms ≡ length (callees (func_uses f)) + (0 + calls_left fs ms)
spent_here g fs m ms f func mark = grind (arith)

later : (k a b c : ℕ) → a ≡ b + c → k + a ≡ b + (k + c)
later k a b c is = omega arith

added : (a b : ℕ) (more rest : List ℕ) → a ≡ length more + b → b + length (rest ++ more) ≡ a + length rest
added a b more rest is = omega (arith, length-append rest more)

one_less : (a b : ℕ) (rest : List ℕ) (n : ℕ) → a ≡ b + length rest → a < b + length (rest ++ n ∷ [])
one_less a b rest n is = omega (arith, length-append rest (n ∷ []))

spent : (funcs : List TFunc) (marks : List Bool) (n : ℕ) (f : TFunc) → slice_get funcs n ≡ Some f → slice_get marks n ≡ Some false
    → calls_left funcs marks ≡ length (callees (func_uses f)) + calls_left funcs (set marks n true)
spent [] marks n f func mark = absurd (cc)
spent (g ∷ fs) [] n f func mark = absurd (cc)
spent (g ∷ fs) (m ∷ ms) zero f func mark = spent_here g fs m ms f func mark
spent (g ∷ fs) (m ∷ ms) (suc n) f func mark = later (if m then 0 else length (callees (func_uses g))) _ _ _ (spent fs ms n f func mark)

fewer_by : (funcs : List TFunc) (marks : List Bool) (rest : List ℕ) (n : ℕ) (o : Option TFunc) (b : Option Bool) → slice_get funcs n ≡ o → slice_get marks n ≡ b
    → calls_left funcs (mark_then o b marks n) + length (rest ++ calls_then o b) ≡ calls_left funcs marks + length rest
fewer_by funcs marks rest n (Some f) (Some false) func mark =
    added (calls_left funcs marks) (calls_left funcs (set marks n true)) (callees (func_uses f)) rest (spent funcs marks n f func mark)
fewer_by funcs marks rest n (Some f) (Some true) func mark = ap (λ (l : List ℕ). calls_left funcs marks + length l) (append-nil rest)
fewer_by funcs marks rest n (Some f) None func mark = ap (λ (l : List ℕ). calls_left funcs marks + length l) (append-nil rest)
fewer_by funcs marks rest n None b func mark = ap (λ (l : List ℕ). calls_left funcs marks + length l) (append-nil rest)

-- a visit leaves one less
pub fewer : (funcs : List TFunc) (marks : List Bool) (rest : List ℕ) (n : ℕ)
    → calls_left funcs (marked funcs marks n) + length (rest ++ new_calls funcs marks n) < calls_left funcs marks + length (rest ++ n ∷ [])
fewer funcs marks rest n = let same = fewer_by funcs marks rest n (slice_get funcs n) (slice_get marks n) refl refl in one_less _ _ rest n same

-- ---- as the loop goes

pub begun : (typed : Typed) (s : TStmt) (marks : List Bool) (todo : List ℕ) → marks ≡ replicate (length typed.funcs) false → todo ≡ callees (stmt_uses s)
    → Reaching typed s marks todo
begun typed s marks todo m t =
    subst (λ (l : List ℕ). Reaching typed s marks l) (sym t) (subst (λ (l : List Bool). Reaching typed s l (callees (stmt_uses s))) (sym m) (begins typed s))

pub gone : (typed : Typed) (s : TStmt) (funcs : List TFunc) (marks marks' : List Bool) (todo rest todo' : List ℕ) (n : ℕ) → funcs ≡ typed.funcs
    → Reaching typed s marks todo → todo ≡ rest ++ n ∷ [] → marks' ≡ marked funcs marks n → todo' ≡ rest ++ new_calls funcs marks n
    → Reaching typed s marks' todo'
gone typed s funcs marks marks' todo rest todo' n f r t m t' =
    subst (λ (l : List ℕ). Reaching typed s marks' l) (sym (t' ∙ ap (λ (fs : List TFunc). rest ++ new_calls fs marks n) f))
    (subst (λ (l : List Bool). Reaching typed s l (rest ++ new_calls typed.funcs marks n)) (sym (m ∙ ap (λ (fs : List TFunc). marked fs marks n) f))
    (goes typed s marks rest n (subst (λ (l : List ℕ). Reaching typed s marks l) t r)))

pub less : (typed : Typed) (funcs : List TFunc) (marks marks' : List Bool) (todo rest todo' : List ℕ) (n : ℕ) → funcs ≡ typed.funcs → todo ≡ rest ++ n ∷ []
    → marks' ≡ marked funcs marks n → todo' ≡ rest ++ new_calls funcs marks n
    → calls_left typed.funcs marks' + length todo' < calls_left typed.funcs marks + length todo
less typed funcs marks marks' todo rest todo' n f t m t' =
    rw (t, m, t', f) (fewer typed.funcs marks rest n)

pub ended : (typed : Typed) (s : TStmt) (marks : List Bool) (todo : List ℕ) → Reaching typed s marks todo → todo ≡ [] → IsReach typed s marks
ended typed s marks todo r t = ends typed s marks (subst (λ (l : List ℕ). Reaching typed s marks l) t r)
