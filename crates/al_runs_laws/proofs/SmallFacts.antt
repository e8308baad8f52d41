-- What the laws ask of a program is met by a small one: by computation.
use Rattle.std.proofs.Common.{◌≡◌, ◌≢◌, ℕ, zero, suc, ◌≤◌, List, [], ◌∷◌, length, Option, Some, None, Bool, true, false, refl, sym, ap, subst, ◌∙◌, arith, w64, FitsSigned}
use Rattle.std.specs.Prelude.{pos, slice_get}
use Rattle.al_core.specs.declared.values.Kind.{Kind}
use Rattle.al_core.specs.declared.values.Kind.TheVariants as kind
use Rattle.al_core.specs.declared.typed_tree.TFunc.{TFunc}
use Rattle.al_core.specs.declared.typed_tree.TGlobal.{TGlobal}
use Rattle.al_core.specs.declared.typed_tree.TExpr.{TExpr, map-TExpr, fold-TExpr, fold-roll-TExpr, out-roll-TExpr}
use Rattle.al_core.specs.declared.typed_tree.TPlace.{TPlace, fold-TPlace, fold-roll-TPlace, out-roll-TPlace}
use Rattle.al_core.specs.declared.typed_tree.TStmt.{TStmt, fold-TStmt, para-TStmt, para-roll-TStmt, fold-roll-TStmt}
use Rattle.al_core.specs.declared.typed_tree.TKind.{TKind, map-TKind, fold-TKind, para-TKind, para-roll-TKind, fold-roll-TKind, out-roll-TKind}
use Rattle.al_core.specs.declared.typed_tree.TExpr.TheOpen.{TExpr-F, TPlace-F}
use Rattle.al_core.specs.declared.typed_tree.TExpr.TheViews.{roll-TExpr}
use Rattle.al_core.specs.declared.typed_tree.TKind.TheOpen.{TKind-F}
use Rattle.al_core.specs.declared.typed_tree.TKind.TheViews.{roll-TStmt, roll-TKind}
use Rattle.al_core.specs.Accepted.{IsAccepted, IsRedVariable, Reached, directly, further, terms, terms_of, Terms, kind_terms, one_expr, both_terms, no_terms, IsRedLocal, IsRedGlobal, calls, calls_at, calls_of, takes, takes_at, takes_in, mentions, mentions_at, only_updates}
use Rattle.al_core.specs.Loops.{ForLoop, Loop, placed, program_loops, for_loops, noted_loop, loop_at}
use Rattle.al_core.specs.Meaning.{body_of}
use Rattle.std.proofs.lemmas.List.Kept.{AllPairs-cons}
use Rattle.al_core.specs.declared.choices.Choice.{Choice}
use Rattle.al_core.specs.declared.choices.LoopInfo.{LoopInfo}
use Rattle.al_core.specs.declared.choices.Red.{Red}
use Rattle.al_core.specs.declared.choices.Bound.TheVariants as bound
use Rattle.al_core.specs.declared.typed_tree.TNote.{TNote}
use Rattle.al_source.specs.declared.operators.RedOp.TheVariants as red
use Rattle.al_source.specs.declared.texts.Piece.TheVariants as piece
use Rattle.al_core.specs.declared.values.Addr.TheVariants.{Word, Local, Head}
use Rattle.al_core.specs.declared.values.Addr.{Addr}
use Rattle.std.proofs.Math.Bool.{true≢false}
use Rattle.al_rounds_laws.specs.Loops.{LooksAtReads}
use Rattle.al_core.specs.declared.values.Obj.TheVariants.{Global}
use Rattle.al_graded_laws.proofs.Values.{zero_fits}
use Rattle.al_reductions_laws.proofs.AcceptedReds.{all_of}
use Rattle.al_laws.proofs.Words.{same_some, some_none}
use Rattle.al_rules.specs.Names.{none, more}
use Rattle.al_rules.specs.WellFormed.{IsWellFormed, IsFormedFunc, IsFormedGlobal, IsNotedLocal, Counted, kind_counted, counted, counted_all, loops_from, notes_from, FitsKind, PlaceKind, expr_fits, place_kind_case, kind_formed, body_formed, formed, is_simple, fits, place_kind}
use Rattle.al_graded_laws.specs.InRange.{IsInRange, in_range}
use Rattle.al_graded_laws.specs.Rules.{stmts_obey, stmt_obeys, obeys, obeys_at}
use Rattle.al_kinds_laws.specs.Whole.{whole, whole_at, whole_in}
use Rattle.al_runs_laws.specs.Small.{small, small_reductions, main, global, note, first_choice, second_choice, first_body, second_body, number, x, y, i, value, is, greater, sum, from_zero, below, next, at}
use Rattle.al_runs_laws.specs.Met.{SmallIsProgram, SmallChoicesAreSerializable}

abbrev results : List (Option Kind)
results = Some kind.Int ∷ []

-- ---- the tree is well formed

abbrev case : TExpr-F FitsKind PlaceKind → FitsKind
case = expr_fits small results main.locals

abbrev place_case : TPlace-F FitsKind PlaceKind → PlaceKind
place_case = place_kind_case small results main.locals

fits_roll : (d : TExpr-F TExpr TPlace) (want : Kind)
    → fold-TExpr FitsKind PlaceKind case place_case (roll-TExpr d) want
    ≡ case (map-TExpr TExpr TPlace FitsKind PlaceKind (fold-TExpr FitsKind PlaceKind case place_case) (fold-TPlace FitsKind PlaceKind case place_case) d) want
fits_roll d want = ap (λ f. f want) (fold-roll-TExpr FitsKind PlaceKind case place_case d)

abbrev Looped : Type 0
Looped = Bool → Bool

abbrev kind_case : TKind-F (TKind × Looped) (TStmt × Looped) → Looped
kind_case = kind_formed small results main.locals (Some kind.Int)

abbrev kind_of : TKind → Looped
kind_of = para-TKind Looped Looped kind_case (λ s. s.kind.1)

abbrev stmt_of : TStmt → Looped
stmt_of = para-TStmt Looped Looped kind_case (λ s. s.kind.1)

kind_roll : (d : TKind-F TKind TStmt) (looped : Bool)
    → kind_of (roll-TKind d) looped ≡ kind_case (map-TKind TKind TStmt (TKind × Looped) (TStmt × Looped) (λ k. (k, kind_of k)) (λ s. (s, stmt_of s)) d) looped
kind_roll d looped = ap (λ f. f looped) (para-roll-TKind Looped Looped kind_case (λ s. s.kind.1) d)

stmt_roll : (line : ℕ) (k : TKind) (looped : Bool) → stmt_of (roll-TStmt (record { line = line; kind = k })) looped ≡ kind_of k looped
stmt_roll line k looped = ap (λ f. f looped) (para-roll-TStmt Looped Looped kind_case (λ s. s.kind.1) (record { line = line; kind = k }))

body_is_formed : body_formed small results main.locals (Some kind.Int) main.body ≡ true
unfolding formed is_simple fits place_kind
body_is_formed = simp (stmt_roll, kind_roll, fits_roll, fold-roll-TPlace, out-roll-TKind)

in_range_here : stmts_obey in_range main.body ≡ true
unfolding stmt_obeys obeys obeys_at
in_range_here = simp (para-roll-TStmt, para-roll-TKind, fold-roll-TExpr, fold-roll-TPlace, out-roll-TKind, out-roll-TExpr)

-- ---- its functions

one_function : (P : ℕ → TFunc → Type 0) → P 0 main → (n : ℕ) (f : TFunc) → slice_get small.funcs n ≡ Some f → P n f
one_function P h zero f e = subst (P 0) (same_some main f e) h
one_function P h (suc n) f e = absurd (some_none f (sym e))

abbrev Numbered : Type 0
Numbered = ℕ → Counted

abbrev counted_kind : TKind → Numbered
counted_kind = fold-TKind Numbered Counted (kind_counted 0) (λ s. s.kind s.line)

abbrev counted_stmt : TStmt → Counted
counted_stmt = fold-TStmt Numbered Counted (kind_counted 0) (λ s. s.kind s.line)

counted_kind_roll : (d : TKind-F TKind TStmt) (line : ℕ)
    → counted_kind (roll-TKind d) line ≡ kind_counted 0 (map-TKind TKind TStmt Numbered Counted counted_kind counted_stmt d) line
counted_kind_roll d line = ap (λ f. f line) (fold-roll-TKind Numbered Counted (kind_counted 0) (λ s. s.kind s.line) d)

counted_stmt_roll : (line : ℕ) (k : TKind) → counted_stmt (roll-TStmt (record { line = line; kind = k })) ≡ counted_kind k line
counted_stmt_roll line k = fold-roll-TStmt Numbered Counted (kind_counted 0) (λ s. s.kind s.line) (record { line = line; kind = k })

counts : (counted_all 0 main.body).after 0 ≡ 2
unfolding counted
counts = simp (counted_stmt_roll, counted_kind_roll)

noted : loops_from 0 small.funcs ≡ notes_from 0 small.loops
unfolding counted
noted = simp (counted_stmt_roll, counted_kind_roll)

main_is_formed : IsFormedFunc small results 0 main
main_is_formed = record { params = omega arith; result = Some kind.Int; gives = refl; body = body_is_formed; locals = counts }

global_is_formed : IsFormedGlobal global
global_is_formed = record { words = λ k e. refl; starts = λ e. refl }

local_noted : (note : TNote) → note.func ≡ 0 → note.first ≡ 2 → IsNotedLocal small note 1
local_noted note f e = record {
  func = main;
  stands = ap (slice_get small.funcs) f;
  integer = refl;
  outside = subst (λ n. 2 ≤ n) (sym e) (omega arith);
}

tree_is_formed : IsWellFormed small
tree_is_formed = record {
  results = results;
  as_many = refl;
  funcs = one_function (IsFormedFunc small results) main_is_formed;
  globals = more global_is_formed (more global_is_formed none);
  main = (main, refl, refl, refl);
  loops = noted;
  reductions = more none (more (more (local_noted (note 11 second_choice) refl refl) (more (refl, refl) none)) none);
}

-- ---- its numbers

code : (f : ℕ) → stmts_obey in_range (body_of (slice_get small.funcs f)) ≡ true
code zero = in_range_here
code (suc f) = refl

in_range_all : IsInRange small []
in_range_all = record { code = code; input_numbers = λ i n e. absurd (some_none n (sym e)); input_length = zero_fits }

starts : (k : ℕ) (g : TGlobal) → slice_get small.globals k ≡ Some g → FitsSigned w64 g.start
starts zero g e = subst (λ (z : TGlobal). FitsSigned w64 z.start) (same_some global g e) zero_fits
starts (suc zero) g e = subst (λ (z : TGlobal). FitsSigned w64 z.start) (same_some global g e) zero_fits
starts (suc (suc k)) g e = absurd (some_none g (sym e))

abbrev terms_kind : TKind → Terms
terms_kind = fold-TKind Terms Terms kind_terms (λ s. s.kind)

abbrev terms_stmt : TStmt → Terms
terms_stmt = fold-TStmt Terms Terms kind_terms (λ s. s.kind)

terms_kind_roll : (d : TKind-F TKind TStmt) → terms_kind (roll-TKind d) ≡ kind_terms (map-TKind TKind TStmt Terms Terms terms_kind terms_stmt d)
terms_kind_roll d = fold-roll-TKind Terms Terms kind_terms (λ s. s.kind) d

terms_stmt_roll : (line : ℕ) (k : TKind) → terms_stmt (roll-TStmt (record { line = line; kind = k })) ≡ terms_kind k
terms_stmt_roll line k = fold-roll-TStmt Terms Terms kind_terms (λ s. s.kind) (record { line = line; kind = k })

abbrev its_terms : Terms
its_terms = record {
  exprs =
      number 0 ∷ number 0 ∷ number 0 ∷ below 3 ∷ number 1 ∷ is 0 ∷ number 1 ∷ is 1 ∷ value x ∷ i ∷ number 0 ∷ below 9 ∷ number 1 ∷ i ∷ greater ∷ sum ∷ [];
  places = x ∷ y ∷ x ∷ [];
}

second_terms : terms second_body ≡ record { exprs = i ∷ greater ∷ []; places = x ∷ [] }
unfolding terms
second_terms = simp (terms_stmt_roll, terms_kind_roll)

start_terms : terms from_zero ≡ one_expr (number 0)
unfolding terms
start_terms = simp (terms_stmt_roll, terms_kind_roll)

next_terms : terms next ≡ one_expr (number 1)
unfolding terms
next_terms = simp (terms_stmt_roll, terms_kind_roll)

module _ (t u : Terms) where
  joined : (a b : Terms) → a ≡ t → b ≡ u → both_terms a b ≡ both_terms t u
  joined a b e f = ap (λ z. both_terms z b) e ∙ ap (both_terms t) f

if_terms_are : (line : ℕ) (e : TExpr) (s : TStmt) (t : Terms) → terms s ≡ t
    → terms (at line (TKind-F.If e s None)) ≡ both_terms (one_expr e) (both_terms t no_terms)
unfolding terms
if_terms_are line e s t is = terms_stmt_roll line _ ∙ terms_kind_roll _ ∙ ap (λ z. both_terms (one_expr e) (both_terms z no_terms)) is

store_terms : (line : ℕ) (p : TPlace) (e : TExpr) → terms (at line (TKind-F.Store p e)) ≡ record { exprs = e ∷ []; places = p ∷ [] }
unfolding terms
store_terms line p e = terms_stmt_roll line _ ∙ terms_kind_roll _

print_terms : (line : ℕ) → terms (at line (TKind-F.Print (piece.Number ∷ []) (i ∷ []))) ≡ one_expr i
unfolding terms
print_terms line = terms_stmt_roll line _ ∙ terms_kind_roll _

block_terms : (line : ℕ) (a b c : TStmt)
    → terms (at line (TKind-F.Block (a ∷ b ∷ c ∷ []))) ≡ both_terms (terms a) (both_terms (terms b) (both_terms (terms c) no_terms))
unfolding terms
block_terms line a b c = terms_stmt_roll line _ ∙ terms_kind_roll _

first_terms : terms first_body ≡ record { exprs = is 0 ∷ number 1 ∷ is 1 ∷ value x ∷ i ∷ []; places = x ∷ y ∷ [] }
first_terms =
    block_terms 6 _ _ _
    ∙ joined _ _ _ _ (if_terms_are 7 (is 0) _ _ (store_terms 7 x (number 1)))
    (joined _ _ _ _ (if_terms_are 8 (is 1) _ _ (store_terms 8 y (value x))) (joined _ _ _ _ (print_terms 9) refl))

for_terms : (line n : ℕ) (test : TExpr) (body : TStmt) (b : Terms) → terms body ≡ b
    → terms (at line (TKind-F.For (Some from_zero) (Some test) (Some next) body (Some n)))
    ≡ both_terms (one_expr (number 0)) (both_terms (one_expr test) (both_terms (one_expr (number 1)) b))
unfolding terms
for_terms line n test body b is =
    terms_stmt_roll line _ ∙ terms_kind_roll _
    ∙ joined _ _ (terms from_zero) _ start_terms (joined (one_expr test) _ (one_expr test) _ refl (joined _ _ (terms next) _ next_terms is))

set_terms : (line k : ℕ) (e : TExpr) → terms (at line (TKind-F.SetLocal k e)) ≡ one_expr e
unfolding terms
set_terms line k e = terms_stmt_roll line _ ∙ terms_kind_roll _

return_terms : (line : ℕ) (e : TExpr) → terms (at line (TKind-F.Return (Some e))) ≡ one_expr e
unfolding terms
return_terms line e = terms_stmt_roll line _ ∙ terms_kind_roll _

main_terms : terms_of main.body ≡ its_terms
main_terms =
    joined _ _ _ _ (set_terms 3 0 (number 0))
    (joined _ _ _ _ (set_terms 4 1 (number 0))
    (joined _ _ _ _ (for_terms 6 0 (below 3) first_body _ first_terms)
    (joined _ _ _ _ (for_terms 11 1 (below 9) second_body _ second_terms)
    (joined _ _ _ _ (return_terms 14 sum) refl))))

main_is_whole : whole_in small (terms_of main.body) ≡ true
unfolding whole whole_at
main_is_whole = ap (whole_in small) main_terms ∙ simp (fold-roll-TExpr, fold-roll-TPlace)

pub small_is_program : SmallIsProgram
small_is_program = record {
  formed = tree_is_formed;
  numbers = in_range_all;
  starts = starts;
  whole = one_function (λ n f. whole_in small (terms_of f.body) ≡ true) main_is_whole;
}

-- ---- its loops

abbrev first_for : ForLoop
first_for = record { number = 0; first = Some from_zero; test = Some (below 3); third = Some next; body = first_body }

abbrev second_for : ForLoop
second_for = record { number = 1; first = Some from_zero; test = Some (below 9); third = Some next; body = second_body }

its_loops : program_loops small ≡ placed main first_for ∷ placed main second_for ∷ []
unfolding program_loops for_loops
its_loops = simp (para-roll-TStmt, para-roll-TKind)

info : ℕ → ℕ → ℕ → Choice → LoopInfo
info n line top choice =
    record { number = n; func = 0; line = line; counter = 0; bound = bound.Number (pos top); first = 2; last = 2; own = choice }

abbrev first_loop : Loop
first_loop = record { info = info 0 6 3 first_choice; locals = 2; body = first_body }

abbrev second_loop : Loop
second_loop = record { info = info 1 11 9 second_choice; locals = 2; body = second_body }

first_stands : loop_at small 0 ≡ Some first_loop
unfolding info
first_stands =
    ap (λ ls. noted_loop 0 (slice_get small.loops 0) (slice_get ls 0)) its_loops ∙ simp (out-roll-TKind, out-roll-TExpr)

second_stands : loop_at small 1 ≡ Some second_loop
unfolding info
second_stands =
    ap (λ ls. noted_loop 1 (slice_get small.loops 1) (slice_get ls 1)) its_loops ∙ simp (out-roll-TKind, out-roll-TExpr)

-- ---- its reductions

no_calls : calls_of (terms second_body) ≡ []
unfolding calls calls_at
no_calls = ap calls_of second_terms ∙ simp (fold-roll-TExpr, fold-roll-TPlace)

nothing_called : (n : ℕ) → ¬ (Reached small second_body n)
nothing_called n (directly f c) = absurd (omega (arith, ap length no_calls, c.1))
nothing_called n (further g func f r e c) = nothing_called g r

untaken_here : takes_in (Word (Global 0) 0) (terms_of main.body) ≡ false
unfolding takes takes_at
untaken_here = ap (takes_in (Word (Global 0) 0)) main_terms ∙ simp (fold-roll-TExpr, fold-roll-TPlace)

sums : only_updates red.Add (Local 1) second_body ≡ true
unfolding only_updates mentions mentions_at
sums = simp (para-roll-TStmt, para-roll-TKind, fold-roll-TExpr, fold-roll-TPlace, out-roll-TExpr, out-roll-TPlace)

greatest : only_updates red.Max (Word (Global 0) 0) second_body ≡ true
unfolding only_updates mentions mentions_at
greatest = simp (para-roll-TStmt, para-roll-TKind, fold-roll-TExpr, fold-roll-TPlace, out-roll-TExpr, out-roll-TPlace)

abbrev greatest_red : Red
greatest_red = record { op = red.Max; at = Word (Global 0) 0 }

is_word : Addr → Bool
is_word (Word o w) = true
is_word (Local k) = false
is_word (Head o) = false

differs : (j : ℕ) (q : Red) → slice_get (greatest_red ∷ []) j ≡ Some q → Local 1 ≢ q.at
unfolding is_word
differs zero q e t = true≢false (ap is_word (sym (t ∙ ap (λ (z : Red). z.at) (sym (same_some greatest_red q e)))))
differs (suc j) q e t = absurd (some_none q (sym e))

nothing_at : (P : Red → Type 0) (j : ℕ) (q : Red) → slice_get [] j ≡ Some q → P q
nothing_at P j q e = absurd (some_none q (sym e))

sum_variable : IsRedLocal small second_loop 1
unfolding info
sum_variable = record {
  integer = (main, record { name = []; kind = kind.Int }, refl, refl, refl);
  outside = refl;
  no_counter = λ e. absurd (omega (arith, e));
  no_bound = refl;
}

greatest_variable : IsRedGlobal small second_loop 0
unfolding info
greatest_variable = record {
  integer = (global, refl, refl);
  untaken = all_of (λ func. takes_in (Word (Global 0) 0) (terms_of func.body) ≡ false) small.funcs
      (one_function (λ n f. takes_in (Word (Global 0) 0) (terms_of f.body) ≡ false) untaken_here);
  unreached = λ f func r e. absurd (nothing_called f r);
}

variable : (j : ℕ) (q : Red) → slice_get small_reductions j ≡ Some q → IsRedVariable small second_loop q.at
variable zero q e = subst (λ (z : Red). IsRedVariable small second_loop z.at) (same_some _ q e) sum_variable
variable (suc zero) q e = subst (λ (z : Red). IsRedVariable small second_loop z.at) (same_some _ q e) (greatest_variable, refl)
variable (suc (suc j)) q e = absurd (some_none q (sym e))

updated : (j : ℕ) (q : Red) → slice_get small_reductions j ≡ Some q → only_updates q.op q.at second_body ≡ true
updated zero q e = subst (λ (z : Red). only_updates z.op z.at second_body ≡ true) (same_some _ q e) sums
updated (suc zero) q e = subst (λ (z : Red). only_updates z.op z.at second_body ≡ true) (same_some _ q e) greatest
updated (suc (suc j)) q e = absurd (some_none q (sym e))

second_accepted : IsAccepted small second_loop small_reductions
unfolding info
second_accepted = record {
  distinct =
      let R = λ (r q : Red). r.at ≢ q.at in
      AllPairs-cons R _ (greatest_red ∷ []) (all_of _ (greatest_red ∷ []) differs)
      (AllPairs-cons R greatest_red [] (all_of _ [] (nothing_at (R greatest_red))) (λ a b d l k. absurd (omega (arith, l, k))));
  variables = all_of _ small_reductions variable;
  updated = all_of _ small_reductions updated;
}

first_accepted : IsAccepted small first_loop []
unfolding info
first_accepted = record {
  distinct = λ a b d l k. absurd (omega (arith, l, k));
  variables = all_of _ [] (nothing_at _);
  updated = all_of _ [] (nothing_at _);
}

pub small_choices_fit : SmallChoicesAreSerializable
small_choices_fit zero l choice at e =
    subst (λ c. LooksAtReads c.policy × IsAccepted small l c.reds) (same_some first_choice choice (same_some _ _ e))
    (refl, subst (λ z. IsAccepted small z []) (same_some first_loop l (sym first_stands ∙ at)) first_accepted)
small_choices_fit (suc zero) l choice at e =
    subst (λ c. LooksAtReads c.policy × IsAccepted small l c.reds) (same_some second_choice choice (same_some _ _ e))
    (refl, subst (λ z. IsAccepted small z small_reductions) (same_some second_loop l (sym second_stands ∙ at)) second_accepted)
small_choices_fit (suc (suc n)) l choice at e = absurd (some_none (Some choice) (sym e))
