-- Sets that meet by words meet by lines.
use Rattle.std.proofs.Common.{◌≡◌, ℕ, List, [], ◌∷◌, Bool, true, false, ◌||◌, refl, sym, ap, ◌∙◌, arith}
use Rattle.std.proofs.Math.Bool.{true≢false}
use Rattle.std.specs.List.{list_any}
use Rattle.std.specs.FinSet as set
use Rattle.std.specs.FinSet.{FinSet, contains-empty}
use Rattle.al_core.specs.declared.values.Addr.{Addr}
use Rattle.al_core.specs.declared.values.Addr.TheVariants.{Word, Head, Local}
use Rattle.al_core.specs.Orders.{addr_cmp, addr_eq}
use Rattle.al_core.specs.Lines.{line_of}
use Rattle.al_core.specs.Clash.{meets, meets_lines}
use Rattle.al_laws.specs.Meeting.{WordsMeetByLines, LinesOfOneWord}
use Rattle.al_laws.proofs.Orders.{addr_equal, addr_itself}

-- an address of the set has the same line
abbrev line_in : ℕ → Addr → FinSet addr_cmp → Bool
line_in g x b = list_any (λ y. addr_eq (line_of g x) (line_of g y)) (set.items b)

-- ---- nothing meets the empty set

no_items : (l : List Addr) → ((q : Addr) → list_any (addr_eq q) l ≡ false) → l ≡ []
no_items [] none = refl
no_items (a ∷ l) none = absurd (true≢false (sym (ap (λ b. b || list_any (addr_eq a) l) (addr_itself a)) ∙ none a))

empty_items : set.items (set.empty {R = addr_cmp}) ≡ []
empty_items = no_items (set.items set.empty) (λ q. sym (set.contains-items set.empty q) ∙ contains-empty addr_cmp q)

none_among : (g : ℕ) (l : List Addr) → list_any (λ x. line_in g x set.empty) l ≡ false
none_among g [] = refl
none_among g (a ∷ l) =
    ap (λ b. b || list_any (λ x. line_in g x set.empty) l) (ap (list_any (λ y. addr_eq (line_of g a) (line_of g y))) empty_items) ∙ none_among g l

pub meets_nothing : (g : ℕ) (s : FinSet addr_cmp) → meets_lines g s set.empty ≡ false
unfolding meets_lines
meets_nothing g s = none_among g (set.items s)

-- ---- words and lines

or_right_true : (b : Bool) → (b || true) ≡ true
or_right_true true = refl
or_right_true false = refl

-- the same address has the same line
line_found : (g : ℕ) (x : Addr) (l : List Addr) → list_any (addr_eq x) l ≡ true → list_any (λ y. addr_eq (line_of g x) (line_of g y)) l ≡ true
line_found g x [] h = absurd (true≢false (sym h))
line_found g x (a ∷ l) h =
    elim (addr_eq x a) as
    (λ b. addr_eq x a ≡ b → (b || list_any (addr_eq x) l) ≡ true
    → (addr_eq (line_of g x) (line_of g a) || list_any (λ y. addr_eq (line_of g x) (line_of g y)) l) ≡ true) [
      | true ↦ λ t h.
          ap (λ b. b || list_any (λ y. addr_eq (line_of g x) (line_of g y)) l)
          (ap (λ y. addr_eq (line_of g x) (line_of g y)) (sym (addr_equal x a t)) ∙ addr_itself (line_of g x))
      | false ↦ λ t h. ap (λ b. addr_eq (line_of g x) (line_of g a) || b) (line_found g x l h) ∙ or_right_true (addr_eq (line_of g x) (line_of g a))
    ] refl h

any_line : (g : ℕ) (b : FinSet addr_cmp) (l : List Addr) → list_any (set.contains b) l ≡ true → list_any (λ x. line_in g x b) l ≡ true
any_line g b [] h = absurd (true≢false (sym h))
any_line g b (a ∷ l) h =
    elim (set.contains b a) as
    (λ z. set.contains b a ≡ z → (z || list_any (set.contains b) l) ≡ true → (line_in g a b || list_any (λ x. line_in g x b) l) ≡ true) [
      | true ↦ λ t h. ap (λ z. z || list_any (λ x. line_in g x b) l) (line_found g a (set.items b) (sym (set.contains-items b a) ∙ t))
      | false ↦ λ t h. ap (λ z. line_in g a b || z) (any_line g b l h) ∙ or_right_true (line_in g a b)
    ] refl h

pub words_meet_by_lines : WordsMeetByLines
unfolding meets meets_lines
words_meet_by_lines g a b h = any_line g b (set.items a) h

-- ---- lines of one word

line_of_one : (x : Addr) → line_of 1 x ≡ x
line_of_one (Word o w) = ap (λ n. Word o n) (omega arith)
line_of_one (Head o) = refl
line_of_one (Local k) = refl

one_word : (x : Addr) (l : List Addr) → list_any (λ y. addr_eq (line_of 1 x) (line_of 1 y)) l ≡ list_any (addr_eq x) l
one_word x [] = refl
one_word x (a ∷ l) = λ i. addr_eq (line_of_one x i) (line_of_one a i) || one_word x l i

any_word : (b : FinSet addr_cmp) (l : List Addr) → list_any (λ x. line_in 1 x b) l ≡ list_any (set.contains b) l
any_word b [] = refl
any_word b (a ∷ l) = λ i. (one_word a (set.items b) ∙ sym (set.contains-items b a)) i || any_word b l i

pub lines_of_one_word : LinesOfOneWord
unfolding meets meets_lines
lines_of_one_word a b = any_word b (set.items a)
