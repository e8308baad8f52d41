-- Where no layout fault is, what `sizeof` and `calloc` take has no more words than an object may have.
use Rattle.std.proofs.Common.{◌≡◌, ℕ, zero, suc, ◌≤◌, Bool, true, false, nat_lt, if◌then◌else◌, cond, List, [], ◌∷◌, ◌++◌, find, Option, Some, None, Result, Ok, refl, sym, ap, ◌∙◌, subst, arith}
use Rattle.std.specs.List.{AllByRecursion, list_any}
use Rattle.std.specs.Str.{bytes_eq}
use Rattle.al_source.specs.declared.limits.TheConstants.{OBJECT_WORDS}
use Rattle.al_source.specs.declared.source_tree.CType.{CType}
use Rattle.al_source.specs.declared.source_tree.Item.{Item}
use Rattle.al_source.specs.declared.source_tree.Item.TheVariants as item
use Rattle.al_rules.specs.declared.faults.LayoutCause.{LayoutCause}
use Rattle.al_rules.specs.declared.faults.LayoutCause.TheVariants.{SelfHolding, TooLarge}
use Rattle.al_rules.specs.declared.layout.Layout.{Layout}
use Rattle.al_rules.specs.declared.layout.StructLayout.{StructLayout}
use Rattle.al_rules.specs.Names.{Name}
use Rattle.al_rules.specs.Types.{form, is_sized, Form, Nothing, Scalar, Structure, Sequence, Malformed, array_form}
use Rattle.al_rules.specs.Layouts.{words_or_none, words_of, words_of_fields, struct_layout, holds, with_item, too_large, layout_fault_at, laid_out}
use Rattle.al_rules.proofs.LayoutNodes.{words-Int, words-Void, words-Struct, words-Ptr}
use Rattle.al_rules.proofs.TypeNodes.{form-Array}
use Rattle.al_rules_laws.proofs.LayoutFacts.{unless_ok}
use Rattle.al_rules_laws.proofs.SourceInduction.{type_induct}

abbrev pub StructSmall : StructLayout → Type 0
StructSmall s = s.words ≤ OBJECT_WORDS

abbrev pub StructsSmall : Layout → Type 0
StructsSmall l = AllByRecursion StructSmall l.structs

each_both : {A : Type 0} (P : A → Type 0) (xs ys : List A) → AllByRecursion P xs → AllByRecursion P ys → AllByRecursion P (xs ++ ys)
each_both P [] ys h k = k
each_both P (x ∷ xs) ys h k = (h.0, each_both P xs ys h.1 k)

no_fault : (words line : ℕ) → too_large words line ≡ None → words ≤ OBJECT_WORDS
no_fault words line e = by (nat_lt OBJECT_WORDS words) refl e
  where
    by : (b : Bool) → nat_lt OBJECT_WORDS words ≡ b → ◌≡◌ {A = Option LayoutCause} (if b then Some (TooLarge line) else None) None → words ≤ OBJECT_WORDS
    by true is e = absurd cc
    by false is e = grind arith

struct_fault : (b : Bool) (words line : ℕ) → (if b then Some (SelfHolding line) else too_large words line) ≡ None → words ≤ OBJECT_WORDS
struct_fault true words line e = absurd cc
struct_fault false words line e = no_fault words line e

item_small : (l : Layout) (i : Item) → StructsSmall l → layout_fault_at l i ≡ None → StructsSmall (with_item l i)
item_small l (item.Struct s) h e =
    each_both StructSmall l.structs (struct_layout l.structs s ∷ []) h
    (struct_fault (list_any (λ f. holds s.name f.ty) s.fields) (words_of_fields l.structs s.fields) s.line e, tt)
item_small l (item.Global g) h e = h
item_small l (item.Func f) h e = h

pub laid_small : (l : Layout) (is : List Item) (m : Layout) → StructsSmall l → laid_out l is ≡ Ok m → StructsSmall m
laid_small l [] m h e = subst StructsSmall (same e) h
  where
    same : ◌≡◌ {A = Result Layout LayoutCause} (Ok l) (Ok m) → l ≡ m
    same e = cc
laid_small l (i ∷ is) m h e =
    let q = unless_ok (layout_fault_at l i) (laid_out (with_item l i) is) m e in
    laid_small (with_item l i) is m (item_small l i h q.0) q.1

-- ---- the words of a type

first_small : (b : Bool) (s : StructLayout) (o : Option StructLayout) → StructSmall s → words_or_none o ≤ OBJECT_WORDS
    → words_or_none (cond b (Some s) o) ≤ OBJECT_WORDS
first_small true s o h k = h
first_small false s o h k = k

found_small : (name : Name) (ss : List StructLayout) → AllByRecursion StructSmall ss → words_or_none (find (λ s. bytes_eq s.name name) ss) ≤ OBJECT_WORDS
found_small name [] h = omega arith
found_small name (s ∷ ss) h = first_small (bytes_eq s.name name) s (find (λ s. bytes_eq s.name name) ss) h.0 (found_small name ss h.1)

no_array : (n : ℕ) (f : Form) → is_sized (array_form n f) ≡ true → ⊥
no_array zero f e = absurd cc
no_array (suc n) Nothing e = absurd cc
no_array (suc n) Scalar e = absurd cc
no_array (suc n) Structure e = absurd cc
no_array (suc n) Sequence e = absurd cc
no_array (suc n) Malformed e = absurd cc

pub words_small : (ss : List StructLayout) → AllByRecursion StructSmall ss → (a : CType) → is_sized (form a) ≡ true → words_of ss a ≤ OBJECT_WORDS
words_small ss h = type_induct (λ a. is_sized (form a) ≡ true → words_of ss a ≤ OBJECT_WORDS) (record {
  int = λ _. subst (λ n. n ≤ OBJECT_WORDS) (sym (words-Int ss)) (omega arith);
  void = λ _. subst (λ n. n ≤ OBJECT_WORDS) (sym (words-Void ss)) (omega arith);
  structure = λ name _. subst (λ n. n ≤ OBJECT_WORDS) (sym (words-Struct ss name)) (found_small name ss h);
  pointer = λ a k e. subst (λ n. n ≤ OBJECT_WORDS) (sym (words-Ptr ss a)) (omega arith);
  array = λ a n k e. absurd (no_array n (form a) (sym (ap is_sized (form-Array a n)) ∙ e));
})
