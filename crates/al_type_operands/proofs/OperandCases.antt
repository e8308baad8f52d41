-- Operands by what they are.
use Rattle.std.proofs.Common.{◌≡◌, ℕ, Bool, true, false, if◌then◌else◌, Some, None, Ok, Err, refl, ap, true≢false, sym}
use Rattle.std.specs.Prelude.{ℤ, is_ok, is_none}
use Rattle.al_source.specs.declared.operators.BinOp.{BinOp}
use Rattle.al_source.specs.declared.source_tree.CType.{CType, out-CType}
use Rattle.al_source.specs.declared.source_tree.CType.TheOpen.{CType-F}
use Rattle.al_core.specs.declared.typed_tree.TExpr.{TExpr}
use Rattle.al_core.specs.declared.typed_tree.TExpr.TheVariants as e
use Rattle.al_core.specs.declared.typed_tree.TPlace.{TPlace}
use Rattle.al_rules.specs.declared.operands.Operand.{Operand}
use Rattle.al_rules.specs.declared.operands.Operand.TheVariants.{Literal, Null, Value, Variable, Place}
use Rattle.std.proofs.lemmas.Option.{none-some, same_Some}
use Rattle.al_type_operands.specs.Literals.{literal_of}
use Rattle.al_source.specs.Steps.{and_then}
use Rattle.al_rules.specs.Checks.{Checked, or_else}
use Rattle.al_rules.specs.Types.{is_int_case, is_int, element}
use Rattle.al_rules.specs.Operands.{typed_case, read_case, used, as_integer, as_pointer, integer, pointer, of_integers, number}
use Rattle.al_rules.specs.declared.operands.Value.TheVariants.{Pointer, Useless}

-- a literal
pub pointer_literal : (x : Operand) (n : ℤ) → literal_of x ≡ Some n → pointer x ≡ pointer (Literal n)
pointer_literal (Literal m) n is = ap (λ m. pointer (Literal m)) (same_Some m n is)
pointer_literal Null n is = absurd (none-some n is)
pointer_literal (Value a x) n is = absurd (none-some n is)
pointer_literal (Variable k a) n is = absurd (none-some n is)
pointer_literal (Place a q) n is = absurd (none-some n is)

-- what is no literal
pub pointer_used : (x : Operand) → literal_of x ≡ None → pointer x ≡ as_pointer (used x)
unfolding pointer
pointer_used (Literal n) is = absurd (none-some n (sym is))
pointer_used Null is = refl
pointer_used (Value a x) is = refl
pointer_used (Variable k a) is = refl
pointer_used (Place a q) is = refl

pub ruleset pointers = (pointer_literal, pointer_used)

typed_int : (o : CType-F CType) (x : TExpr) → is_ok (as_integer (typed_case o x)) ≡ is_int_case o
typed_int CType-F.Int x = refl
typed_int CType-F.Void x = refl
typed_int (CType-F.Struct name) x = refl
typed_int (CType-F.Ptr a) x = refl
typed_int (CType-F.Array a n) x = refl

array_int : (b : Bool) (a : CType) (q : TPlace) → is_ok (as_integer (if b then Pointer (Some a) (e.Addr q) else Useless)) ≡ false
array_int true a q = refl
array_int false a q = refl

read_int : (o : CType-F CType) (q : TPlace) → is_ok (as_integer (read_case o q)) ≡ is_int_case o
read_int CType-F.Int q = refl
read_int CType-F.Void q = refl
read_int (CType-F.Struct name) q = refl
read_int (CType-F.Ptr a) q = refl
read_int (CType-F.Array a n) q = array_int (is_none (element a)) a q

pub int-Literal : (n : ℤ) → is_ok (integer (Literal n)) ≡ true
unfolding integer used
int-Literal n = refl

pub int-Null : is_ok (integer Null) ≡ false
unfolding integer used
int-Null = refl

pub int-Value : (a : CType) (x : TExpr) → is_ok (integer (Value a x)) ≡ is_int a
unfolding integer used is_int
int-Value a x = typed_int (out-CType a) x

pub int-Variable : (k : ℕ) (a : CType) → is_ok (integer (Variable k a)) ≡ is_int a
unfolding integer used is_int
int-Variable k a = typed_int (out-CType a) (e.Local k)

pub int-Place : (a : CType) (q : TPlace) → is_ok (integer (Place a q)) ≡ is_int a
unfolding integer used is_int
int-Place a q = read_int (out-CType a) q

pub ruleset integer_cases = (int-Literal, int-Null, int-Value, int-Variable, int-Place)

by_both : (op : BinOp) (x y : Operand) (p q : Checked TExpr) (other : Checked Operand) → is_ok p ≡ true → is_ok q ≡ true
    → or_else (and_then p (λ a. and_then q (λ b. Ok (number (e.Binary op a b))))) other ≡ and_then p (λ a. and_then q (λ b. Ok (number (e.Binary op a b))))
by_both op x y (Ok a) (Ok b) other h k = refl
by_both op x y (Ok a) (Err f) other h k = absurd (true≢false (sym k))
by_both op x y (Err f) q other h k = absurd (true≢false (sym h))

-- two integers
pub of_integers_is : (op : BinOp) (x y : Operand) (other : Checked Operand) → is_ok (integer x) ≡ true → is_ok (integer y) ≡ true
    → or_else (of_integers op x y) other ≡ of_integers op x y
of_integers_is op x y other h k = by_both op x y (integer x) (integer y) other h k

by_first : (op : BinOp) (p q : Checked TExpr) (other : Checked Operand) → is_ok p ≡ false
    → or_else (and_then p (λ a. and_then q (λ b. Ok (number (e.Binary op a b))))) other ≡ other
by_first op (Ok a) q other h = absurd (true≢false h)
by_first op (Err f) q other h = refl

by_second : (op : BinOp) (p q : Checked TExpr) (other : Checked Operand) → is_ok q ≡ false
    → or_else (and_then p (λ a. and_then q (λ b. Ok (number (e.Binary op a b))))) other ≡ other
by_second op (Ok a) (Ok b) other h = absurd (true≢false h)
by_second op (Ok a) (Err f) other h = refl
by_second op (Err f) q other h = refl

-- no integers
pub first_is_none : (op : BinOp) (x y : Operand) (other : Checked Operand) → is_ok (integer x) ≡ false → or_else (of_integers op x y) other ≡ other
first_is_none op x y other h = by_first op (integer x) (integer y) other h

pub second_is_none : (op : BinOp) (x y : Operand) (other : Checked Operand) → is_ok (integer y) ≡ false → or_else (of_integers op x y) other ≡ other
second_is_none op x y other h = by_second op (integer x) (integer y) other h

pub ruleset comparisons = (of_integers_is, first_is_none, second_is_none)
