-- Typing as a relation: which types may stand where, and which types an expression has.
use Rattle.std.specs.Prelude.{◌≡◌, ℕ, ◌≤◌, Bool, true, List, [], ◌∷◌, Option, Some, None, pos, ℤ}
use Rattle.std.specs.List.{find}
use Rattle.std.specs.Str.{bytes_eq}
use Rattle.al_source.specs.declared.operators.RedOp.{RedOp}
use Rattle.al_source.specs.declared.operators.UnOp.TheVariants.{Neg, BitNot, Not}
use Rattle.al_source.specs.declared.operators.BinOp.{BinOp}
use Rattle.al_source.specs.declared.operators.BinOp.TheVariants.{Eq, Ne}
use Rattle.al_source.specs.declared.source_tree.CType.{CType}
use Rattle.al_source.specs.declared.source_tree.CType.TheVariants as type
use Rattle.al_source.specs.declared.source_tree.Field.{Field}
use Rattle.al_source.specs.declared.source_tree.StructDef.{StructDef}
use Rattle.al_source.specs.declared.source_tree.GlobalDef.{GlobalDef}
use Rattle.al_source.specs.declared.source_tree.Func.{Func}
use Rattle.al_source.specs.declared.source_tree.Expr.{Expr}
use Rattle.al_source.specs.declared.source_tree.Expr.TheVariants as e
use Rattle.al_rules.specs.Names.{Name}
use Rattle.al_rules.specs.Types.{element}
use Rattle.al_rules.specs.Scopes.{Callee, built_in, Input, Inputs, Choose, is_struct}

-- ---- where a type may stand

-- an integer or a pointer, where these structs are known
pub data Scalar (known : Name → Bool) : CType → Type 0 where
  int : Scalar known type.Int
  pointer : {a : CType} → Scalar known a → Scalar known (type.Ptr a)
  to_struct : {name : Name} → known name ≡ true → Scalar known (type.Ptr (type.Struct name))

-- what a field or a global may be: a struct by value is one that was defined before
pub data Held (before known : Name → Bool) : CType → Type 0 where
  scalar : {a : CType} → Scalar known a → Held before known a
  structure : {name : Name} → before name ≡ true → Held before known (type.Struct name)
  array : {a : CType} {n : ℕ} → 1 ≤ n → Held before known a → Held before known (type.Array a n)

-- what a function may give
pub data Result (known : Name → Bool) : CType → Type 0 where
  void : Result known type.Void
  scalar : {a : CType} → Scalar known a → Result known a

-- what `sizeof` and `calloc` take
pub data Sized (known : Name → Bool) : CType → Type 0 where
  scalar : {a : CType} → Scalar known a → Sized known a
  structure : {name : Name} → known name ≡ true → Sized known (type.Struct name)

-- ---- names

-- the locals in scope, inner ones first, and what the program defines
pub record Names : Type 0 where
  pub locals : List Field
  pub structs : List StructDef
  pub globals : List GlobalDef
  pub funcs : List Func

abbrev pub is_known : Names → Name → Bool
is_known g = is_struct g.structs

abbrev pub named : {A : Type 0} → (A → Name) → Name → List A → Option A
named name_of name xs = find (λ x. bytes_eq (name_of x) name) xs

-- no variable has the name
pub record IsNoVariable (g : Names) (name : Name) : Type 0 where
  pub no_local : named (λ f. f.name) name g.locals ≡ None
  pub no_global : named (λ x. x.name) name g.globals ≡ None

-- the struct of this name has a field of this name and type
pub record HasField (g : Names) (structure field : Name) (a : CType) : Type 0 where
  pub definition : StructDef
  pub defined : named (λ s. s.name) structure g.structs ≡ Some definition
  pub field_type : (f : Field) × (named (λ f. f.name) field definition.fields ≡ Some f) × (f.ty ≡ a)

-- ---- expressions

-- a value, a local, or a place in memory
pub data Status : Type 0 where
  value local place : Status

-- the name is built in, and no function has it
pub record IsBuiltIn (g : Names) (name : Name) (c : Callee) : Type 0 where
  pub no_function : named (λ f. f.name) name g.funcs ≡ None
  pub means : built_in name ≡ Some c

-- What an expression is. A place that holds an integer or a pointer is also a value, and an array is a pointer to its
-- first element, which is no array.
mutual
  pub data Has (g : Names) : Expr → Status → CType → Type 0 where
    number : {n : ℤ} → Has g (e.Number n) value type.Int
    local_variable : {name : Name} {f : Field} → named (λ f. f.name) name g.locals ≡ Some f
        → Has g (e.Var name) local f.ty
    global_variable : {name : Name} {x : GlobalDef}
        → named (λ f. f.name) name g.locals ≡ None → named (λ x. x.name) name g.globals ≡ Some x
        → Has g (e.Var name) place x.ty
    of_local : {x : Expr} {a : CType} → Has g x local a → Has g x value a
    of_int : {x : Expr} → Has g x place type.Int → Has g x value type.Int
    of_pointer : {x : Expr} (a : CType) → Has g x place (type.Ptr a) → Has g x value (type.Ptr a)
    of_array : {x : Expr} (a : CType) (n : ℕ) → Has g x place (type.Array a n) → element a ≡ None
        → Has g x value (type.Ptr a)
    negative : {x : Expr} → Has g x value type.Int → Has g (e.Unary Neg x) value type.Int
    complement : {x : Expr} → Has g x value type.Int → Has g (e.Unary BitNot x) value type.Int
    negation : {x : Expr} → Condition g x → Has g (e.Unary Not x) value type.Int
    binary : {op : BinOp} {x y : Expr} → Has g x value type.Int → Has g y value type.Int
        → Has g (e.Binary op x y) value type.Int
    equal : {x y : Expr} (a : CType) → Fits g x (type.Ptr a) → Fits g y (type.Ptr a)
        → Has g (e.Binary Eq x y) value type.Int
    unequal : {x y : Expr} (a : CType) → Fits g x (type.Ptr a) → Fits g y (type.Ptr a)
        → Has g (e.Binary Ne x y) value type.Int
    both : {x y : Expr} → Condition g x → Condition g y → Has g (e.And x y) value type.Int
    either : {x y : Expr} → Condition g x → Condition g y → Has g (e.Or x y) value type.Int
    of_elements : {x i : Expr} {a : CType} (n : ℕ) → Has g x place (type.Array a n) → Has g i value type.Int
        → Has g (e.Index x i) place a
    of_pointed : {x i : Expr} {a : CType} → Has g x value (type.Ptr a) → Has g i value type.Int
        → Has g (e.Index x i) place a
    field : {x : Expr} (name : Name) {member : Name} {a : CType} → Has g x place (type.Struct name)
        → HasField g name member a → Has g (e.Dot x member) place a
    field_behind : {x : Expr} (name : Name) {member : Name} {a : CType}
        → Has g x value (type.Ptr (type.Struct name)) → HasField g name member a → Has g (e.Arrow x member) place a
    followed : {x : Expr} {a : CType} → Has g x value (type.Ptr a) → Has g (e.Deref x) place a
    address : {x : Expr} {a : CType} → Has g x place a → element a ≡ None → Has g (e.Address x) value (type.Ptr a)
    call : {name : Name} {xs : List Expr} {f : Func}
        → IsNoVariable g name → named (λ f. f.name) name g.funcs ≡ Some f → FitAll g xs f.params
        → Has g (e.Call name xs) value f.result
    call_input : {name : Name} {x : Expr}
        → IsNoVariable g name → IsBuiltIn g name Input → Has g x value type.Int
        → Has g (e.Call name (x ∷ [])) value type.Int
    call_inputs : {name : Name} → IsNoVariable g name → IsBuiltIn g name Inputs → Has g (e.Call name []) value type.Int
    call_choose : {name : Name} {op : RedOp} {x y : Expr}
        → IsNoVariable g name → IsBuiltIn g name (Choose op) → Has g x value type.Int → Has g y value type.Int
        → Has g (e.Call name (x ∷ y ∷ [])) value type.Int
    size : {a : CType} → Sized (is_known g) a → Has g (e.SizeOf a) value type.Int
    allocation : {x : Expr} {a : CType} → Has g x value type.Int → Sized (is_known g) a
        → Has g (e.Calloc x a) value (type.Ptr a)

  -- a value that may stand where one of this type is wanted: `NULL` and the literal 0 fit every pointer type
  pub data Fits (g : Names) : Expr → CType → Type 0 where
    fits_int : {x : Expr} → Has g x value type.Int → Fits g x type.Int
    fits_pointer : {x : Expr} (a : CType) → Has g x value (type.Ptr a) → Fits g x (type.Ptr a)
    null : (a : CType) → Fits g e.Null (type.Ptr a)
    zero_literal : (a : CType) → Fits g (e.Number (pos 0)) (type.Ptr a)

  -- an integer or a pointer
  pub data Condition (g : Names) : Expr → Type 0 where
    of_integer : {x : Expr} → Has g x value type.Int → Condition g x
    of_pointers : {x : Expr} (a : CType) → Fits g x (type.Ptr a) → Condition g x

  -- as many arguments as parameters, and each fits its type
  pub data FitAll (g : Names) : List Expr → List Field → Type 0 where
    none : FitAll g [] []
    more : {x : Expr} {xs : List Expr} {f : Field} {fs : List Field} → Fits g x f.ty → FitAll g xs fs
        → FitAll g (x ∷ xs) (f ∷ fs)
