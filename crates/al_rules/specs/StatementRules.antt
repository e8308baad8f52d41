-- Typing as a relation: which statements are well typed.
use Rattle.std.specs.Prelude.{◌≡◌, ℕ, Bool, true, List, [], ◌∷◌, ◌++◌, length, Option, Some, None}
use Rattle.al_source.specs.declared.annotations.LoopNote.{LoopNote}
use Rattle.al_source.specs.declared.annotations.NamedRed.{NamedRed}
use Rattle.al_source.specs.declared.operators.BinOp.{BinOp}
use Rattle.al_source.specs.declared.texts.Piece.{Piece}
use Rattle.al_source.specs.declared.source_tree.CType.{CType}
use Rattle.al_source.specs.declared.source_tree.CType.TheVariants as type
use Rattle.al_source.specs.declared.source_tree.Field.{Field}
use Rattle.al_source.specs.declared.source_tree.GlobalDef.{GlobalDef}
use Rattle.al_source.specs.declared.source_tree.Expr.{Expr}
use Rattle.al_source.specs.declared.source_tree.Expr.TheVariants as e
use Rattle.al_source.specs.declared.source_tree.Stmt.{Stmt, roll-Stmt}
use Rattle.al_source.specs.declared.source_tree.StmtKind.{StmtKind}
use Rattle.al_source.specs.declared.source_tree.StmtKind.TheVariants as s
use Rattle.al_rules.specs.Names.{Name, AllOf}
use Rattle.al_rules.specs.Scopes.{is_free}
use Rattle.al_rules.specs.Statements.{may_update, numbers_in}
use Rattle.al_rules.specs.ExpressionRules.{Names, named, is_known, Scalar, IsNoVariable, value, local, place, Has, Fits, Condition}

-- the locals of the innermost scope and those of the scopes around it, inner ones first
pub record Block : Type 0 where
  pub inner : List Field
  pub outer : List Field

abbrev pub no_block : Block
no_block = record { inner = []; outer = [] }

-- what a function's statements may name, beside the locals, and what it gives
pub record Setting : Type 0 where
  pub names : List Field → Names
  pub result : CType

abbrev pub in_block : Setting → Block → Names
in_block g b = g.names (b.inner ++ b.outer)

abbrev pub with_local : Name → CType → Block → Block
with_local name a b = record { inner = record { name = name; ty = a } ∷ b.inner; outer = b.outer }

abbrev pub within : Block → Block
within b = record { inner = []; outer = b.inner ++ b.outer }

abbrev pub at : ℕ → StmtKind → Stmt
at line k = roll-Stmt (record { line = line; kind = k })

-- the place of an assignment
pub data Assigns (g : Names) (x : Expr) (a : CType) : Type 0 where
  to_local : Has g x local a → Assigns g x a
  to_place : Has g x place a → Assigns g x a

-- the variable of a reduction is an integer local or an integer global
pub data Reduces (g : Names) (r : NamedRed) : Type 0 where
  of_local : {f : Field} → named (λ f. f.name) r.name g.locals ≡ Some f → f.ty ≡ type.Int → Reduces g r
  of_global : {x : GlobalDef}
      → named (λ f. f.name) r.name g.locals ≡ None → named (λ x. x.name) r.name g.globals ≡ Some x → x.ty ≡ type.Int
      → Reduces g r

pub data Noted (g : Names) : Option LoopNote → Type 0 where
  plain : Noted g None
  annotated : {n : LoopNote} → AllOf (Reduces g) n.reduce → Noted g (Some n)

pub data Tested (g : Names) : Option Expr → Type 0 where
  always : Tested g None
  test : {c : Expr} → Condition g c → Tested g (Some c)

pub data Starts (g : Names) (a : CType) : Option Expr → Type 0 where
  zeroed : Starts g a None
  by : {x : Expr} → Fits g x a → Starts g a (Some x)

-- what a `for`'s third part may be
pub data IsSimple : Stmt → Type 0 where
  assign : {line : ℕ} {x y : Expr} → IsSimple (at line (s.Assign x y))
  update : {line : ℕ} {op : BinOp} {x y : Expr} → IsSimple (at line (s.Update op x y))
  call : {line : ℕ} {name : Name} {xs : List Expr} → IsSimple (at line (s.Call name xs))
  print : {line : ℕ} {f : List Piece} {xs : List Expr} → IsSimple (at line (s.Print f xs))

-- what its first part may be
pub data IsFirst : Stmt → Type 0 where
  declare : {line : ℕ} {a : CType} {name : Name} {x : Expr} → IsFirst (at line (s.Declare a name (Some x)))
  simple : {b : Stmt} → IsSimple b → IsFirst b

-- a declaration stands in a list of statements alone, or in the first part of a `for`
pub data IsDeclaration : Stmt → Type 0 where
  declare : {line : ℕ} {a : CType} {name : Name} {x : Option Expr} → IsDeclaration (at line (s.Declare a name x))

-- the name of a statement that frees an object, which is no name of a program
pub record Frees (g : Names) (name : Name) : Type 0 where
  pub no_variable : IsNoVariable g name
  pub no_function : named (λ f. f.name) name g.funcs ≡ None
  pub is_free : is_free name ≡ true

-- A statement that stands in a loop, or in none, and the locals behind it.
mutual
  pub data Statement (g : Setting) : Bool → Block → Stmt → Block → Type 0 where
    empty : {looped : Bool} {b : Block} {line : ℕ} → Statement g looped b (at line s.Empty) b
    declare : {looped : Bool} {b : Block} {line : ℕ} {a : CType} {name : Name} {x : Option Expr}
        → named (λ f. f.name) name b.inner ≡ None → Scalar (is_known (in_block g b)) a
        → Starts (in_block g (with_local name a b)) a x
        → Statement g looped b (at line (s.Declare a name x)) (with_local name a b)
    assign : {looped : Bool} {b : Block} {line : ℕ} {x y : Expr} {a : CType}
        → Assigns (in_block g b) x a → Fits (in_block g b) y a → Statement g looped b (at line (s.Assign x y)) b
    update : {looped : Bool} {b : Block} {line : ℕ} {op : BinOp} {x y : Expr}
        → may_update op ≡ true → Assigns (in_block g b) x type.Int → Has (in_block g b) y value type.Int
        → Statement g looped b (at line (s.Update op x y)) b
    call : {looped : Bool} {b : Block} {line : ℕ} {name : Name} {xs : List Expr} {a : CType}
        → Has (in_block g b) (e.Call name xs) value a → Statement g looped b (at line (s.Call name xs)) b
    free : {looped : Bool} {b : Block} {line : ℕ} {name : Name} {x : Expr} (a : CType)
        → Frees (in_block g b) name → Fits (in_block g b) x (type.Ptr a)
        → Statement g looped b (at line (s.Call name (x ∷ []))) b
    print : {looped : Bool} {b : Block} {line : ℕ} {f : List Piece} {xs : List Expr}
        → length xs ≡ numbers_in f → AllOf (λ x. Has (in_block g b) x value type.Int) xs
        → Statement g looped b (at line (s.Print f xs)) b
    choice : {looped : Bool} {b : Block} {line : ℕ} {c : Expr} {x : Stmt}
        → Condition (in_block g b) c → Branch g looped b x → Statement g looped b (at line (s.If c x None)) b
    choice_of_two : {looped : Bool} {b : Block} {line : ℕ} {c : Expr} {x y : Stmt}
        → Condition (in_block g b) c → Branch g looped b x → Branch g looped b y
        → Statement g looped b (at line (s.If c x (Some y))) b
    while_loop : {looped : Bool} {b : Block} {line : ℕ} {c : Expr} {x : Stmt}
        → Condition (in_block g b) c → Branch g true b x → Statement g looped b (at line (s.While c x)) b
    for_loop : {looped : Bool} {b b₁ b₂ : Block} {line : ℕ} {first third : Option Stmt} {test : Option Expr} {x : Stmt}
        {n : Option LoopNote}
        → Noted (in_block g b) n → First g looped (within b) first b₁ → Tested (in_block g b₁) test
        → Third g looped b₁ third b₂ → Branch g true b₂ x
        → Statement g looped b (at line (s.For first test third x n)) b
    block : {looped : Bool} {b b₁ : Block} {line : ℕ} {ss : List Stmt} → Statements g looped (within b) ss b₁
        → Statement g looped b (at line (s.Block ss)) b
    return_none : {looped : Bool} {b : Block} {line : ℕ} → g.result ≡ type.Void
        → Statement g looped b (at line (s.Return None)) b
    return_value : {looped : Bool} {b : Block} {line : ℕ} {x : Expr} → Fits (in_block g b) x g.result
        → Statement g looped b (at line (s.Return (Some x))) b
    break_loop : {b : Block} {line : ℕ} → Statement g true b (at line s.Break) b
    continue_loop : {b : Block} {line : ℕ} → Statement g true b (at line s.Continue) b

  -- the branch of an `if` or the body of a loop, which declares nothing
  pub data Branch (g : Setting) : Bool → Block → Stmt → Type 0 where
    branch : {looped : Bool} {b b₁ : Block} {x : Stmt} → (IsDeclaration x → ⊥) → Statement g looped b x b₁
        → Branch g looped b x

  pub data First (g : Setting) : Bool → Block → Option Stmt → Block → Type 0 where
    no_first : {looped : Bool} {b : Block} → First g looped b None b
    first : {looped : Bool} {b b₁ : Block} {x : Stmt} → IsFirst x → Statement g looped b x b₁
        → First g looped b (Some x) b₁

  pub data Third (g : Setting) : Bool → Block → Option Stmt → Block → Type 0 where
    no_third : {looped : Bool} {b : Block} → Third g looped b None b
    third : {looped : Bool} {b b₁ : Block} {x : Stmt} → IsSimple x → Statement g looped b x b₁
        → Third g looped b (Some x) b₁

  pub data Statements (g : Setting) : Bool → Block → List Stmt → Block → Type 0 where
    done : {looped : Bool} {b : Block} → Statements g looped b [] b
    next : {looped : Bool} {b b₁ b₂ : Block} {x : Stmt} {xs : List Stmt}
        → Statement g looped b x b₁ → Statements g looped b₁ xs b₂ → Statements g looped b (x ∷ xs) b₂
