-- The printed tokens of simple statements, annotations and heads of loops are read as those.
use Rattle.std.proofs.Common.{◌≡◌, ℕ, Bool, true, false, List, [], ◌∷◌, ◌++◌, append_assoc, Option, Some, None, refl, sym, ap, subst, ◌∙◌, pos, arith}
use Rattle.std.proofs.lemmas.List.{append-nil}
use Rattle.std.proofs.lemmas.Slice.Eq.{bytes_eq-Decides}
use Rattle.std.specs.Prelude.{codes, if◌then◌else◌}
use Rattle.std.specs.Str.{bytes_eq}
use Rattle.al_source.specs.declared.tokens.TokenKind.{TokenKind}
use Rattle.al_source.specs.declared.tokens.TokenKind.TheVariants.{Word, Text, Key, Mark, Alter, EndAlter}
use Rattle.al_source.specs.declared.tokens.Mark.TheVariants as m
use Rattle.al_source.specs.declared.tokens.Key as the_key
use Rattle.al_source.specs.declared.tokens.Key.TheVariants as key
use Rattle.al_source.specs.declared.operators.BinOp.{BinOp}
use Rattle.al_source.specs.declared.operators.RedOp.{RedOp}
use Rattle.al_source.specs.declared.operators.RedOp.TheVariants as r
use Rattle.al_source.specs.declared.annotations.Policy.{Policy}
use Rattle.al_source.specs.declared.annotations.Policy.TheVariants as policy
use Rattle.al_source.specs.declared.annotations.CommitOrder.{CommitOrder}
use Rattle.al_source.specs.declared.annotations.CommitOrder.TheVariants as order
use Rattle.al_source.specs.declared.annotations.LoopNote.{LoopNote}
use Rattle.al_source.specs.declared.annotations.NamedRed.{NamedRed}
use Rattle.al_source.specs.declared.source_tree.Expr.{Expr}
use Rattle.al_source.specs.declared.source_tree.Stmt.{Stmt}
use Rattle.al_source.specs.declared.source_tree.StmtKind.{StmtKind}
use Rattle.al_source.specs.declared.source_tree.StmtKind.TheVariants as kind
use Rattle.al_grammar.specs.declared.operators.NoteWord.TheVariants as word
use Rattle.al_grammar.specs.Characters.{Bytes}
use Rattle.al_grammar.specs.Words.{key_text, key_of}
use Rattle.al_grammar.specs.Operators.{update_of, step_of, note_word_of}
use Rattle.al_grammar.specs.Phrases.{Tokens, Takes, line_at}
use Rattle.al_grammar.specs.Expressions.{Place}
use Rattle.al_grammar.specs.Statements.{statement_of, at, one, reduced, Values, CallValues, PrintValues, Simple, NotePolicy, NoteOrder, Reduced, Reductions, Note, Maybe, First, Third, Head, Parenthesized, Initializer}
use Rattle.al_grammar.specs.Statements as g
use Rattle.al_grammar.proofs.WordLemmas.{key_known}
use Rattle.al_print.specs.Tables.{update_mark, reduction, policy_word, order_word}
use Rattle.al_print.specs.Tokens.{Kinds, declared, with_commas, after_commas, expression, value, values, optional_value, initializer, all_reduced, note, end, head, callee, condition, statement_kind, part_of}
use Rattle.al_print.proofs.Cases.{tokens-Number, kind-Declare, kind-Assign, kind-Update, kind-Call, kind-Print, statement_is}
use Rattle.al_print.proofs.Front.{Has, none, split, split4, first, only, whole}
use Rattle.al_print.proofs.Plain.{IsName, AllWritable, Orderly, orderly, orderly3, taken, left}
use Rattle.al_print.proofs.Again.{Again, given, tidied}
use Rattle.al_print.proofs.PrintedTypes.{base, declarator}
use Rattle.al_print.proofs.PrintedExpressions.{means_again, means_left, found, whole_expression, place_again, literal}
use Rattle.al_print.proofs.Unlined.{SamePart, same_line, same_none, same_some}

-- ---- lists of values

pub record ValuesAgain (xs : List Expr) (us : Tokens) : Type 0 where
  pub commas : after_commas (values xs) ≡ Mark m.Comma ∷ with_commas (values xs)
  pub reads : (vs ms ws : Tokens) → Has (with_commas (values xs)) vs ms → Takes (Mark m.RightParen) ms ws → Values vs xs ws
  pub tidy : Orderly false (with_commas (values xs))
  pub left : AllWritable us

all_values : {ts us : Tokens} {xs : List Expr} → Values ts xs us → AllWritable ts → ValuesAgain xs us
all_values (g.last {x = x} q t) h = let a = whole_expression q h in record {
  commas = refl;
  reads = λ vs ms ws k r. g.last (a.reads vs ms (whole (value x) k)) r;
  tidy = orderly false (value x) _ a.tidy tt;
  left = left t a.left;
}
all_values (g.more {x = x} q t r) h = let a = whole_expression q h in let b = all_values r (left t a.left) in record {
  commas = refl;
  reads = λ vs ms ws k r.
      let (m₁, k₁, k₂) = split (value x) k in
      let (m₂, a₁, k₃) = first (given b.commas k₂) in
      g.more (a.reads vs m₁ k₁) a₁ (b.reads m₂ ms ws k₃ r);
  tidy = orderly false (value x) _ a.tidy (tidied b.commas b.tidy);
  left = b.left;
}

-- what stands before a `)`
pub record ListAgain (P : Tokens → Tokens → Type 0) (ks : Kinds) (us : Tokens) : Type 0 where
  pub reads : (vs ms ws : Tokens) → Has ks vs ms → Takes (Mark m.RightParen) ms ws → P vs ws
  pub tidy : Orderly false ks
  pub left : AllWritable us

no_call_values : {vs ms ws : Tokens} → Has [] vs ms → Takes (Mark m.RightParen) ms ws → CallValues vs [] ws
no_call_values none t = g.none t

call_values : {ts us : Tokens} {xs : List Expr} → CallValues ts xs us → AllWritable ts → ListAgain (λ vs ws. CallValues vs xs ws) (with_commas (values xs)) us
call_values (g.none t) h = record { reads = λ vs ms ws k r. no_call_values k r; tidy = tt; left = left t h }
call_values (g.some q) h = let a = all_values q h in record { reads = λ vs ms ws k r. g.some (a.reads vs ms ws k r); tidy = a.tidy; left = a.left }

no_print_values : {vs ms ws : Tokens} → Has [] vs ms → Takes (Mark m.RightParen) ms ws → PrintValues vs [] ws
no_print_values none t = g.none t

print_values : {ts us : Tokens} {xs : List Expr}
    → PrintValues ts xs us → AllWritable ts → ListAgain (λ vs ws. PrintValues vs xs ws) (after_commas (values xs)) us
print_values (g.none t) h = record { reads = λ vs ms ws k r. no_print_values k r; tidy = tt; left = left t h }
print_values (g.some t q) h = let a = all_values q (left t h) in record {
  reads = λ vs ms ws k r. let (m₁, a₁, k₁) = first (given a.commas k) in g.some a₁ (a.reads m₁ ms ws k₁ r);
  tidy = tidied a.commas a.tidy;
  left = a.left;
}

-- ---- simple statements

-- the tokens of a simple statement before its end
pub record SimpleAgain (k : StmtKind) (us : Tokens) : Type 0 where
  pub core : Kinds
  pub is : (b : Bool) → statement_kind k b ≡ core ++ end b
  pub again : Again (λ vs ws. Simple vs k ws) core us

some_same : {A : Type 0} {x y : A} → Some x ≡ Some y → x ≡ y
some_same d = cc

-- the mark that is printed for an updating operator says that operator
pub record Updates (op : BinOp) : Type 0 where
  pub is : update_of (Mark (update_mark op)) ≡ Some op

updates : (k : TokenKind) (op : BinOp) → update_of k ≡ Some op → Updates op
updates (Mark m.PlusAssign) op d = subst Updates (some_same d) (record { is = refl })
updates (Mark m.MinusAssign) op d = subst Updates (some_same d) (record { is = refl })
updates (Mark m.StarAssign) op d = subst Updates (some_same d) (record { is = refl })
updates (Mark m.SlashAssign) op d = subst Updates (some_same d) (record { is = refl })
updates (Mark m.PercentAssign) op d = subst Updates (some_same d) (record { is = refl })
updates (Mark m.AmpersandAssign) op d = subst Updates (some_same d) (record { is = refl })
updates (Mark m.PipeAssign) op d = subst Updates (some_same d) (record { is = refl })
updates (Mark m.CaretAssign) op d = subst Updates (some_same d) (record { is = refl })
updates (Mark m.ShiftLeftAssign) op d = subst Updates (some_same d) (record { is = refl })
updates (Mark m.ShiftRightAssign) op d = subst Updates (some_same d) (record { is = refl })
updates _ op d = absurd cc

steps : (k : TokenKind) (op : BinOp) → step_of k ≡ Some op → Updates op
steps (Mark m.Increment) op d = subst Updates (some_same d) (record { is = refl })
steps (Mark m.Decrement) op d = subst Updates (some_same d) (record { is = refl })
steps _ op d = absurd cc

step_again : {x : Expr} {op : BinOp} {us vs : Tokens}
    → Updates op → Again (λ vs ws. Place vs x ws) (expression x 10) us → AllWritable vs → SimpleAgain (kind.Update op x one) vs
step_again {x} {op} u a h = record {
  core = expression x 10 ++ Mark (update_mark op) ∷ value one;
  is = kind-Update op x one;
  again = record {
    reads = λ vs ws k.
        let (m₁, k₁, k₂) = split (expression x 10) k in
        let (m₂, a₁, k₃) = first k₂ in
        g.update (a.reads vs m₁ k₁) (means_again u.is a₁) (literal (only (given (tokens-Number (pos 1) 0) k₃)));
    tidy = orderly false (expression x 10) _ a.tidy (tidied (tokens-Number (pos 1) 0) (omega arith, tt));
    left = h;
  };
}

-- a name is no reserved word, so it is printed as a name
callee_name : (w : Bytes) → IsName w → callee w ≡ Word w
callee_name w n = by (bytes_eq w (key_text key.Free)) refl
  where
    by : (b : Bool) → bytes_eq w (key_text key.Free) ≡ b → (if b then Key key.Free else Word w) ≡ Word w
    by false d = refl
    by true d =
        let is : w ≡ key_text key.Free = (bytes_eq-Decides w (key_text key.Free)).0 d in
        let no : Some key.Free ≡ None = sym (key_known key.Free) ∙ ap key_of (sym is) ∙ n.free in
        absurd cc

pub simple : {ts us : Tokens} {k : StmtKind} → Simple ts k us → AllWritable ts → SimpleAgain k us
simple (g.assign {x = x} {y = y} p t q) h =
    let a = place_again p h in
    let b = whole_expression q (left t a.left) in
    record {
      core = expression x 10 ++ Mark m.Assign ∷ value y;
      is = kind-Assign x y;
      again = record {
        reads = λ vs ws k.
            let (m₁, k₁, k₂) = split (expression x 10) k in
            let (m₂, a₁, k₃) = first k₂ in
            g.assign (a.reads vs m₁ k₁) a₁ (b.reads m₂ ws k₃);
        tidy = orderly false (expression x 10) _ a.tidy b.tidy;
        left = b.left;
      };
    }
simple (g.update {x = x} {y = y} {op = op} p t q) h =
    let a = place_again p h in
    let b = whole_expression q (means_left t a.left) in
    let f = found t in
    let u = updates f.kind op f.is in
    record {
      core = expression x 10 ++ Mark (update_mark op) ∷ value y;
      is = kind-Update op x y;
      again = record {
        reads = λ vs ws k.
            let (m₁, k₁, k₂) = split (expression x 10) k in
            let (m₂, a₁, k₃) = first k₂ in
            g.update (a.reads vs m₁ k₁) (means_again u.is a₁) (b.reads m₂ ws k₃);
        tidy = orderly false (expression x 10) _ a.tidy b.tidy;
        left = b.left;
      };
    }
simple (g.step_after {op = op} p t) h = let a = place_again p h in let f = found t in step_again (steps f.kind op f.is) a (means_left t a.left)
simple (g.step_before {op = op} t p) h = let a = place_again p (means_left t h) in let f = found t in step_again (steps f.kind op f.is) a a.left
simple (g.call {w = w} {xs = xs} t u q) h =
    let a = call_values q (left u (left t h)) in
    record {
      core = Word w ∷ Mark m.LeftParen ∷ with_commas (values xs) ++ Mark m.RightParen ∷ [];
      is = λ b. kind-Call w xs b ∙ ap (λ k. k ∷ Mark m.LeftParen ∷ with_commas (values xs) ++ Mark m.RightParen ∷ end b) (callee_name w (taken t h))
          ∙ sym (append_assoc (Word w ∷ Mark m.LeftParen ∷ with_commas (values xs)) (Mark m.RightParen ∷ []) (end b));
      again = record {
        reads = λ vs ws k.
            let (m₁, a₁, k₁) = first k in
            let (m₂, a₂, k₂) = first k₁ in
            let (m₃, k₃, k₄) = split (with_commas (values xs)) k₂ in
            g.call a₁ a₂ (a.reads m₂ m₃ ws k₃ (only k₄));
        tidy = (taken t h, orderly false (with_commas (values xs)) _ a.tidy tt);
        left = a.left;
      };
    }
simple (g.print {f = f} {xs = xs} t u x q) h =
    let a = print_values q (left x (left u (left t h))) in
    record {
      core = Key key.Printf ∷ Mark m.LeftParen ∷ Text f ∷ after_commas (values xs) ++ Mark m.RightParen ∷ [];
      is = λ b. kind-Print f xs b ∙ sym (append_assoc (Key key.Printf ∷ Mark m.LeftParen ∷ Text f ∷ after_commas (values xs)) (Mark m.RightParen ∷ []) (end b));
      again = record {
        reads = λ vs ws k.
            let (m₁, a₁, k₁) = first k in
            let (m₂, a₂, k₂) = first k₁ in
            let (m₃, a₃, k₃) = first k₂ in
            let (m₄, k₄, k₅) = split (after_commas (values xs)) k₃ in
            g.print a₁ a₂ a₃ (a.reads m₃ m₄ ws k₄ (only k₅));
        tidy = (taken x (left u (left t h)), orderly false (after_commas (values xs)) _ a.tidy tt);
        left = a.left;
      };
    }
simple (g.free {x = x} t (g.parenthesized u e c)) h =
    let a = whole_expression e (left u (left t h)) in
    let inside = with_commas (values (x ∷ [])) in
    record {
      core = Key key.Free ∷ Mark m.LeftParen ∷ inside ++ Mark m.RightParen ∷ [];
      is = λ b. kind-Call (key_text key.Free) (x ∷ []) b ∙ sym (append_assoc (Key key.Free ∷ Mark m.LeftParen ∷ inside) (Mark m.RightParen ∷ []) (end b));
      again = record {
        reads = λ vs ws k.
            let (m₁, a₁, k₁) = first k in
            let (m₂, a₂, k₂) = first k₁ in
            let (m₃, k₃, k₄) = split inside k₂ in
            g.free a₁ (g.parenthesized a₂ (a.reads m₂ m₃ (whole (value x) k₃)) (only k₄));
        tidy = orderly false inside _ (orderly false (value x) _ a.tidy tt) tt;
        left = left c a.left;
      };
    }

-- ---- annotations

policy_means : (p : Policy) → note_word_of (policy_word p) ≡ Some (word.Policy p)
policy_means policy.Full = refl
policy_means policy.Raw = refl
policy_means policy.Waw = refl
policy_means policy.None = refl

order_means : (o : CommitOrder) → note_word_of (order_word o) ≡ Some (word.Order o)
order_means order.InOrder = refl
order_means order.OutOfOrder = refl

operator_means : (op : RedOp) → note_word_of (reduction op) ≡ Some (word.Operator op)
operator_means r.Add = refl
operator_means r.Mul = refl
operator_means r.Min = refl
operator_means r.Max = refl
operator_means r.BitAnd = refl
operator_means r.BitOr = refl
operator_means r.BitXor = refl

policy_tidy : (p : Policy) (ks : Kinds) → Orderly true ks → Orderly true (policy_word p ∷ ks)
unfolding key_of
policy_tidy policy.Full ks h = (record { letter = refl; whole = refl; free = refl }, h)
policy_tidy policy.Raw ks h = (record { letter = refl; whole = refl; free = refl }, h)
policy_tidy policy.Waw ks h = (record { letter = refl; whole = refl; free = refl }, h)
policy_tidy policy.None ks h = (record { letter = refl; whole = refl; free = refl }, h)

order_tidy : (o : CommitOrder) (ks : Kinds) → Orderly true ks → Orderly true (order_word o ∷ ks)
unfolding key_of
order_tidy order.InOrder ks h = (record { letter = refl; whole = refl; free = refl }, h)
order_tidy order.OutOfOrder ks h = (record { letter = refl; whole = refl; free = refl }, h)

operator_tidy : (op : RedOp) (ks : Kinds) → Orderly true ks → Orderly true (reduction op ∷ ks)
unfolding key_of
operator_tidy r.Add ks h = (refl, h)
operator_tidy r.Mul ks h = (refl, h)
operator_tidy r.Min ks h = (record { letter = refl; whole = refl; free = refl }, h)
operator_tidy r.Max ks h = (record { letter = refl; whole = refl; free = refl }, h)
operator_tidy r.BitAnd ks h = (refl, h)
operator_tidy r.BitOr ks h = (refl, h)
operator_tidy r.BitXor ks h = (refl, h)

reduce_name : IsName (codes "reduce")
unfolding key_of
reduce_name = record { letter = refl; whole = refl; free = refl }

no_reductions : {vs ws : Tokens} → Has [] vs ws → Reductions vs [] ws
no_reductions none = g.none

-- One `reduce` a variable.
reductions : (rs : List NamedRed) {vs ws : Tokens} → Has (all_reduced rs) vs ws → Reductions vs rs ws
reductions [] k = no_reductions k
reductions (r ∷ rs) k =
    let (m₁, a₁, k₁) = first k in
    let (m₂, a₂, k₂) = first k₁ in
    let (m₃, a₃, k₃) = first k₂ in
    let (m₄, a₄, k₄) = first k₃ in
    let (m₅, a₅, k₅) = first k₄ in
    let (m₆, a₆, k₆) = first k₅ in
    g.reduce (means_again refl a₁) a₂ (means_again (operator_means r.op) a₃) a₄ (g.last a₅ a₆) (reductions rs k₆)

abbrev AllNamed : List NamedRed → Type 0
AllNamed [] = Unit {0}
AllNamed (r ∷ rs) = IsName r.name × AllNamed rs

all_named : (rs ss : List NamedRed) → AllNamed rs → AllNamed ss → AllNamed (rs ++ ss)
all_named [] ss h k = k
all_named (r ∷ rs) ss h k = (h.0, all_named rs ss h.1 k)

reduced_names : {op : RedOp} {ts us : Tokens} {rs : List NamedRed} → Reduced op ts rs us → AllWritable ts → AllNamed rs × AllWritable us
reduced_names (g.last t u) h = ((taken t h, tt), left u (left t h))
reduced_names (g.more t u q) h = let a = reduced_names q (left u (left t h)) in ((taken t h, a.0), a.1)

reduction_names : {ts us : Tokens} {rs : List NamedRed} → Reductions ts rs us → AllWritable ts → AllNamed rs × AllWritable us
reduction_names g.none h = (tt, h)
reduction_names (g.reduce {ns = ns} t u o c n q) h =
    let a = reduced_names n (left c (means_left o (left u (means_left t h)))) in
    let b = reduction_names q a.1 in
    (all_named ns _ a.0 b.0, b.1)

reduced_tidy : (rs : List NamedRed) (ks : Kinds) → AllNamed rs → Orderly true ks → Orderly true (all_reduced rs ++ ks)
reduced_tidy [] ks h k = k
reduced_tidy (r ∷ rs) ks h k = (reduce_name, (refl, operator_tidy r.op _ (refl, (h.0, (refl, reduced_tidy rs ks h.1 k)))))

left_policy : {ts us : Tokens} {p : Policy} → NotePolicy ts p us → AllWritable ts → AllWritable us
left_policy g.absent h = h
left_policy (g.written t) h = means_left t h

left_order : {ts us : Tokens} {o : CommitOrder} → NoteOrder ts o us → AllWritable ts → AllWritable us
left_order g.absent h = h
left_order (g.written t) h = means_left t h

-- an annotation with its ends
pub record NoteAgain (n : LoopNote) (us : Tokens) : Type 0 where
  pub reads : (vs ws : Tokens) → Has (note n) vs ws → (ms : Tokens) × (ns : Tokens) × Takes Alter vs ms × Note ms n ns × Takes EndAlter ns ws
  pub tidy : Orderly false (note n)
  pub left : AllWritable us

pub whole_note : {ts us : Tokens} {n : LoopNote} → Note ts n us → AllWritable ts → NoteAgain n us
whole_note (g.note {p = p} {o = o} {rs = rs} a b c) h =
    let q = reduction_names c (left_order b (left_policy a h)) in
    record {
      reads = λ vs ws k.
          let (m₁, a₁, k₁) = first k in
          let (m₂, a₂, k₂) = first k₁ in
          let (m₃, a₃, k₃) = first k₂ in
          let (m₄, k₄, k₅) = split (all_reduced rs) k₃ in
          (m₁, m₄, a₁, g.note (g.written (means_again (policy_means p) a₂)) (g.written (means_again (order_means o) a₃)) (reductions rs k₄), only k₅);
      tidy = policy_tidy p _ (order_tidy o _ (reduced_tidy rs (EndAlter ∷ []) q.0 tt));
      left = q.1;
    }

-- ---- the head of a loop

no_value : {vs ws : Tokens} → Has [] vs ws → Maybe vs None ws
no_value none = g.nothing

pub maybe : {ts us : Tokens} {x : Option Expr} → Maybe ts x us → AllWritable ts → Again (λ vs ws. Maybe vs x ws) (optional_value x) us
maybe g.nothing h = record { reads = λ vs ws k. no_value k; tidy = tt; left = h }
maybe (g.just q) h = let a = whole_expression q h in record { reads = λ vs ws k. g.just (a.reads vs ws k); tidy = a.tidy; left = a.left }

no_initializer : {vs ws : Tokens} → Has [] vs ws → Initializer vs None ws
no_initializer none = g.nothing

pub initializer_again : {ts us : Tokens} {x : Option Expr} → Initializer ts x us → AllWritable ts → Again (λ vs ws. Initializer vs x ws) (initializer x) us
initializer_again g.nothing h = record { reads = λ vs ws k. no_initializer k; tidy = tt; left = h }
initializer_again (g.just t q) h = let a = whole_expression q (left t h) in record {
  reads = λ vs ws k. let (ms, a₁, k₁) = first k in g.just a₁ (a.reads ms ws k₁);
  tidy = a.tidy;
  left = a.left;
}

-- a part of a head, with the lines that it has where it is printed
pub record PartAgain (P : Tokens → Option Stmt → Tokens → Type 0) (x : Option Stmt) (us : Tokens) : Type 0 where
  pub reads : (vs ws : Tokens) → Has (part_of x) vs ws → (y : Option Stmt) × P vs y ws × SamePart y x
  pub tidy : Orderly false (part_of x)
  pub left : AllWritable us

-- the tokens of a simple statement in a head
part_is : (l : ℕ) {k : StmtKind} {us : Tokens} (a : SimpleAgain k us) → part_of (Some (statement_of l k)) ≡ a.core
part_is l {k} a = statement_is (statement_of l k) false ∙ a.is false ∙ append-nil a.core

no_first : {vs ws : Tokens} → Has [] vs ws → First vs None ws
no_first none = g.nothing

no_third : {vs ws : Tokens} → Has [] vs ws → Third vs None ws
no_third none = g.nothing

first_part : {ts us : Tokens} {x : Option Stmt} → First ts x us → AllWritable ts → PartAgain First x us
first_part g.nothing h = record { reads = λ vs ws k. (None, no_first k, same_none); tidy = tt; left = h }
first_part (g.declares {ts = ts} {a = a} {f = f} {x = x} b d t q) h =
    let p = base b h in
    let c = declarator d p.flat p.again.left in
    let v = whole_expression q (left t c.left) in
    let is : part_of (Some (at ts (kind.Declare f.ty f.name (Some x)))) ≡ declared f.ty f.name ++ Mark m.Assign ∷ value x =
    statement_is (at ts (kind.Declare f.ty f.name (Some x))) false ∙ kind-Declare f.ty f.name (Some x) false
    ∙ append-nil (declared f.ty f.name ++ Mark m.Assign ∷ value x) in
    record {
      reads = λ vs ws k.
          let (m₁, k₁, k₂) = split (declared f.ty f.name) (given is k) in
          let (m₂, k₃, e) = c.reads vs m₁ k₁ in
          let (m₃, a₁, k₄) = first k₂ in
          let made : StmtKind = kind.Declare f.ty f.name (Some x) in
          (Some (at vs made), g.declares (p.again.reads vs m₂ k₃) e a₁ (v.reads m₃ ws k₄), same_some (same_line (line_at vs) (line_at ts) made));
      tidy = tidied is (orderly false (declared f.ty f.name) _ (c.tidy p.again.tidy) v.tidy);
      left = v.left;
    }
first_part (g.simple {ts = ts} {k = k} q) h = let a = simple q h in record {
  reads = λ vs ws i. (Some (at vs k), g.simple (a.again.reads vs ws (given (part_is (line_at ts) a) i)), same_some (same_line (line_at vs) (line_at ts) k));
  tidy = tidied (part_is (line_at ts) a) a.again.tidy;
  left = a.again.left;
}

third_part : {ts us : Tokens} {x : Option Stmt} → Third ts x us → AllWritable ts → PartAgain Third x us
third_part g.nothing h = record { reads = λ vs ws k. (None, no_third k, same_none); tidy = tt; left = h }
third_part (g.simple {ts = ts} {k = k} q) h = let a = simple q h in record {
  reads = λ vs ws i. (Some (at vs k), g.simple (a.again.reads vs ws (given (part_is (line_at ts) a) i)), same_some (same_line (line_at vs) (line_at ts) k));
  tidy = tidied (part_is (line_at ts) a) a.again.tidy;
  left = a.again.left;
}

pub record HeadAgain (x : Option Stmt) (test : Option Expr) (y : Option Stmt) (us : Tokens) : Type 0 where
  pub reads : (vs ws : Tokens)
      → Has (head (part_of x) test (part_of y)) vs ws → (v : Option Stmt) × (w : Option Stmt) × Head vs v test w ws × SamePart v x × SamePart w y
  pub tidy : Orderly false (head (part_of x) test (part_of y))
  pub left : AllWritable us

pub head_again : {ts us : Tokens} {x y : Option Stmt} {test : Option Expr} → Head ts x test y us → AllWritable ts → HeadAgain x test y us
head_again (g.head {first = x} {third = y} {test = test} t₁ t₂ p t₃ q t₄ r t₅) h =
    let a = first_part p (left t₂ (left t₁ h)) in
    let b = maybe q (left t₃ a.left) in
    let c = third_part r (left t₄ b.left) in
    record {
      reads = λ vs ws k.
          let (m₁, a₁, k₁) = first k in
          let (m₂, a₂, k₂) = first k₁ in
          let (m₃, m₄, m₅, k₃, k₄, k₅, k₆) = split4 (part_of x) (Mark m.Semicolon ∷ optional_value test) (Mark m.Semicolon ∷ part_of y) k₂ in
          let (m₆, a₃, k₇) = first k₄ in
          let (m₇, a₄, k₈) = first k₅ in
          let (v, dv, sv) = a.reads m₂ m₃ k₃ in
          let (w, dw, sw) = c.reads m₇ m₅ k₈ in
          (v, w, g.head a₁ a₂ dv a₃ (b.reads m₆ m₄ k₇) a₄ dw (only k₆), sv, sw);
      tidy = orderly false (part_of x ++ Mark m.Semicolon ∷ optional_value test ++ Mark m.Semicolon ∷ part_of y) _
          (orderly3 (part_of x) (Mark m.Semicolon ∷ optional_value test) (Mark m.Semicolon ∷ part_of y) a.tidy b.tidy c.tidy) tt;
      left = left t₅ c.left;
    }

-- a reserved word with its condition
pub record ConditionAgain (k : the_key.Key) (c : Expr) (us : Tokens) : Type 0 where
  pub reads : (vs ws : Tokens) → Has (condition k c) vs ws → (ms : Tokens) × Takes (Key k) vs ms × Parenthesized ms c ws
  pub tidy : Orderly false (condition k c)
  pub left : AllWritable us

pub condition_again : {ts us : Tokens} {c : Expr} (k : the_key.Key) → Parenthesized ts c us → AllWritable ts → ConditionAgain k c us
condition_again k (g.parenthesized {x = x} t q u) h = let a = whole_expression q (left t h) in record {
  reads = λ vs ws i.
      let (m₁, a₁, k₁) = first i in
      let (m₂, a₂, k₂) = first k₁ in
      let (m₃, k₃, k₄) = split (value x) k₂ in
      (m₁, a₁, g.parenthesized a₂ (a.reads m₂ m₃ k₃) (only k₄));
  tidy = orderly false (value x) _ a.tidy tt;
  left = left u a.left;
}
