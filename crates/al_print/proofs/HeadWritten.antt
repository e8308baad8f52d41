-- What a writer holds after a `for`, written part by part, and after a called name.
use Rattle.std.proofs.Common.{◌≡◌, Bool, true, false, [], ◌∷◌, ◌++◌, Option, refl, sym, ap, ◌∙◌}
use Rattle.std.proofs.lemmas.Slice.Eq.{bytes_eq-Decides}
use Rattle.std.specs.Prelude.{if◌then◌else◌}
use Rattle.std.specs.Str.{bytes_eq}
use Rattle.std.proofs.lemmas.Grind.{fold-append}
use Rattle.al_source.specs.declared.tokens.Mark.TheVariants as m
use Rattle.al_source.specs.declared.tokens.Key.TheVariants as key
use Rattle.al_source.specs.declared.tokens.TokenKind.TheVariants.{Word, Key, Mark}
use Rattle.al_source.specs.declared.source_tree.Expr.{Expr}
use Rattle.al_grammar.specs.Characters.{Bytes}
use Rattle.al_grammar.specs.Words.{key_text}
use Rattle.al_print.specs.declared.writer.Writer.{Writer}
use Rattle.al_print.specs.Tokens.{Kinds, optional_value, callee, head}
use Rattle.al_print.specs.Writing.{written, all_written}

written_twice : (w : Writer) (xs ys zs : Kinds) → all_written w (xs ++ ys ++ zs) ≡ all_written (all_written w xs) (ys ++ zs)
written_twice w xs ys zs =
    fold-append written w (xs ++ ys) zs ∙ ap (λ (v : Writer). all_written v zs) (fold-append written w xs ys)
    ∙ sym (fold-append written (all_written w xs) ys zs)

head_written : (w : Writer) (a : Kinds) (test : Option Expr) (c : Kinds)
    → all_written w (head a test c)
    ≡ all_written (all_written (all_written w (Key key.For ∷ Mark m.LeftParen ∷ a)) (Mark m.Semicolon ∷ optional_value test))
    (Mark m.Semicolon ∷ c ++ Mark m.RightParen ∷ [])
head_written w a test c =
    written_twice w (Key key.For ∷ Mark m.LeftParen ∷ a ++ Mark m.Semicolon ∷ optional_value test) (Mark m.Semicolon ∷ c) (Mark m.RightParen ∷ [])
    ∙ ap (λ (v : Writer). all_written v (Mark m.Semicolon ∷ c ++ Mark m.RightParen ∷ []))
    (fold-append written w (Key key.For ∷ Mark m.LeftParen ∷ a) (Mark m.Semicolon ∷ optional_value test))

pub for_written : (w : Writer) (n a : Kinds) (test : Option Expr) (c x : Kinds)
    → all_written w (n ++ head a test c ++ x)
    ≡ all_written
    (all_written (all_written (all_written (all_written w n) (Key key.For ∷ Mark m.LeftParen ∷ a)) (Mark m.Semicolon ∷ optional_value test))
    (Mark m.Semicolon ∷ c ++ Mark m.RightParen ∷ [])) x
for_written w n a test c x =
    fold-append written w (n ++ head a test c) x
    ∙ ap (λ (v : Writer). all_written v x) (fold-append written w n (head a test c) ∙ head_written (all_written w n) a test c)

-- A reserved word is written as its bytes, as a name is.
pub callee_written : (w : Writer) (name : Bytes) → written w (Word name) ≡ written w (callee name)
unfolding written
callee_written w name = by (bytes_eq name (key_text key.Free)) refl
  where
    by : (b : Bool) → bytes_eq name (key_text key.Free) ≡ b → written w (Word name) ≡ written w (if b then Key key.Free else Word name)
    by false d = refl
    by true d = ap (λ n. written w (Word n)) ((bytes_eq-Decides name (key_text key.Free)).0 d)
