-- What is printed of a text between its quotes is that text.
use Rattle.std.proofs.Common.{◌≡◌, ℕ, suc, ◌+◌, ◌-◌, Bool, true, false, not, List, [], ◌∷◌, ◌++◌, append_assoc, take, length, slice_range, Option, Some, None, Ok, refl, sym, ap, subst, ◌∙◌, arith, length-append}
use Rattle.std.specs.Prelude.{◌==◌, ◌||◌, ◌&&◌, option_map, option_and_then}
use Rattle.std.proofs.Math.Seq.{take-append_seam}
use Rattle.std.proofs.lemmas.Bool.{eqb-true}
use Rattle.al_source.specs.declared.texts.Piece.{Piece}
use Rattle.al_source.specs.declared.texts.Piece.TheVariants as piece
use Rattle.al_source.specs.declared.tokens.TokenKind.TheVariants as kind
use Rattle.al_grammar.specs.Characters.{Bytes, is_plain}
use Rattle.al_grammar.specs.Lexemes.{TextUnit, unit_at, inside_from, inside_len, before_byte, before_unit, format_from, format_of, quoted, lexeme}
use Rattle.al_print.specs.Text.{byte_text, bytes_text, format_text}
use Rattle.al_print.proofs.Plain.{is_meant, AllMeant, IsFormat}
use Rattle.al_print.proofs.Lexed.{pick, skip}

-- Bytes that are one unit of a text, before others.
record IsUnit (u : Bytes) (o : Option ℕ) (y : Bytes) : Type 0 where
  inside : inside_from 0 (u ++ y) ≡ option_map (λ n. length u + n) (inside_from 0 y)
  format : format_from 0 (u ++ y) ≡ before_unit o (format_from 0 y)

once : (o : Option ℕ) → option_map suc o ≡ option_map (λ n. 1 + n) o
once None = refl
once (Some n) = ap Some (omega arith)

twice : (o : Option ℕ) → option_map suc (option_map suc o) ≡ option_map (λ n. 2 + n) o
twice None = refl
twice (Some n) = ap Some (omega arith)

thrice : (o : Option ℕ) → option_map suc (option_map suc (option_map suc o)) ≡ option_map (λ n. 3 + n) o
thrice None = refl
thrice (Some n) = ap Some (omega arith)

line_feed : (y : Bytes) → IsUnit (92 ∷ 110 ∷ []) (Some 10) y
unfolding unit_at
line_feed y = record { inside = twice (inside_from 0 y); format = refl }

tab : (y : Bytes) → IsUnit (92 ∷ 116 ∷ []) (Some 9) y
unfolding unit_at
tab y = record { inside = twice (inside_from 0 y); format = refl }

backslash : (y : Bytes) → IsUnit (92 ∷ 92 ∷ []) (Some 92) y
unfolding unit_at
backslash y = record { inside = twice (inside_from 0 y); format = refl }

quote : (y : Bytes) → IsUnit (92 ∷ 34 ∷ []) (Some 34) y
unfolding unit_at
quote y = record { inside = twice (inside_from 0 y); format = refl }

percent : (y : Bytes) → IsUnit (37 ∷ 37 ∷ []) (Some 37) y
unfolding unit_at
percent y = record { inside = twice (inside_from 0 y); format = refl }

number : (y : Bytes) → IsUnit (37 ∷ 108 ∷ 100 ∷ []) None y
unfolding unit_at
number y = record { inside = thrice (inside_from 0 y); format = refl }

apart : (x a b c : Bool) → (x && not (a || b || c)) ≡ true → (a ≡ false) × (b ≡ false) × (c ≡ false)
apart true false false false e = (refl, refl, refl)
apart true true b c e = absurd cc
apart true false true c e = absurd cc
apart true false false true e = absurd cc
apart false a b c e = absurd cc

plain_unit : (b : ℕ) (y : Bytes) → is_plain b ≡ true → unit_at (b ∷ y) ≡ Some (1, Some b)
unfolding unit_at
plain_unit b y e =
    let (q, p, s) = apart _ (b == 34) (b == 37) (b == 92) e in
    skip (b == 92) _ _ s ∙ skip (b == 37) _ _ p ∙ pick (is_plain b) _ _ e

abbrev from_unit : Bytes → Option TextUnit → List Piece
from_unit y None = format_from 0 y
from_unit y (Some u) = before_unit u.1 (format_from (u.0 - 1) y)

abbrev inside_unit : Bytes → Option TextUnit → Option ℕ
inside_unit y o = option_and_then (λ u. option_map suc (inside_from (u.0 - 1) y)) o

itself : (b : ℕ) (y : Bytes) → is_plain b ≡ true → IsUnit (b ∷ []) (Some b) y
itself b y e =
    let (q, p, s) = apart _ (b == 34) (b == 37) (b == 92) e in
    record {
      inside = skip (b == 34) _ _ q ∙ ap (inside_unit y) (plain_unit b y e) ∙ once (inside_from 0 y);
      format = ap (from_unit y) (plain_unit b y e);
    }

only_plain : (a b c d e : Bool) → (a || (b || (c || (d || e)))) ≡ true → b ≡ false → c ≡ false → d ≡ false → e ≡ false → a ≡ true
only_plain true b c d e h p q r s = refl
only_plain false true c d e h p q r s = absurd cc
only_plain false false true d e h p q r s = absurd cc
only_plain false false false true e h p q r s = absurd cc
only_plain false false false false e h p q r s = absurd (let both : true ≡ false = sym h ∙ s in cc)

byte_unit : (b : ℕ) (y : Bytes) → is_meant b ≡ true → IsUnit (byte_text b) (Some b) y
byte_unit b y h = by₁ (b == 10) refl
  where
    is : (c : ℕ) → b == c ≡ true → IsUnit (byte_text c) (Some c) y → IsUnit (byte_text b) (Some b) y
    is c e u = subst (λ (x : ℕ). IsUnit (byte_text x) (Some x) y) (sym (eqb-true b c e)) u

    by₅ : (t : Bool) → b == 37 ≡ t → b == 10 ≡ false → b == 9 ≡ false → b == 92 ≡ false → b == 34 ≡ false → IsUnit (byte_text b) (Some b) y
    by₅ true e p q r s = is 37 e (percent y)
    by₅ false e p q r s =
        let text : byte_text b ≡ b ∷ [] = skip (b == 10) _ _ p ∙ skip (b == 9) _ _ q ∙ skip (b == 92) _ _ r ∙ skip (b == 34) _ _ s ∙ skip (b == 37) _ _ e in
        subst (λ (u : Bytes). IsUnit u (Some b) y) (sym text) (itself b y (only_plain (is_plain b) (b == 10) (b == 34) (b == 37) (b == 92) h p s e r))

    by₄ : (t : Bool) → b == 34 ≡ t → b == 10 ≡ false → b == 9 ≡ false → b == 92 ≡ false → IsUnit (byte_text b) (Some b) y
    by₄ true e p q r = is 34 e (quote y)
    by₄ false e p q r = by₅ (b == 37) refl p q r e

    by₃ : (t : Bool) → b == 92 ≡ t → b == 10 ≡ false → b == 9 ≡ false → IsUnit (byte_text b) (Some b) y
    by₃ true e p q = is 92 e (backslash y)
    by₃ false e p q = by₄ (b == 34) refl p q e

    by₂ : (t : Bool) → b == 9 ≡ t → b == 10 ≡ false → IsUnit (byte_text b) (Some b) y
    by₂ true e p = is 9 e (tab y)
    by₂ false e p = by₃ (b == 92) refl p e

    by₁ : (t : Bool) → b == 10 ≡ t → IsUnit (byte_text b) (Some b) y
    by₁ true e = is 10 e (line_feed y)
    by₁ false e = by₂ (b == 9) refl e

-- ---- bytes and pieces, before others

map_add : (a b : Bytes) (o : Option ℕ) → option_map (λ n. length a + n) (option_map (λ n. length b + n) o) ≡ option_map (λ n. length (a ++ b) + n) o
map_add a b None = refl
map_add a b (Some n) = ap Some (omega (arith, length-append a b))

bytes_inside : (bs y : Bytes) → AllMeant bs → inside_from 0 (bytes_text bs ++ y) ≡ option_map (λ n. length (bytes_text bs) + n) (inside_from 0 y)
bytes_inside [] y h = same (inside_from 0 y)
  where
    same : (o : Option ℕ) → o ≡ option_map (λ n. 0 + n) o
    same None = refl
    same (Some n) = ap Some (omega arith)
bytes_inside (b ∷ bs) y h =
    let u = byte_unit b (bytes_text bs ++ y) h.0 in
    ap (inside_from 0) (append_assoc (byte_text b) (bytes_text bs) y) ∙ u.inside
    ∙ ap (option_map (λ n. length (byte_text b) + n)) (bytes_inside bs y h.1) ∙ map_add (byte_text b) (bytes_text bs) (inside_from 0 y)

abbrev before_bytes : Bytes → List Piece → List Piece
before_bytes [] ps = ps
before_bytes (b ∷ bs) ps = before_byte b (before_bytes bs ps)

bytes_format : (bs y : Bytes) → AllMeant bs → format_from 0 (bytes_text bs ++ y) ≡ before_bytes bs (format_from 0 y)
bytes_format [] y h = refl
bytes_format (b ∷ bs) y h =
    let u = byte_unit b (bytes_text bs ++ y) h.0 in
    ap (format_from 0) (append_assoc (byte_text b) (bytes_text bs) y) ∙ u.format ∙ ap (before_byte b) (bytes_format bs y h.1)

-- bytes before a format that begins with no bytes are one piece
one_piece : (b : ℕ) (bs : Bytes) (ps : List Piece) → IsFormat true ps → before_bytes (b ∷ bs) ps ≡ piece.Plain (b ∷ bs) ∷ ps
one_piece b [] [] h = refl
one_piece b [] (piece.Number ∷ ps) h = refl
one_piece b [] (piece.Plain cs ∷ ps) h = absurd h
one_piece b (c ∷ bs) ps h = ap (before_byte b) (one_piece c bs ps h)

format_again : (after : Bool) (ps : List Piece) → IsFormat after ps → format_from 0 (format_text ps) ≡ ps
format_again after [] h = refl
format_again after (piece.Number ∷ ps) h = (number (format_text ps)).format ∙ ap (λ (qs : List Piece). piece.Number ∷ qs) (format_again false ps h)
format_again true (piece.Plain bs ∷ ps) h = absurd h
format_again false (piece.Plain [] ∷ ps) h = absurd h
format_again false (piece.Plain (b ∷ bs) ∷ ps) h =
    bytes_format (b ∷ bs) (format_text ps) (h.0, h.1) ∙ ap (before_bytes (b ∷ bs)) (format_again true ps h.2) ∙ one_piece b bs ps h.2

pieces_inside : (after : Bool) (ps : List Piece) (y : Bytes)
    → IsFormat after ps → inside_from 0 (format_text ps ++ y) ≡ option_map (λ n. length (format_text ps) + n) (inside_from 0 y)
pieces_inside after [] y h = bytes_inside [] y tt
pieces_inside after (piece.Number ∷ ps) y h =
    (number (format_text ps ++ y)).inside ∙ ap (option_map (λ n. 3 + n)) (pieces_inside false ps y h)
    ∙ map_add (37 ∷ 108 ∷ 100 ∷ []) (format_text ps) (inside_from 0 y)
pieces_inside true (piece.Plain bs ∷ ps) y h = absurd h
pieces_inside false (piece.Plain [] ∷ ps) y h = absurd h
pieces_inside false (piece.Plain (b ∷ bs) ∷ ps) y h =
    ap (inside_from 0) (append_assoc (bytes_text (b ∷ bs)) (format_text ps) y) ∙ bytes_inside (b ∷ bs) (format_text ps ++ y) (h.0, h.1)
    ∙ ap (option_map (λ n. length (bytes_text (b ∷ bs)) + n)) (pieces_inside true ps y h.2) ∙ map_add (bytes_text (b ∷ bs)) (format_text ps) (inside_from 0 y)

-- ---- the whole token

inside_quotes : (f : List Piece) (z : Bytes) → IsFormat false f → inside_len (format_text f ++ 34 ∷ z) ≡ Some (length (format_text f))
unfolding inside_len
inside_quotes f z h = pieces_inside false f (34 ∷ z) h ∙ ap Some (omega arith)

format_is : (f : List Piece) → IsFormat false f → format_of (format_text f) ≡ f
unfolding format_of
format_is f h = format_again false f h

pub text_lexeme : (line : ℕ) (f : List Piece) (z : Bytes)
    → IsFormat false f → lexeme line (34 ∷ (format_text f ++ 34 ∷ z)) ≡ Ok (kind.Text f, length (format_text f) + 2)
unfolding lexeme
text_lexeme line f z h =
    let y : Bytes = 34 ∷ (format_text f ++ 34 ∷ z) in
    let len : ℕ = length (format_text f) in
    let back : len + 1 - 1 ≡ len = omega arith in
    let within : slice_range y 1 (len + 1) ≡ format_text f = ap (λ (k : ℕ). take k (format_text f ++ 34 ∷ z)) back
    ∙ take-append_seam (format_text f) (34 ∷ z) in
    ap (quoted line y) (inside_quotes f z h) ∙ ap (λ (v : Bytes). Ok (kind.Text (format_of v), len + 2)) within
    ∙ ap (λ (g : List Piece). Ok (kind.Text g, len + 2)) (format_is f h)
