-- The text of orderly tokens spells those tokens.
use Rattle.std.proofs.Common.{◌≡◌, ℕ, ◌+◌, ◌-◌, ◌<◌, ◌≤◌, Bool, true, false, [], ◌∷◌, ◌++◌, append_assoc, take, drop, length, slice_index, Option, Some, None, Ok, refl, sym, ap, subst, ◌∙◌, pos, negsuc, arith, nat_eq, length-append}
use Rattle.std.specs.Prelude.{◌==◌, ◌&&◌, nat_le, option_to_list, codes}
use Rattle.std.specs.Fmt.{decimal}
use Rattle.std.proofs.Math.Seq.{drop-append_seam}
use Rattle.std.proofs.lemmas.Bool.{leb-true, leb-false, lt-leb, ne_eqb}
use Rattle.std.proofs.lemmas.Fmt.{decimal_nonempty}
use Rattle.al_source.specs.declared.tokens.Token.{Token}
use Rattle.al_source.specs.declared.tokens.Key as the_key
use Rattle.al_source.specs.declared.tokens.Mark as the_mark
use Rattle.al_source.specs.declared.tokens.Mark.TheVariants as m
use Rattle.al_source.specs.declared.tokens.TokenKind.{TokenKind}
use Rattle.al_source.specs.declared.tokens.TokenKind.TheVariants.{Word, Key, Number, Text, Mark, Alter, EndAlter}
use Rattle.al_grammar.specs.declared.place.Place.{Place}
use Rattle.al_grammar.specs.declared.place.Place.TheVariants.{Fresh, Inside, Hash, Pragma, Skipped, Note}
use Rattle.al_grammar.specs.declared.place.Spot.{Spot}
use Rattle.al_grammar.specs.declared.place.Next.{Next}
use Rattle.al_grammar.specs.Characters.{Bytes, is_blank, is_letter, line_feeds}
use Rattle.al_grammar.specs.Words.{key_text, mark_text, mark_at}
use Rattle.al_grammar.specs.Lexemes.{begins_line_comment, begins_block_comment, named, lexeme}
use Rattle.al_grammar.specs.Spelling.{token_from, token_at, matter_at, next, spot_after, first_spot, note_end, SpellsFrom, ends, goes}
use Rattle.al_grammar.specs.Phrases.{Tokens, takes}
use Rattle.al_print.specs.Text.{format_text, ends_line, end_text, front_text, text_from, text_of}
use Rattle.al_print.specs.Tokens.{Kinds}
use Rattle.al_print.proofs.Front.{Has, none, some}
use Rattle.al_print.proofs.Plain.{IsName, IsFormat, Orderly}
use Rattle.al_print.proofs.Lexed.{skip, word_lexeme, key_lexeme, number_lexeme, key_letter, decimal_high}
use Rattle.al_print.proofs.LexedText.{text_lexeme}

abbrev spot : ℕ → ℕ → Place → Spot
spot at line place = record { at = at; line = line; place = place }

-- From a spot on, the bytes spell tokens of these kinds.
pub record Spelled (s : Spot) (z : Bytes) (ks : Kinds) : Type 0 where
  pub tokens : Tokens
  pub spells : SpellsFrom s z tokens
  pub has : Has ks tokens []

-- The same wherever in a source the place is.
abbrev After : Place → Bytes → Kinds → Type 0
After place z ks = (at line : ℕ) → Spelled (spot at line place) z ks

-- ---- steps

step : (s : Spot) (w z : Bytes) (n : Next) (ts : Tokens) → 0 < length w → n.len ≡ length w → next s (w ++ z) ≡ Ok n
    → SpellsFrom (spot_after s (w ++ z) n) z ts → SpellsFrom s (w ++ z) (option_to_list n.token ++ ts)
step s [] z n ts full len e r = absurd (omega arith)
step s (b ∷ w) z n ts full len e r =
    let less : n.len - 1 ≡ length w = omega arith in
    let rest : drop (n.len - 1) (w ++ z) ≡ z = ap (λ (k : ℕ). drop k (w ++ z)) less ∙ drop-append_seam w z in
    goes e (subst (λ (y : Bytes). SpellsFrom (spot_after s (b ∷ w ++ z) n) y ts) (sym rest) r)

-- what stands next where a token does
abbrev token_next : ℕ → ℕ → ℕ → TokenKind → Place → Next
token_next at line len k place = record { len = len; token = Some (token_from at line (at + len) k); place = place }

over_token : (p q : Place) (k : TokenKind) (w z : Bytes) (ks : Kinds)
    → 0 < length w → ((at line : ℕ) → next (spot at line p) (w ++ z) ≡ Ok (token_next at line (length w) k q)) → After q z ks → After p (w ++ z) (k ∷ ks)
over_token p q k w z ks full e r at line =
    let n = token_next at line (length w) k q in
    let s = r (at + length w) (line + line_feeds (take (length w) (w ++ z))) in
    record {
      tokens = token_from at line (at + length w) k ∷ s.tokens;
      spells = step (spot at line p) w z n s.tokens full refl (e at line) s.spells;
      has = some (takes refl) s.has;
    }

abbrev gap_next : Place → Next
gap_next place = record { len = 1; token = None; place = place }

over_gap : (p q : Place) (b : ℕ) (z : Bytes) (ks : Kinds)
    → ((at line : ℕ) → next (spot at line p) (b ∷ z) ≡ Ok (gap_next q)) → After q z ks → After p (b ∷ z) ks
over_gap p q b z ks e r at line =
    let s = r (at + 1) (line + line_feeds (take 1 (b ∷ z))) in
    record { tokens = s.tokens; spells = step (spot at line p) (b ∷ []) z (gap_next q) s.tokens (omega arith) refl (e at line) s.spells; has = s.has }

over_blank : (p : Place) (z : Bytes) (ks : Kinds) → After p z ks → After p (32 ∷ z) ks
unfolding next
over_blank p z ks r = over_gap p p 32 z ks (λ at line. refl) r

over_line : (z : Bytes) (ks : Kinds) → After Fresh z ks → After Inside (10 ∷ z) ks
unfolding next
over_line z ks r = over_gap Inside Fresh 10 z ks (λ at line. refl) r

-- an annotation ends before a line feed
over_end : (z : Bytes) (ks : Kinds) → After Fresh z ks → After Note (10 ∷ z) (EndAlter ∷ ks)
unfolding next
over_end z ks r at line =
    let s = r (at + 1) (line + line_feeds (take 1 (10 ∷ z))) in
    let t : Token = note_end (spot at line Note) in
    record {
      tokens = t ∷ s.tokens;
      spells = step (spot at line Note) (10 ∷ []) z (record { len = 1; token = Some t; place = Fresh }) s.tokens (omega arith) refl refl s.spells;
      has = some (takes refl) s.has;
    }

-- ---- the front of an annotation

-- a hash begins a directive, whose place says where that was
hash : (z : Bytes) (ks : Kinds) → ((start line : ℕ) → After (Hash start line) z ks) → After Fresh (35 ∷ z) ks
unfolding next
hash z ks r at line =
    let s = r at line (at + 1) (line + line_feeds (take 1 (35 ∷ z))) in
    record {
      tokens = s.tokens;
      spells = step (spot at line Fresh) (35 ∷ []) z (gap_next (Hash at line)) s.tokens (omega arith) refl refl s.spells;
      has = s.has;
    }

pragma_name : (start line : ℕ) (z : Bytes) (ks : Kinds) → After (Pragma start line) (32 ∷ z) ks → After (Hash start line) (codes "pragma" ++ 32 ∷ z) ks
unfolding next
pragma_name start line z ks r at l =
    let s = r (at + 6) (l + line_feeds (take 6 (codes "pragma" ++ 32 ∷ z))) in
    record {
      tokens = s.tokens;
      spells = step (spot at l (Hash start line)) (codes "pragma") (32 ∷ z) (record { len = 6; token = None; place = Pragma start line }) s.tokens (omega arith)
          refl refl s.spells;
      has = s.has;
    }

alter_name : (start line : ℕ) (z : Bytes) (ks : Kinds) → After Note (32 ∷ z) ks → After (Pragma start line) (codes "alter" ++ 32 ∷ z) (Alter ∷ ks)
unfolding next
alter_name start line z ks r at l =
    let s = r (at + 5) (l + line_feeds (take 5 (codes "alter" ++ 32 ∷ z))) in
    let t : Token = token_from start line (at + 5) Alter in
    record {
      tokens = t ∷ s.tokens;
      spells = step (spot at l (Pragma start line)) (codes "alter") (32 ∷ z) (record { len = 5; token = Some t; place = Note }) s.tokens (omega arith) refl refl
          s.spells;
      has = some (takes refl) s.has;
    }

over_front : (z : Bytes) (ks : Kinds) → After Note z ks → After Fresh (codes "#pragma alter" ++ 32 ∷ z) (Alter ∷ ks)
over_front z ks r =
    hash (codes "pragma alter" ++ 32 ∷ z) (Alter ∷ ks) (λ start line.
    pragma_name start line (codes "alter" ++ 32 ∷ z) (Alter ∷ ks)
    (over_blank (Pragma start line) (codes "alter" ++ 32 ∷ z) (Alter ∷ ks) (alter_name start line z ks (over_blank Note z ks r))))

-- ---- tokens at the places where they may stand

abbrev IsReady : Place → Type 0
IsReady Fresh = Unit {0}
IsReady Inside = Unit {0}
IsReady Note = Unit {0}
IsReady _ = ⊥

-- the place after a token
abbrev follow : Place → Place
follow Note = Note
follow _ = Inside

ready_matter : (p : Place)
    → IsReady p → (s : Spot) (b : ℕ) (z : Bytes) → b == 35 ≡ false → matter_at p s (b ∷ z) ≡ token_at s (follow p) (lexeme s.line (b ∷ z))
ready_matter Fresh h s b z e = skip (b == 35) _ _ e
ready_matter Inside h s b z e = refl
ready_matter Note h s b z e = refl
ready_matter (Hash start line) h s b z e = absurd h
ready_matter (Pragma start line) h s b z e = absurd h
ready_matter Skipped h s b z e = absurd h

not_blank : (b : ℕ) → 48 ≤ b → is_blank b ≡ false
not_blank b h =
    let space : nat_eq b 32 ≡ false = ne_eqb b 32 (λ e. omega arith) in
    let low : nat_le b 13 ≡ false = lt-leb b 13 (omega arith) in
    rw (space, low) (no (nat_le 9 b))
  where
    no : (t : Bool) → (t && false) ≡ false
    no true = refl
    no false = refl

high_matter : (s : Spot) (b : ℕ) (z : Bytes) → 48 ≤ b → b == 47 ≡ false → next s (b ∷ z) ≡ matter_at s.place s (b ∷ z)
unfolding next
high_matter s b z h e =
    let line : nat_eq b 10 ≡ false = ne_eqb b 10 (λ i. omega arith) in
    skip (b == 10) _ _ line ∙ skip (is_blank b) _ _ (not_blank b h)
    ∙ skip (begins_line_comment (b ∷ z)) _ _ (ap (λ (t : Bool). t && slice_index (b ∷ z) 1 == 47) e)
    ∙ skip (begins_block_comment (b ∷ z)) _ _ (ap (λ (t : Bool). t && slice_index (b ∷ z) 1 == 42) e)

-- a token whose first byte is a letter or a digit
high_token : (p : Place) → IsReady p → (k : TokenKind) (w z : Bytes) (ks : Kinds) → 0 < length w → 48 ≤ slice_index w 0
    → ((line : ℕ) → lexeme line (w ++ 32 ∷ z) ≡ Ok (k, length w)) → After (follow p) (32 ∷ z) ks → After p (w ++ 32 ∷ z) (k ∷ ks)
high_token p ready k [] z ks full high e r = absurd (omega arith)
high_token p ready k (b ∷ w) z ks full high e r =
    over_token p (follow p) k (b ∷ w) (32 ∷ z) ks full
    (λ at line.
    high_matter (spot at line p) b (w ++ 32 ∷ z) high (ne_eqb b 47 (λ i. omega arith))
    ∙ ready_matter p ready (spot at line p) b (w ++ 32 ∷ z) (ne_eqb b 35 (λ i. omega arith)) ∙ ap (token_at (spot at line p) (follow p)) (e line))
    r

letter_high : (b : ℕ) → is_letter b ≡ true → 48 ≤ b
letter_high b e = by (nat_le 48 b) refl
  where
    by : (t : Bool) → nat_le 48 b ≡ t → 48 ≤ b
    by true d = leb-true _ _ d
    by false d =
        let low : b < 48 = leb-false 48 b d in
        let x : nat_le 65 b ≡ false = lt-leb 65 b (omega arith) in
        let y : nat_le 97 b ≡ false = lt-leb 97 b (omega arith) in
        let z : nat_eq b 95 ≡ false = ne_eqb b 95 (λ i. omega arith) in
        let none : is_letter b ≡ false = rw (x, y, z) in
        absurd (let both : true ≡ false = sym e ∙ none in cc)

full_name : (w : Bytes) → is_letter (slice_index w 0) ≡ true → 0 < length w
full_name [] e = absurd cc
full_name (b ∷ w) e = omega arith

over_name : (p : Place) → IsReady p → (w z : Bytes) (ks : Kinds) → IsName w → After (follow p) z ks → After p (w ++ 32 ∷ z) (Word w ∷ ks)
over_name p ready w z ks h r =
    high_token p ready (Word w) w z ks (full_name w h.letter) (letter_high _ h.letter)
    (λ line. word_lexeme line w z h.letter h.whole ∙ ap (λ (o : Option the_key.Key). Ok (named w o, length w)) h.free)
    (over_blank (follow p) z ks r)

over_key : (k : the_key.Key) (p : Place) → IsReady p → (z : Bytes) (ks : Kinds) → After (follow p) z ks → After p (key_text k ++ 32 ∷ z) (Key k ∷ ks)
over_key k p ready z ks r =
    high_token p ready (Key k) (key_text k) z ks (full_name (key_text k) (key_letter k)) (letter_high _ (key_letter k)) (λ line. key_lexeme line k z)
    (over_blank (follow p) z ks r)

over_number : (n : ℕ) (p : Place)
    → IsReady p → (z : Bytes) (ks : Kinds) → n ≤ 9223372036854775807 → After (follow p) z ks → After p (decimal n ++ 32 ∷ z) (Number (pos n) ∷ ks)
over_number n p ready z ks small r =
    high_token p ready (Number (pos n)) (decimal n) z ks (decimal_nonempty n (omega arith)) (decimal_high n small) (λ line. number_lexeme line n z small)
    (over_blank (follow p) z ks r)

-- a text, whose first byte is its quote
quote_next : (p : Place) → IsReady p → (at line : ℕ) (z : Bytes) → next (spot at line p) (34 ∷ z) ≡ token_at (spot at line p) (follow p) (lexeme line (34 ∷ z))
unfolding next
quote_next p ready at line z = ready_matter p ready (spot at line p) 34 z refl

over_text : (f : _) (p : Place)
    → IsReady p → (z : Bytes) (ks : Kinds) → IsFormat false f → After (follow p) z ks → After p (34 ∷ (format_text f ++ 34 ∷ 32 ∷ z)) (Text f ∷ ks)
over_text f p ready z ks h r =
    let w : Bytes = 34 ∷ (format_text f ++ 34 ∷ []) in
    let whole : w ++ 32 ∷ z ≡ 34 ∷ (format_text f ++ 34 ∷ 32 ∷ z) = ap (λ (y : Bytes). 34 ∷ y) (append_assoc (format_text f) (34 ∷ []) (32 ∷ z)) in
    let long : length (format_text f) + 2 ≡ length w = omega (arith, length-append (format_text f) (34 ∷ [])) in
    subst (λ (y : Bytes). After p y (Text f ∷ ks)) whole
    (over_token p (follow p) (Text f) w (32 ∷ z) ks (omega arith)
    (λ at line.
    ap (next (spot at line p)) whole ∙ quote_next p ready at line (format_text f ++ 34 ∷ 32 ∷ z)
    ∙ ap (token_at (spot at line p) (follow p)) (text_lexeme line f (32 ∷ z) h)
    ∙ ap (λ (n : ℕ). Ok (token_next at line n (Text f) (follow p))) long)
    (over_blank (follow p) z ks r))

-- ---- marks, by their bytes and the end after them

mark_fresh : (k : the_mark.Mark) (at line : ℕ) (z : Bytes)
    → next (spot at line Fresh) (mark_text k ++ (end_text (ends_line (Mark k)) ++ z)) ≡ Ok (token_next at line (length (mark_text k)) (Mark k) Inside)
unfolding next lexeme mark_at
mark_fresh m.LeftParen at line z = refl
mark_fresh _ at line z = refl

mark_inside : (k : the_mark.Mark) (at line : ℕ) (z : Bytes)
    → next (spot at line Inside) (mark_text k ++ (end_text (ends_line (Mark k)) ++ z)) ≡ Ok (token_next at line (length (mark_text k)) (Mark k) Inside)
unfolding next lexeme mark_at
mark_inside m.LeftParen at line z = refl
mark_inside _ at line z = refl

mark_note : (k : the_mark.Mark) (at line : ℕ) (z : Bytes)
    → next (spot at line Note) (mark_text k ++ (end_text (ends_line (Mark k)) ++ z)) ≡ Ok (token_next at line (length (mark_text k)) (Mark k) Note)
unfolding next lexeme mark_at
mark_note m.LeftParen at line z = refl
mark_note _ at line z = refl

mark_full : (k : the_mark.Mark) → 0 < length (mark_text k)
mark_full m.LeftParen = omega arith
mark_full _ = omega arith

-- ---- whole texts

-- the place before tokens, where a line begins or not
abbrev outside : Bool → Place
outside true = Fresh
outside false = Inside

outside_ready : (b : Bool) → IsReady (outside b)
outside_ready true = tt
outside_ready false = tt

outside_follow : (b : Bool) {z : Bytes} {ks : Kinds} → After Inside z ks → After (follow (outside b)) z ks
outside_follow true r = r
outside_follow false r = r

over_ending : (b : Bool) (z : Bytes) (ks : Kinds) → After (outside b) z ks → After Inside (end_text b ++ z) ks
over_ending true z ks r = over_line z ks r
over_ending false z ks r = over_blank Inside z ks r

over_mark : (k : the_mark.Mark) (b : Bool) (z : Bytes) (ks : Kinds)
    → After (outside (ends_line (Mark k))) z ks → After (outside b) (mark_text k ++ (end_text (ends_line (Mark k)) ++ z)) (Mark k ∷ ks)
over_mark k true z ks r =
    over_token Fresh Inside (Mark k) (mark_text k) (end_text (ends_line (Mark k)) ++ z) ks (mark_full k) (λ at line. mark_fresh k at line z)
    (over_ending (ends_line (Mark k)) z ks r)
over_mark k false z ks r =
    over_token Inside Inside (Mark k) (mark_text k) (end_text (ends_line (Mark k)) ++ z) ks (mark_full k) (λ at line. mark_inside k at line z)
    (over_ending (ends_line (Mark k)) z ks r)

-- the appended parts of a token's text
parts : (p : Place) (a b z : Bytes) (ks : Kinds) → After p (a ++ (b ++ z)) ks → After p (a ++ b ++ z) ks
parts p a b z ks r = subst (λ (y : Bytes). After p y ks) (sym (append_assoc a b z)) r

over_nothing : (b : Bool) → After (outside b) [] []
over_nothing true at line = record { tokens = []; spells = ends refl; has = none }
over_nothing false at line = record { tokens = []; spells = ends refl; has = none }

over_alter : (b : Bool) (z : Bytes) (ks : Kinds)
    → After Note z ks → After (outside b) (front_text Alter b ++ codes "#pragma alter" ++ 32 ∷ [] ++ z) (Alter ∷ ks)
over_alter true z ks r = over_front z ks r
over_alter false z ks r = over_line (codes "#pragma alter" ++ 32 ∷ z) (Alter ∷ ks) (over_front z ks r)

abbrev place_of : Bool → Bool → Place
place_of true b = Note
place_of false b = outside b

spelled : (n b : Bool) (ks : Kinds) → Orderly n ks → After (place_of n b) (text_from b ks) ks
spelled false b [] h = over_nothing b
spelled true b [] h = absurd h
spelled false b (Word w ∷ ks) h =
    parts (outside b) w (32 ∷ []) (text_from false ks) (Word w ∷ ks)
    (over_name (outside b) (outside_ready b) w (text_from false ks) ks h.0 (outside_follow b (spelled false false ks h.1)))
spelled false b (Key k ∷ ks) h =
    parts (outside b) (key_text k) (32 ∷ []) (text_from false ks) (Key k ∷ ks)
    (over_key k (outside b) (outside_ready b) (text_from false ks) ks (outside_follow b (spelled false false ks h)))
spelled false b (Number (pos v) ∷ ks) h =
    parts (outside b) (decimal v) (32 ∷ []) (text_from false ks) (Number (pos v) ∷ ks)
    (over_number v (outside b) (outside_ready b) (text_from false ks) ks h.0 (outside_follow b (spelled false false ks h.1)))
spelled false b (Number (negsuc v) ∷ ks) h = absurd h.0
spelled false b (Text f ∷ ks) h =
    subst (λ (y : Bytes). After (outside b) y (Text f ∷ ks))
    (ap (λ (y : Bytes). 34 ∷ y)
    (sym (append_assoc (format_text f ++ 34 ∷ []) (32 ∷ []) (text_from false ks) ∙ append_assoc (format_text f) (34 ∷ []) (32 ∷ text_from false ks))))
    (over_text f (outside b) (outside_ready b) (text_from false ks) ks h.0 (outside_follow b (spelled false false ks h.1)))
spelled false b (Mark k ∷ ks) h =
    parts (outside b) (mark_text k) (end_text (ends_line (Mark k))) (text_from (ends_line (Mark k)) ks) (Mark k ∷ ks)
    (over_mark k b (text_from (ends_line (Mark k)) ks) ks (spelled false (ends_line (Mark k)) ks h))
spelled false b (Alter ∷ ks) h = over_alter b (text_from false ks) ks (spelled true false ks h)
spelled false b (EndAlter ∷ ks) h = absurd h
spelled true b (Word w ∷ ks) h =
    parts Note w (32 ∷ []) (text_from false ks) (Word w ∷ ks) (over_name Note tt w (text_from false ks) ks h.0 (spelled true false ks h.1))
spelled true b (Mark k ∷ ks) h =
    let rest : After Note (text_from (ends_line (Mark k)) ks) ks = subst (λ (t : Bool). After Note (text_from t ks) ks) (sym h.0) (spelled true false ks h.1) in
    let ended : After Note (end_text (ends_line (Mark k)) ++ text_from (ends_line (Mark k)) ks) ks =
    subst (λ (t : Bool). After Note (end_text t ++ text_from (ends_line (Mark k)) ks) ks) (sym h.0)
    (over_blank Note (text_from (ends_line (Mark k)) ks) ks rest) in
    parts Note (mark_text k) (end_text (ends_line (Mark k))) (text_from (ends_line (Mark k)) ks) (Mark k ∷ ks)
    (over_token Note Note (Mark k) (mark_text k) (end_text (ends_line (Mark k)) ++ text_from (ends_line (Mark k)) ks) ks (mark_full k)
    (λ at line. mark_note k at line (text_from (ends_line (Mark k)) ks)) ended)
spelled true b (EndAlter ∷ ks) h = over_end (text_from true ks) ks (spelled false true ks h)
spelled true b (Key k ∷ ks) h = absurd h
spelled true b (Number v ∷ ks) h = absurd h
spelled true b (Text f ∷ ks) h = absurd h
spelled true b (Alter ∷ ks) h = absurd h

pub spelled_text : (ks : Kinds) → Orderly false ks → Spelled first_spot (text_of ks) ks
unfolding text_of
spelled_text ks h = spelled false true ks h 0 1
