-- The parser of types and declared names reads what the grammar has, and nothing else.
use Rattle.std.proofs.Common.{◌≡◌, ℕ, zero, suc, ◌<◌, ◌≤◌, Bool, true, false, [], ◌∷◌, length, Option, Some, None, Ok, refl, ap, subst, ◌∙◌, arith}
use Rattle.std.specs.Prelude.{ℤ, pos, ◌&&◌, nat_le, int_le, ◌≤ℤ◌}
use Rattle.std.proofs.lemmas.Bool.{leb-true, le-leb, and_parts}
use Rattle.std.proofs.lemmas.Int.{ints}
use Rattle.al_source.specs.declared.tokens.TokenKind.{TokenKind}
use Rattle.al_source.specs.declared.tokens.TokenKind.TheVariants.{Word, Number, Key, Mark}
use Rattle.al_source.specs.declared.tokens.Mark as the_mark
use Rattle.al_source.specs.declared.tokens.Mark.TheVariants as m
use Rattle.al_source.specs.declared.tokens.Key as the_key
use Rattle.al_source.specs.declared.tokens.Key.TheVariants as key
use Rattle.al_source.specs.declared.source_tree.CType.{CType}
use Rattle.al_source.specs.declared.source_tree.CType.TheVariants as type
use Rattle.al_source.specs.declared.source_tree.Field.{Field}
use Rattle.al_source.specs.declared.limits.TheConstants.{DECLARATOR_STARS, DECLARATOR_DIMENSIONS, DIMENSION_LENGTH}
use Rattle.al_grammar.specs.Phrases.{Tokens, Name, Takes, takes, Optional}
use Rattle.al_grammar.specs.Phrases as ph
use Rattle.al_grammar.specs.Types.{Base, Stars, Dimensions, Declarator, SizeOf}
use Rattle.al_grammar.specs.Types as g
use Rattle.al_source.specs.Steps.{bind, pure}
use Rattle.al_grammar.specs.Steps.{skip_if, key_in, key_at, mark_in, tail, same_mark, same_key, is_mark_in, is_mark, is_key, is_key_in, expect, expect_key, word}
use Rattle.al_grammar.specs.TypeParser.{optional, base_by, base, star_by, stars, length_by, length_of, take_length_by, take_length, dimension_by, dimensions, named, declarator, operand_type, size_of}
use Rattle.al_grammar.proofs.StepFacts.{bind_ok, yields, some_same, takes_kind, takes_tail, takes_shorter, key_takes, is_mark_takes, is_key_takes, takes_is_mark, takes_is_key, takes_expect, takes_expect_key, expect_takes, expect_key_takes, takes_word, word_takes}

-- ---- what the parser reads is in the grammar

sound_optional : (k : the_key.Key) (ts : Tokens) (p : Unit {0} × Tokens) → optional k ts ≡ Ok p → Optional (Key k) ts p.1
sound_optional k ts p e = by (is_key k ts) refl e
  where
    by : (b : Bool) → is_key k ts ≡ b → skip_if b ts ≡ Ok p → Optional (Key k) ts p.1
    by true d e = yields (λ (p : Unit {0} × Tokens). Optional (Key k) ts p.1) (tt, tail ts) p (ph.written (is_key_takes k ts d)) e
    by false d e = yields (λ (p : Unit {0} × Tokens). Optional (Key k) ts p.1) (tt, ts) p ph.left_out e

pub sound_base : (ts : Tokens) (p : CType × Tokens) → base ts ≡ Ok p → Base ts p.0 p.1
sound_base ts p e = by (key_at ts) refl e
  where
    by : (c : Option the_key.Key) → key_at ts ≡ c → base_by c ts ≡ Ok p → Base ts p.0 p.1
    by (Some key.Int) d e = yields (λ p. Base ts p.0 p.1) (type.Int, tail ts) p (g.int (key_takes ts d)) e
    by (Some key.Long) d e =
        let (a, da, dk) = bind_ok (bind (optional key.Long (tail ts)) (λ _. optional key.Int)) (λ _. pure type.Int) e in
        let (b, db, dl) = bind_ok (optional key.Long (tail ts)) (λ _. optional key.Int) da in
        yields (λ p. Base ts p.0 p.1) (type.Int, a.1) p (g.long (key_takes ts d) (sound_optional key.Long (tail ts) b db) (sound_optional key.Int b.1 a dl)) dk
    by (Some key.Struct) d e =
        let (w, dw, dk) = bind_ok (word (tail ts)) (λ w. pure (type.Struct w)) e in
        yields (λ p. Base ts p.0 p.1) (type.Struct w.0, w.1) p (g.structure (key_takes ts d) (word_takes (tail ts) w dw)) dk
    by _ d e = absurd cc

pub sound_stars : (n : ℕ) (a : CType) (ts : Tokens) (p : CType × Tokens) → stars n a ts ≡ Ok p → Stars n a ts p.0 p.1
unfolding stars
sound_stars zero a ts p e = yields (λ p. Stars zero a ts p.0 p.1) (a, ts) p g.none e
sound_stars (suc n) a ts p e = by (is_mark m.Star ts) refl e (λ b. sound_stars n (type.Ptr a) b p)
  where
    by : (b : Bool)
        → is_mark m.Star ts ≡ b → star_by (stars n) a b ts ≡ Ok p → ((us : Tokens) → stars n (type.Ptr a) us ≡ Ok p → Stars n (type.Ptr a) us p.0 p.1)
        → Stars (suc n) a ts p.0 p.1
    by true d e ih = g.star (is_mark_takes m.Star ts d) (ih (tail ts) e)
    by false d e ih = yields (λ p. Stars (suc n) a ts p.0 p.1) (a, ts) p g.none e

-- a length that fits
record IsLength (k : TokenKind) (l : ℕ) : Type 0 where
  is : k ≡ Number (pos l)
  above : 1 ≤ l
  below : pos l ≤ℤ DIMENSION_LENGTH

is_within : (a b : ℤ) → int_le a b ≡ true → a ≤ℤ b
is_within a b e = grind (arith, ints)

within_is : (a b : ℤ) → a ≤ℤ b → int_le a b ≡ true
within_is a b h = grind (arith, ints)

length_is : (k : TokenKind) (l : ℕ) → length_of k ≡ Some l → IsLength k l
length_is (Number (pos n)) l e = by (nat_le 1 n && int_le (pos n) DIMENSION_LENGTH) refl e
  where
    by : (b : Bool) → (nat_le 1 n && int_le (pos n) DIMENSION_LENGTH) ≡ b → length_by n b ≡ Some l → IsLength (Number (pos n)) l
    by true d e =
        let (low, high) = and_parts (nat_le 1 n) (int_le (pos n) DIMENSION_LENGTH) d in
        subst (IsLength (Number (pos n))) (some_same e) (record { is = refl; above = leb-true _ _ low; below = is_within _ _ high })
    by false d e = absurd cc
length_is _ l e = absurd cc

pub record HasLength (ts : Tokens) (p : ℕ × Tokens) : Type 0 where
  pub takes : Takes (Number (pos p.0)) ts p.1
  pub above : 1 ≤ p.0
  pub below : pos p.0 ≤ℤ DIMENSION_LENGTH

pub sound_length : (ts : Tokens) (p : ℕ × Tokens) → take_length ts ≡ Ok p → HasLength ts p
sound_length [] p e = absurd cc
sound_length (t ∷ ts) p e = by (length_of t.kind) refl e
  where
    by : (o : Option ℕ) → length_of t.kind ≡ o → take_length_by o (t ∷ ts) ≡ Ok p → HasLength (t ∷ ts) p
    by (Some l) d e = let h = length_is t.kind l d in yields (HasLength (t ∷ ts)) (l, ts) p (record { takes = takes h.is; above = h.above; below = h.below }) e
    by None d e = absurd cc

pub sound_dimensions : (n : ℕ) (a : CType) (ts : Tokens) (p : CType × Tokens) → dimensions n a ts ≡ Ok p → Dimensions n a ts p.0 p.1
unfolding dimensions
sound_dimensions zero a ts p e = yields (λ p. Dimensions zero a ts p.0 p.1) (a, ts) p g.none e
sound_dimensions (suc n) a ts p e = by (is_mark m.LeftBracket ts) refl e (λ us q. sound_dimensions n a us q)
  where
    by : (b : Bool) → is_mark m.LeftBracket ts ≡ b → dimension_by (dimensions n) a b ts ≡ Ok p
        → ((us : Tokens) (q : CType × Tokens) → dimensions n a us ≡ Ok q → Dimensions n a us q.0 q.1) → Dimensions (suc n) a ts p.0 p.1
    by true d e ih =
        let (l, dl, dk) = bind_ok (take_length (tail ts)) (λ l us. bind (bind (expect m.RightBracket us) (λ _. dimensions n a)) (λ b. pure (type.Array b l)))
        e in
        let (q, dq, dm) = bind_ok (bind (expect m.RightBracket l.1) (λ _. dimensions n a)) (λ b. pure (type.Array b l.0)) dk in
        let (r, dr, dn) = bind_ok (expect m.RightBracket l.1) (λ _. dimensions n a) dq in
        let h = sound_length (tail ts) l dl in
        yields (λ p. Dimensions (suc n) a ts p.0 p.1) (type.Array q.0 l.0, q.1) p
        (g.dimension (is_mark_takes m.LeftBracket ts d) h.takes h.above h.below (expect_takes m.RightBracket l.1 r dr) (ih r.1 q dn)) dm
    by false d e ih = yields (λ p. Dimensions (suc n) a ts p.0 p.1) (a, ts) p g.none e

-- a name behind the stars of its type
pub record IsNamed (a : CType) (ts : Tokens) (q : Field × Tokens) : Type 0 where
  pub name : Tokens
  pub stars : Stars DECLARATOR_STARS a ts q.0.ty name
  pub takes : Takes (Word q.0.name) name q.1

pub sound_named : (a : CType) (ts : Tokens) (q : Field × Tokens) → named a ts ≡ Ok q → IsNamed a ts q
sound_named a ts q e =
    let (b, db, dk) = bind_ok (stars DECLARATOR_STARS a ts) (λ b us. bind (word us) (λ w. pure (record { name = w; ty = b }))) e in
    let (w, dw, dl) = bind_ok (word b.1) (λ w. pure (record { name = w; ty = b.0 })) dk in
    yields (IsNamed a ts) (record { name = w.0; ty = b.0 }, w.1) q
    (record { name = b.1; stars = sound_stars DECLARATOR_STARS a ts b db; takes = word_takes b.1 w dw }) dl

pub sound_declarator : (a : CType) (ts : Tokens) (p : Field × Tokens) → declarator a ts ≡ Ok p → Declarator a ts p.0 p.1
sound_declarator a ts p e =
    let (f, df, dk) = bind_ok (named a ts) (λ f us. bind (dimensions DECLARATOR_DIMENSIONS f.ty us) (λ c. pure (record { name = f.name; ty = c }))) e in
    let (c, dc, dm) = bind_ok (dimensions DECLARATOR_DIMENSIONS f.0.ty f.1) (λ c. pure (record { name = f.0.name; ty = c })) dk in
    let n = sound_named a ts f df in
    yields (λ (p : Field × Tokens). Declarator a ts p.0 p.1) (record { name = f.0.name; ty = c.0 }, c.1) p
    (g.declarator n.stars n.takes (sound_dimensions DECLARATOR_DIMENSIONS f.0.ty f.1 c dc)) dm

-- `( base * )`
pub record OperandType (ts : Tokens) (p : CType × Tokens) : Type 0 where
  pub base_type : CType
  pub opened : Tokens
  pub base_end : Tokens
  pub close : Tokens
  pub opens : Takes (Mark m.LeftParen) ts opened
  pub base : Base opened base_type base_end
  pub stars : Stars DECLARATOR_STARS base_type base_end p.0 close
  pub closes : Takes (Mark m.RightParen) close p.1

pub sound_operand : (ts : Tokens) (p : CType × Tokens) → operand_type ts ≡ Ok p → OperandType ts p
sound_operand ts p e =
    let (a, da, dk) = bind_ok (bind (expect m.LeftParen ts) (λ _. base))
    (λ a us. bind (stars DECLARATOR_STARS a us) (λ b vs. bind (expect m.RightParen vs) (λ _. pure b))) e in
    let (o, do', dj) = bind_ok (expect m.LeftParen ts) (λ _. base) da in
    let (b, db, dl) = bind_ok (stars DECLARATOR_STARS a.0 a.1) (λ b vs. bind (expect m.RightParen vs) (λ _. pure b)) dk in
    let (c, dc, dm) = bind_ok (expect m.RightParen b.1) (λ _. pure b.0) dl in
    yields (OperandType ts) (b.0, c.1) p
    (record {
      base_type = a.0;
      opened = o.1;
      base_end = a.1;
      close = b.1;
      opens = expect_takes m.LeftParen ts o do';
      base = sound_base o.1 a dj;
      stars = sound_stars DECLARATOR_STARS a.0 a.1 b db;
      closes = expect_takes m.RightParen b.1 c dc;
    }) dm

pub size_from : {ts us : Tokens} (p : CType × Tokens) → Takes (Key key.Sizeof) ts us → OperandType us p → SizeOf ts p.0 p.1
size_from p t o = g.size_of t o.opens o.base o.stars o.closes

pub sound_size : (ts : Tokens) (p : CType × Tokens) → size_of ts ≡ Ok p → SizeOf ts p.0 p.1
sound_size ts p e =
    let (a, da, dk) = bind_ok (expect_key key.Sizeof ts) (λ _. operand_type) e in
    size_from p (expect_key_takes key.Sizeof ts a da) (sound_operand a.1 p dk)

-- ---- what is in the grammar the parser reads

-- neither a part of a base nor a star comes next
pub record EndsType (ts : Tokens) : Type 0 where
  pub long : is_key key.Long ts ≡ false
  pub int : is_key key.Int ts ≡ false

pub not_mark : {k : TokenKind} {ts us : Tokens} (c : the_mark.Mark) → Takes k ts us → is_mark_in c (mark_in (Some k)) ≡ false → is_mark c ts ≡ false
not_mark c t e = ap (λ o. is_mark_in c (mark_in o)) (takes_kind t) ∙ e

pub not_key : {k : TokenKind} {ts us : Tokens} (c : the_key.Key) → Takes k ts us → is_key_in c (key_in (Some k)) ≡ false → is_key c ts ≡ false
not_key c t e = ap (λ o. is_key_in c (key_in o)) (takes_kind t) ∙ e

optional_is : {k : the_key.Key} {ts us : Tokens} → Optional (Key k) ts us → is_key k us ≡ false → optional k ts ≡ Ok (tt, us)
optional_is (ph.left_out) h = rw h refl
optional_is (ph.written t) h = rw (takes_is_key t, takes_tail t) refl

-- a key that is not the optional one is seen past it
past_optional : {k : the_key.Key} {ts us : Tokens} (c : the_key.Key)
    → Optional (Key k) ts us → is_key c us ≡ false → is_key_in c (Some k) ≡ false → is_key c ts ≡ false
past_optional c ph.left_out h e = h
past_optional c (ph.written t) h e = not_key c t e

pub complete_base : {ts us : Tokens} {a : CType} → Base ts a us → EndsType us → base ts ≡ Ok (a, us)
unfolding same_key
complete_base (g.int t) h = rw (takes_kind t, takes_tail t) refl
complete_base (g.long t u v) h = rw (takes_kind t, takes_tail t, optional_is u (past_optional key.Long v h.long refl), optional_is v h.int) refl
complete_base (g.structure t u) h = rw (takes_kind t, takes_tail t, takes_word u) refl

stars_end : (n : ℕ) (a : CType) (ts : Tokens) → is_mark m.Star ts ≡ false → stars n a ts ≡ Ok (a, ts)
unfolding stars
stars_end zero a ts h = refl
stars_end (suc n) a ts h = rw h refl

pub complete_stars : {n : ℕ} {a b : CType} {ts us : Tokens} → Stars n a ts b us → is_mark m.Star us ≡ false → stars n a ts ≡ Ok (b, us)
unfolding stars
complete_stars (g.none {n = n} {a = a} {ts = ts}) h = stars_end n a ts h
complete_stars (g.star t r) h = rw (takes_is_mark t, takes_tail t, complete_stars r h) refl

-- after a base and its stars
pub ends_stars : {n : ℕ} {k : TokenKind} {a b : CType} {ts us vs : Tokens} → Stars n a ts b us → Takes k us vs
    → is_key_in key.Long (key_in (Some k)) ≡ false → is_key_in key.Int (key_in (Some k)) ≡ false → EndsType ts
ends_stars g.none t l i = record { long = not_key key.Long t l; int = not_key key.Int t i }
ends_stars (g.star s r) t l i = record { long = not_key key.Long s refl; int = not_key key.Int s refl }

length_fits : (l : ℕ) → 1 ≤ l → pos l ≤ℤ DIMENSION_LENGTH → length_of (Number (pos l)) ≡ Some l
length_fits l low high = rw (le-leb 1 l low, within_is _ _ high) refl

takes_length : {l : ℕ} {ts us : Tokens} → Takes (Number (pos l)) ts us → 1 ≤ l → pos l ≤ℤ DIMENSION_LENGTH → take_length ts ≡ Ok (l, us)
takes_length {l} t low high = rw (takes_kind t, length_fits l low high, takes_tail t) refl

dimensions_end : (n : ℕ) (a : CType) (ts : Tokens) → is_mark m.LeftBracket ts ≡ false → dimensions n a ts ≡ Ok (a, ts)
unfolding dimensions
dimensions_end zero a ts h = refl
dimensions_end (suc n) a ts h = rw h refl

pub complete_dimensions : {n : ℕ} {a b : CType} {ts us : Tokens} → Dimensions n a ts b us → is_mark m.LeftBracket us ≡ false → dimensions n a ts ≡ Ok (b, us)
unfolding dimensions
complete_dimensions (g.none {n = n} {a = a} {ts = ts}) h = dimensions_end n a ts h
complete_dimensions (g.dimension t v low high u r) h =
    rw (takes_is_mark t, takes_tail t, takes_length v low high, takes_expect u, complete_dimensions r h) refl

pub complete_named : {w : Name} {a b : CType} {ts us vs : Tokens}
    → Stars DECLARATOR_STARS a ts b us → Takes (Word w) us vs → named a ts ≡ Ok (record { name = w; ty = b }, vs)
complete_named s t = rw (complete_stars s (not_mark m.Star t refl), takes_word t) refl

pub complete_declarator : {a : CType} {ts us : Tokens} {f : Field} → Declarator a ts f us → is_mark m.LeftBracket us ≡ false → declarator a ts ≡ Ok (f, us)
complete_declarator (g.declarator s t d) h = rw (complete_stars s (not_mark m.Star t refl), takes_word t, complete_dimensions d h) refl

pub ends_declarator : {a : CType} {ts us : Tokens} {f : Field} → Declarator a ts f us → EndsType ts
ends_declarator (g.declarator s t d) = ends_stars s t refl refl

-- after the `sizeof`
pub complete_operand : {ts us : Tokens} {a : CType} → SizeOf ts a us → operand_type (tail ts) ≡ Ok (a, us)
unfolding same_mark
complete_operand (g.size_of t u b s v) =
    rw (takes_tail t, takes_expect u, complete_base b (ends_stars s v refl refl), complete_stars s (not_mark m.Star v refl), takes_expect v) refl

pub size_key : {ts us : Tokens} {a : CType} → SizeOf ts a us → Takes (Key key.Sizeof) ts (tail ts)
size_key (g.size_of (takes d) u b s v) = takes d

pub complete_size : {ts us : Tokens} {a : CType} → SizeOf ts a us → size_of ts ≡ Ok (a, us)
complete_size s = rw (takes_expect_key (size_key s)) (complete_operand s)

-- ---- each phrase takes tokens

pub optional_shorter : {k : TokenKind} {ts us : Tokens} → Optional k ts us → length us ≤ length ts
optional_shorter ph.left_out = omega arith
optional_shorter (ph.written t) = let a = takes_shorter t in omega arith

pub base_shorter : {ts us : Tokens} {a : CType} → Base ts a us → length us < length ts
base_shorter (g.int t) = takes_shorter t
base_shorter (g.long t u v) = let a = takes_shorter t in let b = optional_shorter u in let c = optional_shorter v in omega arith
base_shorter (g.structure t u) = let a = takes_shorter t in let b = takes_shorter u in omega arith

pub stars_shorter : {n : ℕ} {a b : CType} {ts us : Tokens} → Stars n a ts b us → length us ≤ length ts
stars_shorter g.none = omega arith
stars_shorter (g.star t r) = let a = takes_shorter t in let b = stars_shorter r in omega arith

pub dimensions_shorter : {n : ℕ} {a b : CType} {ts us : Tokens} → Dimensions n a ts b us → length us ≤ length ts
dimensions_shorter g.none = omega arith
dimensions_shorter (g.dimension t v low high u r) =
    let a = takes_shorter t in let b = takes_shorter v in let c = takes_shorter u in let d = dimensions_shorter r in omega arith

pub declarator_shorter : {a : CType} {ts us : Tokens} {f : Field} → Declarator a ts f us → length us < length ts
declarator_shorter (g.declarator s t d) = let a = stars_shorter s in let b = takes_shorter t in let c = dimensions_shorter d in omega arith

pub size_shorter : {ts us : Tokens} {a : CType} → SizeOf ts a us → length us < length ts
size_shorter (g.size_of t u b s v) =
    let a = takes_shorter t in let c = takes_shorter u in let d = base_shorter b in let e = stars_shorter s in let f = takes_shorter v in omega arith
