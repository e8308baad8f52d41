-- Types and declared names that are cut off can be completed.
use Rattle.std.proofs.Common.{◌≡◌, ℕ, zero, suc, ◌≤◌, Bool, true, false, [], ◌∷◌, Option, Some, None, refl, ap, subst, ◌∙◌, arith}
use Rattle.std.specs.Prelude.{pos, ◌≤ℤ◌}
use Rattle.std.proofs.lemmas.Int.{ints}
use Rattle.al_source.specs.declared.tokens.TokenKind.TheVariants.{Word, Number, Key, Mark}
use Rattle.al_source.specs.declared.tokens.Mark.TheVariants as m
use Rattle.al_source.specs.declared.tokens.Key as the_key
use Rattle.al_source.specs.declared.tokens.Key.TheVariants as key
use Rattle.al_source.specs.declared.source_tree.CType.{CType}
use Rattle.al_source.specs.declared.source_tree.CType.TheVariants as type
use Rattle.al_source.specs.declared.source_tree.Field.{Field}
use Rattle.al_source.specs.declared.limits.TheConstants.{DECLARATOR_STARS, DECLARATOR_DIMENSIONS, DIMENSION_LENGTH}
use Rattle.al_grammar.specs.Phrases.{Tokens, Takes, takes, Optional, left_out, written}
use Rattle.al_grammar.specs.Types.{Base, Stars, Dimensions, Declarator, SizeOf}
use Rattle.al_grammar.specs.Types as g
use Rattle.al_grammar.specs.Steps.{Step, skip_if, key_at, meaning_at, is_mark, is_key}
use Rattle.al_grammar.specs.TypeParser.{optional, base_by, base, star_by, stars, length_of, take_length_by, take_length, dimension_by, dimensions, named, declarator, operand_type, size_of}
use Rattle.al_grammar.proofs.StepFacts.{key_takes, is_mark_takes, is_key_takes}
use Rattle.al_grammar.proofs.TypeFacts.{sound_length}
use Rattle.al_grammar_laws.proofs.Completion.{token_of, bare, Relation, Completed, On, Full, Then, on_then, then, on_gives, gives, maps, on_maps, looks, full, pures, OneToken, refuses, skips, expects, expects_key, names, takes_plus}

-- a word that may be there
abbrev pub MayTake : the_key.Key → Relation Tokens (Unit {0})
MayTake k ts u us = Optional (Key k) ts us

optionals : (k : the_key.Key) → Full bare (MayTake k) (optional k)
optionals k = full (looks (is_key k) skip_if by) (λ _. record { more = []; answer = tt; end = tt; plain = refl; reads = λ zs z. left_out })
  where
    by : (x : Bool) → On bare (λ ts. is_key k ts ≡ x) (MayTake k) (skip_if x)
    by true = on_maps (λ ts u us t. written t) (skips (λ ts d. is_key_takes k ts d))
    by false = pures tt (λ ts d zs z. left_out)

abbrev pub ABase : Relation Tokens CType
ABase ts a us = Base ts a us

a_base : Completed bare ABase []
a_base = record { more = token_of (Key key.Int) ∷ []; answer = type.Int; end = tt; plain = refl; reads = λ zs z. g.int (takes refl) }

pub bases : Full bare ABase base
bases = full (looks key_at base_by by) (λ _. a_base)
  where
    by : (k : Option the_key.Key) → On bare (λ ts. key_at ts ≡ k) ABase (base_by k)
    by (Some key.Int) = on_gives (λ _. type.Int) (λ ts _ us t. g.int t) (skips (λ ts d. key_takes ts d))
    by (Some key.Long) =
        on_gives (λ _. type.Int) (λ ts _ us w. let (_, m, (_, l, t, u), v) = w in g.long t u v)
        (on_then (on_then (skips (λ ts d. key_takes ts d)) (λ _. optionals key.Long)) (λ _. optionals key.Int))
    by (Some key.Struct) =
        on_gives type.Struct (λ ts w us p. let (_, m, t, u) = p in g.structure t u) (on_then (skips (λ ts d. key_takes ts d)) (λ _. names))
    by _ = refuses a_base

-- stars behind a type
abbrev pub SomeStars : ℕ → CType → Relation Tokens CType
SomeStars n a ts b us = Stars n a ts b us

no_stars : (n : ℕ) (a : CType) → Completed bare (SomeStars n a) []
no_stars n a = record { more = []; answer = a; end = tt; plain = refl; reads = λ zs z. g.none }

one_star : (n : ℕ) (a : CType) (again : CType → Step CType) → ((b : CType) → Full bare (SomeStars n b) (again b))
    → (x : Bool) → On bare (λ ts. is_mark m.Star ts ≡ x) (SomeStars (suc n) a) (star_by again a x)
one_star n a again h true =
    on_maps (λ ts b us p. let (_, m, t, r) = p in g.star t r) (on_then (skips (λ ts d. is_mark_takes m.Star ts d)) (λ _. h (type.Ptr a)))
one_star n a again h false = pures a (λ ts d zs z. g.none)

pub all_stars : (n : ℕ) (a : CType) → Full bare (SomeStars n a) (stars n a)
unfolding stars
all_stars zero a = full (pures a (λ ts d zs z. g.none)) (λ _. no_stars zero a)
all_stars (suc n) a =
    full (looks (is_mark m.Star) (star_by (stars n) a) (one_star n a (stars n) (λ b. all_stars n b))) (λ _. no_stars (suc n) a)

-- the length of a dimension
abbrev ALength : Relation Tokens ℕ
ALength ts l us = Takes (Number (pos l)) ts us × (1 ≤ l) × (pos l ≤ℤ DIMENSION_LENGTH)

a_length : Completed bare ALength []
a_length = record {
  more = token_of (Number (pos 1)) ∷ [];
  answer = 1;
  end = tt;
  plain = refl;
  reads = λ zs z. (takes refl, omega arith, omega (arith, ints));
}

lengths : Full bare ALength take_length
lengths = full (looks (meaning_at length_of) take_length_by by) (λ _. a_length)
  where
    by : (o : Option ℕ) → On bare (λ ts. meaning_at length_of ts ≡ o) ALength (take_length_by o)
    by (Some l) = record {
      fine = λ ts d. record {
        reads = λ k u e zs z.
            let h = sound_length ts (k, u) (ap (λ o. take_length_by o ts) d ∙ e) in (takes_plus zs h.takes, h.above, h.below);
        completes = λ e. absurd cc;
      };
    }
    by None = refuses a_length

-- dimensions behind a name
abbrev pub SomeDimensions : ℕ → CType → Relation Tokens CType
SomeDimensions n a ts c us = (b : CType) × Dimensions n a ts b us

no_dimensions : (n : ℕ) (a : CType) → Completed bare (SomeDimensions n a) []
no_dimensions n a = record { more = []; answer = a; end = tt; plain = refl; reads = λ zs z. (a, g.none) }

one_dimension : (n : ℕ) (a : CType) (again : CType → Step CType) → ((b : CType) → Full bare (SomeDimensions n b) (again b))
    → (x : Bool) → On bare (λ ts. is_mark m.LeftBracket ts ≡ x) (SomeDimensions (suc n) a) (dimension_by again a x)
one_dimension n a again h true =
    on_maps
    (λ ts c us p. let (l, m, (_, k, t, (u, low, high)), (_, i, v, (b, r))) = p in (type.Array b l, g.dimension t u low high v r))
    (on_then (on_then (skips (λ ts d. is_mark_takes m.LeftBracket ts d)) (λ _. lengths))
    (λ l. gives {T = Then (OneToken (Takes (Mark m.RightBracket))) (λ _. SomeDimensions n a)} (λ b. type.Array b l) (λ ts b us p. p)
    (then (expects m.RightBracket) (λ _. h a))))
one_dimension n a again h false = pures a (λ ts d zs z. (a, g.none))

pub all_dimensions : (n : ℕ) (a : CType) → Full bare (SomeDimensions n a) (dimensions n a)
unfolding dimensions
all_dimensions zero a = full (pures a (λ ts d zs z. (a, g.none))) (λ _. no_dimensions zero a)
all_dimensions (suc n) a =
    full (looks (is_mark m.LeftBracket) (dimension_by (dimensions n) a) (one_dimension n a (dimensions n) (λ b. all_dimensions n b)))
    (λ _. no_dimensions (suc n) a)

abbrev pub ADeclarator : CType → Relation Tokens Field
ADeclarator a ts f us = (f : Field) × Declarator a ts f us

-- a name behind the stars of its type
abbrev pub ANamed : CType → Relation Tokens Field
ANamed a ts f us = (k : Tokens) × Stars DECLARATOR_STARS a ts f.ty k × Takes (Word f.name) k us

pub named_full : (a : CType) → Full bare (ANamed a) (named a)
named_full a =
    maps (λ ts f us p. let (b, k, s, (same, t)) = p in (k, subst (λ b. Stars DECLARATOR_STARS a ts b k) same s, t))
    (then (all_stars DECLARATOR_STARS a)
    (λ b. gives {T = λ ts f us. (b ≡ f.ty) × Takes (Word f.name) ts us} (λ w. record { name = w; ty = b }) (λ ts w us t. (refl, t)) names))

pub declarators : (a : CType) → Full bare (ADeclarator a) (declarator a)
declarators a =
    maps (λ ts _ us p. let (f, l, (k, s, t), (c, d)) = p in (record { name = f.name; ty = c }, g.declarator s t d))
    (then (named_full a)
    (λ f. gives {T = λ ts h us. (c : CType) × Dimensions DECLARATOR_DIMENSIONS f.ty ts c us} (λ c. record { name = f.name; ty = c }) (λ ts c us p. p)
    (all_dimensions DECLARATOR_DIMENSIONS f.ty)))

-- a type in parentheses
pub record IsOperand (ts us : Tokens) : Type 0 where
  pub base_type : CType
  pub ty : CType
  pub opened : Tokens
  pub base_end : Tokens
  pub close : Tokens
  pub opens : Takes (Mark m.LeftParen) ts opened
  pub base : Base opened base_type base_end
  pub stars : Stars DECLARATOR_STARS base_type base_end ty close
  pub closes : Takes (Mark m.RightParen) close us

abbrev pub AnOperand : Relation Tokens CType
AnOperand ts b us = IsOperand ts us

pub operand_types : Full bare AnOperand operand_type
operand_types =
    maps (λ ts c us p. let (a, k, (_, j, t, b), (d, l, s, (_, u))) = p in
    record { base_type = a; ty = d; opened = j; base_end = k; close = l; opens = t; base = b; stars = s; closes = u })
    (then (then (expects m.LeftParen) (λ _. bases))
    (λ a. then (all_stars DECLARATOR_STARS a)
    (λ b. gives {T = λ ts c us. Unit {0} × Takes (Mark m.RightParen) ts us} (λ _. b) (λ ts _ us t. (tt, t)) (expects m.RightParen))))

abbrev pub ASize : Relation Tokens CType
ASize ts b us = (a : CType) × SizeOf ts a us

pub sizes : Full bare ASize size_of
sizes =
    maps (λ ts b us p. let (_, k, t, o) = p in (o.ty, g.size_of t o.opens o.base o.stars o.closes))
    (then (expects_key key.Sizeof refl) (λ _. operand_types))
