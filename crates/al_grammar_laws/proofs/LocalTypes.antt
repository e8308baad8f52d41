-- The parser of types looks at no token behind the one at which it stops.
use Rattle.std.proofs.Common.{◌≡◌, ℕ, zero, suc, Bool, true, false, Option, Some, None, refl, sym, subst}
use Rattle.std.specs.Prelude.{◌&&◌}
use Rattle.al_source.specs.declared.tokens.TokenKind.{TokenKind}
use Rattle.al_source.specs.declared.tokens.TokenKind.TheVariants.{Word, Number, Mark}
use Rattle.al_source.specs.declared.tokens.Mark as the_mark
use Rattle.al_source.specs.declared.tokens.Mark.TheVariants as m
use Rattle.al_source.specs.declared.tokens.Key as the_key
use Rattle.al_source.specs.declared.tokens.Key.TheVariants as key
use Rattle.al_source.specs.declared.source_tree.CType.{CType}
use Rattle.al_source.specs.declared.source_tree.CType.TheVariants as type
use Rattle.al_source.specs.declared.limits.TheConstants.{DECLARATOR_STARS, DECLARATOR_DIMENSIONS}
use Rattle.al_grammar.specs.Steps.{Step, skip_if, skip, meaning_in, expect_by, expect, expect_key, word_by, word}
use Rattle.al_grammar.specs.TypeParser.{optional, base_by, base, star_by, stars, length_of, take_length_by, take_length, dimension_by, dimensions, named, declarator, operand_type, size_of}
use Rattle.al_grammar_laws.proofs.Local.{is_plain, plain_kind, is_some, Cut, bare, Local, binds, pures, refuses, looks, looks_key, looks_table, looks_is_mark, looks_is_key, skips, passes}

plain_length : (k : Option TokenKind) → is_some (meaning_in length_of k) ≡ true → plain_kind k ≡ true
plain_length None d = d
plain_length (Some (Number v)) d = refl
plain_length (Some _) d = absurd cc

module _ {c : Cut} where
  pub expects : {b : Bool} (k : the_mark.Mark) → is_plain (Mark k) ≡ true → Local c bare b (expect k)
  expects k h = looks_is_mark k expect_by by
    where
      by : (x : Bool) → Local c bare (x && is_plain (Mark k)) (expect_by x)
      by true = subst (λ b. Local c bare b skip) (sym h) skips
      by false = refuses

  -- a mark, where any token may be passed
  pub expects_any : {b : Bool} → c.Passed → (k : the_mark.Mark) → Local c bare b (expect k)
  expects_any p k = looks_is_mark k expect_by by
    where
      by : (x : Bool) → Local c bare (x && is_plain (Mark k)) (expect_by x)
      by true = passes p
      by false = refuses

  pub expects_key : {b : Bool} (k : the_key.Key) → Local c bare b (expect_key k)
  expects_key k = looks_is_key k expect_by by
    where
      by : (x : Bool) → Local c bare x (expect_by x)
      by true = skips
      by false = refuses

  pub words : {b : Bool} → Local c bare b word
  words = looks word_by by
    where
      by : (k : Option TokenKind) → Local c bare (plain_kind k) (word_by k)
      by (Some (Word w)) = binds skips (λ _. pures w)
      by _ = refuses

  optionals : {b : Bool} (k : the_key.Key) → Local c bare b (optional k)
  optionals k = looks_is_key k skip_if by
    where
      by : (x : Bool) → Local c bare x (skip_if x)
      by true = skips
      by false = pures tt

  pub bases : {b : Bool} → Local c bare b base
  bases = looks_key base_by by
    where
      by : (k : Option the_key.Key) → Local c bare (is_some k) (base_by k)
      by (Some key.Int) = binds skips (λ _. pures type.Int)
      by (Some key.Long) = binds (binds (binds skips (λ _. optionals key.Long)) (λ _. optionals key.Int)) (λ _. pures type.Int)
      by (Some key.Struct) = binds (binds skips (λ _. words)) (λ w. pures (type.Struct w))
      by _ = refuses

  one_star : (again : CType → Step CType) → ((a : CType) → Local c bare false (again a)) → (a : CType) (x : Bool)
      → Local c bare (x && is_plain (Mark m.Star)) (star_by again a x)
  one_star again h a true = binds skips (λ _. h (type.Ptr a))
  one_star again h a false = pures a

  pub all_stars : {b : Bool} (n : ℕ) (a : CType) → Local c bare b (stars n a)
  unfolding stars
  all_stars zero a = pures a
  all_stars (suc n) a = looks_is_mark m.Star (star_by (stars n) a) (one_star (stars n) (λ a. all_stars n a) a)

  lengths : {b : Bool} → Local c bare b take_length
  lengths = looks_table length_of take_length_by plain_length by
    where
      by : (l : Option ℕ) → Local c bare (is_some l) (take_length_by l)
      by (Some l) = binds skips (λ _. pures l)
      by None = refuses

  one_dimension : (again : CType → Step CType) → ((a : CType) → Local c bare false (again a)) → (a : CType) (x : Bool)
      → Local c bare (x && is_plain (Mark m.LeftBracket)) (dimension_by again a x)
  one_dimension again h a true =
      binds (binds skips (λ _. lengths)) (λ l. binds (binds (expects m.RightBracket refl) (λ _. h a)) (λ b. pures (type.Array b l)))
  one_dimension again h a false = pures a

  pub all_dimensions : {b : Bool} (n : ℕ) (a : CType) → Local c bare b (dimensions n a)
  unfolding dimensions
  all_dimensions zero a = pures a
  all_dimensions (suc n) a = looks_is_mark m.LeftBracket (dimension_by (dimensions n) a) (one_dimension (dimensions n) (λ a. all_dimensions n a) a)

  pub named_local : {b : Bool} (a : CType) → Local c bare b (named a)
  named_local a = binds (all_stars DECLARATOR_STARS a) (λ b. binds words (λ w. pures (record { name = w; ty = b })))

  pub declarators : {b : Bool} (a : CType) → Local c bare b (declarator a)
  declarators a = binds (named_local a) (λ f. binds (all_dimensions DECLARATOR_DIMENSIONS f.ty) (λ d. pures (record { name = f.name; ty = d })))

  pub operand_types : {b : Bool} → Local c bare b operand_type
  operand_types =
      binds (binds (expects m.LeftParen refl) (λ _. bases))
      (λ a. binds (all_stars DECLARATOR_STARS a) (λ b. binds (expects m.RightParen refl) (λ _. pures b)))

  pub sizes : {b : Bool} → Local c bare b size_of
  sizes = binds (expects_key key.Sizeof) (λ _. operand_types)
