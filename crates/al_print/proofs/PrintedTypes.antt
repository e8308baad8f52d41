-- The printed tokens of types and declared names are read as those types and names.
use Rattle.std.proofs.Common.{◌≡◌, ℕ, false, [], ◌∷◌, ◌++◌, append_assoc, refl, sym, ap, ◌∙◌, arith}
use Rattle.std.proofs.lemmas.List.{append-nil}
use Rattle.al_source.specs.declared.tokens.Mark.TheVariants as m
use Rattle.al_source.specs.declared.tokens.TokenKind.{TokenKind}
use Rattle.al_source.specs.declared.tokens.TokenKind.TheVariants.{Mark}
use Rattle.al_source.specs.declared.source_tree.CType.{CType}
use Rattle.al_source.specs.declared.source_tree.CType.TheVariants as type
use Rattle.al_source.specs.declared.source_tree.Field.{Field}
use Rattle.al_grammar.specs.Phrases.{Tokens, Name, Takes, Optional}
use Rattle.al_grammar.specs.Phrases as phrase
use Rattle.std.proofs.lemmas.Int.{ints}
use Rattle.al_grammar.specs.Types.{Base, Stars, Dimensions, Declarator, SizeOf}
use Rattle.al_grammar.specs.Types as g
use Rattle.al_print.specs.Tokens.{Kinds, type_front, dimensions, declared, size_of}
use Rattle.al_print.proofs.Cases.{front-Int, front-Struct, front-Ptr, front-Array, dimensions-Int, dimensions-Struct, dimensions-Ptr, dimensions-Array}
use Rattle.al_print.proofs.Front.{Has, none, split, first, only}
use Rattle.al_print.proofs.Plain.{AllWritable, Orderly, orderly, taken, left}
use Rattle.al_print.proofs.Again.{Again, given, tidied}

-- ---- bases

pub left_optional : {k : TokenKind} {ts us : Tokens} → Optional k ts us → AllWritable ts → AllWritable us
left_optional phrase.left_out h = h
left_optional (phrase.written t) h = left t h

-- a base, which has no dimensions
pub record BaseAgain (a : CType) (us : Tokens) : Type 0 where
  pub again : Again (λ vs ws. Base vs a ws) (type_front a) us
  pub flat : dimensions a ≡ []

integer : (us : Tokens) → AllWritable us → BaseAgain type.Int us
integer us h = record {
  again = record { reads = λ vs ws k. g.int (only (given front-Int k)); tidy = tidied front-Int tt; left = h };
  flat = dimensions-Int;
}

pub base : {ts us : Tokens} {a : CType} → Base ts a us → AllWritable ts → BaseAgain a us
base (g.int {us = us} t) h = integer us (left t h)
base (g.long {ws = ws} t o p) h = integer ws (left_optional p (left_optional o (left t h)))
base (g.structure {w = w} t u) h = record {
  again = record {
    reads = λ vs ws k. let (ms, a, b) = first (given (front-Struct w) k) in g.structure a (only b);
    tidy = tidied (front-Struct w) (taken u (left t h), tt);
    left = left u (left t h);
  };
  flat = dimensions-Struct w;
}

-- ---- stars and dimensions

pub record StarsAgain (n : ℕ) (a b : CType) (us : Tokens) : Type 0 where
  pub marks : Kinds
  pub front : type_front b ≡ type_front a ++ marks
  pub flat : dimensions b ≡ dimensions a
  pub again : Again (λ vs ws. Stars n a vs b ws) marks us

no_stars : {n : ℕ} {a : CType} {vs ws : Tokens} → Has [] vs ws → Stars n a vs a ws
no_stars none = g.none

pub stars : {n : ℕ} {a b : CType} {ts us : Tokens} → Stars n a ts b us → AllWritable ts → StarsAgain n a b us
stars (g.none {a = a}) h = record {
  marks = [];
  front = sym (append-nil (type_front a));
  flat = refl;
  again = record { reads = λ vs ws k. no_stars k; tidy = tt; left = h };
}
stars (g.star {a = a} t r) h = let q = stars r (left t h) in record {
  marks = Mark m.Star ∷ q.marks;
  front = q.front ∙ ap (λ (ks : Kinds). ks ++ q.marks) (front-Ptr a) ∙ append_assoc (type_front a) (Mark m.Star ∷ []) q.marks;
  flat = q.flat ∙ dimensions-Ptr a;
  again = record { reads = λ vs ws k. let (ms, s, i) = first k in g.star s (q.again.reads ms ws i); tidy = q.again.tidy; left = q.again.left };
}

pub record DimensionsAgain (n : ℕ) (a b : CType) (us : Tokens) : Type 0 where
  pub front : type_front b ≡ type_front a
  pub again : Again (λ vs ws. Dimensions n a vs b ws) (dimensions b) us

no_dimensions : {n : ℕ} {a : CType} {vs ws : Tokens} → Has [] vs ws → Dimensions n a vs a ws
no_dimensions none = g.none

pub all_dimensions : {n : ℕ} {a b : CType} {ts us : Tokens} → Dimensions n a ts b us → dimensions a ≡ [] → AllWritable ts → DimensionsAgain n a b us
all_dimensions g.none flat h = record {
  front = refl;
  again = record { reads = λ vs ws k. no_dimensions (given flat k); tidy = tidied flat tt; left = h };
}
all_dimensions (g.dimension {l = l} {b = b} t u least most v r) flat h = let q = all_dimensions r flat (left v (left u (left t h))) in record {
  front = front-Array b l ∙ q.front;
  again = record {
    reads = λ vs ws k.
        let (m₁, a₁, k₁) = first (given (dimensions-Array b l) k) in
        let (m₂, a₂, k₂) = first k₁ in
        let (m₃, a₃, k₃) = first k₂ in
        g.dimension a₁ a₂ least most a₃ (q.again.reads m₃ ws k₃);
    tidy = tidied (dimensions-Array b l) (omega (arith, ints), q.again.tidy);
    left = q.again.left;
  };
}

-- ---- declared names

-- The printed tokens begin with those of the base, which are read apart.
pub record DeclaredAgain (a : CType) (f : Field) (us : Tokens) : Type 0 where
  pub reads : (vs ws : Tokens) → Has (declared f.ty f.name) vs ws → (ms : Tokens) × Has (type_front a) vs ms × Declarator a ms f ws
  pub tidy : Orderly false (type_front a) → Orderly false (declared f.ty f.name)
  pub left : AllWritable us

pub declarator : {a : CType} {f : Field} {ts us : Tokens} → Declarator a ts f us → dimensions a ≡ [] → AllWritable ts → DeclaredAgain a f us
declarator {a} (g.declarator {b = b} {c = c} {w = w} s t d) flat h =
    let q = stars s h in
    let r = all_dimensions d (q.flat ∙ flat) (left t q.again.left) in
    let front : type_front c ≡ type_front a ++ q.marks = r.front ∙ q.front in
    record {
      reads = λ vs ws k.
          let (m₁, k₁, k₂) = split (type_front c) k in
          let (m₂, k₃, k₄) = split (type_front a) (given front k₁) in
          let (m₃, a₁, k₅) = first k₂ in
          (m₂, k₃, g.declarator (q.again.reads m₂ m₁ k₄) a₁ (r.again.reads m₃ ws k₅));
      tidy = λ o. orderly false (type_front c) _ (tidied front (orderly false (type_front a) _ o q.again.tidy)) (taken t q.again.left, r.again.tidy);
      left = r.again.left;
    }

pub size : {a : CType} {ts us : Tokens} → SizeOf ts a us → AllWritable ts → Again (λ vs ws. SizeOf vs a ws) (size_of a) us
size (g.size_of {a = a} {b = b} t u x s v) h =
    let p = base x (left u (left t h)) in
    let q = stars s p.again.left in
    record {
      reads = λ vs ws k.
          let (m₁, a₁, k₁) = first k in
          let (m₂, a₂, k₂) = first k₁ in
          let (m₃, k₃, k₄) = split (type_front b) k₂ in
          let (m₄, k₅, k₆) = split (type_front a) (given q.front k₃) in
          g.size_of a₁ a₂ (p.again.reads m₂ m₄ k₅) (q.again.reads m₄ m₃ k₆) (only k₄);
      tidy = orderly false (type_front b) _ (tidied q.front (orderly false (type_front a) _ p.again.tidy q.again.tidy)) tt;
      left = left v q.again.left;
    }
