-- Where a token of a source lies.
use Rattle.std.proofs.Common.{◌≡◌, ℕ, zero, suc, ◌≤◌, List, [], ◌∷◌, length, Some, arith}
use Rattle.std.specs.List.{slice_get}
use Rattle.al_source.specs.declared.tokens.Token.{Token}
use Rattle.al_grammar.specs.Characters.{Bytes}
use Rattle.al_grammar.specs.Slices.{InOrder}
use Rattle.al_grammar.specs.Spelling.{Spells}
use Rattle.al_grammar.proofs.SliceLemmas.{spelled_slices}

ends_within : (from to : ℕ) (ts : List Token) → InOrder from to ts → from ≤ to
ends_within from to [] h = h
ends_within from to (t ∷ ts) (low, span, rest) = let more = ends_within t.end to ts rest in omega arith

spans : (from to : ℕ) (ts : List Token) (place : ℕ) (t : Token) → InOrder from to ts → slice_get ts place ≡ Some t
    → (t.start ≤ t.end) × (t.end ≤ to)
spans from to [] place t h is = absurd cc
spans from to (s ∷ ts) zero t (low, span, rest) is = let within = ends_within s.end to ts rest in grind arith
spans from to (s ∷ ts) (suc place) t (low, span, rest) is = spans s.end to ts place t rest is

pub token_within : (source : Bytes) (tokens : List Token) (place : ℕ) (t : Token) → Spells source tokens → slice_get tokens place ≡ Some t
    → (t.start ≤ t.end) × (t.end ≤ length source)
token_within source tokens place t told is = spans 0 (length source) tokens place t (spelled_slices source tokens told).1 is
