-- A source spells one list of tokens or has a first fault, by the function that reads it.
use Rattle.std.proofs.Common.{◌≡◌, ℕ, zero, suc, ◌-◌, List, [], ◌∷◌, ◌++◌, drop, Option, Some, None, Result, Ok, Err, refl, sym, ap, ◌∙◌, subst, ◌⊎◌, inl, inr}
use Rattle.std.specs.Prelude.{option_to_list}
use Rattle.al_source.specs.declared.tokens.Token.{Token}
use Rattle.al_source.specs.declared.faults.LexFault.{LexFault}
use Rattle.al_grammar.specs.declared.place.Spot.{Spot}
use Rattle.al_grammar.specs.declared.place.Next.{Next}
use Rattle.al_grammar.specs.Characters.{Bytes}
use Rattle.al_grammar.specs.Spelling.{next, spot_after, first_spot, SpellsFrom, ends, goes, Spells, fault_of, fault_from, first_lexical_fault}
use Rattle.al_grammar.specs.Reading.{with_front, reading_from, reading}

pub reading_from-drop : (left : ℕ) (s : Spot) (z : Bytes) → reading_from left s z ≡ reading_from 0 s (drop left z)
reading_from-drop zero s z = refl
reading_from-drop (suc left) s [] = refl
reading_from-drop (suc left) s (b ∷ z) = reading_from-drop left s z

abbrev after_next : Spot → ℕ → Bytes → Result Next LexFault → Result (List Token) LexFault
after_next s b z (Err fault) = Err fault
after_next s b z (Ok n) = with_front (option_to_list n.token) (reading_from (n.len - 1) (spot_after s (b ∷ z) n) z)

abbrev after_fault : Spot → ℕ → Bytes → Result Next LexFault → Option LexFault
after_fault s b z (Err fault) = Some fault
after_fault s b z (Ok n) = fault_from (n.len - 1) (spot_after s (b ∷ z) n) z

-- what is read at a byte where something stands
pub reading_from-goes : (s : Spot) (b : ℕ) (z : Bytes) (n : Next)
    → next s (b ∷ z) ≡ Ok n → reading_from 0 s (b ∷ z) ≡ with_front (option_to_list n.token) (reading_from 0 (spot_after s (b ∷ z) n) (drop (n.len - 1) z))
reading_from-goes s b z n e = ap (after_next s b z) e ∙ ap (with_front (option_to_list n.token)) (reading_from-drop (n.len - 1) (spot_after s (b ∷ z) n) z)

-- what is read at a byte where a fault stands
pub reading_from-stops : (s : Spot) (b : ℕ) (z : Bytes) (fault : LexFault) → next s (b ∷ z) ≡ Err fault → reading_from 0 s (b ∷ z) ≡ Err fault
reading_from-stops s b z fault e = ap (after_next s b z) e

pub spelled : {s : Spot} {z : Bytes} {ts : List Token} → SpellsFrom s z ts → reading_from 0 s z ≡ Ok ts
spelled (ends e) = e
spelled (goes {s = s} {b = b} {z = z} {n = n} e rest) = reading_from-goes s b z n e ∙ ap (with_front (option_to_list n.token)) (spelled rest)

-- the tokens after the front
front_ok : (front : List Token) (r : Result (List Token) LexFault) (ts : List Token)
    → with_front front r ≡ Ok ts → (us : List Token) × (r ≡ Ok us) × (front ++ us ≡ ts)
front_ok front (Ok us) ts e = (us, refl, cc)
front_ok front (Err fault) ts e = absurd cc

spells_next : (s : Spot) (b : ℕ) (z : Bytes) (ts : List Token)
    → ((left : ℕ) (t : Spot) (us : List Token) → reading_from left t z ≡ Ok us → SpellsFrom t (drop left z) us) → (r : Result Next LexFault)
    → next s (b ∷ z) ≡ r → after_next s b z r ≡ Ok ts → SpellsFrom s (b ∷ z) ts
spells_next s b z ts rest (Err fault) is e = absurd cc
spells_next s b z ts rest (Ok n) is e =
    let parts = front_ok (option_to_list n.token) (reading_from (n.len - 1) (spot_after s (b ∷ z) n) z) ts e in
    subst (λ us. SpellsFrom s (b ∷ z) us) parts.2 (goes is (rest (n.len - 1) (spot_after s (b ∷ z) n) parts.0 parts.1))

pub spells : (left : ℕ) (s : Spot) (z : Bytes) (ts : List Token) → reading_from left s z ≡ Ok ts → SpellsFrom s (drop left z) ts
spells zero s [] ts e = ends e
spells (suc left) s [] ts e = ends e
spells (suc left) s (b ∷ z) ts e = spells left s z ts e
spells zero s (b ∷ z) ts e = spells_next s b z ts (λ left t us d. spells left t z us d) (next s (b ∷ z)) refl e

fault_of-front : (front : List Token) (r : Result (List Token) LexFault) → fault_of r ≡ fault_of (with_front front r)
fault_of-front front (Ok ts) = refl
fault_of-front front (Err fault) = refl

faults_next : (s : Spot) (b : ℕ) (z : Bytes)
    → ((left : ℕ) (t : Spot) → fault_from left t z ≡ fault_of (reading_from left t z)) → (r : Result Next LexFault)
    → after_fault s b z r ≡ fault_of (after_next s b z r)
faults_next s b z rest (Err fault) = refl
faults_next s b z rest (Ok n) =
    rest (n.len - 1) (spot_after s (b ∷ z) n) ∙ fault_of-front (option_to_list n.token) (reading_from (n.len - 1) (spot_after s (b ∷ z) n) z)

pub faults : (left : ℕ) (s : Spot) (z : Bytes) → fault_from left s z ≡ fault_of (reading_from left s z)
faults left s [] = refl
faults (suc left) s (b ∷ z) = faults left s z
faults zero s (b ∷ z) = faults_next s b z (λ left t. faults left t z) (next s (b ∷ z))

-- ---- the whole source

pub spelled_reading : (source : Bytes) (ts : List Token) → Spells source ts → reading source ≡ Ok ts
unfolding reading
spelled_reading source ts h = spelled h

pub reading_spells : (source : Bytes) (ts : List Token) → reading source ≡ Ok ts → Spells source ts
unfolding reading
reading_spells source ts e = spells 0 first_spot source ts e

pub fault_reading : (source : Bytes) → first_lexical_fault source ≡ fault_of (reading source)
unfolding first_lexical_fault reading
fault_reading source = faults 0 first_spot source

by_reading : (source : Bytes) (r : Result (List Token) LexFault)
    → reading source ≡ r → ((ts : List Token) × Spells source ts) ⊎ ((fault : LexFault) × (first_lexical_fault source ≡ Some fault))
by_reading source (Ok ts) e = inl (ts, reading_spells source ts e)
by_reading source (Err fault) e = inr (fault, fault_reading source ∙ ap fault_of e)

pub total : (source : Bytes) → ((ts : List Token) × Spells source ts) ⊎ ((fault : LexFault) × (first_lexical_fault source ≡ Some fault))
total source = by_reading source (reading source) refl

pub no_fault : (source : Bytes) (ts : List Token) → Spells source ts → first_lexical_fault source ≡ None
no_fault source ts h = fault_reading source ∙ ap fault_of (spelled_reading source ts h)

pub one : (source : Bytes) (ts us : List Token) → Spells source ts → Spells source us → ts ≡ us
one source ts us h k = let same : ◌≡◌ {A = Result (List Token) LexFault} (Ok ts) (Ok us) = sym (spelled_reading source ts h) ∙ spelled_reading source us k in cc

-- a fault that is read is the first fault
pub reading_fault : (source : Bytes) (fault : LexFault) → reading source ≡ Err fault → first_lexical_fault source ≡ Some fault
reading_fault source fault e = fault_reading source ∙ ap fault_of e

by_fault : (fault : LexFault) (r : Result (List Token) LexFault) → fault_of r ≡ Some fault → r ≡ Err fault
by_fault fault (Ok ts) e = absurd cc
by_fault fault (Err f) e = let same : f ≡ fault = cc in ap (λ g. Err g) same

-- the first fault is what is read
pub fault_read : (source : Bytes) (fault : LexFault) → first_lexical_fault source ≡ Some fault → reading source ≡ Err fault
fault_read source fault e = by_fault fault (reading source) (sym (fault_reading source) ∙ e)
