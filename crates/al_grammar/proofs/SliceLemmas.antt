-- The tokens that a source spells are slices of it, in order.
use Rattle.std.proofs.Common.{◌≡◌, ℕ, zero, suc, ◌+◌, ◌-◌, ◌≤◌, ◌<◌, Bool, true, false, cond, List, [], ◌∷◌, ◌++◌, drop, take, length, slice_index, slice_range, Option, Some, None, Result, Ok, Err, refl, sym, ap, ◌∙◌, subst, length-drop, arith}
use Rattle.std.proofs.lemmas.Bool.{eqb-true}
use Rattle.std.proofs.lemmas.Slice.Eq.{bytes_eq-Decides}
use Rattle.std.specs.Prelude.{option_to_list, ◌==◌, codes}
use Rattle.std.specs.Str.{bytes_eq}
use Rattle.al_source.specs.declared.tokens.Token.{Token}
use Rattle.al_source.specs.declared.faults.LexFault.{LexFault}
use Rattle.al_grammar.specs.declared.place.Place.{Place}
use Rattle.al_grammar.specs.declared.place.Place.TheVariants.{Fresh, Inside, Hash, Pragma, Skipped, Note}
use Rattle.al_grammar.specs.declared.place.Spot.{Spot}
use Rattle.al_grammar.specs.declared.place.Next.{Next}
use Rattle.al_grammar.specs.Characters.{Bytes, is_blank}
use Rattle.al_grammar.specs.Lexemes.{begins_line_comment, begins_block_comment, line_comment_len, block_comment_len, name_len, Lexeme, lexeme}
use Rattle.al_grammar.specs.Spelling.{gap, note_end, end_at, line_end_at, closed, directive, pragma, token_at, matter_at, next, SpellsFrom, ends, goes, Spells}
use Rattle.al_grammar.specs.Slices.{slice, IsSpelledBy, EachIsItsSlice, InOrder}
use Rattle.al_grammar.proofs.LexemeLemmas.{lexeme_spelled}
use Rattle.al_grammar.proofs.MoveLemmas.{next_moves}
use Rattle.al_grammar.proofs.WithinLemmas.{next_within}

-- what a place keeps of the hash before it
abbrev HashAt : Bytes → ℕ → Place → Type 0
HashAt source at (Hash start line) = (start < at) × (slice_index source start ≡ 35)
HashAt source at (Pragma start line) = (start < at) × (slice_index source start ≡ 35)
HashAt source at Fresh = Unit {0}
HashAt source at Inside = Unit {0}
HashAt source at Skipped = Unit {0}
HashAt source at Note = Unit {0}

-- where the next token may begin at the earliest
abbrev floor : Place → ℕ → ℕ
floor (Hash start line) at = start
floor (Pragma start line) at = start
floor Fresh at = at
floor Inside at = at
floor Skipped at = at
floor Note at = at

abbrev Follows : Bytes → ℕ → Place → Next → Option Token → Type 0
Follows source at place n None = floor place at ≤ floor n.place (at + n.len)
Follows source at place n (Some t) = (floor place at ≤ t.start) × (t.start ≤ t.end) × (t.end ≤ floor n.place (at + n.len)) × IsSpelledBy t.kind (slice source t)

-- what stands next goes on from its spot
abbrev Laid : Bytes → ℕ → Place → Result Next LexFault → Type 0
Laid source at place (Err fault) = Unit {0}
Laid source at place (Ok n) = HashAt source (at + n.len) n.place × Follows source at place n n.token

abbrev spot : ℕ → ℕ → Place → Spot
spot at line place = record { at = at; line = line; place = place }

-- a gap that leaves the place as it is
laid_gap : (source : Bytes) (at len : ℕ) (place : Place) → HashAt source at place → Laid source at place (gap len place)
laid_gap source at len (Hash start line) h = ((omega arith, h.1), omega arith)
laid_gap source at len (Pragma start line) h = ((omega arith, h.1), omega arith)
laid_gap source at len Fresh h = (tt, omega arith)
laid_gap source at len Inside h = (tt, omega arith)
laid_gap source at len Skipped h = (tt, omega arith)
laid_gap source at len Note h = (tt, omega arith)

laid_closed : (source : Bytes) (at line : ℕ) (place : Place) (o : Option ℕ) → HashAt source at place → Laid source at place (closed (spot at line place) o)
laid_closed source at line place None h = tt
laid_closed source at line place (Some len) h = laid_gap source at len place h

no_bytes : (source : Bytes) (at : ℕ) → slice_range source at at ≡ []
no_bytes source at = let e : at - at ≡ 0 = omega arith in ap (λ k. take k (drop at source)) e

laid_line_end : (source : Bytes) (at line : ℕ) (place : Place) → HashAt source at place → Laid source at place (line_end_at place (spot at line place))
laid_line_end source at line (Hash start l) h = tt
laid_line_end source at line (Pragma start l) h = (tt, omega arith)
laid_line_end source at line Fresh h = (tt, omega arith)
laid_line_end source at line Inside h = (tt, omega arith)
laid_line_end source at line Skipped h = (tt, omega arith)
laid_line_end source at line Note h = (tt, (omega arith, omega arith, omega arith, no_bytes source at))

either : (source : Bytes) (at : ℕ) (place : Place) (b : Bool) (x y : Result Next LexFault)
    → (b ≡ true → Laid source at place x) → Laid source at place y → Laid source at place (cond b x y)
either source at place true x y h k = h refl
either source at place false x y h k = k

from_here : (at n : ℕ) (source : Bytes) → take n (drop at source) ≡ slice_range source at (at + n)
from_here at n source = let e : n ≡ at + n - at = omega arith in ap (λ k. take k (drop at source)) e

laid_token_by : (source : Bytes) (at line : ℕ) (place after : Place) (r : Result Lexeme LexFault)
    → floor place at ≡ at → floor after ≡ (λ k. k) → ((k : ℕ) → HashAt source k after) → ((t : Lexeme) → r ≡ Ok t → IsSpelledBy t.0 (take t.1 (drop at source)))
    → Laid source at place (token_at (spot at line place) after r)
laid_token_by source at line place after (Err fault) low high hash is = tt
laid_token_by source at line place after (Ok t) low high hash is =
    let top : floor after (at + t.1) ≡ at + t.1 = ap (λ (f : ℕ → ℕ). f (at + t.1)) high in
    (hash (at + t.1), (omega arith, omega arith, omega arith, subst (λ z. IsSpelledBy t.0 z) (from_here at t.1 source) (is t refl)))

laid_token : (source : Bytes) (at line : ℕ) (place after : Place)
    → floor place at ≡ at → floor after ≡ (λ k. k) → ((k : ℕ) → HashAt source k after)
    → Laid source at place (token_at (spot at line place) after (lexeme line (drop at source)))
laid_token source at line place after low high hash =
    laid_token_by source at line place after (lexeme line (drop at source)) low high hash (λ t e. lexeme_spelled line (drop at source) t e)

first_byte : (at : ℕ) (source : Bytes) → slice_index (drop at source) 0 ≡ slice_index source at
first_byte zero source = refl
first_byte (suc at) [] = refl
first_byte (suc at) (b ∷ source) = first_byte at source

take_nil : (n : ℕ) → take {A = ℕ} n [] ≡ []
take_nil zero = refl
take_nil (suc n) = refl

drop_nil : (n : ℕ) → drop {A = ℕ} n [] ≡ []
drop_nil zero = refl
drop_nil (suc n) = refl

pub take_sum : (m n : ℕ) (xs : Bytes) → take (m + n) xs ≡ take m xs ++ take n (drop m xs)
take_sum zero n xs = let e : 0 + n ≡ n = omega arith in ap (λ k. take k xs) e
take_sum (suc m) n [] = take_nil (suc m + n) ∙ sym (take_nil n)
take_sum (suc m) n (x ∷ xs) = let e : suc m + n ≡ suc (m + n) = omega arith in ap (λ k. take k (x ∷ xs)) e ∙ ap (λ ys. x ∷ ys) (take_sum m n xs)

pub drop_drop : (m n : ℕ) (xs : Bytes) → drop m (drop n xs) ≡ drop (n + m) xs
drop_drop m zero xs = let e : m ≡ 0 + m = omega arith in ap (λ k. drop k xs) e
drop_drop m (suc n) [] = drop_nil m ∙ sym (drop_nil (suc n + m))
drop_drop m (suc n) (x ∷ xs) = let e : suc (n + m) ≡ suc n + m = omega arith in drop_drop m n xs ∙ ap (λ k. drop k (x ∷ xs)) e

hash_first : (start : ℕ) (source : Bytes) → slice_index source start ≡ 35 → drop start source ≡ 35 ∷ drop (start + 1) source
hash_first start [] h = absurd (omega (arith, h))
hash_first zero (b ∷ source) h = let e : b ≡ 35 = h in ap (λ c. c ∷ source) e
hash_first (suc start) (b ∷ source) h =
    let e : suc (start + 1) ≡ suc start + 1 = omega arith in hash_first start source h ∙ ap (λ k. 35 ∷ drop k (b ∷ source)) e

take_len : (n : ℕ) (z : Bytes) → take (length (take n z)) z ≡ take n z
take_len zero z = refl
take_len (suc n) [] = refl
take_len (suc n) (b ∷ z) = ap (λ ys. b ∷ ys) (take_len n z)

-- a hash, what follows it, and a word
hash_and_word : (source w : Bytes) (start at : ℕ)
    → start < at → slice_index source start ≡ 35 → take (length w) (drop at source) ≡ w
    → slice_range source start (at + length w) ≡ (35 ∷ slice_range source (start + 1) at) ++ w
hash_and_word source w start at below hash is =
    let k : ℕ = at - (start + 1) in
    let whole : at + length w - start ≡ suc k + length w = omega arith in
    let back : start + suc k ≡ at = omega arith in
    ap (λ n. take n (drop start source)) whole
    ∙ take_sum (suc k) (length w) (drop start source)
    ∙ ap (λ xs. take (suc k) xs ++ take (length w) (drop (suc k) (drop start source))) (hash_first start source hash)
    ∙ ap (λ xs. (35 ∷ take k (drop (start + 1) source)) ++ take (length w) xs) (drop_drop (suc k) start source ∙ ap (λ n. drop n source) back)
    ∙ ap (λ xs. (35 ∷ take k (drop (start + 1) source)) ++ xs) is

laid_pragma : (source : Bytes) (at line start l : ℕ)
    → start < at → slice_index source start ≡ 35 → Laid source at (Pragma start l) (pragma start l (spot at line (Pragma start l)) (drop at source))
laid_pragma source at line start l below hash =
    let z = drop at source in
    let word : Bytes = take (name_len z) z in
    either source at (Pragma start l) (bytes_eq word (codes "alter")) _ _
    (λ e.
    let is : word ≡ codes "alter" = (bytes_eq-Decides word (codes "alter")).0 e in
    let middle : Bytes = slice_range source (start + 1) at in
    let spelled : slice_range source start (at + length word) ≡ codes "#" ++ middle ++ codes "alter" = hash_and_word source word start at below hash
    (take_len (name_len z) z)
    ∙ ap (λ w. (35 ∷ middle) ++ w) is in
    (tt, (omega arith, omega arith, omega arith, (middle, spelled))))
    (tt, omega arith)

laid_directive : (source : Bytes) (at start l : ℕ) (z : Bytes)
    → start < at → slice_index source start ≡ 35 → Laid source at (Hash start l) (directive start l z)
laid_directive source at start l z below hash =
    let word : Bytes = take (name_len z) z in
    either source at (Hash start l) (bytes_eq word (codes "include")) _ _ (λ _. (tt, omega arith))
    (either source at (Hash start l) (bytes_eq word (codes "pragma")) _ _ (λ _. ((omega arith, hash), omega arith)) tt)

laid_matter : (source : Bytes) (at line : ℕ) (place : Place)
    → HashAt source at place → Laid source at place (matter_at place (spot at line place) (drop at source))
laid_matter source at line (Hash start l) h = laid_directive source at start l (drop at source) h.0 h.1
laid_matter source at line (Pragma start l) h = laid_pragma source at line start l h.0 h.1
laid_matter source at line Fresh h =
    either source at Fresh (slice_index (drop at source) 0 == 35) _ _
    (λ e. ((omega arith, sym (first_byte at source) ∙ eqb-true (slice_index (drop at source) 0) 35 e), omega arith))
    (laid_token source at line Fresh Inside refl refl (λ _. tt))
laid_matter source at line Inside h = laid_token source at line Inside Inside refl refl (λ _. tt)
laid_matter source at line Skipped h = (tt, omega arith)
laid_matter source at line Note h = laid_token source at line Note Note refl refl (λ _. tt)

laid_next : (source : Bytes) (at line : ℕ) (place : Place) → HashAt source at place → Laid source at place (next (spot at line place) (drop at source))
unfolding next
laid_next source at line place h =
    let z = drop at source in
    either source at place (slice_index z 0 == 10) _ _ (λ _. laid_line_end source at line place h)
    (either source at place (is_blank (slice_index z 0)) _ _ (λ _. laid_gap source at 1 place h)
    (either source at place (begins_line_comment z) _ _ (λ _. laid_gap source at (line_comment_len z) place h)
    (either source at place (begins_block_comment z) _ _ (λ _. laid_closed source at line place (block_comment_len z) h) (laid_matter source at line place h))))

-- the claim of the tokens from a spot on
abbrev AreSlices : Bytes → ℕ → Place → List Token → Type 0
AreSlices source at place ts = (from : ℕ) → from ≤ floor place at → EachIsItsSlice source ts × InOrder from (length source) ts

floor_before : (source : Bytes) (at : ℕ) (place : Place) → HashAt source at place → floor place at ≤ at
floor_before source at (Hash start l) h = omega (arith, h.0)
floor_before source at (Pragma start l) h = omega (arith, h.0)
floor_before source at Fresh h = omega arith
floor_before source at Inside h = omega arith
floor_before source at Skipped h = omega arith
floor_before source at Note h = omega arith

no_more : (source : Bytes) (place : Place) (at : ℕ) (ts : List Token) → at ≤ length source → floor place at ≤ at → [] ≡ ts → AreSlices source at place ts
no_more source place at ts within low is = λ from below. subst (λ us. EachIsItsSlice source us × InOrder from (length source) us) is (tt, omega arith)

end_slices : (source : Bytes) (at line : ℕ) (place : Place) (ts : List Token)
    → at ≤ length source → HashAt source at place → end_at place (spot at line place) ≡ Ok ts → AreSlices source at place ts
end_slices source at line (Hash start l) ts within hash e = absurd cc
end_slices source at line (Pragma start l) ts within hash e = no_more source (Pragma start l) at ts within (floor_before source at (Pragma start l) hash) cc
end_slices source at line Fresh ts within hash e = no_more source Fresh at ts within (omega arith) cc
end_slices source at line Inside ts within hash e = no_more source Inside at ts within (omega arith) cc
end_slices source at line Skipped ts within hash e = no_more source Skipped at ts within (omega arith) cc
end_slices source at line Note ts within hash e = λ from low.
    let is : note_end (spot at line Note) ∷ [] ≡ ts = cc in
    subst (λ us. EachIsItsSlice source us × InOrder from (length source) us) is ((no_bytes source at, tt), (low, omega arith, within))

next_slices : (source : Bytes) (at : ℕ) (place : Place) (n : Next) (o : Option Token) (ts : List Token)
    → Follows source at place n o → AreSlices source (at + n.len) n.place ts → AreSlices source at place (option_to_list o ++ ts)
next_slices source at place n None ts h rest = λ from low. rest from (omega arith)
next_slices source at place n (Some t) ts h rest = λ from low.
    let more = rest t.end h.2 in
    ((h.3, more.0), (omega arith, h.1, more.1))

pub drop-pred : (n b : ℕ) (z : Bytes) → 1 ≤ n → drop (n - 1) z ≡ drop n (b ∷ z)
drop-pred zero b z h = absurd (omega arith)
drop-pred (suc n) b z h = let e : suc n - 1 ≡ n = omega arith in ap (λ k. drop k z) e

-- what stands next ends within the source
next_inside : (source : Bytes) (s : Spot) (b : ℕ) (z : Bytes) (n : Next)
    → (b ∷ z) ≡ drop s.at source → s.at ≤ length source → next s (b ∷ z) ≡ Ok n → s.at + n.len ≤ length source
next_inside source s b z n is within e =
    let len : suc (length z) ≡ length source - s.at = ap length is ∙ length-drop s.at source in
    let some : 1 ≤ length (b ∷ z) = omega arith in
    let less : n.len ≤ suc (length z) = next_within s (b ∷ z) n some e in
    omega arith

slices : {s : Spot} {z : Bytes} {ts : List Token}
    → SpellsFrom s z ts → (source : Bytes) → z ≡ drop s.at source → s.at ≤ length source → HashAt source s.at s.place → AreSlices source s.at s.place ts
slices (ends {s = s} {ts = ts} e) source is within hash = end_slices source s.at s.line s.place ts within hash e
slices (goes {s = s} {b = b} {z = z} {n = n} {ts = ts} e more) source is within hash =
    let laid = subst (λ r. Laid source s.at s.place r) (ap (next s) (sym is) ∙ e) (laid_next source s.at s.line s.place hash) in
    let rest : drop (n.len - 1) z ≡ drop (s.at + n.len) source = drop-pred n.len b z (next_moves s (b ∷ z) n e) ∙ ap (drop n.len) is
    ∙ drop_drop n.len s.at source in
    next_slices source s.at s.place n n.token ts laid.1 (slices more source rest (next_inside source s b z n is within e) laid.0)

pub spelled_slices : (source : Bytes) (ts : List Token) → Spells source ts → EachIsItsSlice source ts × InOrder 0 (length source) ts
spelled_slices source ts h = slices h source refl (omega arith) tt 0 (omega arith)
