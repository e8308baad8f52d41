-- The parser stops at the first bad token.
use Rattle.std.proofs.Common.{◌≡◌, ℕ, zero, suc, ◌+◌, ◌-◌, ◌<◌, ◌≤◌, List, [], ◌∷◌, ◌++◌, append_assoc, length, take, Option, Some, None, Ok, Err, refl, sym, ap, subst, ◌∙◌, arith}
use Rattle.std.proofs.lemmas.List.{append-nil, length-append}
use Rattle.al_source.specs.declared.tokens.Token.{Token}
use Rattle.al_source.specs.declared.source_tree.Item.{Item}
use Rattle.al_source.specs.declared.source_tree.Program.{Program}
use Rattle.al_grammar.specs.Phrases.{Tokens}
use Rattle.al_grammar.specs.Steps.{Read}
use Rattle.al_grammar.specs.Programs.{AllItems, end, Derives}
use Rattle.al_grammar.specs.Beginnings.{Begins, IsFirstBad}
use Rattle.al_grammar.specs.ProgramParser.{all_items}
use Rattle.al_grammar.proofs.ProgramFacts.{sound_program, complete_program}
use Rattle.al_grammar_laws.specs.Places.{place_of}
use Rattle.al_grammar_laws.proofs.Local.{Ends, whole, after, Cut, Alike, here, there, bare, left, Both, reads, stops, past}
use Rattle.al_grammar_laws.proofs.LocalCalls.{alike_length, some_cut}
use Rattle.al_grammar_laws.proofs.LocalProgram.{programs}
use Rattle.al_grammar_laws.proofs.CompletedProgram.{missing}

-- ---- lists

split : {ts us : Tokens} → Ends ts us → (w : Tokens) × (ts ≡ w ++ us)
split whole = ([], refl)
split (after {t = t} e) = let (w, same) = split e in (t ∷ w, ap (λ ts. t ∷ ts) same)

take_front : (w us : Tokens) → take (length w) (w ++ us) ≡ w
take_front [] us = refl
take_front (t ∷ w) us = ap (λ ts. t ∷ ts) (take_front w us)

take_more : (w us : Tokens) (u : Token) → take (suc (length w)) (w ++ u ∷ us) ≡ w ++ u ∷ []
take_more [] us u = refl
take_more (t ∷ w) us u = ap (λ ts. t ∷ ts) (take_more w us u)

-- ---- two lists that are the same up to a token

-- the cut at this token, which may be passed
abbrev cut : Token → Tokens → Tokens → Cut
cut t rest other = record { token = t; rest = rest; other = other; Passed = Unit {0}; plain = λ _. tt }

alike : (w : Tokens) (t : Token) (rest other : Tokens) → Alike (cut t rest other) (w ++ t ∷ rest) (w ++ t ∷ other)
alike [] t rest other = here
alike (s ∷ w) t rest other = there (alike w t rest other)

alike_end : {c : Cut} {r r' : Tokens} → Alike c r r' → length r ≡ suc (length c.rest) → r' ≡ c.token ∷ c.other
alike_end here e = refl
alike_end (there w) e = let (k, a, b) = alike_length w in absurd (omega arith)

stops_alike : {c : Cut} {o o' : Read (List Item)} → Both c bare o o' → o ≡ Err (c.token ∷ c.rest) → o' ≡ Err (c.token ∷ c.other)
stops_alike (reads a r w) e = absurd cc
stops_alike (stops w) e = ap Err (alike_end w (ap (λ (o : Read (List Item)). length (left bare o)) e))
stops_alike (past {o = o} p le le') e =
    let at : length (left bare o) ≡ suc _ = ap (λ (o : Read (List Item)). length (left bare o)) e in absurd (omega arith)

-- What follows the token at which reading stops is not looked at.
pub local_fault : (w : Tokens) (t : Token) (rest other : Tokens)
    → all_items (w ++ t ∷ rest) ≡ Err (t ∷ rest) → all_items (w ++ t ∷ other) ≡ Err (t ∷ other)
local_fault w t rest other e =
    stops_alike ((programs {c = cut t rest other} tt).both (w ++ t ∷ rest) (w ++ t ∷ other) (λ e. absurd cc) refl (alike w t rest other)) e

-- ---- where reading stops

pub stop_ends : (ts rest : Tokens) → all_items ts ≡ Err rest → (w : Tokens) × (ts ≡ w ++ rest)
stop_ends ts rest e = split (subst (λ o. Ends ts (left bare o)) e ((programs {c = some_cut} tt).ends ts))

not_derived : (ts rest : Tokens) → all_items ts ≡ Err rest → (p : Program) → Derives ts p → ⊥
not_derived ts rest e p d = let both : ◌≡◌ {A = Read (List Item)} (Ok (p.items, [])) (Err rest) = sym (complete_program d) ∙ e in cc

begins_none : (w rest : Tokens) (t : Token) → all_items (w ++ t ∷ rest) ≡ Err (t ∷ rest) → Begins (w ++ t ∷ []) → ⊥
begins_none w rest t e (more', p, d) =
    not_derived (w ++ t ∷ more') (t ∷ more') (local_fault w t rest more' e) p (subst (λ ts. Derives ts p) (append_assoc w (t ∷ []) more') d)

pub begins_front : (w rest : Tokens) → all_items (w ++ rest) ≡ Err rest → Begins w
begins_front w rest e = by (all_items w) refl
  where
    by : (o : Read (List Item)) → all_items w ≡ o → Begins w
    by (Ok q) d = ([], record { items = q.0 }, subst (λ ts. AllItems ts q.0) (sym (append-nil w)) (sound_program w q d))
    by (Err []) d = let (more, is, r) = missing w d in (more, record { items = is }, r)
    by (Err (t ∷ us)) d =
        let (v, same) = stop_ends w (t ∷ us) d in
        let d' : all_items (v ++ t ∷ us) ≡ Err (t ∷ us) = subst (λ w. all_items w ≡ Err (t ∷ us)) same d in
        let f : all_items (v ++ t ∷ (us ++ rest)) ≡ Err (t ∷ (us ++ rest)) = local_fault v t us (us ++ rest) d' in
        let whole_is : w ++ rest ≡ v ++ t ∷ (us ++ rest) = ap (λ w. w ++ rest) same ∙ append_assoc v (t ∷ us) rest in
        let e' : all_items (v ++ t ∷ (us ++ rest)) ≡ Err rest = subst (λ ts. all_items ts ≡ Err rest) whole_is e in
        let both : ◌≡◌ {A = Read (List Item)} (Err (t ∷ (us ++ rest))) (Err rest) = sym f ∙ e' in
        let long : suc (length (us ++ rest)) ≡ length rest = ap (λ (o : Read (List Item)). length (left bare o)) both in
        let parts : length (us ++ rest) ≡ length us + length rest = length-append us rest in
        absurd (omega arith)

pub stops_between : (ts rest : Tokens) → all_items ts ≡ Err rest → (w : Tokens) × (ts ≡ w ++ rest) × Begins w
stops_between ts rest e =
    let (w, same) = stop_ends ts rest e in (w, same, begins_front w rest (subst (λ ts. all_items ts ≡ Err rest) same e))

-- ---- the place

stop_place : (w rest : Tokens) → all_items (w ++ rest) ≡ Err rest → IsFirstBad (w ++ rest) (Some (length w))
stop_place w rest e = (omega (arith, long), not_derived (w ++ rest) rest e, begins, λ lt. by rest e lt)
  where
    long : length (w ++ rest) ≡ length w + length rest
    long = length-append w rest

    begins : Begins (take (length w) (w ++ rest))
    begins = subst Begins (sym (take_front w rest)) (begins_front w rest e)

    by : (rest : Tokens) → all_items (w ++ rest) ≡ Err rest → length w < length (w ++ rest) → Begins (take (suc (length w)) (w ++ rest)) → ⊥
    by [] e lt b = let none : length (w ++ []) ≡ length w + 0 = length-append w [] in absurd (omega arith)
    by (t ∷ us) e lt b = begins_none w us t e (subst Begins (take_more w us t) b)

pub stops_at_first_bad : (ts : Tokens) → IsFirstBad ts (place_of ts (all_items ts))
stops_at_first_bad ts = by (all_items ts) refl
  where
    by : (o : Read (List Item)) → all_items ts ≡ o → IsFirstBad ts (place_of ts o)
    by (Ok q) d = (record { items = q.0 }, sound_program ts q d)
    by (Err rest) d =
        let (w, same) = stop_ends ts rest d in
        let long : length ts ≡ length w + length rest = ap length same ∙ length-append w rest in
        let at : length w ≡ length ts - length rest = omega arith in
        subst (λ n. IsFirstBad ts (Some n)) at
        (subst (λ ts. IsFirstBad ts (Some (length w))) (sym same) (stop_place w rest (subst (λ ts. all_items ts ≡ Err rest) same d)))

pub place_within : (ts : Tokens) (place : ℕ) → IsFirstBad ts (Some place) → (0 < length ts) × (place ≤ length ts)
place_within [] place (inside, none, begins, bad) = absurd (none (record { items = [] }) end)
place_within (t ∷ ts) place (inside, none, begins, bad) = (omega arith, inside)

-- ---- one place

begins_shorter : (i j : ℕ) (ts : Tokens) → i ≤ j → Begins (take j ts) → Begins (take i ts)
begins_shorter i j ts le (more, p, d) = let (us, same) = front i j ts le in
    (us ++ more, p, subst (λ ts. Derives ts p) (ap (λ l. l ++ more) same ∙ append_assoc (take i ts) us more) d)
  where
    front : (i j : ℕ) (ts : Tokens) → i ≤ j → (us : Tokens) × (take j ts ≡ take i ts ++ us)
    front zero j ts le = (take j ts, refl)
    front (suc i) zero ts le = absurd (omega arith)
    front (suc i) (suc j) [] le = ([], refl)
    front (suc i) (suc j) (t ∷ ts) le = let (us, same) = front i j ts (omega arith) in (us, ap (λ l. t ∷ l) same)

not_before : (i j : ℕ) (ts : Tokens) → IsFirstBad ts (Some i) → IsFirstBad ts (Some j) → i < j → ⊥
not_before i j ts (inside, none, begins, bad) (inside', none', begins', bad') lt = bad (omega arith) (begins_shorter (suc i) j ts (omega arith) begins')

pub one_place : (ts : Tokens) (a b : Option ℕ) → IsFirstBad ts a → IsFirstBad ts b → a ≡ b
one_place ts None None h k = refl
one_place ts None (Some j) (p, d) (inside, none, begins, bad) = absurd (none p d)
one_place ts (Some i) None (inside, none, begins, bad) (p, d) = absurd (none p d)
one_place ts (Some i) (Some j) h k = ap Some (same_number (not_before i j ts h k) (not_before j i ts k h))
  where
    same_number : {i j : ℕ} → (i < j → ⊥) → (j < i → ⊥) → i ≡ j
    same_number a b = omega (arith, a, b)
