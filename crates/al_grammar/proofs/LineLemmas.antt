-- Each token has the line of its first byte.
use Rattle.std.proofs.Common.{◌≡◌, ℕ, ◌+◌, ◌-◌, Bool, true, false, cond, List, [], ◌∷◌, ◌++◌, drop, take, slice_index, Option, Some, None, Result, Ok, Err, refl, ap, ◌∙◌, subst, length, arith}
use Rattle.std.proofs.lemmas.List.Sums.{sum_by-append}
use Rattle.std.specs.Prelude.{option_to_list, ◌==◌, codes}
use Rattle.std.specs.Str.{bytes_eq}
use Rattle.al_source.specs.declared.tokens.Token.{Token}
use Rattle.al_source.specs.declared.faults.LexFault.{LexFault}
use Rattle.al_source.specs.declared.faults.LexFault.TheVariants.{BadByte}
use Rattle.al_grammar.specs.declared.place.Place.{Place}
use Rattle.al_grammar.specs.declared.place.Place.TheVariants.{Fresh, Inside, Hash, Pragma, Skipped, Note}
use Rattle.al_grammar.specs.declared.place.Spot.{Spot}
use Rattle.al_grammar.specs.declared.place.Next.{Next}
use Rattle.al_grammar.specs.Characters.{Bytes, is_blank, line_feeds}
use Rattle.al_grammar.specs.Lexemes.{begins_line_comment, begins_block_comment, block_comment_len, name_len, Lexeme, lexeme}
use Rattle.al_grammar.specs.Spelling.{gap, note_end, end_at, line_end_at, closed, token_at, matter_at, next, SpellsFrom, ends, goes, Spells}
use Rattle.al_grammar.specs.Slices.{line_at, EachOnItsLine}
use Rattle.al_grammar.proofs.MoveLemmas.{next_moves}
use Rattle.al_grammar.proofs.SliceLemmas.{take_sum, drop_drop, drop-pred}

-- the hash that a place keeps has its own line
abbrev HashLine : Bytes → Place → Type 0
HashLine source (Hash start line) = line ≡ line_at source start
HashLine source (Pragma start line) = line ≡ line_at source start
HashLine source Fresh = Unit {0}
HashLine source Inside = Unit {0}
HashLine source Skipped = Unit {0}
HashLine source Note = Unit {0}

abbrev OnLine : Bytes → Option Token → Type 0
OnLine source None = Unit {0}
OnLine source (Some t) = t.line ≡ line_at source t.start

abbrev Lined : Bytes → Result Next LexFault → Type 0
Lined source (Err fault) = Unit {0}
Lined source (Ok n) = HashLine source n.place × OnLine source n.token

either : (source : Bytes) (b : Bool) (x y : Result Next LexFault) → Lined source x → Lined source y → Lined source (cond b x y)
either source true x y h k = h
either source false x y h k = k

lined_closed : (source : Bytes) (s : Spot) (o : Option ℕ) → HashLine source s.place → Lined source (closed s o)
lined_closed source s None h = tt
lined_closed source s (Some len) h = (h, tt)

lined_line_end : (source : Bytes) (p : Place) (s : Spot) → s.line ≡ line_at source s.at → Lined source (line_end_at p s)
lined_line_end source (Hash start l) s here = tt
lined_line_end source (Pragma start l) s here = (tt, tt)
lined_line_end source Fresh s here = (tt, tt)
lined_line_end source Inside s here = (tt, tt)
lined_line_end source Skipped s here = (tt, tt)
lined_line_end source Note s here = (tt, here)

lined_token : (source : Bytes) (s : Spot) (after : Place) (r : Result Lexeme LexFault)
    → s.line ≡ line_at source s.at → HashLine source after → Lined source (token_at s after r)
lined_token source s after (Err fault) here h = tt
lined_token source s after (Ok t) here h = (h, here)

lined_matter : (source : Bytes) (p : Place) (s : Spot) (z : Bytes) → s.line ≡ line_at source s.at → HashLine source p → Lined source (matter_at p s z)
lined_matter source (Hash start l) s z here h =
    let word : Bytes = take (name_len z) z in
    either source (bytes_eq word (codes "include")) (gap (length word) Skipped)
    (cond (bytes_eq word (codes "pragma")) (gap (length word) (Pragma start l)) (Err (BadByte l))) (tt, tt)
    (either source (bytes_eq word (codes "pragma")) (gap (length word) (Pragma start l)) (Err (BadByte l)) (h, tt) tt)
lined_matter source (Pragma start l) s z here h =
    let word : Bytes = take (name_len z) z in
    either source (bytes_eq word (codes "alter")) _ (gap 1 Skipped) (tt, h) (tt, tt)
lined_matter source Fresh s z here h =
    either source (slice_index z 0 == 35) (gap 1 (Hash s.at s.line)) (token_at s Inside (lexeme s.line z)) (here, tt)
    (lined_token source s Inside (lexeme s.line z) here tt)
lined_matter source Inside s z here h = lined_token source s Inside (lexeme s.line z) here tt
lined_matter source Skipped s z here h = (tt, tt)
lined_matter source Note s z here h = lined_token source s Note (lexeme s.line z) here tt

lined_next : (source : Bytes) (s : Spot) (z : Bytes) → s.line ≡ line_at source s.at → HashLine source s.place → Lined source (next s z)
unfolding next
lined_next source s z here h =
    either source (slice_index z 0 == 10) _ _ (lined_line_end source s.place s here)
    (either source (is_blank (slice_index z 0)) _ _ (h, tt)
    (either source (begins_line_comment z) _ _ (h, tt)
    (either source (begins_block_comment z) _ _ (lined_closed source s (block_comment_len z) h) (lined_matter source s.place s z here h))))

feeds_append : (xs ys : Bytes) → line_feeds (xs ++ ys) ≡ line_feeds xs + line_feeds ys
feeds_append xs ys = sum_by-append (λ b. cond (b == 10) 1 0) xs ys

-- the line after what stood next
line_goes : (source z : Bytes) (s : Spot) (len : ℕ)
    → z ≡ drop s.at source → s.line ≡ line_at source s.at → s.line + line_feeds (take len z) ≡ line_at source (s.at + len)
line_goes source z s len is here =
    let whole : line_feeds (take (s.at + len) source) ≡ line_feeds (take s.at source) + line_feeds (take len (drop s.at source)) = ap line_feeds
    (take_sum s.at len source)
    ∙ feeds_append (take s.at source) (take len (drop s.at source)) in
    let part : line_feeds (take len z) ≡ line_feeds (take len (drop s.at source)) = ap (λ y. line_feeds (take len y)) is in
    omega arith

end_lines : (source : Bytes) (p : Place) (s : Spot) (ts : List Token) → s.line ≡ line_at source s.at → end_at p s ≡ Ok ts → EachOnItsLine source ts
end_lines source (Hash start l) s ts here e = absurd cc
end_lines source (Pragma start l) s ts here e = let is : [] ≡ ts = cc in subst (λ us. EachOnItsLine source us) is tt
end_lines source Fresh s ts here e = let is : [] ≡ ts = cc in subst (λ us. EachOnItsLine source us) is tt
end_lines source Inside s ts here e = let is : [] ≡ ts = cc in subst (λ us. EachOnItsLine source us) is tt
end_lines source Skipped s ts here e = let is : [] ≡ ts = cc in subst (λ us. EachOnItsLine source us) is tt
end_lines source Note s ts here e = let is : note_end s ∷ [] ≡ ts = cc in subst (λ us. EachOnItsLine source us) is (here, tt)

next_lines : (source : Bytes) (o : Option Token) (ts : List Token) → OnLine source o → EachOnItsLine source ts → EachOnItsLine source (option_to_list o ++ ts)
next_lines source None ts h rest = rest
next_lines source (Some t) ts h rest = (h, rest)

lines : {s : Spot} {z : Bytes} {ts : List Token}
    → SpellsFrom s z ts → (source : Bytes) → z ≡ drop s.at source → s.line ≡ line_at source s.at → HashLine source s.place → EachOnItsLine source ts
lines (ends {s = s} {ts = ts} e) source is here hash = end_lines source s.place s ts here e
lines (goes {s = s} {b = b} {z = z} {n = n} {ts = ts} e more) source is here hash =
    let lined = subst (λ r. Lined source r) e (lined_next source s (b ∷ z) here hash) in
    let rest : drop (n.len - 1) z ≡ drop (s.at + n.len) source = drop-pred n.len b z (next_moves s (b ∷ z) n e) ∙ ap (drop n.len) is
    ∙ drop_drop n.len s.at source in
    next_lines source n.token ts lined.1 (lines more source rest (line_goes source (b ∷ z) s n.len is here) lined.0)

pub spelled_lines : (source : Bytes) (ts : List Token) → Spells source ts → EachOnItsLine source ts
spelled_lines source ts h = lines h source refl refl tt
