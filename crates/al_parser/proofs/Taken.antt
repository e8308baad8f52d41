-- What was read took tokens, and is what the tokens derive.
use Rattle.std.proofs.Common.{◌≡◌, ℕ, ◌-◌, ◌<◌, ◌≤◌, List, [], length, length-append, Result, Ok, Err, OnOk, refl, sym, ap, subst, ◌∙◌, Some, arith}
use Rattle.al_source.specs.declared.source_tree.Stmt.{Stmt}
use Rattle.al_source.specs.declared.source_tree.Item.{Item}
use Rattle.al_source.specs.declared.source_tree.Program.{Program}
use Rattle.al_source.specs.declared.faults.ParseFault.{ParseFault}
use Rattle.al_source.specs.declared.faults.ParseFault.TheVariants as fault
use Rattle.std.specs.Prelude.{ℤ, pos, negsuc, neg_ℤ, ◌<ℤ◌}
use Rattle.std.proofs.lemmas.Int.{ints}
use Rattle.al_source.specs.declared.tokens.TokenKind.TheVariants.{Number}
use Rattle.al_source.specs.declared.source_tree.Start.TheVariants as start
use Rattle.al_grammar.specs.Phrases.{Tokens}
use Rattle.al_grammar.specs.Programs.{Derives, AllItems}
use Rattle.al_grammar.specs.Steps.{Read, tail}
use Rattle.al_grammar.specs.StatementParser.{statement}
use Rattle.al_grammar.specs.ProgramParser.{items_step, all_items, negative_by}
use Rattle.al_source.specs.Answers.{Fails, Walks}
use Rattle.al_source.specs.Faults.{syntactic}
use Rattle.al_grammar.proofs.SoundStatements.{sound_statement}
use Rattle.al_grammar.proofs.Shorter.{statement_shorter}
use Rattle.al_grammar.specs.Beginnings.{IsFirstBad}
use Rattle.al_grammar_laws.specs.Places.{place_of}
use Rattle.al_grammar_laws.proofs.FirstBad.{stop_ends, stops_at_first_bad}
use Rattle.al_grammar.proofs.ProgramFacts.{step_shorter, sound_program, complete_program, one_list}

pub statement_takes : (d : ℕ) (ts us : Tokens) (r : Result Stmt ParseFault) → Walks (syntactic us) (statement d ts) r us → OnOk r (length us < length ts)
statement_takes d ts us (Ok x) e = statement_shorter (sound_statement d ts (x, us) e)
statement_takes d ts us (Err f) e = tt

pub items_shrink : (is all : List Item) (ts us : Tokens) → items_step is ts ≡ Ok (all, us) → length us < length ts
items_shrink is all ts us e = step_shorter is ts (all, us) e

clash : (ts us : Tokens) (is : List Item) → AllItems ts is → all_items ts ≡ Err us → ⊥
clash ts us is r e = let both : ◌≡◌ {A = Read (List Item)} (Ok (is, [])) (Err us) = sym (complete_program r) ∙ e in cc

pub found_one : (ts us : Tokens) (q : List Item) (p : Program) → all_items ts ≡ Ok (q, us) → Derives ts p → q ≡ p.items
found_one ts us q p e d = one_list (sound_program ts (q, us) e) d

-- a fault of the parser, where the tokens derive a program
pub found_none : (ts us : Tokens) (f : ParseFault) (p : Program) → Fails (all_items ts) (syntactic us f) → Derives ts p → f ≡ fault.Memory
found_none ts us fault.Syntax p e d = absurd (clash ts us p.items d e)
found_none ts us fault.Memory p e d = refl

-- Reading stops at the first bad token, and where it does is a place in the tokens.
stopped : (ts us : Tokens) (f : ParseFault) → Fails (all_items ts) (syntactic us f) → f ≡ fault.Syntax → all_items ts ≡ Err us
stopped ts us fault.Syntax e d = e
stopped ts us fault.Memory e d = absurd cc

pub stop_within : (ts us : Tokens) (f : ParseFault) → Fails (all_items ts) (syntactic us f) → f ≡ fault.Syntax → length us ≤ length ts
stop_within ts us f e d = let (w, same) = stop_ends ts us (stopped ts us f e d) in let long = ap length same ∙ length-append w us in omega arith

pub stop_is_bad : (ts us : Tokens) (f : ParseFault)
    → Fails (all_items ts) (syntactic us f) → f ≡ fault.Syntax → IsFirstBad ts (Some (length ts - length us))
stop_is_bad ts us f e d = subst (λ o. IsFirstBad ts (place_of ts o)) (stopped ts us f e d) (stops_at_first_bad ts)

pub sound_items : (ts us : Tokens) (is : List Item) → all_items ts ≡ Ok (is, us) → Derives ts (record { items = is })
sound_items ts us is e = sound_program ts (is, us) e

-- ---- the number behind a `-`

pub negative_is : (v : ℤ) (ts : Tokens) → (v <ℤ pos 0 → ⊥) → negative_by (Some (Number v)) ts ≡ Ok (start.Number (neg_ℤ v), tail ts)
negative_is (pos n) ts h = refl
negative_is (negsuc n) ts h = absurd (h (omega (arith, ints)))

pub negative_less : (v : ℤ) (ts : Tokens) → v <ℤ pos 0 → negative_by (Some (Number v)) ts ≡ Err ts
negative_less (pos n) ts h = absurd (omega (arith, ints))
negative_less (negsuc n) ts h = refl
