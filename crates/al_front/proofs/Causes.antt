-- From what each layer answers to what a source comes to.
use Rattle.std.proofs.Common.{◌≡◌, ◌⊎◌, inl, inr, ℕ, ◌<◌, ◌≤◌, true, false, nat_lt, List, length, Option, Some, None, Result, Ok, Err, refl, ap, ◌∙◌, arith, rules}
use Rattle.std.specs.Prelude.{option_map}
use Rattle.al_source.specs.Answers.{Fails}
use Rattle.al_source.specs.declared.faults.LexFault.{LexFault}
use Rattle.al_source.specs.declared.faults.LexFault.TheVariants as lex
use Rattle.al_source.specs.declared.source_tree.Item.{Item}
use Rattle.al_source.specs.declared.source_tree.Program.{Program}
use Rattle.al_source.specs.declared.tokens.Token.{Token}
use Rattle.al_grammar.specs.Characters.{Bytes}
use Rattle.al_grammar.specs.Phrases.{Tokens}
use Rattle.al_grammar.specs.Spelling.{Spells, first_lexical_fault}
use Rattle.al_grammar.specs.Reading.{reading}
use Rattle.al_grammar.specs.Steps.{Read}
use Rattle.al_grammar.specs.Programs.{Derives}
use Rattle.al_grammar.specs.ProgramParser.{all_items}
use Rattle.al_grammar.proofs.TokenLaws.{spelled_reading, fault_read}
use Rattle.al_grammar.proofs.ProgramFacts.{sound_program, complete_program}
use Rattle.al_lexer.specs.Answers.{Explains}
use Rattle.al_rules.specs.declared.faults.LexicalCause.TheVariants.{TooLong}
use Rattle.al_rules.specs.declared.faults.Refusal.{Refusal}
use Rattle.al_rules.specs.declared.faults.Refusal.TheVariants.{Lexical, Grammar}
use Rattle.al_source.specs.Steps.{and_then}
use Rattle.al_source.specs.declared.limits.TheConstants.{SOURCE_BYTES}
use Rattle.al_rules.specs.Faults.{spelled}
use Rattle.al_rules.specs.Refusals.{because, lexical_cause, tokens_of, derived, program_of}

-- ---- tokens

abbrev pub lexical : LexFault → Refusal
lexical fault = Lexical (lexical_cause fault)

pub within : (source : Bytes) → length source ≤ SOURCE_BYTES → tokens_of source ≡ because lexical (reading source)
within source h = let short : nat_lt SOURCE_BYTES (length source) ≡ false = search (rules, h) in rw short refl

pub beyond : (source : Bytes) → SOURCE_BYTES < length source → tokens_of source ≡ Err (Lexical TooLong)
beyond source h = let long : nat_lt SOURCE_BYTES (length source) ≡ true = search (rules, h) in rw long refl

pub le_or_lt : (m n : ℕ) → (m ≤ n) ⊎ (n < m)
le_or_lt m n = grind arith

pub spelled_tokens : (source : Bytes) (tokens : List Token)
    → (SOURCE_BYTES < length source → ◌≡◌ {A = Result (List Token) LexFault} (Ok tokens) (Err lex.TooLong)) → Spells source tokens
    → tokens_of source ≡ Ok tokens
spelled_tokens source tokens long told = by_length (le_or_lt (length source) SOURCE_BYTES)
  where
    by_length : (length source ≤ SOURCE_BYTES) ⊎ (SOURCE_BYTES < length source) → tokens_of source ≡ Ok tokens
    by_length (inl short) = within source short ∙ ap (because lexical) (spelled_reading source tokens told)
    by_length (inr more) = let never = long more in absurd cc

faulty : (source : Bytes) (fault : LexFault) → (length source ≤ SOURCE_BYTES) × (first_lexical_fault source ≡ Some fault)
    → tokens_of source ≡ Err (lexical fault)
faulty source fault h = within source h.0 ∙ ap (because lexical) (fault_read source fault h.1)

pub refused_tokens : (source : Bytes) (fault : LexFault) → Explains source fault → Fails (tokens_of source) (option_map Lexical (spelled fault))
refused_tokens source lex.TooLong h = beyond source h
refused_tokens source (lex.BadByte line) h = faulty source (lex.BadByte line) h
refused_tokens source (lex.BadNumber line) h = faulty source (lex.BadNumber line) h
refused_tokens source (lex.BadText line) h = faulty source (lex.BadText line) h
refused_tokens source (lex.OpenComment line) h = faulty source (lex.OpenComment line) h
refused_tokens source lex.Memory h = tt

-- ---- the program

pub derived_program : (tokens : Tokens) (p : Program) → Derives tokens p → program_of tokens ≡ Ok p
derived_program tokens p derives = ap derived (complete_program derives)

pub refused_program : (tokens : Tokens) → ((p : Program) → Derives tokens p → ⊥) → program_of tokens ≡ Err Grammar
refused_program tokens none = by_read (all_items tokens) refl
  where
    by_read : (r : Read (List Item)) → all_items tokens ≡ r → program_of tokens ≡ Err Grammar
    by_read (Ok q) e = absurd (none (record { items = q.0 }) (sound_program tokens q e))
    by_read (Err rest) e = ap derived e

-- ---- one part after another

-- where a part fails, so does the whole
pub stops : {A B F : Type 0} (part : Result A F) (next : A → Result B F) (fault : Option F) → Fails part fault → Fails (and_then part next) fault
stops part next (Some e) is = ap (λ r. and_then r next) is
stops part next None is = tt

-- the cause of a part is that of a refusal
pub causes : {A F : Type 0} (cause : F → Refusal) (part : Result A F) (fault : Option F) → Fails part fault
    → Fails (because cause part) (option_map cause fault)
causes cause part (Some e) is = ap (because cause) is
causes cause part None is = tt
