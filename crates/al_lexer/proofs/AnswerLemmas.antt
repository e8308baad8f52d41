-- From what is read to what is promised of it.
use Rattle.std.proofs.Common.{◌≡◌, ◌≤◌, List, length, Result, Ok, Err, Some, subst, IfOk, IfErr}
use Rattle.al_source.specs.declared.tokens.Token.{Token}
use Rattle.al_source.specs.declared.faults.LexFault.{LexFault}
use Rattle.al_source.specs.declared.faults.LexFault.TheVariants.{TooLong, BadByte, BadNumber, BadText, OpenComment, Memory}
use Rattle.al_source.specs.declared.limits.TheConstants.{SOURCE_BYTES}
use Rattle.al_source.specs.Answers.{Gives}
use Rattle.al_source.specs.Faults.{lexical}
use Rattle.al_grammar.specs.Characters.{Bytes}
use Rattle.al_grammar.specs.Spelling.{Spells, first_lexical_fault}
use Rattle.al_grammar.specs.Slices.{EachIsItsSlice, EachOnItsLine, InOrder}
use Rattle.al_grammar.specs.Reading.{reading}
use Rattle.al_grammar.proofs.TokenLaws.{reading_spells, spelled_reading, reading_fault, fault_read}
use Rattle.al_grammar.proofs.LineLemmas.{spelled_lines}
use Rattle.al_grammar.proofs.SliceLemmas.{spelled_slices}
use Rattle.al_grammar.proofs.FaultLemmas.{never_too_long}
use Rattle.al_lexer.specs.Answers.{Explains}

abbrev Answer : Type 0
Answer = Result (List Token) LexFault

pub spelled_by : (source : Bytes) (r : Answer) → Gives lexical (reading source) r → IfOk r (λ tokens. Spells source tokens)
spelled_by source (Ok tokens) h = reading_spells source tokens h
spelled_by source (Err fault) h = tt

pub slices_by : (source : Bytes) (r : Answer) → Gives lexical (reading source) r → IfOk r (EachIsItsSlice source)
slices_by source (Ok tokens) h = (spelled_slices source tokens (reading_spells source tokens h)).0
slices_by source (Err fault) h = tt

pub lines_by : (source : Bytes) (r : Answer) → Gives lexical (reading source) r → IfOk r (EachOnItsLine source)
lines_by source (Ok tokens) h = spelled_lines source tokens (reading_spells source tokens h)
lines_by source (Err fault) h = tt

pub order_by : (source : Bytes) (r : Answer) → Gives lexical (reading source) r → IfOk r (InOrder 0 (length source))
order_by source (Ok tokens) h = (spelled_slices source tokens (reading_spells source tokens h)).1
order_by source (Err fault) h = tt

pub found_by : (source : Bytes) (r : Answer) (tokens : List Token) → Gives lexical (reading source) r → Spells source tokens → Gives lexical (Ok tokens) r
found_by source r tokens h s = subst (λ d. Gives lexical d r) (spelled_reading source tokens s) h

pub first_by : (source : Bytes) (r : Answer) (fault : LexFault)
    → Gives lexical (reading source) r → first_lexical_fault source ≡ Some fault → Gives lexical (Err fault) r
first_by source r fault h e = subst (λ d. Gives lexical d r) (fault_read source fault e) h

pub cause_by : (source : Bytes) (r : Answer) → length source ≤ SOURCE_BYTES → Gives lexical (reading source) r → IfErr r (Explains source)
cause_by source (Ok tokens) short h = tt
cause_by source (Err Memory) short h = tt
cause_by source (Err TooLong) short h = absurd (never_too_long source h)
cause_by source (Err (BadByte n)) short h = (short, reading_fault source (BadByte n) h)
cause_by source (Err (BadNumber n)) short h = (short, reading_fault source (BadNumber n) h)
cause_by source (Err (BadText n)) short h = (short, reading_fault source (BadText n) h)
cause_by source (Err (OpenComment n)) short h = (short, reading_fault source (OpenComment n) h)
