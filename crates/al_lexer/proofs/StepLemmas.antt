-- A step of the lexer is a step of the reading.
use Rattle.std.proofs.Common.{◌≡◌, ◌≤◌, List, [], ◌∷◌, ◌++◌, drop, length, append_assoc, Option, Some, None, Result, Ok, Err, refl, sym, ap, ◌∙◌, arith}
use Rattle.std.specs.Prelude.{option_to_list}
use Rattle.al_source.specs.declared.tokens.Token.{Token}
use Rattle.al_source.specs.declared.faults.LexFault.{LexFault}
use Rattle.al_grammar.specs.declared.place.Spot.{Spot}
use Rattle.al_grammar.specs.declared.place.Next.{Next}
use Rattle.al_grammar.specs.Characters.{Bytes}
use Rattle.al_grammar.specs.Spelling.{next, spot_after}
use Rattle.al_grammar.specs.Reading.{with_front, reading_from}
use Rattle.al_grammar.proofs.TokenLaws.{reading_from-goes, reading_from-stops}
use Rattle.al_source.specs.Answers.{Fails}
use Rattle.al_lexer.specs.Answers.{ReadsOn}
use Rattle.al_lexer.proofs.TextLemmas.{drop-pred}

front_front : (ts us : List Token) (r : Result (List Token) LexFault) → with_front (ts ++ us) r ≡ with_front ts (with_front us r)
front_front ts us (Ok vs) = ap (λ ws. Ok ws) (append_assoc ts us vs)
front_front ts us (Err fault) = refl

pub step_goes : (s : Spot) (z : Bytes) (n : Next) (ts us : List Token)
    → next s z ≡ Ok n → 1 ≤ length z → 1 ≤ n.len → us ≡ ts ++ option_to_list n.token → ReadsOn ts s z us (spot_after s z n) (drop n.len z)
step_goes s [] n ts us e some moves is = absurd (omega arith)
step_goes s (b ∷ z) n ts us e some moves is =
    ap (λ vs. with_front vs (reading_from 0 (spot_after s (b ∷ z) n) (drop n.len (b ∷ z)))) is
    ∙ front_front ts (option_to_list n.token) (reading_from 0 (spot_after s (b ∷ z) n) (drop n.len (b ∷ z)))
    ∙ ap (λ r. with_front ts (with_front (option_to_list n.token) (reading_from 0 (spot_after s (b ∷ z) n) r))) (sym (drop-pred n.len b z moves))
    ∙ ap (with_front ts) (sym (reading_from-goes s b z n e))

pub step_stops : (s : Spot) (z : Bytes) (fault : LexFault) → next s z ≡ Err fault → 1 ≤ length z → reading_from 0 s z ≡ Err fault
step_stops s [] fault e some = absurd (omega arith)
step_stops s (b ∷ z) fault e some = reading_from-stops s b z fault e

pub step_fails : (s : Spot) (z : Bytes) (fault : Option LexFault)
    → Fails (next s z) fault → 1 ≤ length z → Fails (reading_from 0 s z) fault
step_fails s z None h some = tt
step_fails s z (Some fault) h some = step_stops s z fault h some
