-- Where the grammar refuses a source, and that nothing else does as it does.
use Rattle.std.proofs.Common.{◌≡◌, ◌⊎◌, inl, inr, ℕ, ◌<◌, ◌≤◌, ◌-◌, Bool, true, false, if◌then◌else◌, nat_lt, List, length, Some, Result, Ok, Err, IsSomeAnd, IfErr, refl, sym, ap, subst, ◌∙◌, arith}
use Rattle.al_source.specs.Answers.{Fails, Gives}
use Rattle.al_source.specs.Steps.{and_then}
use Rattle.al_source.specs.declared.limits.TheConstants.{SOURCE_BYTES, SOURCE_NODES}
use Rattle.al_source.specs.declared.source_tree.Item.{Item}
use Rattle.al_source.specs.declared.source_tree.Program.{Program}
use Rattle.al_grammar.specs.Characters.{Bytes}
use Rattle.al_grammar.specs.Phrases.{Tokens}
use Rattle.al_grammar.specs.Spelling.{Spells}
use Rattle.al_grammar.specs.Reading.{reading}
use Rattle.al_grammar.specs.Steps.{Read}
use Rattle.al_grammar.specs.Beginnings.{IsFirstBad}
use Rattle.al_grammar.specs.ProgramParser.{all_items}
use Rattle.al_grammar.proofs.TokenLaws.{reading_spells}
use Rattle.al_grammar_laws.specs.Places.{place_of}
use Rattle.al_grammar_laws.proofs.FirstBad.{stops_at_first_bad, one_place, place_within}
use Rattle.al_core.specs.declared.typed_tree.Typed.{Typed}
use Rattle.al_rules.specs.declared.faults.Refusal.{Refusal}
use Rattle.al_rules.specs.declared.faults.Refusal.TheVariants.{Grammar, Layout, Types, Notes, TooManyNodes}
use Rattle.al_rules.specs.Layouts.{layout_of}
use Rattle.al_rules.specs.Notes.{notes_of}
use Rattle.al_rules.specs.Programs.{typed_with}
use Rattle.al_rules.specs.Refusals.{Noted, because, tokens_of, derived, program_of, tree_of, small_enough, annotated_well, accepted}
use Rattle.al_front.specs.declared.fault.BadTokens.{BadTokens}
use Rattle.al_front.specs.declared.fault.FrontFault.{FrontFault}
use Rattle.al_front.specs.declared.fault.FrontFault.TheVariants.{Refused, NoProgram, Memory}
use Rattle.al_front.specs.Places.{IsBadIn, placed, placed_in, bad_tokens}
use Rattle.al_front.specs.Answers.{refused, TellsPlace, TellsPlaceIn}
use Rattle.al_front.proofs.Causes.{lexical, within, beyond, le_or_lt, spelled_tokens, refused_program}

-- ---- what is not refused by the grammar

because_ok : {A F : Type 0} (cause : F → Refusal) (r : Result A F) (a : A) → because cause r ≡ Ok a → r ≡ Ok a
because_ok cause (Ok b) a e = cc
because_ok cause (Err f) a e = absurd cc

because_not : {A F : Type 0} (cause : F → Refusal) → ((f : F) → cause f ≡ Grammar → ⊥) → (r : Result A F) → because cause r ≡ Err Grammar → ⊥
because_not cause none (Ok a) e = cc
because_not cause none (Err f) e = none f cc

tokens_not : (source : Bytes) → tokens_of source ≡ Err Grammar → ⊥
tokens_not source e = by_length (le_or_lt (length source) SOURCE_BYTES)
  where
    by_length : (length source ≤ SOURCE_BYTES) ⊎ (SOURCE_BYTES < length source) → ⊥
    by_length (inl short) = because_not lexical (λ f same. cc) (reading source) (sym (within source short) ∙ e)
    by_length (inr long) = let both = sym (beyond source long) ∙ e in cc

then_not : {A B : Type 0} (part : Result A Refusal) (next : A → Result B Refusal) → (part ≡ Err Grammar → ⊥)
    → ((a : A) → next a ≡ Err Grammar → ⊥) → and_then part next ≡ Err Grammar → ⊥
then_not (Ok a) next none rest e = rest a e
then_not (Err cause) next none rest e = none (ap Err cc)

pub tree_not : (p : Program) → tree_of p ≡ Err Grammar → ⊥
tree_not p e =
    then_not (because Layout (layout_of p)) _ (because_not Layout (λ f same. cc) (layout_of p))
    (λ layout. because_not Types (λ f same. cc) (typed_with layout p)) e

small_not : (t : Noted) → small_enough t ≡ Err Grammar → ⊥
small_not t e = by_size (nat_lt SOURCE_NODES t.0.nodes) e
  where
    by_size : (b : Bool) → (if b then Err TooManyNodes else Ok t) ≡ Err Grammar → ⊥
    by_size true e = cc
    by_size false e = cc

pub annotated_not : (typed : Typed) → annotated_well typed ≡ Err Grammar → ⊥
annotated_not typed e =
    then_not (because Notes (notes_of typed)) _ (because_not Notes (λ f same. cc) (notes_of typed)) (λ infos. small_not (typed, infos)) e

-- ---- a source that the grammar refuses

pub tokens_read : (source : Bytes) (tokens : Tokens) → tokens_of source ≡ Ok tokens → (length source ≤ SOURCE_BYTES) × Spells source tokens
tokens_read source tokens is = by_length (le_or_lt (length source) SOURCE_BYTES)
  where
    by_length : (length source ≤ SOURCE_BYTES) ⊎ (SOURCE_BYTES < length source) → (length source ≤ SOURCE_BYTES) × Spells source tokens
    by_length (inl short) = (short, reading_spells source tokens (because_ok lexical (reading source) tokens (sym (within source short) ∙ is)))
    by_length (inr long) = let both = sym (beyond source long) ∙ is in absurd cc

abbrev HasNoProgram : Bytes → Type 0
HasNoProgram source = (tokens : Tokens) × (tokens_of source ≡ Ok tokens) × (program_of tokens ≡ Err Grammar)

no_program : (source : Bytes) → accepted source ≡ Err Grammar → HasNoProgram source
unfolding accepted
no_program source e = by_tokens (tokens_of source) refl e
  where
    by_tree : (r : Result Typed Refusal) → (r ≡ Err Grammar → ⊥) → and_then r annotated_well ≡ Err Grammar → HasNoProgram source
    by_tree (Ok typed) none e = absurd (annotated_not typed e)
    by_tree (Err cause) none e = absurd (none (ap Err cc))

    by_program : (tokens : Tokens) → tokens_of source ≡ Ok tokens → (r : Result Program Refusal) → program_of tokens ≡ r
        → and_then r (λ p. and_then (tree_of p) annotated_well) ≡ Err Grammar → HasNoProgram source
    by_program tokens is (Ok p) read e = by_tree (tree_of p) (tree_not p) e
    by_program tokens is (Err cause) read e = (tokens, is, read ∙ ap Err cc)

    by_tokens : (r : Result Tokens Refusal) → tokens_of source ≡ r
        → and_then r (λ tokens. and_then (program_of tokens) (λ p. and_then (tree_of p) annotated_well)) ≡ Err Grammar → HasNoProgram source
    by_tokens (Ok tokens) is e = by_program tokens is (program_of tokens) refl e
    by_tokens (Err cause) is e = absurd (tokens_not source (is ∙ ap Err cc))

has_place : (tokens : Tokens) → program_of tokens ≡ Err Grammar
    → (place : ℕ) × (place_of tokens (all_items tokens) ≡ Some place) × IsFirstBad tokens (Some place)
has_place tokens e = by_read (all_items tokens) refl
  where
    by_read : (r : Read (List Item)) → all_items tokens ≡ r → (place : ℕ) × (place_of tokens (all_items tokens) ≡ Some place) × IsFirstBad tokens (Some place)
    by_read (Ok q) is = let both = sym (ap derived is) ∙ e in absurd cc
    by_read (Err rest) is =
        let at = ap (place_of tokens) is in (length tokens - length rest, at, subst (IsFirstBad tokens) at (stops_at_first_bad tokens))

pub bad_told : (source : Bytes) → accepted source ≡ Err Grammar → IsSomeAnd (bad_tokens source) (IsBadIn source)
bad_told source e =
    let (tokens, is, none) = no_program source e in
    let (place, at, first) = has_place tokens none in
    let (short, told) = tokens_read source tokens is in
    rw (is, at) (record { short = short; spelled = told; first = first })

-- ---- a source with bad tokens

bad_read : (source : Bytes) (bad : BadTokens) → IsBadIn source bad → tokens_of source ≡ Ok bad.tokens
bad_read source bad h = spelled_tokens source bad.tokens (λ long. absurd (omega (arith, h.short))) h.spelled

pub bad_one : (source : Bytes) (bad : BadTokens) → IsBadIn source bad → bad_tokens source ≡ Some bad
bad_one source bad h =
    let stop = place_of bad.tokens (all_items bad.tokens) in
    let same = one_place bad.tokens stop (Some bad.place) (stops_at_first_bad bad.tokens) h.first in
    ap placed_in (bad_read source bad h) ∙ ap (placed bad.tokens) same

pub bad_within : (source : Bytes) (bad : BadTokens) → IsBadIn source bad → (0 < length bad.tokens) × (bad.place ≤ length bad.tokens)
bad_within source bad h = place_within bad.tokens bad.place h.first

pub bad_refused : (source : Bytes) (bad : BadTokens) → IsBadIn source bad → accepted source ≡ Err Grammar
unfolding accepted
bad_refused source bad h = rw (bad_read source bad h, refused_program bad.tokens h.first.1) refl

-- ---- faults

-- of a part that the grammar does not refuse
pub tells_no_place : {A : Type 0} (source : Bytes) (part : Result A Refusal) (fault : FrontFault) → (part ≡ Err Grammar → ⊥)
    → Fails part (refused fault) → TellsPlace source fault
tells_no_place source part (Refused cause) none is = λ same. none (is ∙ ap Err same)
tells_no_place source part (NoProgram bad) none is = absurd (none is)
tells_no_place source part Memory none is = tt

pub tells_place : (source : Bytes) (tokens : Tokens) (fault : FrontFault) → tokens_of source ≡ Ok tokens → TellsPlaceIn tokens fault
    → TellsPlace source fault
tells_place source tokens (Refused cause) is h = absurd h
tells_place source tokens (NoProgram bad) is (same, first) =
    let (short, told) = tokens_read source tokens is in
    record { short = short; spelled = subst (Spells source) (sym same) told; first = subst (λ ts. IsFirstBad ts (Some bad.place)) (sym same) first }
tells_place source tokens Memory is h = tt

pub tokens_tell : (source : Bytes) (fault : FrontFault) → Fails (tokens_of source) (refused fault) → TellsPlace source fault
tokens_tell source fault is = tells_no_place source (tokens_of source) fault (tokens_not source) is

pub tree_tells : (source : Bytes) (p : Program) (fault : FrontFault) → Fails (tree_of p) (refused fault) → TellsPlace source fault
tree_tells source p fault is = tells_no_place source (tree_of p) fault (tree_not p) is

pub annotated_gives : (source : Bytes) (typed : Typed) (r : Result Noted FrontFault) → Gives refused (annotated_well typed) r
    → IfErr r (TellsPlace source)
annotated_gives source typed (Ok t) is = tt
annotated_gives source typed (Err fault) is = tells_no_place source (annotated_well typed) fault (annotated_not typed) is
