-- What an accepted source is read as, step by step.
use Rattle.std.proofs.Common.{◌≡◌, Bool, true, false, List, Result, Ok, Err, ap, subst, if◌then◌else◌, nat_lt}
use Rattle.al_source.specs.Steps.{and_then}
use Rattle.al_source.specs.declared.limits.TheConstants.{SOURCE_NODES}
use Rattle.al_source.specs.declared.source_tree.Program.{Program}
use Rattle.al_grammar.specs.Characters.{Bytes}
use Rattle.al_grammar.specs.Phrases.{Tokens}
use Rattle.al_core.specs.declared.choices.LoopInfo.{LoopInfo}
use Rattle.al_core.specs.declared.typed_tree.Typed.{Typed}
use Rattle.al_rules.specs.declared.faults.Refusal.{Refusal}
use Rattle.al_rules.specs.declared.faults.Refusal.TheVariants.{Layout, Types, Notes, TooManyNodes}
use Rattle.al_rules.specs.declared.layout.Layout as the_layout
use Rattle.al_rules.specs.Layouts.{layout_of}
use Rattle.al_rules.specs.Notes.{notes_of}
use Rattle.al_rules.specs.Programs.{typed_with}
use Rattle.al_rules.specs.Refusals.{because, tokens_of, program_of, tree_of, small_enough, annotated_well, accepted}
use Rattle.al_rules_laws.proofs.Logic.{then_ok}

pub because_ok : {A F : Type 0} (cause : F → Refusal) (r : Result A F) (a : A) → because cause r ≡ Ok a → r ≡ Ok a
because_ok cause (Ok b) a e = ap Ok (same e)
  where
    same : ◌≡◌ {A = Result _ Refusal} (Ok b) (Ok a) → b ≡ a
    same e = cc
because_ok cause (Err f) a e = absurd cc

-- the tree of a program, with its layout
pub record IsTreeOf (p : Program) (typed : Typed) : Type 0 where
  pub layout : the_layout.Layout
  pub laid_out : layout_of p ≡ Ok layout
  pub is_typed : typed_with layout p ≡ Ok typed

tree_parts : (p : Program) (typed : Typed) → tree_of p ≡ Ok typed → IsTreeOf p typed
tree_parts p typed e =
    let l = then_ok (because Layout (layout_of p)) (λ layout. because Types (typed_with layout p)) typed e in
    record {
      layout = l.0;
      laid_out = because_ok Layout (layout_of p) l.0 l.1;
      is_typed = because_ok Types (typed_with l.0 p) typed l.2;
    }

small_is : (b : Bool) (t u : Typed × List LoopInfo) → (if b then Err TooManyNodes else Ok t) ≡ Ok u → t ≡ u
small_is true t u e = absurd cc
small_is false t u e = cc

pub record AcceptedAs (source : Bytes) (typed : Typed) (infos : List LoopInfo) : Type 0 where
  pub tokens : Tokens
  pub are_tokens : tokens_of source ≡ Ok tokens
  pub program : Program
  pub is_program : program_of tokens ≡ Ok program
  pub tree : IsTreeOf program typed
  pub entries : notes_of typed ≡ Ok infos

as_noted : (source : Bytes) (t u : Typed × List LoopInfo) → t ≡ u → AcceptedAs source t.0 t.1 → AcceptedAs source u.0 u.1
as_noted source t u e h = subst (λ (t : Typed × List LoopInfo). AcceptedAs source t.0 t.1) e h

pub accepted_as : (source : Bytes) (typed : Typed) (infos : List LoopInfo) → accepted source ≡ Ok (typed, infos) → AcceptedAs source typed infos
unfolding accepted
accepted_as source typed infos e =
    let tokens = then_ok (tokens_of source)
    (λ tokens. and_then (program_of tokens) (λ p. and_then (tree_of p) annotated_well)) (typed, infos) e in
    let program = then_ok (program_of tokens.0) (λ p. and_then (tree_of p) annotated_well) (typed, infos) tokens.2 in
    let tree = then_ok (tree_of program.0) annotated_well (typed, infos) program.2 in
    let n = then_ok (because Notes (notes_of tree.0)) (λ infos. small_enough (tree.0, infos)) (typed, infos) tree.2 in
    let same : ◌≡◌ {A = Typed × List LoopInfo} (tree.0, n.0) (typed, infos) = small_is (nat_lt SOURCE_NODES tree.0.nodes) (tree.0, n.0) (typed, infos) n.2 in
    as_noted source (tree.0, n.0) (typed, infos) same (record {
      tokens = tokens.0;
      are_tokens = tokens.1;
      program = program.0;
      is_program = program.1;
      tree = tree_parts program.0 tree.0 tree.1;
      entries = because_ok Notes (notes_of tree.0) n.0 n.1;
    })
