-- What is asked of the uses of a program's functions is what the rules ask of the functions.
use Rattle.std.proofs.Common.{◌≡◌, ℕ, ◌+◌, List, [], ◌∷◌, map, refl, ap, ◌∙◌}
use Rattle.std.specs.Prelude.{Bool, ◌||◌, ◌&&◌}
use Rattle.std.specs.List.{list_any}
use Rattle.al_core.specs.declared.typed_tree.TStmt.{TStmt}
use Rattle.al_core.specs.declared.typed_tree.TFunc.{TFunc}
use Rattle.al_core.specs.declared.typed_tree.Typed.{Typed}
use Rattle.al_core.specs.declared.values.Addr.{Addr}
use Rattle.al_core.specs.Accepted.{takes_in, mentions_in, terms_of}
use Rattle.al_rules.specs.Bodies.{any_from, is_reached}
use Rattle.al_loop_notes.specs.declared.uses.Use.{Use}
use Rattle.al_loop_notes.specs.Reach.{mentioned_from}
use Rattle.al_loop_notes.specs.Uses.{is_address, func_uses}
use Rattle.al_loop_notes.proofs.Terms.{body_mentions, body_takes}

abbrev pub any_address : Addr → List Use → Bool
any_address a us = list_any (is_address a) us

taken_in : (a : Addr) (funcs : List TFunc) → list_any (any_address a) (map func_uses funcs) ≡ list_any (λ f. takes_in a (terms_of f.body)) funcs
taken_in a [] = refl
taken_in a (f ∷ fs) =
    ap (λ b. b || list_any (any_address a) (map func_uses fs)) (body_takes a f.body) ∙ ap (λ b. takes_in a (terms_of f.body) || b) (taken_in a fs)

pub taken_by : (a : Addr) (all : List (List Use)) (funcs : List TFunc) → all ≡ map func_uses funcs
    → list_any (any_address a) all ≡ list_any (λ f. takes_in a (terms_of f.body)) funcs
taken_by a all funcs is = ap (list_any (any_address a)) is ∙ taken_in a funcs

-- ---- mentions in what is reached

mentioned_in : (typed : Typed) (s : TStmt) (a : Addr) (n : ℕ) (funcs : List TFunc)
    → mentioned_from typed s a n (map func_uses funcs) ≡ any_from (λ n f. is_reached typed s n && mentions_in a (terms_of f.body)) n funcs
mentioned_in typed s a n [] = refl
mentioned_in typed s a n (f ∷ fs) =
    ap (λ b. (is_reached typed s n && b) || mentioned_from typed s a (n + 1) (map func_uses fs)) (body_mentions a f.body)
    ∙ ap (λ b. (is_reached typed s n && mentions_in a (terms_of f.body)) || b) (mentioned_in typed s a (n + 1) fs)

pub mentioned_by : (typed : Typed) (s : TStmt) (a : Addr) (all : List (List Use)) → all ≡ map func_uses typed.funcs
    → mentioned_from typed s a 0 all ≡ any_from (λ n f. is_reached typed s n && mentions_in a (terms_of f.body)) 0 typed.funcs
mentioned_by typed s a all is = ap (mentioned_from typed s a 0) is ∙ mentioned_in typed s a 0 typed.funcs
