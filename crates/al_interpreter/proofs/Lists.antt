-- The values of a list, as they are gathered.
use Rattle.std.proofs.Common.{◌≡◌, ℕ, ◌+◌, ◌<◌, List, [], ◌∷◌, ◌++◌, length, drop, get_or, Result, Ok, Err, refl, sym, ap, subst, ◌∙◌, append_assoc}
use Rattle.std.proofs.lemmas.List.{append-nil, drop_more}
use Rattle.al_interpreter.specs.declared.fault.Fault.{Fault}
use Rattle.al_source.specs.Answers.{Does}
use Rattle.al_interpreter.specs.Faults.{stopped}
use Rattle.al_interpreter.proofs.Chains.{stops}
use Rattle.std.specs.Prelude.{ℤ, IsErrAnd}
use Rattle.al_core.specs.declared.values.Val.{Val}
use Rattle.al_core.specs.declared.typed_tree.TExpr.{TExpr}
use Rattle.al_core.specs.World.{World}
use Rattle.al_core.specs.Action.{State, Answer, At, after, bind, pure, ◌>>=◌}
use Rattle.al_core.specs.Meaning.{Where, value, values}

module _ {S : Type 0} where
  flat_after : (done : List Val) (v : Val) (r : Answer (List Val)) (t : State S)
      → after r t (λ vs. pure ((done ++ v ∷ []) ++ vs))
      ≡ after (after r t (λ vs. pure (v ∷ vs))).0 (after r t (λ vs. pure (v ∷ vs))).1 (λ vs. pure (done ++ vs))
  unfolding pure
  flat_after done v (Ok vs) t = ap (λ all. (Ok all, t)) (append_assoc done (v ∷ []) vs)
  flat_after done v (Err e) t = refl

module _ {S : Type 0} (world : World S) (here : Where) (input : List ℤ) (call : ℕ → List Val → At S Val) where
  -- the values so far, and then those of what is left
  abbrev pub values_from : List Val → List TExpr → At S (List Val)
  values_from done [] line = pure done
  values_from done (e ∷ es) line = value world here input call e line >>= (λ v. values_from (done ++ v ∷ []) es line)

  from_after : (done : List Val) (es : List TExpr) (line : ℕ) (r : Answer Val) (t : State S)
      → ((d : List Val) (s : State S) → values_from d es line s ≡ (values world here input call es line >>= (λ vs. pure (d ++ vs))) s)
      → after r t (λ v. values_from (done ++ v ∷ []) es line)
      ≡ after (after r t (λ v. values world here input call es line >>= (λ vs. pure (v ∷ vs)))).0
      (after r t (λ v. values world here input call es line >>= (λ vs. pure (v ∷ vs)))).1 (λ vs. pure (done ++ vs))
  unfolding bind
  from_after done es line (Ok v) t ih =
      ih (done ++ v ∷ []) t ∙ flat_after done v (values world here input call es line t).0 (values world here input call es line t).1
  from_after done es line (Err e) t ih = refl

  joined : (es : List TExpr) (line : ℕ) (done : List Val) (s : State S)
      → values_from done es line s ≡ (values world here input call es line >>= (λ vs. pure (done ++ vs))) s
  unfolding bind pure
  joined [] line done s = ap (λ all. (Ok all, s)) (sym (append-nil done))
  joined (e ∷ es) line done s = from_after done es line (value world here input call e line s).0 (value world here input call e line s).1 (joined es line)

  same_after : (r : Answer (List Val)) (t : State S) → after r t (λ vs. pure ([] ++ vs)) ≡ (r, t)
  unfolding pure
  same_after (Ok vs) t = refl
  same_after (Err e) t = refl

  -- all of them are those from none on
  pub begins : (es : List TExpr) (line : ℕ) (s : State S) → values world here input call es line s ≡ values_from [] es line s
  unfolding bind
  begins es line s = sym (joined es line [] s ∙ same_after (values world here input call es line s).0 (values world here input call es line s).1)

  next_of : (es : List TExpr) (i : ℕ) (e : TExpr) → i < length es → e ≡ get_or es i e → drop i es ≡ e ∷ drop (i + 1) es
  next_of es i e within is = drop_more es i e within ∙ ap (λ x. x ∷ drop (i + 1) es) (sym is)

  -- one value more
  pub more : (done new : List Val) (es : List TExpr) (i : ℕ) (e : TExpr) (v : Val) (line : ℕ) (s t : State S) → i < length es → e ≡ get_or es i e
      → new ≡ done ++ v ∷ [] → value world here input call e line s ≡ (Ok v, t) → values_from done (drop i es) line s ≡ values_from new (drop (i + 1) es) line t
  unfolding bind
  more done new es i e v line s t within is grown got =
      ap (λ l. values_from done l line s) (next_of es i e within is)
      ∙ ap (λ (r : Answer Val × State S). after r.0 r.1 (λ v. values_from (done ++ v ∷ []) (drop (i + 1) es) line)) got
      ∙ ap (λ d. values_from d (drop (i + 1) es) line t) (sym grown)

  -- no value more
  pub no_more : (told : Answer (List Val) × State S) (done : List Val) (es : List TExpr) (i : ℕ) (e : TExpr) (f : Fault) (r : Result (List Val) Fault)
      (line : ℕ) (s t : State S) → told ≡ values_from done (drop i es) line s → i < length es → e ≡ get_or es i e → IsErrAnd r (λ x. x ≡ f)
      → Does {A = Val} stopped (value world here input call e line s) (Err f) t → Does {A = List Val} stopped told r t
  no_more told done es i e f r line s t so_far within is ends got =
      subst (λ (x : Answer (List Val) × State S). Does {A = List Val} stopped x r t)
      (sym (so_far ∙ ap (λ l. values_from done l line s) (next_of es i e within is)))
      (stops (value world here input call e line) (λ v. values_from (done ++ v ∷ []) (drop (i + 1) es) line) s t f r ends got)
