-- More room for operators does no harm, and each expression takes tokens.
use Rattle.std.proofs.Common.{◌≡◌, ℕ, zero, suc, ◌+◌, ◌<◌, List, length, ap, subst, ◌∙◌, arith}
use Rattle.al_source.specs.declared.source_tree.Expr.{Expr}
use Rattle.al_grammar.specs.Phrases.{Tokens}
use Rattle.al_grammar.specs.Expressions.{State, Reads, Arguments, More, Expression, Place}
use Rattle.al_grammar.specs.Expressions as g
use Rattle.al_grammar.proofs.StepFacts.{takes_shorter, means_shorter}
use Rattle.al_grammar.proofs.TypeFacts.{size_shorter}

abbrev pub wide : State → State
wide s = (suc s.0, s.1)

mutual
  wider : {j : g.Sort} {s s' : State} {x : Expr} → Reads j s x s' → Reads j (wide s) x (wide s')
  wider (g.joined r t q) = g.joined (wider r) t (wider q)
  wider (g.tighter lt r) = g.tighter lt (wider r)
  wider (g.operand r) = g.operand (wider r)
  wider (g.prefixed t r) = g.prefixed t (wider r)
  wider (g.plain r) = g.plain (wider r)
  wider (g.index r t q u) = g.index (wider r) t (wider q) u
  wider (g.dot r t u) = g.dot (wider r) t u
  wider (g.arrow r t u) = g.arrow (wider r) t u
  wider (g.bare r) = g.bare (wider r)
  wider (g.number t) = g.number t
  wider (g.null t) = g.null t
  wider (g.variable t) = g.variable t
  wider (g.call t u r) = g.call t u (wider_arguments r)
  wider (g.group t r u) = g.group t (wider r) u
  wider (g.size z) = g.size z
  wider (g.allocation t u r c z v) = g.allocation t u (wider r) c z v

  wider_arguments : {s s' : State} {xs : List Expr} → Arguments s xs s' → Arguments (wide s) xs (wide s')
  wider_arguments (g.none t) = g.none t
  wider_arguments (g.some r) = g.some (wider_more r)

  wider_more : {s s' : State} {xs : List Expr} → More s xs s' → More (wide s) xs (wide s')
  wider_more (g.last r t) = g.last (wider r) t
  wider_more (g.more r t q) = g.more (wider r) t (wider_more q)

-- so much more
abbrev widen : ℕ → State → State
widen zero s = s
widen (suc n) s = wide (widen n s)

widens : {j : g.Sort} {s s' : State} {x : Expr} (n : ℕ) → Reads j s x s' → Reads j (widen n s) x (widen n s')
widens zero r = r
widens (suc n) r = wider (widens n r)

widens_more : {s s' : State} {xs : List Expr} (n : ℕ) → More s xs s' → More (widen n s) xs (widen n s')
widens_more zero r = r
widens_more (suc n) r = wider_more (widens_more n r)

widen_is : (n k : ℕ) (ts : Tokens) → widen n (k, ts) ≡ (n + k, ts)
widen_is zero k ts = let e : k ≡ 0 + k = omega arith in ap (λ q. (q, ts)) e
widen_is (suc n) k ts = let e : suc (n + k) ≡ suc n + k = omega arith in ap wide (widen_is n k ts) ∙ ap (λ q. (q, ts)) e

pub roomier : {j : g.Sort} {k l : ℕ} {ts us : Tokens} {x : Expr} (n : ℕ) → Reads j (k, ts) x (l, us) → Reads j (n + k, ts) x (n + l, us)
roomier {j} {k} {l} {ts} {us} {x} n r =
    subst (λ s. Reads j s x (n + l, us)) (widen_is n k ts) (subst (λ s. Reads j (widen n (k, ts)) x s) (widen_is n l us) (widens n r))

pub roomier_more : {k l : ℕ} {ts us : Tokens} {xs : List Expr} (n : ℕ) → More (k, ts) xs (l, us) → More (n + k, ts) xs (n + l, us)
roomier_more {k} {l} {ts} {us} {xs} n r =
    subst (λ s. More s xs (n + l, us)) (widen_is n k ts) (subst (λ s. More (widen n (k, ts)) xs s) (widen_is n l us) (widens_more n r))

-- ---- each expression takes tokens

mutual
  reads_shorter : {j : g.Sort} {s s' : State} {x : Expr} → Reads j s x s' → length s'.1 < length s.1
  reads_shorter (g.joined r t q) = let a = reads_shorter r in let b = reads_shorter q in let c = means_shorter t in omega arith
  reads_shorter (g.tighter lt r) = reads_shorter r
  reads_shorter (g.operand r) = reads_shorter r
  reads_shorter (g.prefixed t r) = let a = reads_shorter r in let c = means_shorter t in omega arith
  reads_shorter (g.plain r) = reads_shorter r
  reads_shorter (g.index r t q u) = let a = reads_shorter r in let b = reads_shorter q in let c = takes_shorter t in let d = takes_shorter u in omega arith
  reads_shorter (g.dot r t u) = let a = reads_shorter r in let c = takes_shorter t in let d = takes_shorter u in omega arith
  reads_shorter (g.arrow r t u) = let a = reads_shorter r in let c = takes_shorter t in let d = takes_shorter u in omega arith
  reads_shorter (g.bare r) = reads_shorter r
  reads_shorter (g.number t) = takes_shorter t
  reads_shorter (g.null t) = takes_shorter t
  reads_shorter (g.variable t) = takes_shorter t
  reads_shorter (g.call t u r) = let a = arguments_shorter r in let c = takes_shorter t in let d = takes_shorter u in omega arith
  reads_shorter (g.group t r u) = let a = reads_shorter r in let c = takes_shorter t in let d = takes_shorter u in omega arith
  reads_shorter (g.size z) = size_shorter z
  reads_shorter (g.allocation t u r c z v) =
      let a = takes_shorter t in
      let b = takes_shorter u in
      let d = reads_shorter r in
      let e = takes_shorter c in
      let f = size_shorter z in
      let h = takes_shorter v in
      omega arith

  arguments_shorter : {s s' : State} {xs : List Expr} → Arguments s xs s' → length s'.1 < length s.1
  arguments_shorter (g.none t) = takes_shorter t
  arguments_shorter (g.some r) = more_shorter r

  more_shorter : {s s' : State} {xs : List Expr} → More s xs s' → length s'.1 < length s.1
  more_shorter (g.last r t) = let a = reads_shorter r in let b = takes_shorter t in omega arith
  more_shorter (g.more r t q) = let a = reads_shorter r in let b = more_shorter q in let c = takes_shorter t in omega arith

pub expression_shorter : {ts us : Tokens} {x : Expr} → Expression ts x us → length us < length ts
expression_shorter q = reads_shorter q.reads

pub place_shorter : {ts us : Tokens} {x : Expr} → Place ts x us → length us < length ts
place_shorter q = reads_shorter q.reads
