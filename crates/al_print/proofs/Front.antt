-- Tokens of given kinds at the front of a list, and the rest.
use Rattle.std.proofs.Common.{[], ◌∷◌, ◌++◌, subst}
use Rattle.std.proofs.lemmas.List.{append-nil}
use Rattle.al_source.specs.declared.tokens.TokenKind.{TokenKind}
use Rattle.al_grammar.specs.Phrases.{Tokens, Takes}
use Rattle.al_print.specs.Tokens.{Kinds}

pub data Has : Kinds → Tokens → Tokens → Type 0 where
  none : {ts : Tokens} → Has [] ts ts
  some : {k : TokenKind} {ks : Kinds} {ts us vs : Tokens} → Takes k ts us → Has ks us vs → Has (k ∷ ks) ts vs

pub split : (xs : Kinds) {ys : Kinds} {ts us : Tokens} → Has (xs ++ ys) ts us → (ms : Tokens) × Has xs ts ms × Has ys ms us
split [] {ts = ts} h = (ts, none, h)
split (x ∷ xs) (some t h) = let (ms, a, b) = split xs h in (ms, some t a, b)

pub first : {k : TokenKind} {ks : Kinds} {ts us : Tokens} → Has (k ∷ ks) ts us → (ms : Tokens) × Takes k ts ms × Has ks ms us
first (some {us = us} t h) = (us, t, h)

pub only : {k : TokenKind} {ts us : Tokens} → Has (k ∷ []) ts us → Takes k ts us
only (some t none) = t

pub whole : (ks : Kinds) {ts us : Tokens} → Has (ks ++ []) ts us → Has ks ts us
whole ks {ts} {us} h = subst (λ (q : Kinds). Has q ts us) (append-nil ks) h

pub split3 : (xs ys : Kinds) {zs : Kinds} {ts us : Tokens}
    → Has (xs ++ ys ++ zs) ts us → (ms : Tokens) × (ns : Tokens) × Has xs ts ms × Has ys ms ns × Has zs ns us
split3 xs ys h = let (ns, a, c) = split (xs ++ ys) h in let (ms, x, y) = split xs a in (ms, ns, x, y, c)

pub split4 : (xs ys zs : Kinds) {ks : Kinds} {ts us : Tokens} → Has (xs ++ ys ++ zs ++ ks) ts us
    → (ms : Tokens) × (ns : Tokens) × (os : Tokens) × Has xs ts ms × Has ys ms ns × Has zs ns os × Has ks os us
split4 xs ys zs h = let (os, a, d) = split (xs ++ ys ++ zs) h in let (ms, ns, x, y, z) = split3 xs ys a in (ms, ns, os, x, y, z, d)
