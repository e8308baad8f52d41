-- A phrase of the grammar that printed tokens begin with, whatever follows them.
use Rattle.std.proofs.Common.{◌≡◌, false, sym, subst}
use Rattle.al_grammar.specs.Phrases.{Tokens}
use Rattle.al_print.specs.Tokens.{Kinds}
use Rattle.al_print.proofs.Front.{Has}
use Rattle.al_print.proofs.Plain.{AllWritable, Orderly}

-- The tokens of these kinds are the phrase again, and can be written. After the phrase that was read first, each token
-- that is left can be written too.
pub record Again (P : Tokens → Tokens → Type 0) (ks : Kinds) (us : Tokens) : Type 0 where
  pub reads : (vs ws : Tokens) → Has ks vs ws → P vs ws
  pub tidy : Orderly false ks
  pub left : AllWritable us

pub given : {ks ls : Kinds} {ts us : Tokens} → ks ≡ ls → Has ks ts us → Has ls ts us
given {ts = ts} {us = us} e h = subst (λ (q : Kinds). Has q ts us) e h

pub tidied : {ks ls : Kinds} → ls ≡ ks → Orderly false ks → Orderly false ls
tidied e h = subst (λ (q : Kinds). Orderly false q) (sym e) h
