-- The events of a journal are a legal history, and lead to what the journal does.
use Rattle.std.proofs.Common.{◌≡◌, ℕ, zero, suc, ◌+◌, ◌-◌, ◌<◌, ◌≤◌, List, [], ◌∷◌, ◌++◌, length, Some, refl, sym, ap, ◌∙◌, subst, arith}
use native.Mathlib.Decide.{ℕ_discrete}
use lib.ListN.{get_elem?}
use Rattle.atomic_table.proofs.Lists.{at_longer, at_last}
use Rattle.al_board.specs.declared.view.Entry.{Entry}
use Rattle.al_board.specs.declared.view.Entry.TheVariants.{Drew, Put, Split, Joined, Seized, Met, Took, Skipped, Handed}
use Rattle.al_board.specs.Core.{Event, draws, puts, splits, joins, judges, Core, piece_of, listed, first_pieces, after, played, IsLegal, IsHistory}
use Rattle.al_board.specs.Journal.{Account, account, events, judging, core_of, IsJournal}
use Rattle.al_board.specs.Rule.{AreFirst}
use Rattle.al_board.proofs.Pieces.{piece_stays}

module _ {T : Type 0} (fits : ℕ → T → Type 0) (n : ℕ) where
  -- the lane has a piece
  abbrev HasPiece : ℕ → List (ℕ × T) → Type 0
  HasPiece x ps = (piece : T) × (piece_of x ps ≡ Some piece)

  -- lanes that have pieces may be judged, one after another
  judged_on : (es : List (Event T)) (c : Core T) (j m : ℕ) → IsHistory fits n es → played n es ≡ c → c.judged ≡ j
      → ((x : ℕ) → x < j + m → HasPiece x c.pieces)
      → IsHistory fits n (judging j m es) × (played n (judging j m es) ≡ record c { judged = j + m })
  judged_on es c j zero legal leads is has = (legal, leads ∙ (λ i. record c { judged = same i }))
    where
      same : c.judged ≡ j + 0
      same = omega arith
  judged_on es c j (suc m) legal leads is has =
      let ih = judged_on es c j m legal leads is (λ x lt. has x (omega arith)) in
      let next : j + m + 1 ≡ j + suc m = omega arith in (
        (subst (λ (z : Core T). IsLegal fits n (judges (j + m)) z) (sym ih.1) (refl, has (j + m) (omega arith)), ih.0),
        ap (after n (judges (j + m))) ih.1 ∙ (λ i. record c { judged = next i }),
      )

  -- what holds after a journal
  pub record IsPlayed (h : List (Entry T)) : Type 0 where
    pub legal : IsHistory fits n (events n h)
    pub core : played n (events n h) ≡ core_of (account n h)
    pub order : (account n h).judged ≤ (account n h).taken
    pub pieces : (x : ℕ) → x < (account n h).taken → HasPiece x (account n h).pieces

  -- an event that is an entry
  told : (h : List (Entry T)) (e : Event T) (a : Account T) → IsPlayed h → IsLegal fits n e (core_of (account n h))
      → after n e (core_of (account n h)) ≡ core_of a
      → IsHistory fits n (e ∷ events n h) × (played n (e ∷ events n h) ≡ core_of a)
  told h e a k may leads = ((subst (λ (c : Core T). IsLegal fits n e c) (sym k.core) may, k.legal), ap (after n e) k.core ∙ leads)

  pub are_played : (h : List (Entry T)) → IsJournal fits n h → IsPlayed h
  are_played [] k = record { legal = tt; core = refl; order = omega arith; pieces = λ x lt. absurd (omega arith) }
  are_played (Drew p ∷ h) k =
      let i = are_played h k.1 in
      let t = told h (draws p) (account n (Drew p ∷ h)) i k.0 refl in record { legal = t.0; core = t.1; order = i.order; pieces = i.pieces }
  are_played (Put p lane piece ∷ h) k =
      let i = are_played h k.1 in
      let t = told h (puts p lane piece) (account n (Put p lane piece ∷ h)) i k.0.0 refl in
      record { legal = t.0; core = t.1; order = i.order; pieces = λ x lt. piece_stays x lane piece (account n h).pieces (i.pieces x lt) }
  are_played (Split p ∷ h) k =
      let i = are_played h k.1 in
      let t = told h (splits p) (account n (Split p ∷ h)) i k.0 refl in record { legal = t.0; core = t.1; order = i.order; pieces = i.pieces }
  are_played (Joined p q ∷ h) k =
      let i = are_played h k.1 in
      let t = told h (joins p q) (account n (Joined p q ∷ h)) i k.0 refl in record { legal = t.0; core = t.1; order = i.order; pieces = i.pieces }
  are_played (Seized p ∷ h) k = let i = are_played h k.1 in record { legal = i.legal; core = i.core; order = i.order; pieces = i.pieces }
  are_played (Met p ∷ h) k = let i = are_played h k.1 in record { legal = i.legal; core = i.core; order = i.order; pieces = i.pieces }
  are_played (Took p ∷ h) k =
      let i = are_played h k.1 in
      record {
        legal = i.legal;
        core = i.core;
        order = let o = i.order in omega arith;
        pieces = λ x lt. takes x lt k.0.1 i.pieces (ℕ_discrete x (account n h).taken);
      }
    where
      takes : (x : ℕ) → x < (account n h).taken + 1 → HasPiece (account n h).taken (account n h).pieces
          → ((y : ℕ) → y < (account n h).taken → HasPiece y (account n h).pieces)
          → Dec (x ≡ (account n h).taken) → HasPiece x (account n h).pieces
      takes x lt here before (yes e) = subst (λ (z : ℕ). HasPiece z (account n h).pieces) (sym e) here
      takes x lt here before (no ne) = before x (omega arith)
  are_played (Skipped p ∷ h) k = let i = are_played h k.1 in record { legal = i.legal; core = i.core; order = i.order; pieces = i.pieces }
  are_played (Handed p ∷ h) k =
      let i = are_played h k.1 in
      let a : Account T = account n h in
      let o = i.order in
      let sum : a.judged + (a.taken - a.judged) ≡ a.taken = omega arith in
      let t = judged_on (events n h) (core_of a) a.judged (a.taken - a.judged) i.legal i.core refl (λ x lt. i.pieces x (omega arith)) in
      record {
        legal = t.0;
        core = t.1 ∙ (λ z. record (core_of a) { judged = sum z });
        order = omega arith;
        pieces = i.pieces;
      }

module _ {T : Type 0} where
  -- a list that is not empty has a last one
  last_of : (xs : List T) (n : ℕ) → length xs ≡ suc n → (ys : List T) × (y : T) × (xs ≡ ys ++ y ∷ []) × (length ys ≡ n)
  last_of [] n e = absurd (omega arith)
  last_of (x ∷ []) zero e = ([], x, refl, refl)
  last_of (x ∷ []) (suc n) e = absurd (omega arith)
  last_of (x ∷ z ∷ zs) zero e = absurd (omega arith)
  last_of (x ∷ z ∷ zs) (suc n) e =
      let ih = last_of (z ∷ zs) n (omega arith) in
      let l = ih.3 in
      (x ∷ ih.0, ih.1, ap (λ (l : List T). x ∷ l) ih.2, omega arith)

  -- the first pieces are those of the lanes in their order
  pub first_are : (n : ℕ) (xs : List T) (ps : List (ℕ × T)) → AreFirst n xs ps → first_pieces n ps ≡ xs
  first_are zero xs ps a = none xs a.many
    where
      none : (xs : List T) → length xs ≡ 0 → [] ≡ xs
      none [] e = refl
      none (x ∷ xs) e = absurd (omega arith)
  first_are (suc n) xs ps a =
      let l = last_of xs n a.many in
      let ih = first_are n l.0 ps record {
        many = l.3;
        each = λ k p at. a.each k p (ap (λ (z : List T). get_elem? z k) l.2 ∙ at_longer l.0 (l.1 ∷ []) k p at);
      } in
      let there = a.each n l.1 (ap (λ (z : List T). get_elem? z n) l.2 ∙ at_last l.0 l.1 n l.3) in
      (λ i. ih i ++ listed (there i)) ∙ sym l.2
