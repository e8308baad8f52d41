-- How a board starts.
use Rattle.std.proofs.Common.{◌≡◌, ℕ, zero, suc, ◌+◌, ◌<◌, ◌≤◌, min, true≢false, List, [], ◌∷◌, ◌++◌, map, length, get_or, None, Some, replicate, refl, sym, ap, ◌∙◌, subst, inl, arith, length-append}
use mathlib.Core.Option.{some, some-injective, some-ne-none}
use lib.ListN.{get_elem?, length-map, length-replicate}
use Rattle.atomic_table.specs.Table.{opening}
use Rattle.al_board.specs.declared.view.Turn.{Turn}
use Rattle.al_board.specs.declared.view.View.{View}
use Rattle.al_board.specs.declared.view.Slot.{Slot}
use Rattle.al_board.specs.declared.view.Slot.TheVariants.{Empty}
use Rattle.al_count.specs.Counts.{below}
use Rattle.al_count.proofs.Totals.{below_no}
use Rattle.al_board.specs.Views.{opener}
use Rattle.al_board.specs.Rule.{Terms, AreFirst, IsSound, IsOpening, IsKept, first_stage}
use Rattle.al_board.specs.Logs.{AreEnds}
use Rattle.al_board.proofs.Logs.{ends_none}
use Rattle.al_board.proofs.Parts.{same_baton}
use Rattle.al_board.proofs.Pieces.{none_some}

zeros : (n i : ℕ) → get_or (replicate {A = ℕ} n 0) i 0 ≡ 0
zeros zero i = refl
zeros (suc n) zero = refl
zeros (suc n) (suc i) = zeros n i

module _ {T H : Type 0} where
  row_here : (n i : ℕ) (last : Slot T H) → i < n → get_elem? (map some (replicate {A = Slot T H} n Empty ++ last ∷ [])) i ≡ some (some Empty)
  row_here zero i last lt = absurd (omega arith)
  row_here (suc n) zero last lt = refl
  row_here (suc n) (suc i) last lt = row_here n i last (omega arith)

  row_end : (n : ℕ) (last : Slot T H) → get_elem? (map some (replicate {A = Slot T H} n Empty ++ last ∷ [])) n ≡ some (some last)
  row_end zero last = refl
  row_end (suc n) last = row_end n last

module _ {T H K : Type 0} (b : Terms T H K) where
  pub opens : (last : Slot T H) → 1 ≤ b.key.lanes → b.key.lanes ≤ 1024 → IsOpening b last
      → IsKept b (opening (replicate (b.key.lanes + 2) 0) (replicate b.key.lanes Empty ++ last ∷ []) (opener b.key))
  opens last pos most baton =
      let n : ℕ = b.key.lanes in
      let xs : List (Slot T H) = replicate n Empty ++ last ∷ [] in
      let row = length-append (replicate {A = Slot T H} n Empty) (last ∷ []) in
      let many : length (map some xs) ≡ n + 1 = length-map xs some ∙ (let l = length-replicate {A = Slot T H} n Empty in omega arith) in
      record {
        stage = first_stage;
        holder = None;
        journal = [];
        count = many;
        few = (omega arith, most);
        wide = length-replicate {A = ℕ} (n + 2) 0;
        first = zeros (n + 2) 0;
        sound = first;
        drawn = λ x.
            let z : min 0 n ≡ 0 = omega arith in
            let c : below x (min 0 n) ≡ below x 0 = ap (below x) z in
            let c' = below_no x 0 (omega arith) in omega arith;
        shares = refl;
        room = omega arith;
        reached = (omega arith, omega arith);
        behind = λ x lt. absurd (omega arith);
        unput = λ x e. refl;
        word = λ x lt. let z = zeros (n + 2) (x + 1) in let c = below_no x 0 (omega arith) in omega arith;
        slot = λ x lt. record { empty = λ _. row_here n x last lt; full = λ e. absurd (let z = zeros (n + 2) (x + 1) in omega arith) };
        baton = same_baton b first_stage _ _ (λ i. record { word = zeros (n + 2) (n + 1) i; holders = 0; holder = None; home = row_end n last i }) baton;
        holds = idle;
        legal = tt;
        told = refl;
        logs = record { moves = []; last = []; are_moves = tt; whole = refl; ends = ends; someone = inl refl };
      }
    where
      first : (id : ℕ) (v : View T K) → get_elem? (opener b.key ∷ []) id ≡ some v → IsSound b.key first_stage v
      first zero v e = subst (IsSound b.key first_stage) (some-injective (opener b.key) v e) record {
        about = λ _. (refl, refl, refl);
        late = λ h. absurd (true≢false (sym h));
        spent = λ h. absurd (omega arith);
        paid = omega arith;
        able = λ _ _. omega arith;
        own = λ x. omega arith;
        turn = λ t h. absurd (none_some t h);
        given = λ i h. absurd (omega arith);
      }
      first (suc id) v e = absurd (some-ne-none v (sym e))

      idle : (id : ℕ) (v : View T K) (t : Turn T) → get_elem? (opener b.key ∷ []) id ≡ some v → v.turn ≡ Some t → None ≡ Some id
      idle zero v t e has = absurd (none_some t (ap (λ (z : View T K). z.turn) (some-injective (opener b.key) v e) ∙ has))
      idle (suc id) v t e has = absurd (some-ne-none v (sym e))

      ends : (id : ℕ) (v : View T K) → get_elem? (opener b.key ∷ []) id ≡ some v → AreEnds v.logs []
      ends zero v e = subst (λ (z : View T K). AreEnds z.logs []) (some-injective (opener b.key) v e) (ends_none [])
      ends (suc id) v e = absurd (some-ne-none v (sym e))

-- no piece lies on the shelf
pub none_first : {T : Type 0} (xs : List T) → xs ≡ [] → AreFirst 0 xs []
none_first xs e = record { many = ap length e; each = λ k p h. absurd (some-ne-none p (sym h ∙ ap (λ (z : List _). get_elem? z k) e)) }
