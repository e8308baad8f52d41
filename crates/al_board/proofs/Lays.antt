-- What the steps of a run that lays pieces give, and what it leaves to the pass.
use Rattle.std.proofs.Common.{◌≡◌, ℕ, ◌<◌, Option, List, [], ◌∷◌, ◌++◌, Some, None, refl, sym, ap, ◌∙◌, subst, inl, inr, ⊎_elim}
use Rattle.atomic_table.specs.Table.{rest, turned}
use Rattle.al_board.specs.declared.view.Turn.{Turn}
use Rattle.al_board.specs.declared.view.View.{View}
use Rattle.al_board.specs.declared.view.Miss.{Miss}
use Rattle.al_board.specs.declared.view.Miss.TheVariants.{Baton, Lane}
use Rattle.al_board.specs.declared.view.Helped.{Helped}
use Rattle.al_board.specs.declared.view.Helped.TheVariants.{Busy, Advanced}
use Rattle.al_board.specs.declared.view.Slot.{Slot}
use Rattle.al_board.specs.declared.view.Slot.TheVariants.{Empty, Piece, Shelf, Room}
use Rattle.al_board.specs.declared.pile.Pile.{Pile}
use Rattle.al_count.specs.Counts.{times}
use Rattle.al_board.specs.Views.{IsFull, IsSameWork, missed, at_turn, handed}
use Rattle.al_board.specs.Steps.{spared}
use Rattle.al_board.specs.Helps.{IsCarried, HasShelfFirst, IsLaid, IsHelped}

module _ {T H : Type 0} where
  slot_of : List (ℕ × Slot T H) → Slot T H
  slot_of [] = Empty
  slot_of (x ∷ xs) = x.1

  -- the slot has what was taken with it
  pub slot_is : (l c c' : List (ℕ × Slot T H)) (k : ℕ) (x y : Slot T H) → l ≡ (k, x) ∷ c → l ≡ (k, y) ∷ c' → y ≡ x
  unfolding slot_of
  slot_is l c c' k x y a b = ap slot_of (sym b ∙ a)

  pub same_piece : (p q : T) → ◌≡◌ {A = Slot T H} (Piece p) (Piece q) → p ≡ q
  same_piece p q e = cc

  pub same_shelf : (p q : H) → ◌≡◌ {A = Slot T H} (Shelf p) (Shelf q) → p ≡ q
  same_shelf p q e = cc

  pub same_room : (p q : Pile T) → ◌≡◌ {A = Slot T H} (Room p) (Room q) → p ≡ q
  same_room p q e = cc

  pub empty_piece : (p : T) → ◌≡◌ {A = Slot T H} Empty (Piece p) → ⊥
  empty_piece p e = cc

  pub shelf_piece : (h : H) (p : T) → ◌≡◌ {A = Slot T H} (Shelf h) (Piece p) → ⊥
  shelf_piece h p e = cc

  pub room_piece : (r : Pile T) (p : T) → ◌≡◌ {A = Slot T H} (Room r) (Piece p) → ⊥
  room_piece r p e = cc

  pub empty_shelf : (h : H) → ◌≡◌ {A = Slot T H} Empty (Shelf h) → ⊥
  empty_shelf h e = cc

  pub piece_shelf : (p : T) (h : H) → ◌≡◌ {A = Slot T H} (Piece p) (Shelf h) → ⊥
  piece_shelf p h e = cc

  pub room_shelf : (r : Pile T) (h : H) → ◌≡◌ {A = Slot T H} (Room r) (Shelf h) → ⊥
  room_shelf r h e = cc

  pub spared_is : (lanes next : ℕ) (c : List (ℕ × Slot T H)) → IsCarried lanes next c → spared c ≡ (lanes, Empty) ∷ []
  spared_is lanes next c h = ⊎_elim (λ e. ap spared e) (λ x. ap spared x.2) h

  -- the shelf's slot is brought to the front
  pub shelf_in_front : (lanes next : ℕ) (c : List (ℕ × Slot T H)) → IsCarried lanes next c → HasShelfFirst lanes next Empty (turned c)
  shelf_in_front lanes next c h = ⊎_elim (λ e. inl (ap turned e)) (λ x. inr (x.0, x.1, ap turned x.2)) h

  -- and gets something else
  pub front_refilled : (lanes next : ℕ) (x y : Slot T H) (c d : List (ℕ × Slot T H)) → HasShelfFirst lanes next x c → d ≡ (lanes, y) ∷ rest c
      → HasShelfFirst lanes next y d
  front_refilled lanes next x y c d h e = ⊎_elim (λ q. inl (e ∙ ap (λ z. (lanes, y) ∷ rest z) q)) (λ q. inr (q.0, q.1, e ∙ ap (λ z. (lanes, y) ∷ rest z) q.2)) h

module _ {T K : Type 0} where
  work_as : (v w u : View T K) → w ≡ u → IsSameWork v u → IsSameWork v w
  work_as v w u e h = subst (IsSameWork v) (sym e) h

  -- misses, a turn and what was given are no work
  watched : (ms : List Miss) (gs : List ℕ) (t : Option (Turn T)) (v : View T K) → IsSameWork v record v { misses = ms; given = gs; turn = t }
  watched ms gs t v = record {
    task = refl;
    lanes = refl;
    shelved = refl;
    drawn = refl;
    put = refl;
    holds = refl;
    ended = refl;
    allowance = refl;
    share = refl;
  }

  pub laid_turn : (lanes found next : ℕ) (laid : List T) (v w : View T K) → IsLaid lanes found next laid v w
      → w.turn ≡ Some record { found = found; next = next; laid = laid }
  laid_turn lanes found next laid v w h = ⊎_elim (λ t. ap (λ (z : View T K). z.turn) t.1) (λ t. ap (λ (z : View T K). z.turn) t.1) h.view

  pub laid_work : (lanes found next : ℕ) (laid : List T) (v w : View T K) → IsLaid lanes found next laid v w → IsSameWork v w
  laid_work lanes found next laid v w h = ⊎_elim
      (λ t. work_as v w (at_turn found next laid v) t.1 (watched v.misses v.given (Some record { found = found; next = next; laid = laid }) v))
      (λ t. work_as v w (missed (Lane next) (at_turn found next laid v)) t.1
      (watched (v.misses ++ Lane next ∷ []) v.given (Some record { found = found; next = next; laid = laid }) v))
      h.view

  -- u took the baton and is v, w is v after the run, and x gave the baton back
  pub helped : (found next : ℕ) (before laid : List T) (u v w m x : View T K) → IsLaid u.lanes found next laid v w → v ≡ at_turn found found before u → m ≡ w
      → x ≡ handed next m
      → u.turn ≡ None → IsHelped u x (Advanced next)
  helped found next before laid u v w m x h e e' e'' idle = (
    h.to,
    ⊎_elim
        (λ (t : (next ≡ u.lanes) × (w ≡ at_turn found next laid v)). inl (t.0, after ∙ ap (handed next) (t.1 ∙ ap (at_turn found next laid) e)))
        (λ (t : (next < u.lanes) × (w ≡ missed (Lane next) (at_turn found next laid v)) × (times next v.put ≡ 0) × ¬ (IsFull v)).
        inr (
          t.0,
          after ∙ ap (handed next) (t.1 ∙ ap (λ (z : View T K). missed (Lane next) (at_turn found next laid z)) e),
          sym (ap (λ (z : View T K). times next z.put) e) ∙ t.2,
          subst (λ (z : View T K). ¬ (IsFull z)) e t.3,
        ))
        h.view,
  )
    where
      after : x ≡ handed next w
      after = e'' ∙ ap (handed next) e'

  pub helped_work : (next : ℕ) (u x : View T K) → IsHelped u x (Advanced next) → IsSameWork u x × (x.turn ≡ None)
  helped_work next u x h = ⊎_elim
      (λ (t : (next ≡ u.lanes) × (x ≡ handed next u)).
      (work_as u x (handed next u) t.1 (watched u.misses (u.given ++ next ∷ []) None u), ap (λ (z : View T K). z.turn) t.1))
      (λ (t : (next < u.lanes) × (x ≡ handed next (missed (Lane next) u)) × (times next u.put ≡ 0) × ¬ (IsFull u)). (
        work_as u x (handed next (missed (Lane next) u)) t.1 (watched (u.misses ++ Lane next ∷ []) (u.given ++ next ∷ []) None u),
        ap
            (λ (z : View T K). z.turn) t.1,
      ))
      h.1

  pub helped_same : (v w : View T K) (r : Helped) → IsHelped v w r → IsSameWork v w
  helped_same v w Busy h = work_as v w (missed Baton v) h.0 (watched (v.misses ++ Baton ∷ []) v.given v.turn v)
  helped_same v w (Advanced j) h = (helped_work j v w h).0
