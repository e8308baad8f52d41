-- What each step tells the pass that makes it, by the number that it found.
use Rattle.std.specs.Prelude.{◌≡◌, ◌≢◌, ℕ, ◌+◌, ◌<◌, ◌≤◌, List, [], ◌∷◌, ◌++◌, length, Some}
use Rattle.atomic_table.specs.Table.{Me, Step, rest}
use Rattle.al_board.specs.declared.view.Entry.TheVariants.{Put, Seized, Took}
use Rattle.al_board.specs.declared.view.Miss.TheVariants.{Baton, Lane}
use Rattle.al_board.specs.declared.view.Turn.{Turn}
use Rattle.al_board.specs.declared.view.View.{View}
use Rattle.al_board.specs.declared.view.Slot.{Slot}
use Rattle.al_board.specs.declared.view.Slot.TheVariants.{Empty, Piece, Shelf}
use Rattle.al_count.specs.Counts.{times}
use Rattle.al_board.specs.Views.{unlogged, got, over, taking, gave, missed, at_turn, handed, IsBounded, IsFull}
use Rattle.al_board.specs.Logs.{HasLogged, DrewNumber, MetBaton, SkippedLane, HandedBaton}
use Rattle.al_board.specs.Words.{filled_word, away_word}

abbrev Seated : Type 0 → Type 0 → Type 0 → Type 0
Seated T H K = Me (Slot T H) (View T K)

-- the slots held, without the last one where there are two
abbrev pub spared : {A : Type 0} → List A → List A
spared [] = []
spared (x ∷ []) = x ∷ []
spared (x ∷ y ∷ ys) = y ∷ ys

module _ {T H K : Type 0} where
  -- a draw: the lane is this pass's, or there is no more
  pub record IsDraw (st : Step (Slot T H)) (m : Seated T H K) (n : ℕ) (m' : Seated T H K) : Type 0 where
    pub slots : m'.1 ≡ m.1
    pub lane : n < m.0.lanes → unlogged m'.0 ≡ got n (unlogged m.0)
    pub none : m.0.lanes ≤ n → unlogged m'.0 ≡ over (unlogged m.0)
    pub able : 1 ≤ m.0.allowance
    pub logged : DrewNumber m.0.lanes n m.0.logs m'.0.logs
    pub bounded : IsBounded (unlogged m'.0)

  -- a load: what is known of the view
  pub record IsLook (st : Step (Slot T H)) (m : Seated T H K) (n : ℕ) (m' : Seated T H K) : Type 0 where
    pub same : m' ≡ m
    pub bounded : IsBounded (unlogged m'.0)

  -- a swap of a lane's word: the lane is taken, with its slot
  pub record IsTake (st : Step (Slot T H)) (m : Seated T H K) (n : ℕ) (m' : Seated T H K) : Type 0 where
    pub view : (lane : ℕ) → st.word ≡ lane + 1 → unlogged m'.0 ≡ taking lane (unlogged m.0)
    pub slots : (lane : ℕ) → st.word ≡ lane + 1 → m'.1 ≡ (lane, Empty) ∷ m.1
    pub logs : m'.0.logs ≡ m.0.logs

  -- a swap of a lane's word: the slot is given back, with the piece
  pub record IsFill (st : Step (Slot T H)) (m : Seated T H K) (n : ℕ) (m' : Seated T H K) : Type 0 where
    pub view : (lane : ℕ) → st.word ≡ lane + 1 → unlogged m'.0 ≡ gave lane (unlogged m.0)
    pub slots : m'.1 ≡ rest m.1
    pub logged : (lane : ℕ) (piece : T) (others : List (ℕ × Slot T H)) → m.1 ≡ (lane, Piece piece) ∷ others
        → HasLogged (λ p. Put p lane piece) m.0.logs m'.0.logs
    pub bounded : IsBounded (unlogged m'.0)

  -- a swap of the baton's word: it is given back, at the number that is stored, with all slots
  pub record IsHanding (st : Step (Slot T H)) (m : Seated T H K) (n : ℕ) (m' : Seated T H K) : Type 0 where
    pub view : unlogged m'.0 ≡ handed st.first (unlogged m.0)
    pub slots : m'.1 ≡ rest (rest m.1)
    pub logged : HandedBaton m.0.lanes st.first m.0.logs m'.0.logs

  -- another pass has the baton, and this one is not full
  pub record IsMet (m m' : Seated T H K) : Type 0 where
    pub view : unlogged m'.0 ≡ missed Baton (unlogged m.0)
    pub slots : m'.1 ≡ m.1
    pub logged : MetBaton m.0.lanes m.0.logs m'.0.logs
    pub not_full : ¬ (IsFull m.0)

  -- this pass has the baton, at the number that it found, and the shelf
  pub record IsSeized (laid : H → List T) (stands : K → ℕ → H → Type 0) (m : Seated T H K) (n : ℕ)
      (m' : Seated T H K) : Type 0 where
    pub at_most : n ≤ m.0.lanes
    pub shelf : H
    pub view : unlogged m'.0 ≡ at_turn n n (laid shelf) (unlogged m.0)
    pub slots : m'.1 ≡ (m.0.lanes, Shelf shelf) ∷ m.1
    pub logged : HasLogged Seized m.0.logs m'.0.logs
    pub many : length (laid shelf) ≡ n
    pub standing : (task : K) → m.0.task ≡ Some task → stands task m.0.lanes shelf

  -- a swap of the baton's word
  pub record IsSeizure (laid : H → List T) (stands : K → ℕ → H → Type 0) (st : Step (Slot T H)) (m : Seated T H K)
      (n : ℕ) (m' : Seated T H K) : Type 0 where
    pub away : n ≡ away_word → IsMet m m'
    pub home : n ≢ away_word → IsSeized laid stands m n m'

  -- the lane is taken, with its piece
  pub record IsTaken (fits : K → ℕ → T → Type 0) (t : Turn T) (m m' : Seated T H K) : Type 0 where
    pub piece : T
    pub view : unlogged m'.0 ≡ at_turn t.found (t.next + 1) (t.laid ++ piece ∷ []) (unlogged m.0)
    pub slots : m'.1 ≡ (t.next, Piece piece) ∷ spared m.1
    pub logged : HasLogged Took m.0.logs m'.0.logs
    pub fit : (task : K) → m.0.task ≡ Some task → fits task t.next piece

  -- the lane was not filled, so this pass has not put it and is not full
  pub record IsSkipped (t : Turn T) (m m' : Seated T H K) : Type 0 where
    pub view : unlogged m'.0 ≡ missed (Lane t.next) (unlogged m.0)
    pub slots : m'.1 ≡ spared m.1
    pub logged : SkippedLane m.0.lanes t.next m.0.logs m'.0.logs
    pub unput : times t.next m.0.put ≡ 0
    pub not_full : ¬ (IsFull m.0)

  -- a compare and exchange of a lane's word
  pub record IsTry (fits : K → ℕ → T → Type 0) (st : Step (Slot T H)) (m : Seated T H K) (n : ℕ)
      (m' : Seated T H K) : Type 0 where
    pub filled : (t : Turn T) → m.0.turn ≡ Some t → n ≡ filled_word → IsTaken fits t m m'
    pub missing : (t : Turn T) → m.0.turn ≡ Some t → n ≢ filled_word → IsSkipped t m m'
