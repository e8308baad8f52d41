-- What a full pass finds in the closed table.
use Rattle.std.proofs.Common.{◌≡◌, ℕ, ◌<◌, ◌≤◌, min, Bool, true, false, List, [], ◌∷◌, ◌++◌, length, Some, None, sym, ap, ◌∙◌, subst, ⊎_elim, arith}
use mathlib.Core.Option.{some, some-injective}
use mathlib.Core.Option as maybe
use native.Mathlib.Decide.{dec_le}
use lib.ListN.{get_elem?}
use Rattle.atomic_table.specs.Table.{State, Final, Seen}
use Rattle.al_board.specs.declared.pile.Pile.{Pile}
use Rattle.al_board.specs.declared.view.Entry.{Entry}
use Rattle.al_board.specs.declared.view.Setting.{Setting}
use Rattle.al_board.specs.declared.view.View.{View}
use Rattle.al_board.specs.declared.view.Slot.{Slot}
use Rattle.al_board.specs.declared.view.Slot.TheVariants.{Piece, Shelf, Room}
use Rattle.al_board.specs.declared.view.Helped.{Helped}
use Rattle.al_board.specs.declared.view.Helped.TheVariants.{Busy, Advanced}
use Rattle.al_count.specs.Counts.{one, times, total}
use Rattle.al_count.proofs.Totals.{one_same, below_no, below_true, times_snoc, member_le, total_le, place_below, place_has}
use Rattle.al_board.specs.Counted.{drawn_times, put_times, turn_count}
use Rattle.al_board.specs.Piles.{on_pile, room_of}
use Rattle.al_board.specs.Core.{Core, of, piece_of, first_pieces, played}
use Rattle.al_board.specs.Fits.{AreFit}
use Rattle.al_board.specs.Helps.{IsThrough, IsStopped, IsHelped}
use Rattle.al_board.specs.Journal.{Account, events, core_of}
use Rattle.al_board.specs.Logs.{AreKept, AreGiven}
use Rattle.al_board.specs.Rounds.{IsRound}
use Rattle.al_board.specs.Rule.{Terms, terms, AreFirst, IsHome, IsPlain, IsBaton, IsKept, baton_of, shown}
use Rattle.al_board.specs.Views.{IsFull, handed, unlogged}
use Rattle.al_board.specs.Words.{away_word}
use Rattle.al_board.proofs.Entries.{at_of}
use Rattle.al_board.proofs.Events.{are_played, first_are}
use Rattle.al_board.proofs.Lays.{same_piece, same_room, same_shelf}
use Rattle.al_board.proofs.Parts.{at_most_one, full_puts, full_alone}
use Rattle.al_board.proofs.Pieces.{pieces_fit, none_some, some_same}
use Rattle.al_board.proofs.Kept.{ends_kept, put_kept, logged_piece}
use Rattle.al_board.proofs.Logs.{all_ends}

module _ {T H K : Type 0} (b : Terms T H K) (s : State (Slot T H) (View T K)) (k : IsKept b s) where
  -- the events of the journal lead to what is shown
  core_is : played b.key.lanes (events b.key.lanes k.journal) ≡ core_of (shown k.stage k.holder s.views)
  core_is = (are_played b.fits b.key.lanes k.journal k.legal).core ∙ ap (λ (a : Account T). core_of a) k.told

  -- a state shows a round
  round_of : (id : ℕ) (v : View T K) → get_elem? s.views id ≡ some v → (ps : List T) → AreFirst b.key.lanes ps k.stage.pieces
      → IsRound b.fits b.key.lanes k.stage.judged id (unlogged v) v.logs ps
  round_of id v at ps first = record {
    journal = k.journal;
    kept = k.legal;
    ends = all_ends s.views k.journal id v at k.logs;
    legal = (are_played b.fits b.key.lanes k.journal k.legal).legal;
    each = ap (λ (c : Core T). first_pieces b.key.lanes c.pieces) core_is ∙ first_are b.key.lanes ps k.stage.pieces first;
    are_judged = ap (λ (c : Core T). c.judged) core_is;
    drawn = ap (λ (c : Core T). of c.own id) core_is ∙ at_of (λ (u : View T K). u.drawn) s.views id v at;
    put = ap (λ (c : Core T). of c.put id) core_is ∙ at_of (λ (u : View T K). u.put) s.views id v at;
  }

  -- each piece that was put fits its lane
  pub fit_of : (lane : ℕ) (p : T) → piece_of lane k.stage.pieces ≡ Some p → b.fits lane p
  fit_of lane p e = pieces_fit b.fits b.key.lanes (events b.key.lanes k.journal) lane p
      (are_played b.fits b.key.lanes k.journal k.legal).legal (ap (λ (c : Core T). piece_of lane c.pieces) core_is ∙ e)

  -- a lane that has a piece is a lane
  is_lane : (lane : ℕ) (p : T) → piece_of lane k.stage.pieces ≡ Some p → lane < b.key.lanes
  is_lane lane p e = go (dec_le 1 (total (put_times lane) s.views))
    where
      go : Dec (1 ≤ total (put_times lane) s.views) → lane < b.key.lanes
      go (no n) = absurd (none_some p (sym (k.unput lane (omega arith)) ∙ e))
      go (yes y) =
          let o = at_most_one b s k lane in
          let l = total_le (put_times lane) (drawn_times lane) s.views (λ i u at. let q = (k.sound i u at).own lane in omega arith) in
          let d = k.drawn lane in
          let m = below_true lane (min k.stage.draws b.key.lanes) (omega arith) in omega arith

  -- the pieces that a view has logged are those of their lanes
  given_of : (id : ℕ) (v : View T K) → get_elem? s.views id ≡ some v → (ps : List T) → AreFirst b.key.lanes ps k.stage.pieces → AreGiven v.logs ps
  given_of id v at ps first lane p put =
      let its : piece_of lane k.stage.pieces ≡ Some p = sym (ap (λ (a : Account T). piece_of lane a.pieces) k.told)
      ∙ logged_piece b.fits b.key.lanes k.journal v.logs lane p k.legal (all_ends s.views k.journal id v at k.logs) put in
      let lt = is_lane lane p its in
      let m = first.many in
      let there = place_has ps lane (omega arith) in
      there.1 ∙ ap (λ (z : T). some z) (some_same there.0 p (sym (first.each lane there.0 there.1) ∙ its))

  plain_is : b.key.shelved ≡ false → IsPlain b k.stage (baton_of b s k.holder)
  plain_is e = subst (λ (z : Bool). IsBaton b k.stage z (baton_of b s k.holder)) e k.baton

  -- without a shelf each lane's piece is in its slot
  full_slots : b.key.shelved ≡ false → (id : ℕ) (v : View T K) → get_elem? s.views id ≡ some v → 0 < v.share → IsFull v → (x : ℕ) → x < b.key.lanes
      → (piece : T) × (get_elem? s.homes x ≡ some (some (Piece piece))) × b.fits x piece × (piece_of x k.stage.pieces ≡ Some piece)
  full_slots e id v at live full x lt =
      let none = (plain_is e).taken in
      let p = full_puts b s k id v at live full x lt in
      let m = member_le (put_times x) s.views id v at in
      let one = at_most_one b s k x in
      let c = below_no x k.stage.taken (omega arith) in
      let w = k.word x lt in
      (k.slot x lt).full (omega arith)

module _ {T H K : Type 0} (b : Terms T H K) (id : ℕ) (v : View T K) (ws : List ℕ) (xs : List (Slot T H)) (f : Final (Seen (IsKept b) id v) ws xs) where
  -- the values at the end: a piece for each lane
  plain_pieces : b.key.shelved ≡ false → 0 < v.share → IsFull v → (x : ℕ) → x < b.key.lanes → (piece : T) × (get_elem? xs x ≡ some (Piece piece))
  plain_pieces e live full x lt =
      let found = full_slots b f.0 f.1.0 e id v f.1.1 live full x lt in
      (found.0, f.4 x (Piece found.0) found.1)

  -- and the room for them
  plain_room : (x : Slot T H) → b.key.shelved ≡ false → get_elem? xs b.key.lanes ≡ some x
      → (pile : Pile T) × (x ≡ Room pile) × (on_pile pile ≡ []) × (b.key.lanes ≤ room_of pile)
  plain_room x e there =
      let h = plain_is b f.0 f.1.0 e in
      (h.pile, some-injective x (Room h.pile) (sym there ∙ f.4 b.key.lanes (Room h.pile) h.there), h.empty, h.room)

  -- a list of what was found has the pieces that were put, and they fit
  plain_round : (ps : List T) → b.key.shelved ≡ false → 0 < v.share → IsFull v → length ps ≡ b.key.lanes
      → ((k : ℕ) (piece : T) → get_elem? ps k ≡ some piece → get_elem? xs k ≡ some (Piece piece))
      → AreFit b.fits ps × IsRound b.fits b.key.lanes 0 id (unlogged v) v.logs ps × AreGiven v.logs ps
  plain_round ps e live full many from =
      let reached = f.1.0.reached in
      let none = (plain_is b f.0 f.1.0 e).taken in
      let zero : f.1.0.stage.judged ≡ 0 = omega arith in (
        (λ lane p at. fit_of b f.0 f.1.0 lane p (its lane p at)),
        subst (λ (z : ℕ). IsRound b.fits b.key.lanes z id (unlogged v) v.logs ps) zero
            (round_of b f.0 f.1.0 id v f.1.1 ps record { many = many; each = its }),
        given_of b f.0 f.1.0 id v f.1.1 ps record { many = many; each = its },
      )
    where
      its : (lane : ℕ) (p : T) → get_elem? ps lane ≡ some p → piece_of lane f.1.0.stage.pieces ≡ Some p
      its lane p at =
          let lt = place_below ps lane p at in
          let found = full_slots b f.0 f.1.0 e id v f.1.1 live full lane (omega arith) in
          let both = sym (f.4 lane (Piece found.0) found.1) ∙ from lane p at in
          let same : found.0 ≡ p = same_piece found.0 p (some-injective (Piece found.0) (Piece p) both) in
          found.3 ∙ ap (λ (z : T). Some z) same

  -- with a shelf, once the last turn is over, the shelf has all pieces
  shelf_found : (x : Slot T H) → b.key.shelved ≡ true → 0 < v.share → IsFull v → v.turn ≡ None → 1 ≤ times b.key.lanes v.given
      → get_elem? xs b.key.lanes ≡ some x
      → (shelf : H) × (x ≡ Shelf shelf) × b.stands shelf × (length (b.laid shelf) ≡ b.key.lanes) × AreFit b.fits (b.laid shelf)
      × IsRound b.fits b.key.lanes b.key.lanes id (unlogged v) v.logs (b.laid shelf) × AreGiven v.logs (b.laid shelf)
  shelf_found x e live full idle given there = ⊎_elim away home (subst (λ (z : Bool). IsBaton b f.1.0.stage z (baton_of b f.0 f.1.0.holder)) e f.1.0.baton)
    where
      Whole : Type 0
      Whole = (shelf : H)
          × (x ≡ Shelf shelf)
          × b.stands shelf
          × (length (b.laid shelf) ≡ b.key.lanes)
          × AreFit b.fits (b.laid shelf)
          × IsRound b.fits b.key.lanes b.key.lanes id (unlogged v) v.logs (b.laid shelf)
          × AreGiven v.logs (b.laid shelf)

      all : (f.1.0.stage.judged ≡ b.key.lanes) × (f.1.0.stage.taken ≡ b.key.lanes)
      all = let g = (f.1.0.sound id v f.1.1).given b.key.lanes given in let r = f.1.0.reached in (omega arith, omega arith)

      away : ((baton_of b f.0 f.1.0.holder).word ≡ away_word) × (total turn_count f.0.views ≡ 1) → Whole
      away h = let a = full_alone b f.0 f.1.0 id v f.1.1 live idle full in let o = h.1 in absurd (omega arith)

      home : IsHome b f.1.0.stage (baton_of b f.0 f.1.0.holder) → Whole
      home h =
          let many = h.first.many ∙ all.1 in (
            h.shelf,
            some-injective x (Shelf h.shelf) (sym there ∙ f.4 b.key.lanes (Shelf h.shelf) h.there),
            h.standing,
            many,
            (λ lane p at. fit_of b f.0 f.1.0 lane p (h.first.each lane p at)),
            subst (λ (z : ℕ). IsRound b.fits b.key.lanes z id (unlogged v) v.logs (b.laid h.shelf)) all.0
                (round_of b f.0 f.1.0 id v f.1.1 (b.laid h.shelf) record { many = many; each = h.first.each }),
            given_of b f.0 f.1.0 id v f.1.1 (b.laid h.shelf) record { many = many; each = h.first.each },
          )

module _ {T K : Type 0} where
  -- the view after the last turn of a full pass
  pub ends_turn : (v w : View T K) (r : Helped) → IsFull v → v.turn ≡ None → IsHelped v w r → (w ≡ handed v.lanes v) × (1 ≤ times v.lanes w.given)
  ends_turn v w Busy full idle h = absurd (h.1 full)
  ends_turn v w (Advanced j) full idle h = ⊎_elim
      (λ (t : IsThrough v w j).
      let e = t.1 in
      let g : times v.lanes w.given ≡ times v.lanes (v.given ++ j ∷ []) = ap (λ (z : View T K). times v.lanes z.given) e in
      let s = times_snoc v.lanes j v.given in
      let o : one v.lanes j ≡ 1 = ap (one v.lanes) t.0 ∙ one_same v.lanes in
      (e ∙ ap (λ (z : ℕ). handed z v) t.0, omega arith))
      (λ (t : IsStopped v w j). absurd (t.3 full))
      h.1

-- what a shelf is at the end
pub record IsWhole {T H K : Type 0} (fits : K → ℕ → T → Type 0) (laid : H → List T) (stands : K → ℕ → H → Type 0) (key : Setting K) (id : ℕ) (v : View T K)
    (logs : List (List (Entry T))) (shelf : H) : Type 0 where
  pub standing : stands key.task key.lanes shelf
  pub each : length (laid shelf) ≡ key.lanes
  pub fit : AreFit (fits key.task) (laid shelf)
  pub round : IsRound (fits key.task) key.lanes key.lanes id v logs (laid shelf)
  pub given : AreGiven logs (laid shelf)

-- The same, for the setting of the board, which is the table's key.
module _ {T H K : Type 0} (fits : K → ℕ → T → Type 0) (laid : H → List T) (stands : K → ℕ → H → Type 0) (key setting : Setting K) (about : key ≡ setting)
  where
    abbrev of_task : Terms T H K
    of_task = terms fits laid stands key

    abbrev Ends : ℕ → View T K → List ℕ → List (Slot T H) → Type 0
    Ends id v ws xs = Final (Seen (IsKept of_task) id v) ws xs

    moved : (xs : List (Slot T H)) (x : maybe.Option (Slot T H)) → get_elem? xs setting.lanes ≡ x → get_elem? xs key.lanes ≡ x
    moved xs x e = ap (λ (z : Setting K). get_elem? xs z.lanes) about ∙ e

    -- a table without a shelf, which a full pass closed
    pub record IsClosed (id : ℕ) (v : View T K) (ws : List ℕ) (xs : List (Slot T H)) : Type 0 where
      pub plain : setting.shelved ≡ false
      pub live : 0 < v.share
      pub full : IsFull v
      pub final : Ends id v ws xs

    pub close_pieces : (id : ℕ) (v : View T K) (ws : List ℕ) (xs : List (Slot T H)) → IsClosed id v ws xs
        → (x : ℕ) → x < setting.lanes → (piece : T) × (get_elem? xs x ≡ some (Piece piece))
    close_pieces id v ws xs c x lt =
        plain_pieces of_task id v ws xs c.final (ap (λ (z : Setting K). z.shelved) about ∙ c.plain) c.live c.full x
        (subst (λ (z : Setting K). x < z.lanes) (sym about) lt)

    pub close_room : (id : ℕ) (v : View T K) (ws : List ℕ) (xs : List (Slot T H)) → IsClosed id v ws xs → (x : Slot T H) (room : Pile T)
        → get_elem? xs setting.lanes ≡ some x → x ≡ Room room → (on_pile room ≡ []) × (setting.lanes ≤ room_of room)
    close_room id v ws xs c x room there is =
        let found = plain_room of_task id v ws xs c.final x (ap (λ (z : Setting K). z.shelved) about ∙ c.plain) (moved xs (some x) there) in
        let same = same_room found.0 room (sym found.1 ∙ is) in
        subst (λ (z : Pile T × Setting K). (on_pile z.0 ≡ []) × (z.1.lanes ≤ room_of z.0)) (λ i. (same i, about i)) (found.2, found.3)

    pub close_round : (id : ℕ) (v : View T K) (ws : List ℕ) (xs : List (Slot T H)) → IsClosed id v ws xs → (ps : List T) → length ps ≡ setting.lanes
        → ((k : ℕ) (piece : T) → get_elem? ps k ≡ some piece → get_elem? xs k ≡ some (Piece piece))
        → AreFit (fits setting.task) ps × IsRound (fits setting.task) setting.lanes 0 id (unlogged v) v.logs ps × AreGiven v.logs ps
    close_round id v ws xs c ps many from =
        subst (λ (z : Setting K). AreFit (fits z.task) ps × IsRound (fits z.task) z.lanes 0 id (unlogged v) v.logs ps × AreGiven v.logs ps) about
        (plain_round of_task id v ws xs c.final ps (ap (λ (z : Setting K). z.shelved) about ∙ c.plain) c.live c.full
        (many ∙ ap (λ (z : Setting K). z.lanes) (sym about)) from)

    -- a pass that is full gives the baton back for the last time, and closes the table: its number, view and logs before, the view as the last turn
    -- leaves it, the answer, its number and view at the end, the words and the slots then, and the last slot
    pub record LastTurn : Type 0 where
      pub id : ℕ
      pub view : View T K
      pub logs : List (List (Entry T))
      pub left : View T K
      pub answer : Helped
      pub end_id : ℕ
      pub end_view : View T K
      pub words : List ℕ
      pub slots : List (Slot T H)
      pub last : Slot T H
      pub same : end_id ≡ id
      pub seen : unlogged end_view ≡ left
      pub kept : AreKept logs end_view.logs
      pub shelved : setting.shelved ≡ true
      pub lanes : view.lanes ≡ setting.lanes
      pub live : 0 < view.share
      pub full : IsFull view
      pub idle : view.turn ≡ None
      pub helped : IsHelped view left answer
      pub final : Ends end_id end_view words slots
      pub there : get_elem? slots setting.lanes ≡ some last

    pub close_is_shelf : (h : LastTurn) → (shelf : H) × (h.last ≡ Shelf shelf) × IsWhole fits laid stands setting h.id h.view h.logs shelf
    close_is_shelf h =
        let q = ends_turn h.view h.left h.answer h.full h.idle h.helped in
        let is : unlogged h.end_view ≡ handed h.view.lanes h.view = h.seen ∙ q.0 in
        let share : h.end_view.share ≡ h.view.share = ap (λ (z : View T K). z.share) is in
        let live = h.live in
        let n : h.view.lanes ≡ key.lanes = h.lanes ∙ ap (λ (z : Setting K). z.lanes) (sym about) in
        let given : times h.view.lanes h.end_view.given ≡ times h.view.lanes h.left.given = ap (λ (z : View T K). times h.view.lanes z.given) h.seen in
        let some_given = q.1 in
        let found = shelf_found of_task h.end_id h.end_view h.words h.slots h.final h.last (ap (λ (z : Setting K). z.shelved) about ∙ h.shelved) (omega arith)
        (subst IsFull (sym is) h.full)
        (ap (λ (z : View T K). z.turn) is) (subst (λ (z : ℕ). 1 ≤ times z h.end_view.given) n (omega arith)) (moved h.slots (some h.last) h.there) in
        let round : IsRound (fits key.task) key.lanes key.lanes h.end_id (unlogged h.end_view) h.end_view.logs (laid found.0) = found.5 in (
          found.0,
          found.1,
          subst (λ (z : Setting K). IsWhole fits laid stands z h.id h.view h.logs found.0) about record {
            standing = found.2;
            each = found.3;
            fit = found.4;
            round = record {
              journal = round.journal;
              kept = round.kept;
              ends = ends_kept h.logs h.end_view.logs round.journal h.kept round.ends;
              legal = round.legal;
              each = round.each;
              are_judged = round.are_judged;
              drawn = ap (of (played key.lanes (events key.lanes round.journal)).own) (sym h.same) ∙ round.drawn ∙ ap (λ (z : View T K). z.drawn) is;
              put = ap (of (played key.lanes (events key.lanes round.journal)).put) (sym h.same) ∙ round.put ∙ ap (λ (z : View T K). z.put) is;
            };
            given = λ lane p put. found.6 lane p (put_kept lane p h.logs h.end_view.logs put h.kept);
          },
        )

    pub close_whole : (h : LastTurn) (shelf : H) → h.last ≡ Shelf shelf → IsWhole fits laid stands setting h.id h.view h.logs shelf
    close_whole h shelf is =
        let found = close_is_shelf h in
        subst (IsWhole fits laid stands setting h.id h.view h.logs) (same_shelf found.0 shelf (sym found.1 ∙ is)) found.2
