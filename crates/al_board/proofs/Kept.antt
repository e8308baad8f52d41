-- What was logged stays.
use Rattle.std.proofs.Common.{◌≡◌, ℕ, Option, List, [], ◌∷◌, ◌++◌, Some, None, sym, ap, ◌∙◌, subst}
use native.Mathlib.Decide.{ℕ_discrete}
use lib.ListN.{get_elem?}
use Rattle.al_board.specs.declared.view.Entry.{Entry}
use Rattle.al_board.specs.declared.view.Entry.TheVariants.{Drew, Put, Split, Joined, Seized, Met, Took, Skipped, Handed}
use Rattle.al_board.specs.declared.view.Helped.{Helped}
use Rattle.al_board.specs.declared.view.Helped.TheVariants.{Busy, Advanced}
use Rattle.al_board.specs.Core.{piece_of}
use Rattle.al_board.specs.Journal.{account, IsJournal}
use Rattle.al_board.specs.Logs.{IsEnd, AreEnds, IsIn, AreKept, HasLogged, HasPut, HasLoggedDraw, SkippedLane, HandedBaton, HasLaidOn, HasAdvanced, HasLoggedHelp}
use Rattle.al_board.proofs.Logs.{whole_end, end_trans, end_grown, in_left, in_right}
use Rattle.al_board.proofs.Pieces.{none_some, piece_here, piece_else}

module _ {A : Type 0} where
  pub kept_same : (logs later : List (List A)) → later ≡ logs → AreKept logs later
  kept_same logs later e k log at =
      record { place = k; longer = log; at = ap (λ (z : List (List A)). get_elem? z k) e ∙ at; end = whole_end log }

  pub in_kept : (log : List A) (logs later : List (List A)) → IsIn log logs → AreKept logs later → IsIn log later
  in_kept log logs later h kept =
      let next = kept h.place h.longer h.at in
      record { place = next.place; longer = next.longer; at = next.at; end = end_trans log h.longer next.longer h.end next.end }

  pub kept_trans : (logs later last : List (List A)) → AreKept logs later → AreKept later last → AreKept logs last
  kept_trans logs later last h h' k log at = in_kept log later last (h k log at) h'

  pub kept_left : (logs others later : List (List A)) → later ≡ logs ++ others → AreKept logs later
  kept_left logs others later e k log at =
      subst (IsIn log) (sym e) (in_left log logs others record { place = k; longer = log; at = at; end = whole_end log })

  pub kept_right : (logs others later : List (List A)) → later ≡ logs ++ others → AreKept others later
  kept_right logs others later e k log at =
      subst (IsIn log) (sym e) (in_right log logs others record { place = k; longer = log; at = at; end = whole_end log })

  -- what is an end of a log is one of the journal
  pub in_ends : (log : List A) (logs : List (List A)) (journal : List A) → IsIn log logs → AreEnds logs journal → IsEnd log journal
  in_ends log logs journal h ends = end_trans log h.longer journal h.end (ends h.place h.longer h.at)

  pub ends_kept : (logs later : List (List A)) (journal : List A) → AreKept logs later → AreEnds later journal → AreEnds logs journal
  ends_kept logs later journal kept ends k log at = in_ends log later journal (kept k log at) ends

module _ {T : Type 0} where
  pub kept_entry : (entry : ℕ → Entry T) (logs later : List (List (Entry T))) → HasLogged entry logs later → AreKept logs later
  kept_entry entry logs later h k log at = record {
    place = 0;
    longer = entry h.pass ∷ h.since;
    at = ap (λ (z : List (List (Entry T))). get_elem? z 0) h.last;
    end = end_grown log h.since (entry h.pass ∷ []) (h.before k log at);
  }

  pub put_kept : (lane : ℕ) (piece : T) (logs later : List (List (Entry T))) → HasPut lane piece logs → AreKept logs later → HasPut lane piece later
  put_kept lane piece logs later h kept = record {
    pass = h.pass;
    before = h.before;
    is_in = in_kept (Put h.pass lane piece ∷ h.before) logs later h.is_in kept;
  }

  -- what was just put is logged
  pub put_logged : (lane : ℕ) (piece : T) (logs later : List (List (Entry T))) → HasLogged (λ p. Put p lane piece) logs later → HasPut lane piece later
  put_logged lane piece logs later h = record {
    pass = h.pass;
    before = h.since;
    is_in = record {
      place = 0;
      longer = Put h.pass lane piece ∷ h.since;
      at = ap (λ (z : List (List (Entry T))). get_elem? z 0) h.last;
      end = whole_end (Put h.pass lane piece ∷ h.since);
    };
  }

-- what a pass has logged while it lays pieces: before and after the baton was taken, with the shelf, after the pieces were laid, with the shelf's slot
-- in front, with the shelf given back, and after the baton was given back
pub record Advance (T : Type 0) (lanes next : ℕ) : Type 0 where
  pub logs : List (List (Entry T))
  pub seized : List (List (Entry T))
  pub with_shelf : List (List (Entry T))
  pub laid : List (List (Entry T))
  pub in_front : List (List (Entry T))
  pub without_shelf : List (List (Entry T))
  pub later : List (List (Entry T))
  pub took : HasLogged Seized logs seized
  pub shelf_out : with_shelf ≡ seized
  pub lays : HasLaidOn lanes next with_shelf laid
  pub fronted : in_front ≡ laid
  pub shelf_in : without_shelf ≡ in_front
  pub hands : HandedBaton lanes next without_shelf later

module _ {T : Type 0} where
  -- the run stops at a lane that has no piece
  pub laid_on : (lanes many next : ℕ) (logs before later : List (List (Entry T))) → many ≡ lanes → AreKept logs before → SkippedLane many next before later
      → HasLaidOn lanes next logs later
  laid_on lanes many next logs before later same kept skipped = record {
    kept = kept_trans logs before later kept (kept_entry Skipped before later skipped.logged);
    halt = λ _. (before, kept, subst (λ (z : ℕ). SkippedLane z next before later) same skipped);
  }

  -- the logs of a whole call that lays pieces
  pub advanced : (lanes next : ℕ) (a : Advance T lanes next) → HasAdvanced lanes next a.logs a.later
  advanced lanes next a = record {
    seized = a.seized;
    laid = a.laid;
    seizes = a.took;
    lays = subst (λ (z : List (List (Entry T))). HasLaidOn lanes next z a.laid) a.shelf_out a.lays;
    hands = subst (λ (z : List (List (Entry T))). HandedBaton lanes next z a.later) (a.shelf_in ∙ a.fronted) a.hands;
  }

  -- it keeps what was logged
  pub kept_help : (lanes : ℕ) (logs later : List (List (Entry T))) (r : Helped) → HasLoggedHelp lanes logs later r → AreKept logs later
  kept_help lanes logs later Busy h = kept_entry Met logs later h.logged
  kept_help lanes logs later (Advanced j) h =
      kept_trans logs h.seized later (kept_entry Seized logs h.seized h.seizes)
      (kept_trans h.seized h.laid later h.lays.kept (kept_entry Handed h.laid later h.hands.logged))

  -- a draw keeps it
  pub kept_draw : (lanes : ℕ) (logs later : List (List (Entry T))) (r : Option ℕ) → HasLoggedDraw lanes logs later r → AreKept logs later
  kept_draw lanes logs later None h = kept_entry Drew logs later h.2.logged
  kept_draw lanes logs later (Some lane) h = kept_entry Drew logs later h.logged

  -- and so does a draw with a put
  pub kept_fill : (lanes lane : ℕ) (piece : T) (logs drawn later : List (List (Entry T))) → HasLoggedDraw lanes logs drawn (Some lane)
      → HasLogged (λ p. Put p lane piece) drawn later → AreKept logs later
  kept_fill lanes lane piece logs drawn later draw put =
      kept_trans logs drawn later (kept_draw lanes logs drawn (Some lane) draw) (kept_entry (λ p. Put p lane piece) drawn later put)

module _ {T : Type 0} (fits : ℕ → T → Type 0) (n : ℕ) where
  -- the piece that was put into a lane stays its piece
  pub puts_stay : (since before : List (Entry T)) (pass lane : ℕ) (piece : T) → IsJournal fits n (since ++ Put pass lane piece ∷ before)
      → piece_of lane (account n (since ++ Put pass lane piece ∷ before)).pieces ≡ Some piece
  puts_stay [] before pass lane piece k = piece_here lane piece (account n before).pieces
  puts_stay (Drew p ∷ h) before pass lane piece k = puts_stay h before pass lane piece k.1
  puts_stay (Put p x other ∷ h) before pass lane piece k = go (puts_stay h before pass lane piece k.1) (ℕ_discrete lane x)
    where
      ps : List (ℕ × T)
      ps = (account n (h ++ Put pass lane piece ∷ before)).pieces

      go : piece_of lane ps ≡ Some piece → Dec (lane ≡ x) → piece_of lane ((x, other) ∷ ps) ≡ Some piece
      go ih (yes e) = absurd (none_some piece (sym k.0.1 ∙ ap (λ (z : ℕ). piece_of z ps) (sym e) ∙ ih))
      go ih (no ne) = piece_else lane x other ps ne ∙ ih
  puts_stay (Split p ∷ h) before pass lane piece k = puts_stay h before pass lane piece k.1
  puts_stay (Joined p q ∷ h) before pass lane piece k = puts_stay h before pass lane piece k.1
  puts_stay (Seized p ∷ h) before pass lane piece k = puts_stay h before pass lane piece k.1
  puts_stay (Met p ∷ h) before pass lane piece k = puts_stay h before pass lane piece k.1
  puts_stay (Took p ∷ h) before pass lane piece k = puts_stay h before pass lane piece k.1
  puts_stay (Skipped p ∷ h) before pass lane piece k = puts_stay h before pass lane piece k.1
  puts_stay (Handed p ∷ h) before pass lane piece k = puts_stay h before pass lane piece k.1

  -- so a piece that was logged is that of its lane
  pub logged_piece : (journal : List (Entry T)) (logs : List (List (Entry T))) (lane : ℕ) (piece : T) → IsJournal fits n journal → AreEnds logs journal
      → HasPut lane piece logs → piece_of lane (account n journal).pieces ≡ Some piece
  logged_piece journal logs lane piece legal ends put =
      let end = in_ends (Put put.pass lane piece ∷ put.before) logs journal put.is_in ends in
      subst (λ (z : List (Entry T)). piece_of lane (account n z).pieces ≡ Some piece) (sym end.whole)
      (puts_stay end.since put.before put.pass lane piece (subst (IsJournal fits n) end.whole legal))
