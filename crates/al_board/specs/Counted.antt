-- What is counted of a view.
use Rattle.std.specs.Prelude.{ℕ}
use Rattle.al_board.specs.declared.view.View.{View}
use Rattle.al_count.specs.Counts.{times, holding, present}

module _ {T K : Type 0} where
  -- how often it drew the lane
  abbrev pub drawn_times : ℕ → View T K → ℕ
  drawn_times x v = times x v.drawn

  -- how often it put the lane
  abbrev pub put_times : ℕ → View T K → ℕ
  put_times x v = times x v.put

  -- 1 where it holds the lane, and else 0
  abbrev pub held_count : ℕ → View T K → ℕ
  held_count x v = holding x v.holds

  abbrev pub share_of : View T K → ℕ
  share_of v = v.share

  abbrev pub allowance_of : View T K → ℕ
  allowance_of v = v.allowance

  -- 1 where it has the baton, and else 0
  abbrev pub turn_count : View T K → ℕ
  turn_count v = present v.turn
