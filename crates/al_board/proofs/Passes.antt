-- What the calls of a pass find.
use Rattle.std.proofs.Common.{◌≡◌, ℕ, ◌<◌, ◌≤◌, ◌++◌, ◌∷◌, [], ap, arith}
use Rattle.al_board.specs.declared.view.View.{View}
use Rattle.al_count.specs.Counts.{times}
use Rattle.al_count.proofs.Totals.{one_same, below_le, below_true, times_snoc}
use Rattle.al_board.specs.Views.{IsBounded, got}

module _ {T K : Type 0} where
  -- a lane that was just drawn was not drawn before
  pub new_lane : (v w : View T K) (lane : ℕ) → w ≡ got lane v → IsBounded w → times lane v.drawn ≡ 0
  new_lane v w lane e b =
      let t : times lane w.drawn ≡ times lane (v.drawn ++ lane ∷ []) = ap (λ (z : View T K). times lane z.drawn) e in
      let s = times_snoc lane lane v.drawn in
      let i = one_same lane in
      let l = b.drawn lane in
      let m = below_le lane w.lanes in omega arith

  pub drawn_below : (v : View T K) (lane : ℕ) → IsBounded v → 1 ≤ times lane v.drawn → lane < v.lanes
  drawn_below v lane b h = let l = b.drawn lane in below_true lane v.lanes (omega arith)
