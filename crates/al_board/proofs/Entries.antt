-- At each kind of step the journal grows by an entry, or stays.
use Rattle.std.proofs.Common.{◌≡◌, ◌≢◌, ℕ, zero, suc, ◌+◌, ◌<◌, ◌≤◌, nat_lt, cond, Bool, true, false, List, [], ◌∷◌, ◌++◌, map, length, get_or, set, Option, Some, None, refl, sym, ap, ◌∙◌, subst, arith}
use mathlib.Core.Option.{some, some-injective, some-ne-none}
use mathlib.Core.List.{map-append}
use lib.ListN.{get_elem?}
use lib.Seq.{map-set}
use Rattle.atomic_table.proofs.Lists.{set_again, at_map}
use Rattle.al_board.specs.declared.view.Entry.{Entry}
use Rattle.al_board.specs.declared.view.Entry.TheVariants.{Drew, Put, Split, Joined, Seized, Met, Took, Skipped, Handed}
use Rattle.al_board.specs.declared.view.Miss.{Miss}
use Rattle.al_board.specs.declared.view.Miss.TheVariants.{Baton, Lane}
use Rattle.al_board.specs.declared.view.View.{View}
use Rattle.al_count.specs.Counts.{times, total}
use Rattle.al_board.specs.Counted.{drawn_times}
use Rattle.al_board.specs.Core.{piece_of}
use Rattle.al_board.specs.Journal.{Account, account, entered, adding, merging, MayEnter, IsJournal}
use Rattle.al_board.specs.Rule.{Stage, shown}

module _ {T K A : Type 0} (f : View T K → List A) where
  pub at_of : (vs : List (View T K)) (i : ℕ) (v : View T K) → get_elem? vs i ≡ some v → get_or (map f vs) i [] ≡ f v
  at_of [] i v e = absurd (some-ne-none v (sym e))
  at_of (x ∷ xs) zero v e = ap f (some-injective x v e)
  at_of (x ∷ xs) (suc i) v e = at_of xs i v e

  -- the lists of all views, where one has f of this
  pub set_all : (vs : List (View T K)) (i : ℕ) (w : View T K) (l : List A) → f w ≡ l → map f (set vs i w) ≡ set (map f vs) i l
  set_all vs i w l e = map-set f vs i w ∙ ap (set (map f vs) i) e

  pub same_all : (vs : List (View T K)) (i : ℕ) (v w : View T K) → get_elem? vs i ≡ some v → f w ≡ f v → map f (set vs i w) ≡ map f vs
  same_all vs i v w at e = set_all vs i w (f v) e ∙ set_again (map f vs) i (f v) (at_map f vs i v at)

  -- one view has one thing more
  pub add_all : (vs : List (View T K)) (i : ℕ) (v w : View T K) (x : A) → get_elem? vs i ≡ some v → f w ≡ f v ++ x ∷ []
      → adding (map f vs) i x ≡ map f (set vs i w)
  add_all vs i v w x at e = ap (λ (l : List A). set (map f vs) i (l ++ x ∷ [])) (at_of vs i v at) ∙ sym (set_all vs i w (f v ++ x ∷ []) e)

  -- a view with nothing is added
  pub more_all : (vs : List (View T K)) (i : ℕ) (v w u : View T K) → get_elem? vs i ≡ some v → f w ≡ f v → f u ≡ []
      → map f vs ++ [] ∷ [] ≡ map f (set vs i w ++ u ∷ [])
  more_all vs i v w u at e none = sym (map-append f (set vs i w) (u ∷ []) ∙ (λ j. same_all vs i v w at e j ++ none j ∷ []))

  -- one view has the lists of two, and the other nothing
  pub merge_all : (vs : List (View T K)) (i j : ℕ) (v u w spent : View T K) → get_elem? vs i ≡ some v → get_elem? vs j ≡ some u → f w ≡ f v ++ f u
      → f spent ≡ []
      → merging (map f vs) i j ≡ map f (set (set vs i w) j spent)
  merge_all vs i j v u w spent at there e none =
      sym (set_all (set vs i w) j spent [] none
      ∙ ap (λ (l : List (List A)). set l j [])
      (set_all vs i w (f v ++ f u) e ∙ ap (set (map f vs) i) (λ k. sym (at_of vs i v at) k ++ sym (at_of vs j u there) k)))

  -- one view has what it had, and the other nothing
  pub clear_all : (vs : List (View T K)) (i j : ℕ) (v w spent : View T K) → get_elem? vs i ≡ some v → f w ≡ f v → f spent ≡ []
      → set (map f vs) j [] ≡ map f (set (set vs i w) j spent)
  clear_all vs i j v w spent at e none = sym (set_all (set vs i w) j spent [] none ∙ ap (λ (l : List (List A)). set l j []) (same_all vs i v w at e))

-- how many lanes are taken and judged after an entry, who has the baton then, and what all views missed and gave
record BatonEntry (T : Type 0) : Type 0 where
  pub entry : Entry T
  pub taken : ℕ
  pub judged : ℕ
  pub holder : Option ℕ
  pub misses : List (List Miss)
  pub given : List (List ℕ)

module _ {T K : Type 0} where
  abbrev drawn_list : View T K → List ℕ
  drawn_list v = v.drawn

  abbrev put_list : View T K → List ℕ
  put_list v = v.put

  abbrev miss_list : View T K → List Miss
  miss_list v = v.misses

  abbrev given_list : View T K → List ℕ
  given_list v = v.given

  -- a view of a list, and what becomes of it
  pub record ChangedView (vs : List (View T K)) : Type 0 where
    pub id : ℕ
    pub old : View T K
    pub new : View T K
    pub at : get_elem? vs id ≡ some old

  -- the views then
  abbrev pub views_after : (vs : List (View T K)) → ChangedView vs → List (View T K)
  views_after vs c = set vs c.id c.new

  -- what a view drew, put, missed and gave is this
  pub record HasLists (v : View T K) (drawn put : List ℕ) (misses : List Miss) (given : List ℕ) : Type 0 where
    pub drawn_are : v.drawn ≡ drawn
    pub put_are : v.put ≡ put
    pub misses_are : v.misses ≡ misses
    pub given_are : v.given ≡ given

  -- the lists of a view stay
  abbrev pub StaySame : View T K → View T K → Type 0
  StaySame v w = HasLists w v.drawn v.put v.misses v.given

  abbrev pub stay_same : {v : View T K} → StaySame v v
  stay_same = record { drawn_are = refl; put_are = refl; misses_are = refl; given_are = refl }

  below_all : (vs : List (View T K)) (i : ℕ) (v : View T K) → get_elem? vs i ≡ some v → i < length (map drawn_list vs)
  below_all [] i v e = absurd (some-ne-none v (sym e))
  below_all (x ∷ xs) zero v e = omega arith
  below_all (x ∷ xs) (suc i) v e = let ih = below_all xs i v e in omega arith

  -- a number that no view has drawn stands in no list of drawn numbers
  pub nobody_drew : (x : ℕ) (vs : List (View T K)) (i : ℕ) → total (drawn_times x) vs ≡ 0 → times x (get_or (map drawn_list vs) i []) ≡ 0
  nobody_drew x [] i e = refl
  nobody_drew x (v ∷ vs) zero e = omega arith
  nobody_drew x (v ∷ vs) (suc i) e = nobody_drew x vs i (omega arith)

  module _ (fits : ℕ → T → Type 0) (n : ℕ) where
    -- the journal is one, and leads to this
    abbrev pub IsTold : Stage T → Option ℕ → List (View T K) → List (Entry T) → Type 0
    IsTold g o vs h = IsJournal fits n h × (account n h ≡ shown g o vs)

    -- the entry may come, and leads to this
    pub told_entry : (g g' : Stage T) (o o' : Option ℕ) (vs vs' : List (View T K)) (h : List (Entry T)) (e : Entry T)
        → MayEnter fits n e (shown g o vs) → entered n e (shown g o vs) ≡ shown g' o' vs' → IsTold g o vs h → IsTold g' o' vs' (e ∷ h)
    told_entry g g' o o' vs vs' h e may leads s = ((subst (λ (a : Account T). MayEnter fits n e a) (sym s.1) may, s.0), ap (entered n e) s.1 ∙ leads)

    -- no entry
    pub told_same : (g : Stage T) (o : Option ℕ) (vs : List (View T K)) (h : List (Entry T)) (c : ChangedView vs) → StaySame c.old c.new
        → IsTold g o vs h → IsTold g o (views_after vs c) h
    told_same g o vs h c are s = (
      s.0,
      s.1 ∙ (λ i. record {
        drawn = g.draws;
        own = sym (same_all drawn_list vs c.id c.old c.new c.at are.drawn_are) i;
        put = sym (same_all put_list vs c.id c.old c.new c.at are.put_are) i;
        misses = sym (same_all miss_list vs c.id c.old c.new c.at are.misses_are) i;
        given = sym (same_all given_list vs c.id c.old c.new c.at are.given_are) i;
        pieces = g.pieces;
        taken = g.taken;
        judged = g.judged;
        holder = o;
      }),
    )

    -- a draw
    pub told_draw : (g : Stage T) (o : Option ℕ) (vs : List (View T K)) (h : List (Entry T)) (c : ChangedView vs)
        → HasLists c.new (cond (nat_lt g.draws n) (c.old.drawn ++ g.draws ∷ []) c.old.drawn) c.old.put c.old.misses c.old.given
        → IsTold g o vs h → IsTold record g { draws = g.draws + 1 } o (views_after vs c) (Drew c.id ∷ h)
    told_draw g o vs h c are = told_entry g record g { draws = g.draws + 1 } o o vs (views_after vs c) h (Drew c.id)
        (below_all vs c.id c.old c.at)
        (λ i. record {
          drawn = g.draws + 1;
          own = own (nat_lt g.draws n) are.drawn_are i;
          put = sym (same_all put_list vs c.id c.old c.new c.at are.put_are) i;
          misses = sym (same_all miss_list vs c.id c.old c.new c.at are.misses_are) i;
          given = sym (same_all given_list vs c.id c.old c.new c.at are.given_are) i;
          pieces = g.pieces;
          taken = g.taken;
          judged = g.judged;
          holder = o;
        })
      where
        own : (b : Bool) → c.new.drawn ≡ cond b (c.old.drawn ++ g.draws ∷ []) c.old.drawn
            → cond b (adding (map drawn_list vs) c.id g.draws) (map drawn_list vs) ≡ map drawn_list (views_after vs c)
        own true e = add_all drawn_list vs c.id c.old c.new g.draws c.at e
        own false e = sym (same_all drawn_list vs c.id c.old c.new c.at e)

    -- the view may put the piece into the lane, which has none
    pub record MayFill (g : Stage T) (v : View T K) (lane : ℕ) (piece : T) : Type 0 where
      pub has : 1 ≤ times lane v.drawn
      pub not_put : times lane v.put ≡ 0
      pub fit : fits lane piece
      pub none : piece_of lane g.pieces ≡ None

    -- a put
    pub told_put : (g : Stage T) (o : Option ℕ) (vs : List (View T K)) (h : List (Entry T)) (c : ChangedView vs) (lane : ℕ) (piece : T)
        → HasLists c.new c.old.drawn (c.old.put ++ lane ∷ []) c.old.misses c.old.given → MayFill g c.old lane piece
        → IsTold g o vs h → IsTold record g { pieces = (lane, piece) ∷ g.pieces } o (views_after vs c) (Put c.id lane piece ∷ h)
    told_put g o vs h c lane piece are may =
        told_entry g record g { pieces = (lane, piece) ∷ g.pieces } o o vs (views_after vs c) h (Put c.id lane piece) (
          record {
            is_pass = below_all vs c.id c.old c.at;
            drawn = subst (λ (l : List ℕ). 1 ≤ times lane l) (sym (at_of drawn_list vs c.id c.old c.at)) may.has;
            not_put = subst (λ (l : List ℕ). times lane l ≡ 0) (sym (at_of put_list vs c.id c.old c.at)) may.not_put;
            fit = may.fit;
          },
          may.none,
        )
        (λ i. record {
          drawn = g.draws;
          own = sym (same_all drawn_list vs c.id c.old c.new c.at are.drawn_are) i;
          put = add_all put_list vs c.id c.old c.new lane c.at are.put_are i;
          misses = sym (same_all miss_list vs c.id c.old c.new c.at are.misses_are) i;
          given = sym (same_all given_list vs c.id c.old c.new c.at are.given_are) i;
          pieces = (lane, piece) ∷ g.pieces;
          taken = g.taken;
          judged = g.judged;
          holder = o;
        })

    -- a split
    pub told_split : (g : Stage T) (o : Option ℕ) (vs : List (View T K)) (h : List (Entry T)) (c : ChangedView vs) (u : View T K)
        → StaySame c.old c.new → HasLists u [] [] [] []
        → IsTold g o vs h → IsTold g o (views_after vs c ++ u ∷ []) (Split c.id ∷ h)
    told_split g o vs h c u are none =
        told_entry g g o o vs (views_after vs c ++ u ∷ []) h (Split c.id) (below_all vs c.id c.old c.at) (λ i. record {
          drawn = g.draws;
          own = more_all drawn_list vs c.id c.old c.new u c.at are.drawn_are none.drawn_are i;
          put = more_all put_list vs c.id c.old c.new u c.at are.put_are none.put_are i;
          misses = more_all miss_list vs c.id c.old c.new u c.at are.misses_are none.misses_are i;
          given = more_all given_list vs c.id c.old c.new u c.at are.given_are none.given_are i;
          pieces = g.pieces;
          taken = g.taken;
          judged = g.judged;
          holder = o;
        })

    -- a view that another takes in, and what is left of it
    pub record TakenIn (vs : List (View T K)) (c : ChangedView vs) : Type 0 where
      pub id : ℕ
      pub old : View T K
      pub spent : View T K
      pub at : get_elem? vs id ≡ some old
      pub apart : id ≢ c.id
      pub none : HasLists spent [] [] [] []

    -- a join
    pub told_join : (g : Stage T) (o : Option ℕ) (vs : List (View T K)) (h : List (Entry T)) (c : ChangedView vs) (t : TakenIn vs c)
        → HasLists c.new (c.old.drawn ++ t.old.drawn) (c.old.put ++ t.old.put) c.old.misses c.old.given
        → IsTold g o vs h → IsTold g o (set (views_after vs c) t.id t.spent) (Joined c.id t.id ∷ h)
    told_join g o vs h c t are =
        told_entry g g o o vs (set (views_after vs c) t.id t.spent) h (Joined c.id t.id)
        (below_all vs c.id c.old c.at, below_all vs t.id t.old t.at, t.apart)
        (λ i. record {
          drawn = g.draws;
          own = merge_all drawn_list vs c.id t.id c.old t.old c.new t.spent c.at t.at are.drawn_are t.none.drawn_are i;
          put = merge_all put_list vs c.id t.id c.old t.old c.new t.spent c.at t.at are.put_are t.none.put_are i;
          misses = clear_all miss_list vs c.id t.id c.old c.new t.spent c.at are.misses_are t.none.misses_are i;
          given = clear_all given_list vs c.id t.id c.old c.new t.spent c.at are.given_are t.none.given_are i;
          pieces = g.pieces;
          taken = g.taken;
          judged = g.judged;
          holder = o;
        })

    -- such an entry, by which a view's work stays
    record IsBatonEntry (g : Stage T) (o : Option ℕ) (vs : List (View T K)) (c : ChangedView vs) (x : BatonEntry T) : Type 0 where
      pub drawn_are : c.new.drawn ≡ c.old.drawn
      pub put_are : c.new.put ≡ c.old.put
      pub misses_are : x.misses ≡ map miss_list (views_after vs c)
      pub given_are : x.given ≡ map given_list (views_after vs c)
      pub may : MayEnter fits n x.entry (shown g o vs)
      pub leads : entered n x.entry (shown g o vs)
          ≡ record (shown g o vs) { misses = x.misses; given = x.given; taken = x.taken; judged = x.judged; holder = x.holder }

    told_baton : (g : Stage T) (o : Option ℕ) (vs : List (View T K)) (h : List (Entry T)) (c : ChangedView vs) (x : BatonEntry T)
        → IsBatonEntry g o vs c x
        → IsTold g o vs h → IsTold record g { taken = x.taken; judged = x.judged } x.holder (views_after vs c) (x.entry ∷ h)
    told_baton g o vs h c x is =
        told_entry g record g { taken = x.taken; judged = x.judged } o x.holder vs (views_after vs c) h x.entry is.may (is.leads ∙ (λ i. record {
          drawn = g.draws;
          own = sym (same_all drawn_list vs c.id c.old c.new c.at is.drawn_are) i;
          put = sym (same_all put_list vs c.id c.old c.new c.at is.put_are) i;
          misses = is.misses_are i;
          given = is.given_are i;
          pieces = g.pieces;
          taken = x.taken;
          judged = x.judged;
          holder = x.holder;
        }))

    -- the baton is seized
    pub told_seized : (g : Stage T) (vs : List (View T K)) (h : List (Entry T)) (c : ChangedView vs) → StaySame c.old c.new → 1 ≤ length c.old.put
        → IsTold g None vs h → IsTold g (Some c.id) (views_after vs c) (Seized c.id ∷ h)
    told_seized g vs h c are has = told_baton g None vs h c
        record { entry = Seized c.id; taken = g.taken; judged = g.judged; holder = Some c.id; misses = map miss_list vs; given = map given_list vs }
        record {
          drawn_are = are.drawn_are;
          put_are = are.put_are;
          misses_are = sym (same_all miss_list vs c.id c.old c.new c.at are.misses_are);
          given_are = sym (same_all given_list vs c.id c.old c.new c.at are.given_are);
          may = (
            below_all vs c.id c.old c.at,
            subst (λ (l : List ℕ). 1 ≤ length l) (sym (at_of put_list vs c.id c.old c.at)) has,
            refl,
          );
          leads = refl;
        }

    -- it is met
    pub told_met : (g : Stage T) (q : ℕ) (vs : List (View T K)) (h : List (Entry T)) (c : ChangedView vs)
        → HasLists c.new c.old.drawn c.old.put (c.old.misses ++ Baton ∷ []) c.old.given → q ≢ c.id
        → IsTold g (Some q) vs h → IsTold g (Some q) (views_after vs c) (Met c.id ∷ h)
    told_met g q vs h c are apart = told_baton g (Some q) vs h c
        record {
          entry = Met c.id;
          taken = g.taken;
          judged = g.judged;
          holder = Some q;
          misses = adding (map miss_list vs) c.id Baton;
          given = map given_list vs;
        }
        record {
          drawn_are = are.drawn_are;
          put_are = are.put_are;
          misses_are = add_all miss_list vs c.id c.old c.new Baton c.at are.misses_are;
          given_are = sym (same_all given_list vs c.id c.old c.new c.at are.given_are);
          may = (below_all vs c.id c.old c.at, (q, refl, apart));
          leads = refl;
        }

    -- the piece of the next lane is taken
    pub told_took : (g : Stage T) (vs : List (View T K)) (h : List (Entry T)) (c : ChangedView vs) (piece : T) → StaySame c.old c.new
        → piece_of g.taken g.pieces ≡ Some piece
        → IsTold g (Some c.id) vs h → IsTold record g { taken = g.taken + 1 } (Some c.id) (views_after vs c) (Took c.id ∷ h)
    told_took g vs h c piece are its = told_baton g (Some c.id) vs h c
        record { entry = Took c.id; taken = g.taken + 1; judged = g.judged; holder = Some c.id; misses = map miss_list vs; given = map given_list vs }
        record {
          drawn_are = are.drawn_are;
          put_are = are.put_are;
          misses_are = sym (same_all miss_list vs c.id c.old c.new c.at are.misses_are);
          given_are = sym (same_all given_list vs c.id c.old c.new c.at are.given_are);
          may = (refl, (piece, its));
          leads = refl;
        }

    -- there is none
    pub told_skipped : (g : Stage T) (vs : List (View T K)) (h : List (Entry T)) (c : ChangedView vs)
        → HasLists c.new c.old.drawn c.old.put (c.old.misses ++ Lane g.taken ∷ []) c.old.given → g.taken < n → piece_of g.taken g.pieces ≡ None
        → IsTold g (Some c.id) vs h → IsTold g (Some c.id) (views_after vs c) (Skipped c.id ∷ h)
    told_skipped g vs h c are low none = told_baton g (Some c.id) vs h c
        record {
          entry = Skipped c.id;
          taken = g.taken;
          judged = g.judged;
          holder = Some c.id;
          misses = adding (map miss_list vs) c.id (Lane g.taken);
          given = map given_list vs;
        }
        record {
          drawn_are = are.drawn_are;
          put_are = are.put_are;
          misses_are = add_all miss_list vs c.id c.old c.new (Lane g.taken) c.at are.misses_are;
          given_are = sym (same_all given_list vs c.id c.old c.new c.at are.given_are);
          may = (refl, low, none);
          leads = refl;
        }

    -- the baton is given back
    pub told_handed : (g : Stage T) (vs : List (View T K)) (h : List (Entry T)) (c : ChangedView vs)
        → HasLists c.new c.old.drawn c.old.put c.old.misses (c.old.given ++ g.taken ∷ [])
        → IsTold g (Some c.id) vs h → IsTold record g { judged = g.taken } None (views_after vs c) (Handed c.id ∷ h)
    told_handed g vs h c are = told_baton g (Some c.id) vs h c
        record {
          entry = Handed c.id;
          taken = g.taken;
          judged = g.taken;
          holder = None;
          misses = map miss_list vs;
          given = adding (map given_list vs) c.id g.taken;
        }
        record {
          drawn_are = are.drawn_are;
          put_are = are.put_are;
          misses_are = sym (same_all miss_list vs c.id c.old c.new c.at are.misses_are);
          given_are = add_all given_list vs c.id c.old c.new g.taken c.at are.given_are;
          may = refl;
          leads = refl;
        }
