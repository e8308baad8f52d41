-- What is true of the layers of every chunk stays true.
use Rattle.std.proofs.Common.{◌≡◌, ℕ, Bool, true, false, ◌||◌, cond, List, length, Option, Some, None, is_some, slice_get, refl, sym, ap, subst, ◌∙◌, arith}
use Rattle.std.specs.Prelude.{option_map, unwrap_or}
use Rattle.std.specs.FinMap as map
use Rattle.std.specs.FinMap.{FinMap}
use Rattle.std.specs.FinSet as set
use Rattle.std.specs.FinSet.{FinSet}
use Rattle.std.proofs.Math.Bool.{true≢false}
use Rattle.al_core.specs.declared.values.Obj.{Obj}
use Rattle.al_core.specs.declared.values.Val.{Val}
use Rattle.al_core.specs.declared.values.Addr.{Addr}
use Rattle.al_core.specs.declared.values.Addr.TheVariants.{Word, Head, Local}
use Rattle.al_core.specs.Orders.{obj_cmp, obj_eq, addr_cmp, addr_eq}
use Rattle.al_core.specs.Memory.{Memory, value_at, word_in, length_at}
use Rattle.al_laws.proofs.Orders.{obj_total, obj_equal, addr_total, addr_equal}
use Rattle.al_snap.specs.Layers.{Layers, Fits, is_head, laid, is_among, own_has, seen, over}
use Rattle.al_snap.proofs.Laying.{laid_at}
use Rattle.al_snap.proofs.Seen.{freed_seen, below_seen}
use Rattle.al_snap.proofs.Writing.{made_has}

pub fits_by : (l n : Layers) → Fits l → l ≡ n → Fits n
fits_by l n f e = subst Fits e f

none_there : (m : Memory) (a : Addr) → map.contains_key (over m).writes a ≡ true → is_some (value_at m a) ≡ true
none_there m a h = absurd (true≢false (sym h ∙ ap is_some (map.get-empty addr_cmp a)))

pub fits_over : (m : Memory) → Fits (over m)
fits_over m = record {
  apart = λ o h. absurd (true≢false (sym h ∙ ap (λ s. is_some s) (map.get-empty obj_cmp o)));
  same = λ a h. set.contains-empty addr_cmp a ∙ sym (ap is_some (map.get-empty addr_cmp a));
  there = none_there m;
}

-- ---- own objects

cond_some : (b : Bool) (s : Option (List Val)) (m : Option (Option (List Val))) → is_some (cond b (Some s) m) ≡ (b || is_some m)
cond_some true s m = refl
cond_some false s m = refl

module _ (l : Layers) (fits : Fits l) (o : Obj) where
  -- a slot that is set, of a name that the memory below does not have
  set_apart : (s : Option (List Val)) → map.get l.base.objects o ≡ None → (q : Obj)
      → map.contains_key (map.insert l.own o s) q ≡ true → map.get l.base.objects q ≡ None
  set_apart s none q h =
      elim (obj_eq q o) as (λ b. obj_eq q o ≡ b → (b || map.contains_key l.own q) ≡ true → map.get l.base.objects q ≡ None) [
        | true ↦ λ t _. ap (map.get l.base.objects) (obj_equal q o t) ∙ none
        | false ↦ λ _ h. fits.apart q h
      ] refl (sym (ap is_some (map.get-insert obj_total l.own o s q) ∙ cond_some (obj_eq q o) s (map.get l.own q)) ∙ h)

  pub fits_set : (s : Option (List Val)) → map.get l.base.objects o ≡ None → Fits (record l { own = map.insert l.own o s })
  fits_set s none = record { apart = set_apart s none; same = fits.same; there = fits.there }

  set_again : (s : Option (List Val)) → map.get l.base.objects o ≡ None
      → Fits (record l { own = map.insert (map.insert l.own o None) o s })
  set_again s none = record {
    apart = λ q h.
        elim (obj_eq q o) as (λ b. obj_eq q o ≡ b → (b || map.contains_key (map.insert l.own o None) q) ≡ true
        → map.get l.base.objects q ≡ None) [
          | true ↦ λ t _. ap (map.get l.base.objects) (obj_equal q o t) ∙ none
          | false ↦ λ _ h. set_apart None none q h
        ] refl (sym (ap is_some (map.get-insert obj_total (map.insert l.own o None) o s q)
        ∙ cond_some (obj_eq q o) s (map.get (map.insert l.own o None) q)) ∙ h);
    same = fits.same;
    there = fits.there;
  }

  -- a slot that is there already
  pub fits_reset : (own : FinMap obj_cmp (Option (List Val))) (s : Option (List Val)) → own ≡ map.insert l.own o s
      → map.contains_key l.own o ≡ true → Fits (record l { own = own })
  fits_reset own s e h =
      fits_by (record l { own = map.insert l.own o s }) _ (fits_set s (fits.apart o h)) (λ t. record l { own = sym e t })

  -- a slot that is emptied and set again
  pub fits_put_back : (own1 own2 : FinMap obj_cmp (Option (List Val))) (s : Option (List Val)) → map.contains_key l.own o ≡ true
      → own1 ≡ map.insert l.own o None → own2 ≡ map.insert own1 o s → Fits (record l { own = own2 })
  fits_put_back own1 own2 s h e f =
      fits_by (record l { own = map.insert (map.insert l.own o None) o s }) _ (set_again s (fits.apart o h))
      (λ t. record l { own = sym (f ∙ ap (λ m. map.insert m o s) e) t })

  -- ---- a head that is touched

  pub fits_head : Fits (record l { touched = set.insert l.touched (Head o) })
  fits_head = record {
    apart = fits.apart;
    same = λ a h.
        set.contains-insert addr_total l.touched (Head o) a
        ∙ elim (addr_eq a (Head o)) as (λ b. addr_eq a (Head o) ≡ b → (b || set.contains l.touched a) ≡ map.contains_key l.writes a) [
          | true ↦ λ t. absurd (true≢false (sym (ap is_head (addr_equal a (Head o) t)) ∙ h))
          | false ↦ λ _. fits.same a h
        ] refl;
    there = fits.there;
  }

absent_by : (s : Option (List Val)) → is_some (option_map length s) ≡ false → s ≡ None
absent_by None h = refl
absent_by (Some ws) h = absurd (true≢false h)

pub absent : (m : Memory) (o : Obj) → is_some (length_at m o) ≡ false → map.get m.objects o ≡ None
absent m o = absent_by (map.get m.objects o)

module _ (l : Layers) (fits : Fits l) (o : Obj) (touched : FinSet addr_cmp) (head : touched ≡ set.insert l.touched (Head o)) where
  pub fits_freed : (freed : List Obj) → Fits (record l { touched = touched; freed = freed })
  fits_freed freed =
      let f : Fits (record l { touched = touched }) =
      fits_by (record l { touched = set.insert l.touched (Head o) }) _ (fits_head l fits o)
      (λ t. record l { touched = sym head t }) in
      record { apart = f.apart; same = f.same; there = f.there }

  pub fits_touched : (own : FinMap obj_cmp (Option (List Val))) → own ≡ l.own → Fits (record l { touched = touched; own = own })
  fits_touched own e =
      fits_by (record l { touched = touched }) _ (fits_freed l.freed) (λ t. record l { touched = touched; own = sym e t })

  pub fits_added : (own : FinMap obj_cmp (Option (List Val))) (s : Option (List Val)) → own ≡ map.insert l.own o s
      → map.get l.base.objects o ≡ None → Fits (record l { touched = touched; own = own })
  fits_added own s e none =
      fits_by (record l { touched = touched; own = map.insert l.own o s }) _
      (fits_set (record l { touched = touched }) (fits_freed l.freed) o s none)
      (λ t. record l { touched = touched; own = sym e t })

-- ---- a write

cond_value : (b : Bool) (v : Val) (m : Option Val) → is_some (cond b (Some v) m) ≡ (b || is_some m)
cond_value true v m = refl
cond_value false v m = refl

module _ (l : Layers) (fits : Fits l) (at : Addr) (v : Val) where
  has_written : (a : Addr) → map.contains_key (map.insert l.writes at v) a ≡ (addr_eq a at || map.contains_key l.writes a)
  has_written a = ap is_some (map.get-insert addr_total l.writes at v a) ∙ cond_value (addr_eq a at) v (map.get l.writes a)

  pub fits_written : is_some (value_at l.base at) ≡ true
      → Fits (record l { writes = map.insert l.writes at v; touched = set.insert l.touched at })
  fits_written here = record {
    apart = fits.apart;
    same = λ a h.
        set.contains-insert addr_total l.touched at a
        ∙ ap (λ b. addr_eq a at || b) (fits.same a h)
        ∙ sym (has_written a);
    there = λ a h.
        elim (addr_eq a at) as (λ b. addr_eq a at ≡ b → (b || map.contains_key l.writes a) ≡ true → is_some (value_at l.base a) ≡ true) [
          | true ↦ λ t _. ap (λ x. is_some (value_at l.base x)) (addr_equal a at t) ∙ here
          | false ↦ λ _ h. fits.there a h
        ] refl (sym (has_written a) ∙ h);
  }

-- ---- what the chunk sees and did not make is in the memory below

some_laid : (f : Val → Val) (x : Option Val) → is_some (option_map f x) ≡ is_some x
some_laid f None = refl
some_laid f (Some v) = refl

laid_some : (writes : FinMap addr_cmp Val) (at : ℕ → Addr) (k : ℕ) (vs : List Val)
    → is_some (slice_get (laid writes at 0 vs) k) ≡ is_some (slice_get vs k)
laid_some writes at k vs =
    ap is_some (laid_at writes at 0 k k vs (omega arith)) ∙ some_laid (unwrap_or (map.get writes (at k))) (slice_get vs k)

laid_there : (writes : FinMap addr_cmp Val) (o : Obj) (w : ℕ) (s : Option (List Val))
    → is_some (word_in (option_map (laid writes (Word o) 0) s) w) ≡ is_some (word_in s w)
laid_there writes o w None = refl
laid_there writes o w (Some ws) = laid_some writes (Word o) w ws

pub seen_below : (l : Layers) (a : Addr) → own_has l a ≡ false → is_some (value_at (seen l) a) ≡ true
    → is_some (value_at l.base a) ≡ true
seen_below l (Word o w) h there =
    let absent : map.contains_key l.own o ≡ false = sym (made_has l.own o) ∙ h in
    elim (is_among l.freed o) as (λ b. is_among l.freed o ≡ b → is_some (value_at l.base (Word o w)) ≡ true) [
      | true ↦ λ g. absurd (true≢false (sym there ∙ ap (λ s. is_some (word_in s w)) (freed_seen l o absent g)))
      | false ↦ λ g.
          sym (laid_there l.writes o w (map.get l.base.objects o))
          ∙ ap (λ s. is_some (word_in s w)) (sym (below_seen l o absent g))
          ∙ there
    ] refl
seen_below l (Head o) h there = there
seen_below l (Local k) h there = sym (laid_some l.writes Local k l.base.locals) ∙ there

pub fits_put : (l n : Layers) → l ≡ n → Fits l → (at : Addr) (v : Val) → false ≡ own_has n at
    → is_some (value_at (seen n) at) ≡ true → (writes : FinMap addr_cmp Val) → writes ≡ map.insert l.writes at v
    → (before touched : FinSet addr_cmp) → before ≡ l.touched → touched ≡ set.insert before at
    → Fits (record l { writes = writes; touched = touched })
fits_put l n e fits at v h there writes f before touched g k =
    fits_by (record l { writes = map.insert l.writes at v; touched = set.insert l.touched at }) _
    (fits_written l fits at v (ap (λ (l : Layers). is_some (value_at l.base at)) e ∙ seen_below n at (sym h) there))
    (λ t. record l { writes = sym f t; touched = sym (k ∙ ap (λ s. set.insert s at) g) t })
