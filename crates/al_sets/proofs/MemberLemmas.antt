-- The set of the addresses of blocks, address by address.
use Rattle.std.proofs.Common.{◌≡◌, ◌≢◌, ℕ, zero, suc, ◌<◌, ◌≤◌, Bool, true, false, ◌&&◌, ◌||◌, cond, nat_eq, nat_lt, List, ◌∷◌, length, get_or, refl, sym, ap, ◌∙◌, inl, inr, arith}
use Rattle.std.specs.List.{list_any}
use Rattle.std.specs.FinSet as set
use Rattle.std.proofs.lemmas.Bool.{ltb-true, lt-ltb, le-ltb}
use Rattle.std.proofs.lemmas.Bool.Decides.{eqb_tells}
use Rattle.std.proofs.lemmas.List.Folds.{list_any_at}
use Rattle.al_core.specs.declared.values.Addr.{Addr}
use Rattle.al_core.specs.declared.values.Addr.TheVariants.{Local}
use Rattle.al_core.specs.Orders.{addr_eq}
use Rattle.al_core.specs.Clash.{meets, meets_lines}
use Rattle.al_core.specs.Lines.{line_of}
use Rattle.al_laws.proofs.Orders.{addr_total, addr_apart, addr_equal, addr_itself}
use Rattle.al_planes.specs.Masks.{bit_in}
use Rattle.al_sets.specs.declared.blocks.Block.{Block}
use Rattle.al_sets.specs.Places.{place_of, offset_of, address_at}
use Rattle.al_sets.specs.Blocks.{CommonAddress, CommonLine, block_has, has_address}
use Rattle.al_sets.specs.Members.{passing, block_members, members}
use Rattle.al_sets.proofs.Truth.{one_of, same_truth, any_map, any_flat}
use Rattle.al_sets.proofs.Placing.{at_offset, offset_below}

-- ---- the offsets of a block

one_more : {X : Type 0} (t : X → Bool) (b : Bool) (x : X) (xs : List X)
    → list_any t (cond b (x ∷ xs) xs) ≡ ((b && t x) || list_any t xs)
one_more t true x xs = refl
one_more t false x xs = refl

here_true : (a c : Bool) → ((a && (c && true)) || false) ≡ (c && a)
here_true true true = refl
here_true true false = refl
here_true false true = refl
here_true false false = refl

here_false : (a c y : Bool) → ((a && (c && false)) || y) ≡ y
here_false true true y = refl
here_false true false y = refl
here_false false c y = refl

same_less : (r m : ℕ) → r ≢ m → nat_lt r m ≡ nat_lt r (suc m)
same_less r m h = same_truth _ _
    (λ e. lt-ltb r (suc m) (let k : r < m = ltb-true r m e in omega arith))
    (λ e. lt-ltb r m (let k : r < suc m = ltb-true r (suc m) e in omega arith))

-- a test that r alone can pass, of the numbers below m that pass p
one_passes : (t p : ℕ → Bool) (c : Bool) (r m : ℕ) → ((n : ℕ) → n < m → t n ≡ (c && nat_eq r n))
    → list_any t (passing p m) ≡ (nat_lt r m && (c && p r))
unfolding passing
one_passes t p c r zero e = ap (λ b. b && (c && p r)) (sym (le-ltb r 0 (omega arith)))
one_passes t p c r (suc m) e =
    let ih = one_passes t p c r m (λ n h. e n (omega arith)) in
    let here = e m (omega arith) in
    one_more t (p m) m (passing p m) ∙ elim (eqb_tells r m) [
      | inl s ↦
          let low : m ≤ r = omega arith in
          let up : r < suc m = omega arith in
          (λ z. (p m && (here ∙ ap (λ b. c && b) s.0) z) || (ih ∙ ap (λ b. b && (c && p r)) (le-ltb r m low)) z)
          ∙ here_true (p m) c
          ∙ ap (λ (k : ℕ). c && p k) (sym s.1)
          ∙ ap (λ b. b && (c && p r)) (sym (lt-ltb r (suc m) up))
      | inr u ↦
          (λ z. (p m && (here ∙ ap (λ b. c && b) u.0) z) || ih z)
          ∙ here_false (p m) c (nat_lt r m && (c && p r))
          ∙ ap (λ b. b && (c && p r)) (same_less r m u.1)
    ]

block_any : (a : Addr) (b : Block) → list_any (addr_eq a) (block_members b) ≡ block_has a b
block_any a b =
    any_map (addr_eq a) (address_at b.place) (passing (bit_in b.masks) 512)
    ∙ one_passes (λ n. addr_eq a (address_at b.place n)) (bit_in b.masks) (addr_eq (place_of a) b.place) (offset_of a) 512
    (λ n h. at_offset a b.place n h)
    ∙ ap (λ c. c && block_has a b) (lt-ltb (offset_of a) 512 (offset_below a))

-- ---- members

pub members_have : (bs : List Block) (a : Addr) → set.contains (members bs) a ≡ has_address bs a
members_have bs a =
    set.contains-from_list addr_total _ a ∙ any_flat (addr_eq a) block_members (block_has a) (block_any a) bs

pub members_insert : (bs cs : List Block) (at : Addr) → ((a : Addr) → has_address cs a ≡ (addr_eq a at || has_address bs a))
    → members cs ≡ set.insert (members bs) at
members_insert bs cs at e = set.same_set addr_total addr_apart _ _ (λ q.
    members_have cs q
    ∙ e q
    ∙ sym (set.contains-insert addr_total (members bs) at q ∙ ap (λ b. addr_eq q at || b) (members_have bs q)))

or_turned : (a b : Bool) → (a || b) ≡ (b || a)
or_turned true true = refl
or_turned true false = refl
or_turned false true = refl
or_turned false false = refl

pub members_union : (bs cs more : List Block)
    → ((a : Addr) → has_address cs a ≡ (has_address more a || has_address bs a)) → members cs ≡ set.union (members bs) (members more)
members_union bs cs more e = set.same_set addr_total addr_apart _ _ (λ q.
    members_have cs q
    ∙ e q
    ∙ or_turned (has_address more q) (has_address bs q)
    ∙ (λ t. sym (members_have bs q) t || sym (members_have more q) t)
    ∙ sym (set.contains-union addr_total (members bs) (members more) q))

-- ---- two sets

pub sets_meet : (bs cs : List Block) → CommonAddress bs cs → meets (members bs) (members cs) ≡ true
unfolding meets
sets_meet bs cs m =
    let a = m.address in
    let all : List Addr = set.items (members bs) in
    let f = one_of (addr_eq a) all (sym (set.contains-items (members bs) a) ∙ members_have bs a ∙ m.in_first) in
    let same = addr_equal a (get_or all f.0 a) (f.2 a) in
    list_any_at (set.contains (members cs)) all f.0 a f.1
    (ap (set.contains (members cs)) (sym same) ∙ members_have cs a ∙ m.in_second)

-- an item of the set is in it
item_in : (bs : List Block) (k : ℕ) (d : Addr) → k < length (set.items (members bs))
    → has_address bs (get_or (set.items (members bs)) k d) ≡ true
item_in bs k d h =
    let x : Addr = get_or (set.items (members bs)) k d in
    sym (members_have bs x) ∙ set.contains-items (members bs) x
    ∙ list_any_at (addr_eq x) (set.items (members bs)) k d h (addr_itself x)

pub sets_met : (bs cs : List Block) → meets (members bs) (members cs) ≡ true → CommonAddress bs cs
unfolding meets
sets_met bs cs h =
    let all : List Addr = set.items (members bs) in
    let f = one_of (set.contains (members cs)) all h in
    let x : Addr = get_or all f.0 (Local 0) in
    record {
      address = x;
      in_first = item_in bs f.0 (Local 0) f.1;
      in_second = sym (members_have cs x) ∙ f.2 (Local 0);
    }

pub common_turned : (bs cs : List Block) → CommonAddress cs bs → CommonAddress bs cs
common_turned bs cs m = record { address = m.address; in_first = m.in_second; in_second = m.in_first }

pub line_turned : (g : ℕ) (bs cs : List Block) → CommonLine g cs bs → CommonLine g bs cs
line_turned g bs cs m =
    record { first = m.second; second = m.first; in_first = m.in_second; in_second = m.in_first; same = sym m.same }

-- where an address is among the items
place_in : (bs : List Block) (a : Addr) → has_address bs a ≡ true
    → (k : ℕ) × (k < length (set.items (members bs))) × ((d : Addr) → a ≡ get_or (set.items (members bs)) k d)
place_in bs a h =
    let all : List Addr = set.items (members bs) in
    let f = one_of (addr_eq a) all (sym (set.contains-items (members bs) a) ∙ members_have bs a ∙ h) in
    (f.0, f.1, λ d. addr_equal a (get_or all f.0 d) (f.2 d))

pub lines_meet : (g : ℕ) (bs cs : List Block) → CommonLine g bs cs → meets_lines g (members bs) (members cs) ≡ true
unfolding meets_lines
lines_meet g bs cs m =
    let x = place_in bs m.first m.in_first in
    let y = place_in cs m.second m.in_second in
    let d : Addr = Local 0 in
    list_any_at _ (set.items (members bs)) x.0 d x.1
    (list_any_at _ (set.items (members cs)) y.0 d y.1
    (ap (λ (a : Addr). addr_eq (line_of g a) (line_of g (get_or (set.items (members cs)) y.0 d))) (sym (x.2 d))
    ∙ ap (λ (b : Addr). addr_eq (line_of g m.first) (line_of g b)) (sym (y.2 d))
    ∙ ap (λ (l : Addr). addr_eq (line_of g m.first) l) (sym m.same)
    ∙ addr_itself (line_of g m.first)))

pub lines_met : (g : ℕ) (bs cs : List Block) → meets_lines g (members bs) (members cs) ≡ true → CommonLine g bs cs
unfolding meets_lines
lines_met g bs cs h =
    let d : Addr = Local 0 in
    let f = one_of _ (set.items (members bs)) h in
    let x : Addr = get_or (set.items (members bs)) f.0 d in
    let s = one_of (λ y. addr_eq (line_of g x) (line_of g y)) (set.items (members cs)) (f.2 d) in
    record {
      first = x;
      second = get_or (set.items (members cs)) s.0 d;
      in_first = item_in bs f.0 d f.1;
      in_second = item_in cs s.0 d s.1;
      same = addr_equal _ _ (s.2 d);
    }

-- ---- answers that are told of two lists of blocks

pub meets_by : (bs cs xs ys : List Block) → xs ≡ bs → ys ≡ cs → (r : Bool) → (r ≡ true → CommonAddress xs ys)
    → (CommonAddress xs ys → r ≡ true) → r ≡ meets (members bs) (members cs)
meets_by bs cs xs ys e f r met every =
    same_truth _ _ (λ h. sets_meet xs ys (met h)) (λ h. every (sets_met xs ys h)) ∙ (λ t. meets (members (e t)) (members (f t)))

pub meets_by_turned : (bs cs xs ys : List Block) → xs ≡ bs → ys ≡ cs → (r : Bool) → (r ≡ true → CommonAddress ys xs)
    → (CommonAddress ys xs → r ≡ true) → r ≡ meets (members bs) (members cs)
meets_by_turned bs cs xs ys e f r met every =
    meets_by bs cs xs ys e f r (λ h. common_turned xs ys (met h)) (λ m. every (common_turned ys xs m))

pub lines_by : (g h : ℕ) → h ≡ g → (bs cs xs ys : List Block) → xs ≡ bs → ys ≡ cs → (r : Bool)
    → (r ≡ true → CommonLine h xs ys) → (CommonLine h xs ys → r ≡ true) → r ≡ meets_lines g (members bs) (members cs)
lines_by g h s bs cs xs ys e f r met every =
    same_truth _ _ (λ k. lines_meet h xs ys (met k)) (λ k. every (lines_met h xs ys k))
    ∙ (λ t. meets_lines (s t) (members (e t)) (members (f t)))

pub lines_by_turned : (g h : ℕ) → h ≡ g → (bs cs xs ys : List Block) → xs ≡ bs → ys ≡ cs → (r : Bool)
    → (r ≡ true → CommonLine h ys xs) → (CommonLine h ys xs → r ≡ true) → r ≡ meets_lines g (members bs) (members cs)
lines_by_turned g h s bs cs xs ys e f r met every =
    lines_by g h s bs cs xs ys e f r (λ k. line_turned h xs ys (met k)) (λ m. every (line_turned h ys xs m))
