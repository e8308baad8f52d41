-- The stack and the locals among the cells.
use Rattle.std.proofs.Common.{◌≡◌, ℕ, suc, ◌+◌, ◌-◌, ◌<◌, ◌≤◌, List, [], ◌∷◌, ◌++◌, length, take, drop, get_or, reverse, sym, ap, ◌∙◌, arith, length-drop}
use Rattle.std.specs.Prelude.{set, slice_set, pos}
use Rattle.std.proofs.Math.Seq.{take-suc, take-suc-set, take-set-lt, take-append_seam, drop-append_seam}
use Rattle.std.proofs.lemmas.List.{drop-set-lt, drop-set-add, take-set-le, reverse-append, reverse-reverse, length-reverse, length-set, get_or-drop, take-append-drop, drop-take, drop-drop, take-take, length-take-le}
use Rattle.al_core.specs.declared.values.Val.{Val}
use Rattle.al_core.specs.declared.values.Val.TheVariants.{Int}
use Rattle.al_core.specs.Action.{Private, AllPrivate}
use Rattle.al_code.specs.Machine.{top, below}
use Rattle.al_exec.specs.declared.active.Left.{Left}
use Rattle.al_exec.specs.Active.{Active, active_in, private_of}
use Rattle.al_exec.specs.Frames.{Opened, Resumed}

-- ---- a list read backwards

one_more : (xs : List Val) (n : ℕ) (v : Val) → n < length xs → reverse (take (suc n) xs) ≡ get_or xs n v ∷ reverse (take n xs)
one_more xs n v h = ap reverse (take-suc xs n v h) ∙ reverse-append (take n xs) (get_or xs n v ∷ [])

one_set : (xs : List Val) (n : ℕ) (v : Val) → n < length xs → reverse (take (suc n) (set xs n v)) ≡ v ∷ reverse (take n xs)
one_set xs n v h = ap reverse (take-suc-set xs n v h) ∙ reverse-append (take n xs) (v ∷ [])

-- the first ones of a list read backwards are its last ones
last_ones : (l : List Val) (n : ℕ) → n ≤ length l → reverse (take n (reverse l)) ≡ drop (length l - n) l
last_ones l n h =
    let m = length l - n in
    let size : length (reverse (drop m l)) ≡ n = omega (arith, length-reverse (drop m l), length-drop m l) in
    let split : reverse l ≡ reverse (drop m l) ++ reverse (take m l) = ap reverse (sym (take-append-drop m l)) ∙ reverse-append (take m l) (drop m l) in
    ap (λ x. reverse (take n x)) split
    ∙ ap (λ k. reverse (take k (reverse (drop m l) ++ reverse (take m l)))) (sym size)
    ∙ ap reverse (take-append_seam (reverse (drop m l)) (reverse (take m l)))
    ∙ reverse-reverse (drop m l)

-- and what follows them are its first ones
first_ones : (l : List Val) (n : ℕ) → n ≤ length l → drop n (reverse l) ≡ reverse (take (length l - n) l)
first_ones l n h =
    let m = length l - n in
    let size : length (reverse (drop m l)) ≡ n = omega (arith, length-reverse (drop m l), length-drop m l) in
    let split : reverse l ≡ reverse (drop m l) ++ reverse (take m l) = ap reverse (sym (take-append-drop m l)) ∙ reverse-append (take m l) (drop m l) in
    ap (drop n) split
    ∙ ap (λ k. drop k (reverse (drop m l) ++ reverse (take m l))) (sym size)
    ∙ drop-append_seam (reverse (drop m l)) (reverse (take m l))

module _ (cells : List Val) (place base floor top : ℕ) (own : Private) (budget : ℕ) where
  -- ---- the stack

  pub pushed : (v : Val) → base ≤ floor → floor ≤ top → top < length cells
      → active_in (slice_set cells top v) place base floor (top + 1) own budget
      ≡ record (active_in cells place base floor top own budget) { stack = v ∷ reverse (take (top - floor) (drop floor cells)); height = top - floor + 1 }
  pushed v from to room =
      let n = top - floor in
      let at : top ≡ floor + n = omega arith in
      let size : n < length (drop floor cells) = omega (arith, length-drop floor cells) in
      let high : top + 1 - floor ≡ n + 1 = omega arith in
      let next : n + 1 ≡ suc n = omega arith in
      let stack : reverse (take (top + 1 - floor) (drop floor (set cells top v))) ≡ v ∷ reverse (take n (drop floor cells)) =
      ap (λ m. reverse (take m (drop floor (set cells top v)))) (high ∙ next)
      ∙ ap (λ k. reverse (take (suc n) (drop floor (set cells k v)))) at
      ∙ ap (λ l. reverse (take (suc n) l)) (drop-set-add floor cells n v)
      ∙ one_set (drop floor cells) n v size in
      let low = take-set-le base cells top v (omega arith) in
      let locals : take (floor - base) (drop base (set cells top v)) ≡ take (floor - base) (drop base cells) =
      let away : top ≡ base + (top - base) = omega arith in
      ap (λ k. take (floor - base) (drop base (set cells k v))) away ∙ ap (take (floor - base)) (drop-set-add base cells (top - base) v)
      ∙ take-set-le (floor - base) (drop base cells) (top - base) v (omega arith) in
      λ j. record {
        place = place;
        below = low j;
        locals = locals j;
        own = own;
        stack = stack j;
        height = high j;
        room = length-set cells top v j - floor;
        size = length-set cells top v j;
        budget = budget;
      }

  -- the value at the top, and what is left below it
  popped : floor < top → top ≤ length cells → (v : Val)
      → reverse (take (top - floor) (drop floor cells)) ≡ get_or cells (top - 1) v ∷ reverse (take (top - 1 - floor) (drop floor cells))
  popped some room v =
      let n = top - 1 - floor in
      let size : n < length (drop floor cells) = omega (arith, length-drop floor cells) in
      let high : top - floor ≡ suc n = omega arith in
      let at : floor + n ≡ top - 1 = omega arith in
      ap (λ m. reverse (take m (drop floor cells))) high ∙ one_more (drop floor cells) n v size
      ∙ ap (λ x. x ∷ reverse (take n (drop floor cells))) (get_or-drop floor cells n v ∙ ap (λ k. get_or cells k v) at)

  pub pops_value : (v : Val) → floor < top → top ≤ length cells → v ≡ get_or cells (top - 1) v
      → v ≡ Rattle.al_code.specs.Machine.top (active_in cells place base floor top own budget).stack
  pops_value v some room is = is ∙ sym (ap Rattle.al_code.specs.Machine.top (popped some room v))

  pub pops_rest : floor < top → top ≤ length cells
      → active_in cells place base floor (top - 1) own budget
      ≡ record (active_in cells place base floor top own budget) {
        stack = below (active_in cells place base floor top own budget).stack;
        height = top - floor - 1;
      }
  pops_rest some room =
      let high : top - 1 - floor ≡ top - floor - 1 = omega arith in
      λ j. record (active_in cells place base floor top own budget) { stack = sym (ap below (popped some room (Int (pos 0)))) j; height = high j }

  pub tops : (n : ℕ) → floor ≤ top → top ≤ length cells → n ≤ top - floor
      → take n (drop (top - n) cells) ≡ reverse (take n (active_in cells place base floor top own budget).stack)
  tops n to room h =
      let all = take (top - floor) (drop floor cells) in
      let size : length all ≡ top - floor = length-take-le (top - floor) (drop floor cells) (omega (arith, length-drop floor cells)) in
      let m = top - floor - n in
      let same : m + n ≡ top - floor = omega arith in
      let at : floor + m ≡ top - n = omega arith in
      sym (last_ones all n (omega (arith, size))
      ∙ ap (λ k. drop (k - n) all) size
      ∙ ap (λ k. drop m (take k (drop floor cells))) (sym same)
      ∙ drop-take m n (drop floor cells)
      ∙ ap (take n) (drop-drop m floor cells ∙ ap (λ k. drop k cells) at))

  pub dropped : (n : ℕ) → floor ≤ top → top ≤ length cells → n ≤ top - floor
      → active_in cells place base floor (top - n) own budget
      ≡ record (active_in cells place base floor top own budget) {
        stack = drop n (active_in cells place base floor top own budget).stack;
        height = top - floor - n;
      }
  dropped n to room h =
      let all = take (top - floor) (drop floor cells) in
      let size : length all ≡ top - floor = length-take-le (top - floor) (drop floor cells) (omega (arith, length-drop floor cells)) in
      let high : top - n - floor ≡ top - floor - n = omega arith in
      let less : top - floor - n ≤ top - floor = omega arith in
      let stack : reverse (take (top - n - floor) (drop floor cells)) ≡ drop n (reverse all) =
      ap (λ k. reverse (take k (drop floor cells))) high
      ∙ ap reverse (sym (take-take (top - floor - n) (top - floor) (drop floor cells) less))
      ∙ ap (λ k. reverse (take (k - n) all)) (sym size)
      ∙ sym (first_ones all n (omega (arith, size))) in
      λ j. record (active_in cells place base floor top own budget) { stack = stack j; height = high j }

  -- ---- locals

  pub local_set : (k : ℕ) (v : Val) → k < floor - base → floor ≤ top → top ≤ length cells
      → active_in (slice_set cells (base + k) v) place base floor top own budget
      ≡ record (active_in cells place base floor top own budget) { locals = slice_set (take (floor - base) (drop base cells)) k v }
  local_set k v within to room =
      let low = take-set-le base cells (base + k) v (omega arith) in
      let locals : take (floor - base) (drop base (set cells (base + k) v)) ≡ set (take (floor - base) (drop base cells)) k v =
      ap (take (floor - base)) (drop-set-add base cells k v) ∙ take-set-lt (floor - base) (drop base cells) k v within in
      λ j. record (active_in cells place base floor top own budget) {
        below = low j;
        locals = locals j;
        stack = reverse (take (top - floor) (drop-set-lt floor cells (base + k) v (omega arith) j));
        room = length-set cells (base + k) v j - floor;
        size = length-set cells (base + k) v j;
      }

  -- ---- frames

  pub opened : (n start : ℕ) (left : Left) → base ≤ floor → floor ≤ top → top ≤ length cells → n ≤ top - floor
      → left.place ≡ place + 1 → left.base ≡ base → left.floor ≡ floor → private_of left.own ≡ own
      → Opened (active_in cells place base floor top own budget) n start left (active_in cells start (top - n) top top AllPrivate budget)
  opened n start left from to room h at b f o =
      let none : top - top ≡ 0 = omega arith in
      let some : top - (top - n) ≡ n = omega arith in
      let low : base ≤ top - n = omega arith in
      let high : floor ≤ top - n = omega arith in
      record {
        new = λ j. record {
          place = start;
          below = take (top - n) cells;
          locals = (ap (λ k. take k (drop (top - n) cells)) some ∙ tops n to room h) j;
          own = AllPrivate;
          stack = reverse (take (none j) (drop top cells));
          height = none j;
          room = (let e : length cells - top ≡ length cells - floor - (top - floor) = omega arith in e j);
          size = length cells;
          budget = budget;
        };
        place = at;
        own = o;
        below = ap (λ k. take k (take (top - n) cells)) b ∙ take-take base (top - n) cells low;
        locals =
            (λ j. drop (b j) (take (f j) (take (top - n) cells)))
            ∙ ap (drop base) (take-take floor (top - n) cells high)
            ∙ ap (λ k. drop base (take k cells)) (let e : floor ≡ base + (floor - base) = omega arith in e)
            ∙ drop-take base (floor - base) cells;
        stack =
            ap (λ k. reverse (drop k (take (top - n) cells))) f
            ∙ ap (λ k. reverse (drop floor (take k cells))) (let e : top - n ≡ floor + (top - n - floor) = omega arith in e)
            ∙ ap reverse (drop-take floor (top - n - floor) cells)
            ∙ ap (λ (s : Active). s.stack) (dropped n to room h);
        base = omega (arith, b, f, from);
        depth = length-reverse (take (top - floor) (drop floor cells))
            ∙ length-take-le (top - floor) (drop floor cells) (omega (arith, length-drop floor cells));
        size = length-take-le (top - n) cells (omega arith)
            ∙ (let e : top - n ≡ floor + (top - floor - n) = omega arith in e) ∙ ap (λ k. k + (top - floor - n)) (sym f);
      }

  pub resumed : (left : Left) → base ≤ floor → floor ≤ top → top ≤ length cells → left.base ≤ left.floor → left.floor ≤ base
      → Resumed (active_in cells place base floor top own budget) left (active_in cells left.place left.base left.floor base (private_of left.own) budget)
  resumed left from to room low high =
      let size : length (take base cells) ≡ base = length-take-le base cells (omega arith) in
      record {
        new = λ j. record {
          place = left.place;
          below = sym (take-take left.base base cells (omega arith)) j;
          locals = (sym (drop-take left.base (left.floor - left.base) cells)
              ∙ ap (λ k. drop left.base (take k cells)) (let e : left.base + (left.floor - left.base) ≡ left.floor = omega arith in e)
              ∙ ap (drop left.base) (sym (take-take left.floor base cells high))) j;
          own = private_of left.own;
          stack = (ap reverse (sym (drop-take left.floor (base - left.floor) cells))
              ∙ ap (λ k. reverse (drop left.floor (take k cells))) (let e : left.floor + (base - left.floor) ≡ base = omega arith in e)) j;
          height = sym size j - left.floor;
          room = length cells - left.floor;
          size = length cells;
          budget = budget;
        };
        room = omega arith;
      }
