-- Planes that are read or written block by block.
use Rattle.std.proofs.Common.{◌≡◌, ℕ, zero, suc, ◌+◌, ◌*◌, ◌<◌, ◌≤◌, Bool, true, false, not, ◌||◌, ◌&&◌, nat_eq, List, [], ◌∷◌, length, take, drop, get_or, bit_and, bit_or, slice_set, refl, sym, ap, ◌∙◌, arith}
use Rattle.std.specs.Simd.{first_chunks}
use Rattle.std.specs.Simd.Lanes.{zip2, fold_l, put_chunk}
use Rattle.std.proofs.lemmas.List.{drop-drop}
use Rattle.std.proofs.lemmas.Nat.{le_or_l}
use Rattle.al_planes.specs.Planes.{planes_meet}

meets_none : (xs : List ℕ) → planes_meet xs [] ≡ false
meets_none [] = refl
meets_none (x ∷ xs) = refl

or_assoc : (a b c : Bool) → (a || (b || c)) ≡ ((a || b) || c)
or_assoc true b c = refl
or_assoc false b c = refl

pub meets_split : (n : ℕ) (xs ys : List ℕ) → planes_meet xs ys ≡ (planes_meet (take n xs) (take n ys) || planes_meet (drop n xs) (drop n ys))
meets_split zero xs ys = refl
meets_split (suc n) [] ys = refl
meets_split (suc n) (x ∷ xs) [] = sym (meets_none (drop n xs))
meets_split (suc n) (x ∷ xs) (y ∷ ys) =
    ap (λ b. not (nat_eq (bit_and x y) 0) || b) (meets_split n xs ys)
    ∙ or_assoc (not (nat_eq (bit_and x y) 0)) (planes_meet (take n xs) (take n ys)) (planes_meet (drop n xs) (drop n ys))

nonzero : (a m : ℕ) → suc a ≤ m → nat_eq m 0 ≡ false
nonzero a zero h = absurd (omega arith)
nonzero a (suc m) h = grind arith

or_zero : (a b : ℕ) → nat_eq (bit_or a b) 0 ≡ (nat_eq a 0 && nat_eq b 0)
or_zero zero b = refl
or_zero (suc a) b = nonzero a (bit_or (suc a) b) (le_or_l (suc a) b) ∙ ap (λ c. c && nat_eq b 0) (sym (nonzero a (suc a) (omega arith)))

and_true : (a : Bool) → a ≡ (a && true)
and_true true = refl
and_true false = refl

and_left : (a b m : Bool) → ((a && b) && not m) ≡ (a && not (not b || m))
and_left true true m = refl
and_left true false m = refl
and_left false b m = refl

fold_zero : (a : ℕ) (xs ys : List ℕ) → nat_eq (fold_l bit_or a (zip2 bit_and xs ys)) 0 ≡ (nat_eq a 0 && not (planes_meet xs ys))
fold_zero a [] ys = and_true (nat_eq a 0)
fold_zero a (x ∷ xs) [] = and_true (nat_eq a 0)
fold_zero a (x ∷ xs) (y ∷ ys) =
    fold_zero (bit_or a (bit_and x y)) xs ys
    ∙ ap (λ b. b && not (planes_meet xs ys)) (or_zero a (bit_and x y))
    ∙ and_left (nat_eq a 0) (nat_eq (bit_and x y) 0) (planes_meet xs ys)

not_not : (b : Bool) → not (not b) ≡ b
not_not true = refl
not_not false = refl

pub some_met : (xs ys : List ℕ) → not (nat_eq (fold_l bit_or 0 (zip2 bit_and xs ys)) 0) ≡ planes_meet xs ys
some_met xs ys = ap not (fold_zero 0 xs ys) ∙ not_not _

-- the chunk at place k
pub chunk_at : (n k m : ℕ) (xs : List ℕ) → k < m → get_or (first_chunks n m xs) k [] ≡ take n (drop (k * n) xs)
chunk_at n k zero xs h = absurd (omega arith)
chunk_at n zero (suc m) xs h = let e : 0 ≡ 0 * n = omega arith in ap (λ (j : ℕ). take n (drop j xs)) e
chunk_at n (suc k) (suc m) xs h =
    let e : n + k * n ≡ suc k * n = omega arith in
    chunk_at n k m (drop n xs) (omega arith) ∙ ap (take n) (drop-drop (k * n) n xs ∙ ap (λ (j : ℕ). drop j xs) e)

-- the first i places joined
abbrev pub progress : ℕ → List ℕ → List ℕ → List ℕ
progress zero xs ys = xs
progress (suc i) [] ys = []
progress (suc i) (x ∷ xs) [] = x ∷ xs
progress (suc i) (x ∷ xs) (y ∷ ys) = bit_or x y ∷ progress i xs ys

pub length-progress : (i : ℕ) (xs ys : List ℕ) → length (progress i xs ys) ≡ length xs
length-progress zero xs ys = refl
length-progress (suc i) [] ys = refl
length-progress (suc i) (x ∷ xs) [] = refl
length-progress (suc i) (x ∷ xs) (y ∷ ys) = ap (λ (j : ℕ). suc j) (length-progress i xs ys)

first_block : (n : ℕ) (xs ys : List ℕ) → put_chunk 0 xs (zip2 bit_or (take n xs) (take n ys)) ≡ progress n xs ys
first_block zero [] ys = refl
first_block zero (x ∷ xs) ys = refl
first_block (suc n) [] ys = refl
first_block (suc n) (x ∷ xs) [] = refl
first_block (suc n) (x ∷ xs) (y ∷ ys) = ap (λ l. bit_or x y ∷ l) (first_block n xs ys)

-- a block more
pub next_block : (i n : ℕ) (xs ys : List ℕ) (j : ℕ) → i + n ≡ j → i + n ≤ length xs → i + n ≤ length ys
    → put_chunk i (progress i xs ys) (zip2 bit_or (take n (drop i (progress i xs ys))) (take n (drop i ys))) ≡ progress j xs ys
next_block zero n xs ys j e h k = let d : n ≡ j = omega arith in first_block n xs ys ∙ ap (λ (k : ℕ). progress k xs ys) d
next_block (suc i) n [] ys j e h k = absurd (omega arith)
next_block (suc i) n (x ∷ xs) [] j e h k = absurd (omega arith)
next_block (suc i) n (x ∷ xs) (y ∷ ys) zero e h k = absurd (omega arith)
next_block (suc i) n (x ∷ xs) (y ∷ ys) (suc j) e h k = let d : i + n ≡ j =
    omega arith in ap (λ l. bit_or x y ∷ l) (next_block i n xs ys j d (omega arith) (omega arith))

-- a place more
pub next_place : (i : ℕ) (xs ys : List ℕ) → i < length xs → i < length ys
    → slice_set (progress i xs ys) i (bit_or (get_or (progress i xs ys) i 0) (get_or ys i 0)) ≡ progress (suc i) xs ys
next_place i [] ys h k = absurd (omega arith)
next_place i (x ∷ xs) [] h k = absurd (omega arith)
next_place zero (x ∷ xs) (y ∷ ys) h k = refl
next_place (suc i) (x ∷ xs) (y ∷ ys) h k = ap (λ l. bit_or x y ∷ l) (next_place i xs ys (omega arith) (omega arith))

pub whole : (xs ys : List ℕ) → length xs ≡ length ys → progress (length ys) xs ys ≡ zip2 bit_or xs ys
whole [] [] h = refl
whole [] (y ∷ ys) h = absurd (omega arith)
whole (x ∷ xs) [] h = absurd (omega arith)
whole (x ∷ xs) (y ∷ ys) h = ap (λ l. bit_or x y ∷ l) (whole xs ys (omega arith))

-- whether the planes from block k on meet, from whether that block's do
pub blocks_met : (n k m : ℕ) (xs ys : List ℕ) (us vs : List (List ℕ)) → us ≡ first_chunks n m xs → vs ≡ first_chunks n m ys → k < m
    → planes_meet (drop (k * n) xs) (drop (k * n) ys) ≡
    (planes_meet (get_or us k []) (get_or vs k []) || planes_meet (drop ((k + 1) * n) xs) (drop ((k + 1) * n) ys))
blocks_met n k m xs ys us vs ea eb h =
    let next : k * n + n ≡ (k + 1) * n = omega arith in
    let x : get_or us k [] ≡ take n (drop (k * n) xs) = ap (λ l. get_or l k []) ea ∙ chunk_at n k m xs h in
    let y : get_or vs k [] ≡ take n (drop (k * n) ys) = ap (λ l. get_or l k []) eb ∙ chunk_at n k m ys h in
    meets_split n (drop (k * n) xs) (drop (k * n) ys)
    ∙ (λ t. planes_meet (sym x t) (sym y t) || planes_meet ((drop-drop n (k * n) xs ∙ ap (λ (j : ℕ). drop j xs) next) t)
    ((drop-drop n (k * n) ys ∙ ap (λ (j : ℕ). drop j ys) next) t))
