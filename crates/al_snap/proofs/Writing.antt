-- What a write, an object more or an object less makes of what a chunk sees.
use Rattle.std.proofs.Common.{◌≡◌, ◌≢◌, ℕ, Bool, true, false, ◌||◌, cond, List, Option, Some, None, is_some, slice_set, refl, sym, ap, ◌∙◌}
use Rattle.std.specs.Prelude.{option_map}
use Rattle.std.specs.Option.{option_and_then}
use Rattle.std.specs.FinMap as map
use Rattle.std.specs.FinMap.{FinMap}
use Rattle.std.specs.FinSet as set
use Rattle.std.proofs.Math.Bool.{true≢false}
use Rattle.al_core.specs.declared.values.Obj.{Obj}
use Rattle.al_core.specs.declared.values.Val.{Val}
use Rattle.al_core.specs.declared.values.Addr.{Addr}
use Rattle.al_core.specs.declared.values.Addr.TheVariants.{Word, Local}
use Rattle.al_core.specs.Orders.{obj_cmp, obj_eq, addr_cmp}
use Rattle.al_core.specs.Memory.{with_words, put}
use Rattle.al_laws.proofs.Orders.{obj_total, obj_apart, obj_equal, obj_itself}
use Rattle.al_snap.specs.Layers.{Layers, laid, is_among, seen, made_by}
use Rattle.al_snap.proofs.Laying.{laid_other, laid_set}
use Rattle.al_snap.proofs.Seen.{first_of, get_seen, below_seen}

abbrev pub written : Layers → Addr → Val → Layers
written l a v = record l { writes = map.insert l.writes a v }

-- an object that is laid alike by both
same_object : (l : Layers) (a : Addr) (v : Val) (q : Obj) → ((n : ℕ) → Word q n ≢ a)
    → map.get (seen (written l a v)).objects q ≡ map.get (seen l).objects q
same_object l a v q d =
    get_seen (written l a v) q
    ∙ ap (λ (f : List Val → Option (List Val)). option_and_then (λ s. s)
    (first_of (map.get l.own q) (option_map f (map.get l.base.objects q))))
    (λ t ws. cond (is_among l.freed q) None (Some (laid_other l.writes (Word q) a v d ws t)))
    ∙ sym (get_seen l q)

-- ---- a word of an object of the memory below

with_word_get : (objects : FinMap obj_cmp (List Val)) (o : Obj) (w : ℕ) (v : Val) (s : Option (List Val)) (q : Obj)
    → map.get objects o ≡ s
    → map.get (with_words objects o w v s) q ≡ cond (obj_eq q o) (option_map (λ ws. slice_set ws w v) s) (map.get objects q)
with_word_get objects o w v (Some ws) q e = map.get-insert obj_total objects o (slice_set ws w v) q
with_word_get objects o w v None q e =
    elim (obj_eq q o) as (λ b. obj_eq q o ≡ b → map.get objects q ≡ cond b None (map.get objects q)) [
      | true ↦ λ t. ap (map.get objects) (obj_equal q o t) ∙ e
      | false ↦ λ _. refl
    ] refl

number_apart : (o : Obj) (m n : ℕ) → Word o m ≡ Word o n → m ≡ n
number_apart o m n e = cc

both_laid : (writes : FinMap addr_cmp Val) (o : Obj) (w : ℕ) (v : Val) (s : Option (List Val))
    → option_map (laid (map.insert writes (Word o w) v) (Word o) 0) s
    ≡ option_map (λ ws. slice_set ws w v) (option_map (laid writes (Word o) 0) s)
both_laid writes o w v None = refl
both_laid writes o w v (Some ws) = ap (λ l. Some l) (laid_set writes (Word o) (number_apart o) v w ws)

other_object : (q o : Obj) (n w : ℕ) → obj_eq q o ≡ false → Word q n ≢ Word o w
other_object q o n w f e = true≢false (sym (ap (λ p. obj_eq p o) (let g : q ≡ o = cc in g) ∙ obj_itself o) ∙ f)

local_apart : (o : Obj) (w n : ℕ) → Local n ≢ Word o w
local_apart o w n e = cc

word_apart : (q : Obj) (n k : ℕ) → Word q n ≢ Local k
word_apart q n k e = cc

module _ (l : Layers) (o : Obj) (w : ℕ) (v : Val) (absent : map.contains_key l.own o ≡ false) (kept : is_among l.freed o ≡ false) where
  objects_written : (seen (written l (Word o w) v)).objects ≡ with_words (seen l).objects o w v (map.get (seen l).objects o)
  objects_written = map.same_map obj_total obj_apart (seen (written l (Word o w) v)).objects
      (with_words (seen l).objects o w v (map.get (seen l).objects o)) (λ q.
      elim (obj_eq q o) as (λ b. obj_eq q o ≡ b → map.get (seen (written l (Word o w) v)).objects q
      ≡ cond b (option_map (λ ws. slice_set ws w v) (map.get (seen l).objects o)) (map.get (seen l).objects q)) [
        | true ↦ λ t.
            ap (map.get (seen (written l (Word o w) v)).objects) (obj_equal q o t)
            ∙ below_seen (written l (Word o w) v) o absent kept
            ∙ both_laid l.writes o w v (map.get l.base.objects o)
            ∙ ap (option_map (λ ws. slice_set ws w v)) (sym (below_seen l o absent kept))
        | false ↦ λ f. same_object l (Word o w) v q (λ n. other_object q o n w f)
      ] refl
      ∙ sym (with_word_get (seen l).objects o w v (map.get (seen l).objects o) q refl))

  pub seen_written : seen (written l (Word o w) v) ≡ put (seen l) (Word o w) v
  seen_written = λ t. record {
    objects = objects_written t;
    locals = laid_other l.writes Local (Word o w) v (local_apart o w) l.base.locals t;
  }

-- ---- a local

local_number : (m n : ℕ) → Local m ≡ Local n → m ≡ n
local_number m n e = cc

pub seen_local_written : (l : Layers) (k : ℕ) (v : Val) → seen (written l (Local k) v) ≡ put (seen l) (Local k) v
seen_local_written l k v =
    let objects : (seen (written l (Local k) v)).objects ≡ (seen l).objects =
    map.same_map obj_total obj_apart _ _ (λ q. same_object l (Local k) v q (λ n. word_apart q n k)) in
    λ t. record { objects = objects t; locals = laid_set l.writes Local local_number v k l.base.locals t }

-- ---- the names of own objects

pub made_has : (own : FinMap obj_cmp (Option (List Val))) (o : Obj) → set.contains (made_by own) o ≡ map.contains_key own o
made_has own o = set.contains-from_list obj_total (map.keys own) o ∙ sym (map.contains_key-keys own o)

some_cond : (b : Bool) (s : Option (List Val)) (m : Option (Option (List Val))) → is_some (cond b (Some s) m) ≡ (b || is_some m)
some_cond true s m = refl
some_cond false s m = refl

pub made_insert : (own : FinMap obj_cmp (Option (List Val))) (o : Obj) (s : Option (List Val))
    → made_by (map.insert own o s) ≡ set.insert (made_by own) o
made_insert own o s = set.same_set obj_total obj_apart _ _ (λ q.
    made_has (map.insert own o s) q
    ∙ ap is_some (map.get-insert obj_total own o s q)
    ∙ some_cond (obj_eq q o) s (map.get own q)
    ∙ ap (λ b. obj_eq q o || b) (sym (made_has own q))
    ∙ sym (set.contains-insert obj_total (made_by own) o q))

-- a name that is there already
pub made_same : (own : FinMap obj_cmp (Option (List Val))) (o : Obj) (s : Option (List Val)) → map.contains_key own o ≡ true
    → made_by (map.insert own o s) ≡ made_by own
made_same own o s h = set.same_set obj_total obj_apart _ _ (λ q.
    made_has (map.insert own o s) q
    ∙ ap is_some (map.get-insert obj_total own o s q)
    ∙ some_cond (obj_eq q o) s (map.get own q)
    ∙ elim (obj_eq q o) as (λ b. obj_eq q o ≡ b → (b || map.contains_key own q) ≡ map.contains_key own q) [
      | true ↦ λ t. sym h ∙ ap (map.contains_key own) (sym (obj_equal q o t))
      | false ↦ λ _. refl
    ] refl
    ∙ sym (made_has own q))
