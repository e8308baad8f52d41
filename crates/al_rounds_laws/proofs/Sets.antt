-- What it means for sets of addresses not to meet.
use Rattle.std.proofs.Common.{◌≡◌, ℕ, List, [], ◌∷◌, true, false, ◌||◌, refl, sym, ap, ◌∙◌}
use Rattle.std.specs.List.{list_any}
use Rattle.std.specs.FinSet as set
use Rattle.std.specs.FinSet.{FinSet}
use Rattle.std.proofs.Math.Bool.{true≢false}
use Rattle.al_source.specs.declared.annotations.Policy.{Policy}
use Rattle.al_source.specs.declared.annotations.Policy.TheVariants as policy
use Rattle.al_core.specs.declared.values.Addr.{Addr}
use Rattle.al_core.specs.declared.values.Addr.TheVariants.{Word, Head, Local}
use Rattle.al_core.specs.Orders.{addr_cmp, addr_eq}
use Rattle.al_core.specs.Memory.{Memory, AgreeAt}
use Rattle.al_core.specs.Chunk.{Outcome}
use Rattle.al_core.specs.Clash.{meets, meets_lines, clashes}
use Rattle.al_laws.specs.Commits.{IsUntouched}
use Rattle.al_laws.proofs.Orders.{addr_total, addr_equal}
use Rattle.al_laws.proofs.Meeting.{words_meet_by_lines}
use Rattle.al_laws.proofs.Stays.{or_left, or_right}
use Rattle.al_laws.proofs.Untouched.{false_or}
use Rattle.al_rounds_laws.specs.Loops.{LooksAtReads, LooksAtWrites}

contains_any : (b : FinSet addr_cmp) (q : Addr) (items : List Addr) → list_any (addr_eq q) items ≡ true → list_any (set.contains b) items ≡ false
    → set.contains b q ≡ false
contains_any b q [] e f = absurd (true≢false (sym e))
contains_any b q (a ∷ items) e f =
    elim (addr_eq q a) as (λ t. addr_eq q a ≡ t → (t || list_any (addr_eq q) items) ≡ true → set.contains b q ≡ false) [
      | true ↦ λ t e. ap (set.contains b) (addr_equal q a t) ∙ or_left (set.contains b a) (list_any (set.contains b) items) f
      | false ↦ λ t e. contains_any b q items e (or_right (set.contains b a) (list_any (set.contains b) items) f)
    ] refl e

pub not_met : (a b : FinSet addr_cmp) (q : Addr) → meets a b ≡ false → set.contains a q ≡ true → set.contains b q ≡ false
unfolding meets
not_met a b q f e = contains_any b q (set.items a) (sym (set.contains-items a q) ∙ e) f

-- sets that do not meet by lines do not meet by words
apart_by_words : (g : ℕ) (a b : FinSet addr_cmp) → meets_lines g a b ≡ false → meets a b ≡ false
apart_by_words g a b f = false_or (meets a b) (λ t. true≢false (sym (words_meet_by_lines g a b t) ∙ f))

-- ---- policies

-- a chunk that does not clash read nothing of what was written
pub reads_apart : (p : Policy) → LooksAtReads p → (g : ℕ) (o : Outcome) (w : FinSet addr_cmp) → clashes p g o w ≡ false → meets o.reads w ≡ false
reads_apart policy.Full l g o w e = apart_by_words g o.reads w (or_left (meets_lines g o.reads w) (meets_lines g o.touched w) e)
reads_apart policy.Raw l g o w e = apart_by_words g o.reads w e
reads_apart policy.Waw l g o w e = absurd (true≢false (sym l))
reads_apart policy.None l g o w e = absurd (true≢false (sym l))

-- a chunk that does not clash wrote nothing of what was written
pub writes_apart : (p : Policy) → LooksAtWrites p → (g : ℕ) (o : Outcome) (w : FinSet addr_cmp) → clashes p g o w ≡ false → meets o.touched w ≡ false
writes_apart policy.Full l g o w e = apart_by_words g o.touched w (or_right (meets_lines g o.reads w) (meets_lines g o.touched w) e)
writes_apart policy.Raw l g o w e = absurd (true≢false (sym l))
writes_apart policy.Waw l g o w e = apart_by_words g o.touched w e
writes_apart policy.None l g o w e = absurd (true≢false (sym l))

-- ---- unions

pub off_one : (s t : FinSet addr_cmp) (a : Addr) → set.contains (set.union s t) a ≡ false → (set.contains s a ≡ false) × (set.contains t a ≡ false)
off_one s t a e =
    let both = sym (set.contains-union addr_total s t a) ∙ e in
    (or_left (set.contains s a) (set.contains t a) both, or_right (set.contains s a) (set.contains t a) both)

pub off_both : (s t : FinSet addr_cmp) (a : Addr) → IsUntouched (set.union s t) a → IsUntouched s a × IsUntouched t a
off_both s t (Word o w) h =
    let word = off_one s t (Word o w) h.0 in
    let head = off_one s t (Head o) h.1 in
    ((word.0, head.0), (word.1, head.1))
off_both s t (Head o) h = off_one s t (Head o) h
off_both s t (Local k) h = off_one s t (Local k) h

-- ---- memories that agree

pub agree_trans : (l m n : Memory) (a : Addr) → AgreeAt l m a → AgreeAt m n a → AgreeAt l n a
agree_trans l m n (Word o w) e f = e ∙ f
agree_trans l m n (Head o) e f = e ∙ f
agree_trans l m n (Local k) e f = e ∙ f

pub agree_itself : (m : Memory) (a : Addr) → AgreeAt m m a
agree_itself m (Word o w) = refl
agree_itself m (Head o) = refl
agree_itself m (Local k) = refl
