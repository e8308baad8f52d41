-- What one chunk made another one knows nothing of.
use Rattle.std.proofs.Common.{◌≡◌, ◌≢◌, ℕ, List, Option, Some, None, Bool, true, false, refl, sym, ap, ◌∙◌}
use Rattle.std.specs.Prelude.{if◌then◌else◌, is_some}
use Rattle.std.specs.FinMap as map
use Rattle.std.specs.FinSet as set
use Rattle.std.specs.FinSet.{FinSet}
use Rattle.std.proofs.Math.Bool.{true≢false}
use Rattle.al_core.specs.declared.choices.Red.{Red}
use Rattle.al_core.specs.declared.values.Val.{Val}
use Rattle.al_core.specs.declared.values.Addr.TheVariants.{Word}
use Rattle.al_core.specs.declared.values.Obj.{Obj}
use Rattle.al_core.specs.declared.values.Obj.TheVariants.{Global, Serial, Iter}
use Rattle.al_core.specs.Orders.{addr_cmp}
use Rattle.al_core.specs.Memory.{Memory, value_at, word_in}
use Rattle.al_core.specs.Iteration.{Execution}
use Rattle.al_core.specs.Chunk.{Outcome, chunk_start, chunk_end, chunk_runs, chunk_from, writes_of, outcome_of, outcome}
use Rattle.al_core.specs.Readiness.{IsNameFrom, IsFresh}
use Rattle.al_laws.specs.PrivateMemories.{is_among, SameBut, HasPrivateMemory}
use Rattle.al_laws.proofs.Naming.{made_are_named, given_is_from, apart}
use Rattle.al_laws.proofs.Overlay.{get_written}
use Rattle.al_laws.proofs.Laid.{none_of}
use Rattle.al_laws.proofs.DirectRuns.{chunk_keeps}
use Rattle.al_laws.proofs.Untouched.{false_or}

-- two chunks have no name in common
names_apart : (x : Execution) (c d : ℕ) → c ≢ d → (o : Obj) → IsNameFrom x.number (chunk_start x c) (chunk_end x c) o
    → ¬ (IsNameFrom x.number (chunk_start x d) (chunk_end x d) o)
names_apart x c d n (Global k) h g = h
names_apart x c d n (Serial k) h g = h
names_apart x c d n (Iter e j k) h g = apart x c d j n h.1 h.2 g.1 g.2

-- an outcome says nothing of the object
pub record IsForeign (out : Outcome) (o : Obj) : Type 0 where
  pub unmade : map.get out.made o ≡ None
  pub unfreed : is_among out.freed o ≡ false
  pub unwritten : (i : ℕ) → map.get out.writes (Word o i) ≡ None

same_none : (t : FinSet addr_cmp) (o : Obj) (x y : Option (List Val)) → x ≡ None → SameBut t o x y → y ≡ None
same_none t o None None e s = refl
same_none t o None (Some l) e s = absurd s
same_none t o (Some l) y e s = absurd (true≢false (ap is_some e))

none_if : (b : Bool) (x : Option Val) → x ≡ None → (if b then x else None) ≡ None
none_if true x e = e
none_if false x e = refl

module _ (x : Execution) (reds : List Red) (m : Memory) (c d : ℕ) (differ : c ≢ d) (fresh : IsFresh x m c) (other : IsFresh x m d) where
  abbrev private : Memory
  private = (chunk_runs x d (chunk_from x reds m d)).content.memory

  abbrev view : HasPrivateMemory m x.number (chunk_start x d) (chunk_end x d) (chunk_runs x d (chunk_from x reds m d)).content
  view = chunk_keeps x reds m d other

  module _ (o : Obj) (name : IsNameFrom x.number (chunk_start x c) (chunk_end x c) o) where
    was_none : map.get m.objects o ≡ None
    was_none = none_of (map.get m.objects o) (fresh o name)

    not_freed : is_among view.accesses.freed o ≡ false
    not_freed = false_or _ (λ t. true≢false (sym (view.private.gone o t).was_there ∙ ap is_some was_none))

    not_made : set.contains view.accesses.made o ≡ false
    not_made = false_or _ (λ t. names_apart x c d differ o name (view.private.named o t))

    still_none : map.get private.objects o ≡ None
    still_none = same_none view.accesses.touched o (map.get m.objects o) (map.get private.objects o) was_none (view.private.kept o not_made not_freed)

    no_writes : (i : ℕ) → map.get (writes_of private view.accesses.touched) (Word o i) ≡ None
    no_writes i =
        map.get-entries (writes_of private view.accesses.touched) (Word o i) ∙ get_written private view.accesses.touched (Word o i)
        ∙ none_if (set.contains view.accesses.touched (Word o i)) (value_at private (Word o i)) (ap (λ z. word_in z i) still_none)

    unmade : map.get (outcome x reds m d).made o ≡ None
    unmade =
        let no = λ (t : is_some (map.get (outcome x reds m d).made o) ≡ true).
        names_apart x c d differ o name (given_is_from x.number (chunk_start x d) (chunk_end x d) o (made_are_named x reds m d o t)) in
        none_of (map.get (outcome x reds m d).made o) (false_or (is_some (map.get (outcome x reds m d).made o)) no)

    foreign_name : IsForeign (outcome x reds m d) o
    unfolding outcome
    foreign_name =
        let r = chunk_runs x d (chunk_from x reds m d) in
        record {
          unmade = unmade;
          unfreed = ap (λ l. is_among (outcome_of r l).freed o) view.is ∙ not_freed;
          unwritten = λ i. ap (λ l. map.get (outcome_of r l).writes (Word o i)) view.is ∙ no_writes i;
        }

  -- of an object that the one made the other says nothing
  pub made_is_foreign : (o : Obj) → is_some (map.get (outcome x reds m c).made o) ≡ true → IsForeign (outcome x reds m d) o
  made_is_foreign o t = foreign_name o (given_is_from x.number (chunk_start x c) (chunk_end x c) o (made_are_named x reds m c o t))
