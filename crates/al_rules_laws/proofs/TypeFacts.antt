-- Types by their checks: which are one, and where each may stand.
use Rattle.std.proofs.Common.{◌≡◌, ℕ, zero, suc, ◌≤◌, Bool, true, false, ◌==◌, Ok, refl, sym, ap, ◌∙◌, subst, arith, ◌⊎◌, inl, inr, ⊎_elim, eqb-true, eq-eqb}
use Rattle.std.proofs.lemmas.Slice.Eq.{bytes_eq-Decides}
use Rattle.al_source.specs.declared.source_tree.CType.{CType, out-CType, roll-CType, roll-out-CType}
use Rattle.al_source.specs.declared.source_tree.CType.TheOpen.{CType-F}
use Rattle.al_source.specs.declared.source_tree.CType.TheVariants as t
use Rattle.al_rules.specs.declared.faults.TypeKind.TheVariants.{Unknown, Shape}
use Rattle.al_rules.specs.Names.{Name}
use Rattle.al_rules.specs.Checks.{ensure}
use Rattle.al_rules.specs.Types.{same_case, same_type, Form, Nothing, Scalar, Structure, Sequence, Malformed, pointer_form, array_form, form, is_held, is_scalar, is_result, is_sized, are_known, type_checked}
use Rattle.al_rules.specs.ExpressionRules as r
use Rattle.al_rules.proofs.TypeNodes.{same-Int, same-Void, same-Struct, same-Ptr, same-Array, form-Int, form-Void, form-Struct, form-Ptr, form-Array, known-Int, known-Void, known-Struct, known-Ptr, known-Array}
use Rattle.al_rules_laws.proofs.Logic.{and_parts, and_both, ensure_ok, then_ok}
use Rattle.al_rules_laws.proofs.SourceInduction.{type_induct}

-- ---- a type by its outermost form

pub is_int_type : (a : CType) → out-CType a ≡ CType-F.Int → a ≡ t.Int
is_int_type a e = sym (roll-out-CType a) ∙ ap roll-CType e ∙ t.rolls-Int

pub is_void_type : (a : CType) → out-CType a ≡ CType-F.Void → a ≡ t.Void
is_void_type a e = sym (roll-out-CType a) ∙ ap roll-CType e ∙ t.rolls-Void

pub is_struct_type : (a : CType) (name : Name) → out-CType a ≡ CType-F.Struct name → a ≡ t.Struct name
is_struct_type a name e = sym (roll-out-CType a) ∙ ap roll-CType e ∙ t.rolls-Struct name

pub is_pointer_type : (a b : CType) → out-CType a ≡ CType-F.Ptr b → a ≡ t.Ptr b
is_pointer_type a b e = sym (roll-out-CType a) ∙ ap roll-CType e ∙ t.rolls-Ptr b

pub is_array_type : (a b : CType) (n : ℕ) → out-CType a ≡ CType-F.Array b n → a ≡ t.Array b n
is_array_type a b n e = sym (roll-out-CType a) ∙ ap roll-CType e ∙ t.rolls-Array b n

-- ---- one type

abbrev Sound : CType → Type 0
Sound a = (b : CType) → same_type a b ≡ true → a ≡ b

sound_int : (b : CType) (y : CType-F CType) → out-CType b ≡ y → same_case CType-F.Int y ≡ true → t.Int ≡ b
sound_int b CType-F.Int is e = sym (is_int_type b is)
sound_int b _ is e = absurd cc

sound_void : (b : CType) (y : CType-F CType) → out-CType b ≡ y → same_case CType-F.Void y ≡ true → t.Void ≡ b
sound_void b CType-F.Void is e = sym (is_void_type b is)
sound_void b _ is e = absurd cc

sound_struct : (name : Name) (b : CType) (y : CType-F CType) → out-CType b ≡ y → same_case (CType-F.Struct name) y ≡ true → t.Struct name ≡ b
sound_struct name b (CType-F.Struct other) is e = ap t.Struct ((bytes_eq-Decides name other).0 e) ∙ sym (is_struct_type b other is)
sound_struct name b CType-F.Int is e = absurd cc
sound_struct name b CType-F.Void is e = absurd cc
sound_struct name b (CType-F.Ptr c) is e = absurd cc
sound_struct name b (CType-F.Array c n) is e = absurd cc

sound_pointer : (a : CType) → Sound a → (b : CType) (y : CType-F CType) → out-CType b ≡ y → same_case (CType-F.Ptr (same_type a)) y ≡ true → t.Ptr a ≡ b
sound_pointer a h b (CType-F.Ptr c) is e = ap t.Ptr (h c e) ∙ sym (is_pointer_type b c is)
sound_pointer a h b CType-F.Int is e = absurd cc
sound_pointer a h b CType-F.Void is e = absurd cc
sound_pointer a h b (CType-F.Struct name) is e = absurd cc
sound_pointer a h b (CType-F.Array c n) is e = absurd cc

sound_array : (a : CType) (m : ℕ) → Sound a → (b : CType) (y : CType-F CType) → out-CType b ≡ y → same_case (CType-F.Array (same_type a) m) y ≡ true
    → t.Array a m ≡ b
sound_array a m h b (CType-F.Array c n) is e =
    let p = and_parts (same_type a c) (m == n) e in
    ap (λ d. t.Array d m) (h c p.0) ∙ ap (t.Array c) (eqb-true m n p.1) ∙ sym (is_array_type b c n is)
sound_array a m h b CType-F.Int is e = absurd cc
sound_array a m h b CType-F.Void is e = absurd cc
sound_array a m h b (CType-F.Struct name) is e = absurd cc
sound_array a m h b (CType-F.Ptr c) is e = absurd cc

pub same_sound : (a b : CType) → same_type a b ≡ true → a ≡ b
same_sound = type_induct Sound (record {
  int = λ b e. sound_int b (out-CType b) refl (sym (same-Int b) ∙ e);
  void = λ b e. sound_void b (out-CType b) refl (sym (same-Void b) ∙ e);
  structure = λ name b e. sound_struct name b (out-CType b) refl (sym (same-Struct name b) ∙ e);
  pointer = λ a h b e. sound_pointer a h b (out-CType b) refl (sym (same-Ptr a b) ∙ e);
  array = λ a n h b e. sound_array a n h b (out-CType b) refl (sym (same-Array a n b) ∙ e);
})

pub same_refl : (a : CType) → same_type a a ≡ true
same_refl = type_induct (λ a. same_type a a ≡ true) (record {
  int = same-Int t.Int ∙ ap (same_case CType-F.Int) t.outs-Int;
  void = same-Void t.Void ∙ ap (same_case CType-F.Void) t.outs-Void;
  structure = λ name. same-Struct name (t.Struct name) ∙ ap (same_case (CType-F.Struct name)) (t.outs-Struct name) ∙ (bytes_eq-Decides name name).1 refl;
  pointer = λ a h. same-Ptr a (t.Ptr a) ∙ ap (same_case (CType-F.Ptr (same_type a))) (t.outs-Ptr a) ∙ h;
  array = λ a n h. same-Array a n (t.Array a n) ∙ ap (same_case (CType-F.Array (same_type a) n)) (t.outs-Array a n) ∙ and_both h (eq-eqb n n refl);
})

-- ---- forms

pointer_cases : (f : Form) → pointer_form f ≡ Scalar → (f ≡ Scalar) ⊎ (f ≡ Structure)
pointer_cases Scalar e = inl refl
pointer_cases Structure e = inr refl
pointer_cases Nothing e = absurd cc
pointer_cases Sequence e = absurd cc
pointer_cases Malformed e = absurd cc

pointer_no_structure : (f : Form) → pointer_form f ≡ Structure → ⊥
pointer_no_structure Scalar e = cc
pointer_no_structure Structure e = cc
pointer_no_structure Nothing e = cc
pointer_no_structure Sequence e = cc
pointer_no_structure Malformed e = cc

pointer_held : (f : Form) → is_held (pointer_form f) ≡ true → pointer_form f ≡ Scalar
pointer_held Scalar e = refl
pointer_held Structure e = refl
pointer_held Nothing e = absurd cc
pointer_held Sequence e = absurd cc
pointer_held Malformed e = absurd cc

array_no_scalar : (n : ℕ) (f : Form) → array_form n f ≡ Scalar → ⊥
array_no_scalar zero f e = cc
array_no_scalar (suc n) Scalar e = cc
array_no_scalar (suc n) Structure e = cc
array_no_scalar (suc n) Sequence e = cc
array_no_scalar (suc n) Nothing e = cc
array_no_scalar (suc n) Malformed e = cc

array_no_structure : (n : ℕ) (f : Form) → array_form n f ≡ Structure → ⊥
array_no_structure zero f e = cc
array_no_structure (suc n) Scalar e = cc
array_no_structure (suc n) Structure e = cc
array_no_structure (suc n) Sequence e = cc
array_no_structure (suc n) Nothing e = cc
array_no_structure (suc n) Malformed e = cc

array_held : (n : ℕ) (f : Form) → is_held (array_form n f) ≡ true → (1 ≤ n) × (is_held f ≡ true)
array_held zero f e = absurd cc
array_held (suc n) Scalar e = (omega arith, refl)
array_held (suc n) Structure e = (omega arith, refl)
array_held (suc n) Sequence e = (omega arith, refl)
array_held (suc n) Nothing e = absurd cc
array_held (suc n) Malformed e = absurd cc

held_array : (n : ℕ) (f : Form) → 1 ≤ n → is_held f ≡ true → is_held (array_form n f) ≡ true
held_array zero f le e = absurd (omega arith)
held_array (suc n) Scalar le e = refl
held_array (suc n) Structure le e = refl
held_array (suc n) Sequence le e = refl
held_array (suc n) Nothing le e = absurd cc
held_array (suc n) Malformed le e = absurd cc

module _ (before known : Name → Bool) where
  abbrev Forms : CType → Type 0
  Forms a =
      (form a ≡ Scalar → (are_known before known a).1 ≡ true → r.Scalar known a)
      × (form a ≡ Structure → (name : Name) × (a ≡ t.Struct name))
      × (form a ≡ Scalar → (are_known before known a).0 ≡ (are_known before known a).1)

  pointer_forms : (a : CType) → Forms a → (form a ≡ Scalar) ⊎ (form a ≡ Structure) → (are_known before known a).1 ≡ true → r.Scalar known (t.Ptr a)
  pointer_forms a h (inl e) k = r.pointer (h.0 e k)
  pointer_forms a h (inr e) k =
      let s = h.1 e in
      subst (λ b. r.Scalar known (t.Ptr b)) (sym s.1) (r.to_struct (sym (ap (λ (p : Bool × Bool). p.1) (known-Struct before known s.0))
      ∙ ap (λ b. (are_known before known b).1) (sym s.1) ∙ k))

  forms : (a : CType) → Forms a
  forms = type_induct Forms (record {
    int = (
      λ e k. r.int,
      λ e. absurd (lemma_int e),
      λ e. ap (λ (p : Bool × Bool). p.0) (known-Int before known)
          ∙ sym (ap (λ (p : Bool × Bool). p.1) (known-Int before known)),
    );
    void = (λ e k. absurd (lemma_void e), λ e. absurd (lemma_void_structure e), λ e. absurd (lemma_void e));
    structure = λ name. (λ e k. absurd (lemma_struct name e), λ e. (name, refl), λ e. absurd (lemma_struct name e));
    pointer = λ a h. (
      λ e k. pointer_forms a h (pointer_cases (form a) (sym (form-Ptr a) ∙ e)) (sym (ap (λ (p : Bool × Bool). p.1) (known-Ptr before known a)) ∙ k),
      λ e. absurd (pointer_no_structure (form a) (sym (form-Ptr a) ∙ e)),
      λ e. ap (λ (p : Bool × Bool). p.0) (known-Ptr before known a) ∙ sym (ap (λ (p : Bool × Bool). p.1) (known-Ptr before known a)),
    );
    array = λ a n h. (
      λ e k. absurd (array_no_scalar n (form a) (sym (form-Array a n) ∙ e)),
      λ e. absurd (array_no_structure n (form a) (sym (form-Array a n) ∙ e)),
      λ e. absurd (array_no_scalar n (form a) (sym (form-Array a n) ∙ e)),
    );
  })
    where
      lemma_int : form t.Int ≡ Structure → ⊥
      lemma_int e = let d : Scalar ≡ Structure = sym form-Int ∙ e in cc

      lemma_void : form t.Void ≡ Scalar → ⊥
      lemma_void e = let d : Nothing ≡ Scalar = sym form-Void ∙ e in cc

      lemma_void_structure : form t.Void ≡ Structure → ⊥
      lemma_void_structure e = let d : Nothing ≡ Structure = sym form-Void ∙ e in cc

      lemma_struct : (name : Name) → form (t.Struct name) ≡ Scalar → ⊥
      lemma_struct name e = let d : Structure ≡ Scalar = sym (form-Struct name) ∙ e in cc

  -- ---- each place by its check, and back

  known_first : (a : CType) → form a ≡ Scalar → (are_known before known a).0 ≡ true → (are_known before known a).1 ≡ true
  known_first a e k = sym ((forms a).2 e) ∙ k

  scalar_of : (a : CType) → form a ≡ Scalar → (are_known before known a).0 ≡ true → r.Scalar known a
  scalar_of a e k = (forms a).0 e (known_first a e k)

  abbrev HeldIf : CType → Type 0
  HeldIf a = is_held (form a) ≡ true → (are_known before known a).0 ≡ true → r.Held before known a

  held_of : (a : CType) → HeldIf a
  held_of = type_induct HeldIf (record {
    int = λ e k. r.scalar (scalar_of t.Int form-Int k);
    void = λ e k. absurd (no_void e);
    structure = λ name e k. r.structure (sym (ap (λ (p : Bool × Bool). p.0) (known-Struct before known name)) ∙ k);
    pointer = λ a h e k. r.scalar (scalar_of (t.Ptr a) (form-Ptr a ∙ pointer_held (form a) (sym (ap is_held (form-Ptr a)) ∙ e)) k);
    array = λ a n h e k.
        let p = array_held n (form a) (sym (ap is_held (form-Array a n)) ∙ e) in
        r.array p.0 (h p.1 (sym (ap (λ (p : Bool × Bool). p.0) (known-Array before known a n)) ∙ k));
  })
    where
      no_void : is_held (form t.Void) ≡ true → ⊥
      no_void e = let d : false ≡ true = sym (ap is_held form-Void) ∙ e in cc

  -- what is known of a type that may stand somewhere
  pub record Checks (allowed : Form → Bool) (a : CType) : Type 0 where
    pub allows : allowed (form a) ≡ true
    pub knows : (are_known before known a).0 ≡ true

  scalar_form : {a : CType} → r.Scalar known a → (form a ≡ Scalar) × ((are_known before known a).0 ≡ true) × ((are_known before known a).1 ≡ true)
  scalar_form r.int = (form-Int, ap (λ (p : Bool × Bool). p.0) (known-Int before known), ap (λ (p : Bool × Bool). p.1) (known-Int before known))
  scalar_form (r.pointer {a = a} d) =
      let h = scalar_form d in (
        form-Ptr a ∙ ap pointer_form h.0,
        ap (λ (p : Bool × Bool). p.0) (known-Ptr before known a)
            ∙ h.2,
        ap (λ (p : Bool × Bool). p.1) (known-Ptr before known a) ∙ h.2,
      )
  scalar_form (r.to_struct {name = name} k) =
      let h = ap (λ (p : Bool × Bool). p.1) (known-Struct before known name) ∙ k in (
        form-Ptr (t.Struct name) ∙ ap pointer_form (form-Struct name),
        ap (λ (p : Bool × Bool). p.0) (known-Ptr before known (t.Struct name))
            ∙ h,
        ap (λ (p : Bool × Bool). p.1) (known-Ptr before known (t.Struct name)) ∙ h,
      )

  held_form : {a : CType} → r.Held before known a → Checks is_held a
  held_form (r.scalar d) = let h = scalar_form d in record { allows = ap is_held h.0; knows = h.1 }
  held_form (r.structure {name = name} k) =
      record { allows = ap is_held (form-Struct name); knows = ap (λ (p : Bool × Bool). p.0) (known-Struct before known name) ∙ k }
  held_form (r.array {a = a} {n = n} le d) =
      let h = held_form d in
      record {
        allows = ap is_held (form-Array a n) ∙ held_array n (form a) le h.allows;
        knows = ap (λ (p : Bool × Bool). p.0) (known-Array before known a n)
            ∙ h.knows;
      }

  result_form : {a : CType} → r.Result known a → Checks is_result a
  result_form r.void = record { allows = ap is_result form-Void; knows = ap (λ (p : Bool × Bool). p.0) (known-Void before known) }
  result_form (r.scalar d) = let h = scalar_form d in record { allows = ap is_result h.0; knows = h.1 }

  scalar_only : (f : Form) → is_scalar f ≡ true → f ≡ Scalar
  scalar_only Scalar e = refl
  scalar_only Nothing e = absurd cc
  scalar_only Structure e = absurd cc
  scalar_only Sequence e = absurd cc
  scalar_only Malformed e = absurd cc

  -- a form that a result may have is `void` or that of a scalar
  result_cases : (f : Form) → is_result f ≡ true → (f ≡ Nothing) ⊎ (f ≡ Scalar)
  result_cases Nothing e = inl refl
  result_cases Scalar e = inr refl
  result_cases Structure e = absurd cc
  result_cases Sequence e = absurd cc
  result_cases Malformed e = absurd cc

  sized_cases : (f : Form) → is_sized f ≡ true → (f ≡ Scalar) ⊎ (f ≡ Structure)
  sized_cases Scalar e = inl refl
  sized_cases Structure e = inr refl
  sized_cases Nothing e = absurd cc
  sized_cases Sequence e = absurd cc
  sized_cases Malformed e = absurd cc

  -- only `void` has its form
  void_only : (a : CType) → form a ≡ Nothing → a ≡ t.Void
  void_only = type_induct (λ a. form a ≡ Nothing → a ≡ t.Void) (record {
    int = λ e. absurd (of_int e);
    void = λ e. refl;
    structure = λ name e. absurd (of_struct name e);
    pointer = λ a h e. absurd (of_pointer (form a) (sym (form-Ptr a) ∙ e));
    array = λ a n h e. absurd (of_array n (form a) (sym (form-Array a n) ∙ e));
  })
    where
      of_int : form t.Int ≡ Nothing → ⊥
      of_int e = let d : Scalar ≡ Nothing = sym form-Int ∙ e in cc

      of_struct : (name : Name) → form (t.Struct name) ≡ Nothing → ⊥
      of_struct name e = let d : Structure ≡ Nothing = sym (form-Struct name) ∙ e in cc

      of_pointer : (f : Form) → pointer_form f ≡ Nothing → ⊥
      of_pointer Scalar e = cc
      of_pointer Structure e = cc
      of_pointer Nothing e = cc
      of_pointer Sequence e = cc
      of_pointer Malformed e = cc

      of_array : (n : ℕ) (f : Form) → array_form n f ≡ Nothing → ⊥
      of_array zero f e = cc
      of_array (suc n) Scalar e = cc
      of_array (suc n) Structure e = cc
      of_array (suc n) Sequence e = cc
      of_array (suc n) Nothing e = cc
      of_array (suc n) Malformed e = cc

  result_of : (a : CType) → is_result (form a) ≡ true → (are_known before known a).0 ≡ true → r.Result known a
  result_of a e k = ⊎_elim (λ f. subst (λ b. r.Result known b) (sym (void_only a f)) r.void) (λ f. r.scalar (scalar_of a f k)) (result_cases (form a) e)

  -- what a check of a type says
  pub checks_of : (allowed : Form → Bool) (a : CType) (u : Unit {0}) → type_checked before known allowed a ≡ Ok u → Checks allowed a
  checks_of allowed a u e =
      let p = then_ok (ensure (are_known before known a).0 Unknown) (λ _. ensure (allowed (form a)) Shape) u e in
      record { allows = ensure_ok (allowed (form a)) Shape u p.2; knows = ensure_ok (are_known before known a).0 Unknown p.0 p.1 }

  pub checked_by : (allowed : Form → Bool) (a : CType) → Checks allowed a → type_checked before known allowed a ≡ Ok tt
  checked_by allowed a c = rw (c.knows, c.allows) refl

  pub scalar_sound : (a : CType) (u : Unit {0}) → type_checked before known is_scalar a ≡ Ok u → r.Scalar known a
  scalar_sound a u e = let c = checks_of is_scalar a u e in scalar_of a (scalar_only (form a) c.allows) c.knows

  pub scalar_complete : {a : CType} → r.Scalar known a → type_checked before known is_scalar a ≡ Ok tt
  scalar_complete {a = a} d = let h = scalar_form d in checked_by is_scalar a (record { allows = ap is_scalar h.0; knows = h.1 })

  pub held_sound : (a : CType) (u : Unit {0}) → type_checked before known is_held a ≡ Ok u → r.Held before known a
  held_sound a u e = let c = checks_of is_held a u e in held_of a c.allows c.knows

  pub held_complete : {a : CType} → r.Held before known a → type_checked before known is_held a ≡ Ok tt
  held_complete {a = a} d = checked_by is_held a (held_form d)

  pub result_sound : (a : CType) (u : Unit {0}) → type_checked before known is_result a ≡ Ok u → r.Result known a
  result_sound a u e = let c = checks_of is_result a u e in result_of a c.allows c.knows

  pub result_complete : {a : CType} → r.Result known a → type_checked before known is_result a ≡ Ok tt
  result_complete {a = a} d = checked_by is_result a (result_form d)

-- where a struct by value is one that is known anywhere
module _ (known : Name → Bool) where
  sized_by : (a : CType) → (are_known known known a).0 ≡ true → (form a ≡ Scalar) ⊎ (form a ≡ Structure) → r.Sized known a
  sized_by a k (inl e) = r.scalar (scalar_of known known a e k)
  sized_by a k (inr e) =
      let s = (forms known known a).1 e in
      subst (λ b. r.Sized known b) (sym s.1) (r.structure (sym (ap (λ (p : Bool × Bool). p.0) (known-Struct known known s.0))
      ∙ ap (λ b. (are_known known known b).0) (sym s.1) ∙ k))

  pub sized_sound : (a : CType) (u : Unit {0}) → type_checked known known is_sized a ≡ Ok u → r.Sized known a
  sized_sound a u e = let c = checks_of known known is_sized a u e in sized_by a c.knows (sized_cases known known (form a) c.allows)

  pub sized_complete : {a : CType} → r.Sized known a → type_checked known known is_sized a ≡ Ok tt
  sized_complete {a = a} (r.scalar d) =
      let h = scalar_form known known d in checked_by known known is_sized a (record { allows = ap is_sized h.0; knows = h.1 })
  sized_complete (r.structure {name = name} k) =
      checked_by known known is_sized (t.Struct name) (record {
        allows = ap is_sized (form-Struct name);
        knows = ap (λ (p : Bool
            × Bool). p.0) (known-Struct known known name) ∙ k;
      })
