-- The places of the bodies that end at a place, one body after another.
use Rattle.std.proofs.Common.{◌≡◌, ℕ, ◌+◌, ◌<◌, Bool, true, false, ◌&&◌, ◌==◌, List, [], ◌∷◌, ◌++◌, length, take, get_or, refl, sym, ap, ◌∙◌, if◌then◌else◌}
use Rattle.std.specs.List.{list_all}
use Rattle.std.proofs.lemmas.List.{take_more}
use Rattle.al_code.specs.declared.lowered.Body.{Body}
use Rattle.al_code.specs.Valid.{ended_places}

and_assoc : (a b c : Bool) → (a && (b && c)) ≡ ((a && b) && c)
and_assoc true b c = refl
and_assoc false b c = refl

module _ (t : ℕ → Bool) (place : ℕ) where
  abbrev hold : List Body → Bool
  hold bs = list_all t (ended_places place bs)

  hold_first : (b : Body) (bs : List Body) → hold (b ∷ bs) ≡ (hold (b ∷ []) && hold bs)
  hold_first b bs = by (b.end == place)
    where
      by : (c : Bool)
          → list_all t (if c then b.start ∷ b.end ∷ ended_places place bs else ended_places place bs)
          ≡ (list_all t (if c then b.start ∷ b.end ∷ [] else []) && list_all t (ended_places place bs))
      by false = refl
      by true = pair (t b.start) (t b.end) (list_all t (ended_places place bs))
        where
          pair : (x y z : Bool) → (x && (y && z)) ≡ ((x && (y && true)) && z)
          pair true true z = refl
          pair true false z = refl
          pair false y z = refl

  hold_last : (bs : List Body) (b : Body) → hold (bs ++ b ∷ []) ≡ (hold bs && hold (b ∷ []))
  hold_last [] b = refl
  hold_last (a ∷ bs) b =
      hold_first a (bs ++ b ∷ [])
      ∙ ap (λ h. hold (a ∷ []) && h) (hold_last bs b)
      ∙ and_assoc (hold (a ∷ [])) (hold bs) (hold (b ∷ []))
      ∙ ap (λ h. h && hold (b ∷ [])) (sym (hold_first a bs))

  pub hold_next : (bs : List Body) (n : ℕ) (d : Body) (was this now : Bool) → n < length bs → was ≡ hold (take n bs) → this ≡ hold (get_or bs n d ∷ [])
      → now ≡ (was && this) → now ≡ hold (take (n + 1) bs)
  hold_next bs n d was this now lt w h e =
      e ∙ (λ j. w j && h j) ∙ sym (hold_last (take n bs) (get_or bs n d)) ∙ ap hold (sym (take_more bs n d lt))
