-- The words of each kind of type, and what it holds by value.
use Rattle.std.proofs.Common.{◌≡◌, ℕ, ◌*◌, Bool, false, List, sym, ap, ◌∙◌}
use Rattle.std.specs.List.{find}
use Rattle.std.specs.Str.{bytes_eq}
use Rattle.al_source.specs.declared.source_tree.CType.{CType, roll-CType, map-CType, fold-CType, fold-roll-CType}
use Rattle.al_source.specs.declared.source_tree.CType.TheOpen.{CType-F}
use Rattle.al_source.specs.declared.source_tree.CType.TheVariants as t
use Rattle.al_rules.specs.declared.layout.StructLayout.{StructLayout}
use Rattle.al_rules.specs.Names.{Name}
use Rattle.al_rules.specs.Layouts.{words_or_none, words_case, words_of, holds_case, holds}

of_words : (known : List StructLayout) (x : CType-F CType) (d : CType) → roll-CType x ≡ d
    → words_of known d ≡ words_case known (map-CType CType ℕ (words_of known) x)
unfolding words_of
of_words known x d is = ap (λ d. fold-CType ℕ (words_case known) d) (sym is) ∙ fold-roll-CType ℕ (words_case known) x

of_holds : (name : Name) (x : CType-F CType) (d : CType) → roll-CType x ≡ d → holds name d ≡ holds_case name (map-CType CType Bool (holds name) x)
unfolding holds
of_holds name x d is = ap (λ d. fold-CType Bool (holds_case name) d) (sym is) ∙ fold-roll-CType Bool (holds_case name) x

pub words-Int : (known : List StructLayout) → words_of known t.Int ≡ 1
words-Int known = of_words known CType-F.Int _ t.rolls-Int

pub words-Void : (known : List StructLayout) → words_of known t.Void ≡ 0
words-Void known = of_words known CType-F.Void _ t.rolls-Void

pub words-Struct : (known : List StructLayout) (name : Name) → words_of known (t.Struct name) ≡ words_or_none (find (λ s. bytes_eq s.name name) known)
words-Struct known name = of_words known (CType-F.Struct name) _ (t.rolls-Struct name)

pub words-Ptr : (known : List StructLayout) (a : CType) → words_of known (t.Ptr a) ≡ 1
words-Ptr known a = of_words known (CType-F.Ptr a) _ (t.rolls-Ptr a)

pub words-Array : (known : List StructLayout) (a : CType) (n : ℕ) → words_of known (t.Array a n) ≡ n * words_of known a
words-Array known a n = of_words known (CType-F.Array a n) _ (t.rolls-Array a n)

pub holds-Int : (name : Name) → holds name t.Int ≡ false
holds-Int name = of_holds name CType-F.Int _ t.rolls-Int

pub holds-Void : (name : Name) → holds name t.Void ≡ false
holds-Void name = of_holds name CType-F.Void _ t.rolls-Void

pub holds-Struct : (name other : Name) → holds name (t.Struct other) ≡ bytes_eq other name
holds-Struct name other = of_holds name (CType-F.Struct other) _ (t.rolls-Struct other)

pub holds-Ptr : (name : Name) (a : CType) → holds name (t.Ptr a) ≡ false
holds-Ptr name a = of_holds name (CType-F.Ptr a) _ (t.rolls-Ptr a)

pub holds-Array : (name : Name) (a : CType) (n : ℕ) → holds name (t.Array a n) ≡ holds name a
holds-Array name a n = of_holds name (CType-F.Array a n) _ (t.rolls-Array a n)

pub ruleset words_nodes = (words-Int, words-Void, words-Struct, words-Ptr, words-Array)

pub ruleset holds_nodes = (holds-Int, holds-Void, holds-Struct, holds-Ptr, holds-Array)
