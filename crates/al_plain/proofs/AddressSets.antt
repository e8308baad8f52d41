-- Sets of addresses, by the list of their members.
use Rattle.std.proofs.Common.{◌≡◌, ℕ, ◌/◌, List, sym, ap, ◌∙◌}
use Rattle.std.proofs.Math.Nat.{div-zero}
use Rattle.std.specs.List.{list_any}
use Rattle.std.specs.FinSet as set
use Rattle.std.specs.FinSet.{FinSet, from_list}
use Rattle.al_core.specs.declared.values.Addr.{Addr}
use Rattle.al_core.specs.Orders.{addr_cmp}
use Rattle.al_core.specs.Clash.{meets_lines}
use Rattle.al_laws.proofs.Orders.{addr_total, addr_apart}
use Rattle.al_plain.specs.Meeting.{on_line, any_on_line, any_meets}
use Rattle.al_plain.proofs.Kept.{with_all, with_all_is_union, any_kept}

-- a line of no words is one for all
pub no_quotient : (w g : ℕ) → g ≡ 0 → w / g ≡ 0
no_quotient w g e = ap (λ g. w / g) e ∙ div-zero w

pub lines_by : (g : ℕ) (xs ys : List Addr) (a b : FinSet addr_cmp) → from_list xs ≡ a → from_list ys ≡ b
    → any_meets g xs ys ≡ meets_lines g a b
unfolding meets_lines
lines_by g xs ys a b e f =
    (λ t. list_any (λ x. sym (any_kept addr_total addr_apart (on_line g x) ys) t) xs)
    ∙ sym (any_kept addr_total addr_apart (any_on_line g (set.items (from_list {R = addr_cmp} ys))) xs)
    ∙ (λ t. any_meets g (set.items (e t)) (set.items (f t)))

pub joined_by : (all : List Addr) (a b : FinSet addr_cmp) → from_list all ≡ b → with_all a all ≡ set.union a b
joined_by all a b e = with_all_is_union addr_total addr_apart a all ∙ ap (set.union a) e
