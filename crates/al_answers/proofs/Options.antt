-- What is told and what is not, and counts one after another.
use Rattle.std.proofs.Common.{◌≡◌, ℕ, ◌<◌, List, [], Option, None, Some, IfSome, IsSomeAnd, refl, ap, append-nil, arith}
use Rattle.std.specs.Io.KnownBytes.{append_known}
use Rattle.al_io.specs.Counts.{DidNotRise, MayHaveRisen}

pub if_any : {A : Type 0} (r : Option A) (P : A → Type 0) → ((x : A) → P x) → IfSome r P
if_any None P f = tt
if_any (Some x) P f = f x

pub if_so : {A : Type 0} (r : Option A) (P Q : A → Type 0) → ((x : A) → P x → Q x) → IfSome r P → IfSome r Q
if_so None P Q f h = tt
if_so (Some x) P Q f h = f x h

pub if_both : {A : Type 0} (r : Option A) (P Q R : A → Type 0) → ((x : A) → P x → Q x → R x) → IfSome r P → IfSome r Q → IfSome r R
if_both None P Q R f h k = tt
if_both (Some x) P Q R f h k = f x h k

pub if_told : {A : Type 0} (r : Option A) (P Q : A → Type 0) → ((x : A) → P x → Q x) → IsSomeAnd r P → IfSome r Q
if_told None P Q f h = tt
if_told (Some x) P Q f h = f x h

pub told_so : {A : Type 0} (r : Option A) (P Q : A → Type 0) → ((x : A) → P x → Q x) → IsSomeAnd r P → IsSomeAnd r Q
told_so None P Q f h = h
told_so (Some x) P Q f h = f x h

pub no_rise : (m n : ℕ) → DidNotRise m n → MayHaveRisen m n → ⊥
no_rise m n still rose = let up : m < n = rose still.1 in omega arith

pub append_nothing : (r : Option (List ℕ)) → append_known r [] ≡ r
append_nothing None = refl
append_nothing (Some bytes) = let some : List ℕ → Option (List ℕ) = λ b. Some b in ap some (append-nil bytes)
