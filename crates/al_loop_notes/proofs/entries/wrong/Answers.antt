use Rattle.std.proofs.Common.{refl}
use Rattle.al_loop_notes.proofs.entries.wrong.Goals as goal

pub returns-then-branch : goal.returns-then-branch
returns-then-branch c =
    let named = rw c.as_slice-reds.ensures at c.is_misnamed.ensures in
    let taken = rw c.as_slice-reds.ensures at c.has_taken.ensures in
    let used = rw c.as_slice-reds.ensures at c.in_ok-has_misused.ensures in
    rw (
      ← c.assigns.ensures,
      c.if-assigns.false,
      ← c.assigns_bound.ensures,
      c.if-assigns_bound.false,
      ← c.leaves.ensures,
      c.if-leaves.false,
      ← named,
      c.if-is_misnamed.false,
      ← taken,
      c.if-has_taken.false,
      ← used,
      c.if-branch.true,
    ) refl

pub returns : goal.returns
returns c =
    let named = rw c.as_slice-reds.ensures at c.is_misnamed.ensures in
    let taken = rw c.as_slice-reds.ensures at c.has_taken.ensures in
    let used = rw c.as_slice-reds.ensures at c.in_ok-has_misused.ensures in
    rw (
      ← c.assigns.ensures,
      c.if-assigns.false,
      ← c.assigns_bound.ensures,
      c.if-assigns_bound.false,
      ← c.leaves.ensures,
      c.if-leaves.false,
      ← named,
      c.if-is_misnamed.false,
      ← taken,
      c.if-has_taken.false,
      ← used,
      c.if-branch.false,
    ) refl
