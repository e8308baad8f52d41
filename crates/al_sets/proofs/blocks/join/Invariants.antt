use Rattle.std.proofs.Common.{◌≡◌, ◌+◌, ◌≤◌, ◌||◌, take}
use Rattle.std.specs.Vec.{vec_len, vec_capacity}
use Rattle.al_core.specs.declared.values.Addr.{Addr}
use Rattle.al_sets.specs.Blocks.{IsAscending, has_address}
use Rattle.al_sets.proofs.blocks.join.Given as goal

abbrev pub invariant-loop-block : goal.invariant-loop-block
invariant-loop-block l = record {
  ascending : IsAscending l.blocks.items;
  len : vec_len l.blocks ≤ vec_len l.fn.blocks + l.block-index;
  capacity : vec_capacity l.fn.blocks ≤ vec_capacity l.blocks;
  addresses : (a : Addr) → has_address l.blocks.items a
      ≡ (has_address (take l.block-index l.more) a || has_address l.fn.blocks.items a);
}
