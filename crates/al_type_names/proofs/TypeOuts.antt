-- The layers of each kind of type.
use Rattle.al_source.specs.declared.source_tree.CType.TheVariants as t

pub ruleset outs = (t.outs-Int, t.outs-Void, t.outs-Struct, t.outs-Ptr, t.outs-Array)
