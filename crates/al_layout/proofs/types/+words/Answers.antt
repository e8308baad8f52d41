use Rattle.std.proofs.Common.{◌≡◌, refl, arith}
use Rattle.al_rules.specs.Layouts.{words_of}
use Rattle.al_rules.proofs.LayoutNodes.{words-Struct}
use Rattle.al_layout.proofs.types.+words.Goals as goal

pub returns-in-Struct : goal.returns-in-Struct
returns-in-Struct t c =
    let e : words_of c.args.structs.now c.args.ty.now ≡ c.struct_words.result =
    rw (c.in-Struct.is, words-Struct, c.struct_words.ensures, c.as_slice.ensures) refl in
    omega arith
