use Rattle.std.proofs.Common.{◌+◌, ◌++◌, take, drop, sym, ap, ◌∙◌, subst}
use Rattle.std.proofs.Math.Seq.{take-add}
use Rattle.std.proofs.lemmas.List.{take_rest, drop-drop}
use Rattle.std.specs.Io.KnownBytes.{Appends}
use Rattle.std.proofs.KnownBytes.{Appends-trans}
use Rattle.al_io.proofs.host_streams.put_all.Goals as goal

pub loop-rest-preserved : goal.loop-rest-preserved
loop-rest-preserved g c =
    let (n, rest_is, appended) = c.loop-rest.invariant in
    let bytes = c.args.bytes.now in
    let rest = c.loop-rest.rest.now in
    let count = c.in-Ok.count in
    let taken = ap (λ more. take n bytes ++ take count more) (sym rest_is) in (
      n + count,
      take_rest rest count ∙ ap (λ more. drop count more) rest_is ∙ drop-drop count n bytes,
      subst (Appends _ _) (sym (take-add n count bytes ∙ taken)) (Appends-trans _ _ _ _ _ appended c.in-Ok.ensures.bytes),
    )
