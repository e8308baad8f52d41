use Rattle.std.proofs.Common.{sym, ◌∙◌, subst}
use Rattle.al_exec.specs.Starts.{StartsFunction}
use Rattle.al_engine.proofs.start.main_call.Goals as goal

pub returns : goal.returns
returns c =
    let e = c.in-Some.entry.now in
    let has = sym c.in-Some.ensures.value in (
      e,
      has,
      subst (λ args. StartsFunction c.args.code.now e args c.in_ok-m.m) (c.as_slice.ensures ∙ c.in_ok-args.ensures) (c.in_ok-m.ensures.starts e has),
    )
