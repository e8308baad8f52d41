use Rattle.std.proofs.Common.{refl}
use Rattle.std.proofs.lemmas.Option.{slice_get_read, slice_get_past}
use Rattle.al_report.proofs.Spans.{token_within}
use Rattle.al_report.proofs.places.bad_text.Goals as goal

pub bad_token-requires-clause-in_order : goal.bad_token-requires-clause-in_order
bad_token-requires-clause-in_order c =
    let (there, is, sure, (before, any), own) = c.in-Some.ensures.lookup in
    (token_within _ _ c.args.place _ c.requires.spelled (slice_get_read c.args.tokens.now _ c.args.place _ refl before is)).0

pub bad_token-requires-clause-within : goal.bad_token-requires-clause-within
bad_token-requires-clause-within c =
    let (there, is, sure, (before, any), own) = c.in-Some.ensures.lookup in
    (token_within _ _ c.args.place _ c.requires.spelled (slice_get_read c.args.tokens.now _ c.args.place _ refl before is)).1

pub returns-in-Some : goal.returns-in-Some
returns-in-Some c =
    let (there, is, sure, (before, any), own) = c.in-Some.ensures.lookup in
    rw (slice_get_read c.args.tokens.now _ c.args.place _ refl before is) c.bad_token.ensures

pub returns-in-None : goal.returns-in-None
returns-in-None c =
    let (there, none, sure, past, own) = c.in-None.ensures.lookup in
    rw (slice_get_past c.args.tokens.now c.args.place past) c.unfinished.ensures
