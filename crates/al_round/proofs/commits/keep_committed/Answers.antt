use Rattle.std.proofs.Common.{◌≡◌, ◌<◌, ◌++◌, ◌∷◌, [], length, drop, map, sym, ap, subst, ◌∙◌, append_assoc, length-append, arith}
use Rattle.al_core.specs.Verdicts.{committed}
use Rattle.al_snap.specs.Changes.{told}
use Rattle.al_round.specs.Rounds.{IsKept}
use Rattle.al_round.proofs.Keeping.{kept_next}
use Rattle.al_round.proofs.commits.keep_committed.Goals as goal

pub loop-done-preserved : goal.loop-done-preserved
loop-done-preserved g c =
    let l = c.loop-done in
    let vs = c.args.verdicts.now in
    let reds = c.args.reds.now in
    let m = g.S.Store.memory c.args.store.now in
    let rest = c.next.new.self.rest.items in
    let one = c.in-Some.done in
    let steps = c.in-Some.ensures.steps.0 in
    let whole : l.yielded ++ one ∷ rest ≡ c.args.all.items = ap (λ z. l.yielded ++ z) (sym steps) ∙ l.invariant.parts in
    let inside : l.lane < length vs = omega (arith, l.invariant.lane, c.requires.each, ap length whole, length-append l.yielded (one ∷ rest)) in
    let cs = committed (map (λ d. told d.change) c.args.all.items) vs in
    let kept = subst
    (λ ds. IsKept reds m cs (committed (map (λ d. told d.change) ds) (drop l.lane vs)) (g.S.Store.memory l.store) l.kept.printed l.kept.ending)
    steps l.invariant.kept in
    record {
      lane = let n = l.invariant.lane in omega (arith, length-append l.yielded (one ∷ []));
      parts = append_assoc l.yielded (one ∷ []) rest ∙ whole;
      kept = kept_next reds m cs (told one.change) (map (λ d. told d.change) rest) vs l.lane _ (g.S.Store.memory l.store) _ l.kept.printed _ l.kept.ending _
          inside kept c.in_ok-keep_by.ensures.memory c.in_ok-keep_by.ensures.printed c.in_ok-keep_by.ensures.ending;
    }
