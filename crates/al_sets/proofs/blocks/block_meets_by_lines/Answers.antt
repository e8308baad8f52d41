use Rattle.std.proofs.Common.{◌≡◌, ℕ, inl, inr}
use Rattle.al_core.specs.Lines.{line_of}
use Rattle.al_planes.specs.Lines.{size}
use Rattle.al_sets.specs.Places.{address_at}
use Rattle.al_sets.proofs.Lining.{words_met, words_meet, others_met, others_meet, head_alone, local_alone}
use Rattle.al_sets.proofs.blocks.block_meets_by_lines.Goals as goal

pub returns-in-Word-clause-met : goal.returns-in-Word-clause-met
returns-in-Word-clause-met c h =
    words_met c.args.line c.args.a.now.place c.args.a.now.masks c.args.b.now.masks _ _ c.in-Word.is
    (c.masks_meet_by_lines.ensures.met h)

pub returns-in-Word-clause-every : goal.returns-in-Word-clause-every
returns-in-Word-clause-every c m =
    c.masks_meet_by_lines.ensures.every
    (words_meet c.args.line c.args.a.now.place c.args.a.now.masks c.args.b.now.masks _ _ c.in-Word.is m)

pub returns-in-Head : goal.returns-in-Head
returns-in-Head c =
    let alone : (n : ℕ) → line_of (size c.args.line) (address_at c.args.a.now.place n) ≡ address_at c.args.a.now.place n =
    elim c.in-Head.is [
      | inl h ↦ head_alone c.args.line c.args.a.now.place h.0 h.1
      | inr k ↦ local_alone c.args.line c.args.a.now.place k.0 k.1
    ] in
    record {
      met = λ h.
          others_met c.args.line c.args.a.now.place c.args.a.now.masks c.args.b.now.masks (c.masks_meet.ensures.met h);
      every = λ m.
          c.masks_meet.ensures.every
          (others_meet c.args.line c.args.a.now.place c.args.a.now.masks c.args.b.now.masks alone m);
    }
