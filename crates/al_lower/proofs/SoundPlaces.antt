-- Places of code that shows what is planned: each is sound, and what comes after it lies in its function.
use Rattle.std.proofs.Common.{◌≡◌, ℕ, suc, ◌+◌, ◌-◌, ◌<◌, ◌≤◌, Bool, true, false, ◌==◌, List, [], ◌∷◌, ◌++◌, length, Some, refl, sym, ap, ◌∙◌, subst, arith, if◌then◌else◌}
use Rattle.std.specs.Prelude.{slice_get}
use Rattle.std.specs.List.{AllByRecursion}
use Rattle.std.proofs.lemmas.Bool.{eqb-true}
use Rattle.std.proofs.lemmas.Option.{slice_get_within}
use Rattle.al_source.specs.declared.texts.Piece.{Piece}
use Rattle.al_core.specs.declared.choices.Bound.{Bound}
use Rattle.al_core.specs.declared.choices.LoopInfo.{LoopInfo}
use Rattle.al_core.specs.declared.typed_tree.Typed.{Typed}
use Rattle.al_rules.specs.Names.{AllOf, none, more}
use Rattle.al_code.specs.declared.instructions.Instr.{Instr}
use Rattle.al_code.specs.declared.instructions.Instr.TheVariants as i
use Rattle.al_code.specs.declared.lowered.Body.{Body}
use Rattle.al_code.specs.declared.lowered.Code.{Code}
use Rattle.al_code.specs.declared.lowered.Entry.{Entry}
use Rattle.al_code.specs.Valid.{params_of, holes_of, takes, puts, body_places, ended_places, places_after, jumps, NumberInRange, LocalInRange, IsSound, IsIn}
use Rattle.al_code_laws.specs.declared.plan.Op.TheVariants.{As, JumpTo, JumpIfTo, CallOf, PrintOf, LoopTo, EndOf}
use Rattle.al_code_laws.specs.declared.plan.Planned.{Planned}
use Rattle.al_code_laws.specs.Planned.{planned, Plan, past, Emit, nothing, one, ◌⨟◌, place_of, Shows, Has}
use Rattle.al_code_laws.proofs.Leads.{past_append, has_front, has_back}
use Rattle.al_lower.specs.Fine.{GlobalInRange, IsFine}
use Rattle.al_lower.proofs.FineStatements.{all_split}

pub past_grows : (ps : Plan) (n : ℕ) → n ≤ past ps n
past_grows [] n = omega arith
past_grows (p ∷ ps) n = omega (arith, past_grows ps n)

-- a body has its own end
abbrev pub EndsApart : Code → Type 0
EndsApart code = (j k : ℕ) (b c : Body) → slice_get code.bodies j ≡ Some b → slice_get code.bodies k ≡ Some c → b.end ≡ c.end → j ≡ k

-- the places of the bodies that end at a place, where that is only one
ended_are : (P : ℕ → Type 0) (place : ℕ) (bs : List Body) → ((k : ℕ) (b : Body) → slice_get bs k ≡ Some b → b.end ≡ place → P b.start × P b.end)
    → AllByRecursion P (ended_places place bs)
ended_are P place [] h = tt
ended_are P place (b ∷ bs) h = by (b.end == place) refl (ended_are P place bs (λ k c at is. h (suc k) c at is))
  where
    by : (t : Bool) → (b.end == place) ≡ t → AllByRecursion P (ended_places place bs)
        → AllByRecursion P (if t then b.start ∷ b.end ∷ ended_places place bs else ended_places place bs)
    by true e rest = let p = h 0 b refl (eqb-true b.end place e) in (p.0, (p.1, rest))
    by false e rest = rest

module _ (typed : Typed) (infos : List LoopInfo) (locals : ℕ) (code : Code) (globals : length code.globals ≡ length typed.globals)
    (e : Entry) (e_locals : e.locals ≡ locals) (top bottom : ℕ) (starts : e.start ≡ place_of code top) (ends : e.end ≡ place_of code bottom)
    (within : top ≤ length code.instrs) (apart : EndsApart code) where
  -- a place that so many instructions follow, of the function, where the stack has that height
  pub record NextIs (r height : ℕ) : Type 0 where
    pub above : bottom < r
    pub below : r ≤ top
    pub high : slice_get code.heights (place_of code r) ≡ Some height

  -- the place that so many follow after it
  abbrev at : ℕ → ℕ
  at r = place_of code (suc r)

  pub record IsGood (r : ℕ) : Type 0 where
    pub instr : Instr
    pub height : ℕ
    pub stands : slice_get code.instrs (at r) ≡ Some instr
    pub high : slice_get code.heights (at r) ≡ Some height
    pub sound : IsSound code (at r) instr height
    pub stays : AllByRecursion (IsIn e) (places_after code (at r) instr) × LocalInRange e.locals instr
    pub begins : (k : ℕ) (b : Body) → instr ≡ i.Loop k → slice_get code.bodies k ≡ Some b → b.start ≡ suc (at r)
    pub closes : instr ≡ i.EndIteration → (k : ℕ) × (b : Body) × (slice_get code.bodies k ≡ Some b) × (b.end ≡ suc (at r))

  abbrev pub AllGood : ℕ → Plan → Type 0
  AllGood n [] = Unit {0}
  AllGood n (p ∷ ps) = IsGood (past ps n) × AllGood n ps

  pub goods_append : (n : ℕ) (a b : Plan) → AllGood (past b n) a → AllGood n b → AllGood n (a ++ b)
  goods_append n [] b p q = q
  goods_append n (x ∷ a) b p q = (subst IsGood (sym (past_append a b n)) p.0, goods_append n a b p.1 q)

  pub is_in : {r h : ℕ} → NextIs r h → IsIn e (place_of code r)
  is_in n = let above = n.above in let below = n.below in (omega arith, omega arith)

  -- where an instruction stands there is a place
  pub next_of : {r : ℕ} {p : Planned} → Shows code r p → bottom ≤ r → suc r ≤ top → NextIs (suc r) p.height
  next_of s lo hi = record { above = omega arith; below = hi; high = s.at_height }

  -- the place after the one that r follow
  after_is : (r : ℕ) → suc r ≤ top → suc (at r) ≡ place_of code r
  after_is r hi = omega arith

  -- what is planned leads from one height to another
  abbrev pub Fine : Planned → Type 0
  Fine p = IsFine typed infos locals p.op

  abbrev pub Flows : Emit → ℕ → ℕ → Type 0
  Flows c h k = (n : ℕ) → Has code n (c n) → AllOf Fine (c n) → past (c n) n ≤ top → NextIs n k → AllGood n (c n) × NextIs (past (c n) n) h

  pub flow_nothing : (h : ℕ) → Flows nothing h h
  flow_nothing h n has fine hi next = (tt, next)

  pub flow_seq : {a b : Emit} {h m k : ℕ} → Flows a h m → Flows b m k → Flows (a ⨟ b) h k
  flow_seq {a = a} {b = b} {h = h} p q n has fine hi next =
      let cb = b n in
      let r = past cb n in
      let ca = a r in
      let f = all_split ca cb fine in
      let grows = past_grows ca r in
      let whole = past_append ca cb n in
      let second = q n (has_back code n ca cb has) f.1 (omega arith) next in
      let first = p r (has_front code n ca cb has) f.0 (omega arith) second.1 in
      (goods_append n ca cb first.0 second.0, subst (λ m. NextIs m h) (sym whole) first.1)

  -- ---- one instruction

  pub plain_good : (x : Instr) (line h k r : ℕ) → takes code x ≤ h → k ≡ h - takes code x + puts x → ((p : ℕ) → places_after code p x ≡ suc p ∷ [])
      → jumps x ≡ [] → ((k : ℕ) → x ≡ i.Loop k → ⊥) → (x ≡ i.EndIteration → ⊥) → NumberInRange code x → LocalInRange locals x
      → Shows code r (planned (As x) line h) → suc r ≤ top → NextIs r k → IsGood r
  plain_good x line h k r operands leaves goes jumps_none no_loop no_end number local shows hi next =
      let after = after_is r hi in
      record {
        instr = x;
        height = h;
        stands = shows.op;
        high = shows.at_height;
        sound = record {
          operands = operands;
          number = number;
          heights = subst (AllByRecursion (λ q. slice_get code.heights q ≡ Some (h - takes code x + puts x))) (sym (goes (at r)))
              (ap (slice_get code.heights) after ∙ next.high ∙ ap Some leaves, tt);
          back = subst (AllByRecursion (λ q. q ≤ at r → slice_get code.instrs q ≡ Some i.Step)) (sym jumps_none) tt;
        };
        stays = (
          subst (AllByRecursion (IsIn e)) (sym (goes (at r))) (subst (IsIn e) (sym after) (is_in next), tt),
          subst (λ n. LocalInRange n x) (sym e_locals) local,
        );
        begins = λ k b is has. absurd (no_loop k is);
        closes = λ is. absurd (no_end is);
      }

  pub flow_plain : (x : Instr) (line h k : ℕ) → takes code x ≤ h → k ≡ h - takes code x + puts x → ((p : ℕ) → places_after code p x ≡ suc p ∷ [])
      → jumps x ≡ [] → ((k : ℕ) → x ≡ i.Loop k → ⊥) → (x ≡ i.EndIteration → ⊥) → (GlobalInRange typed x → NumberInRange code x)
      → Flows (one (As x) line h) h k
  flow_plain x line h k operands leaves goes jumps_none no_loop no_end number n has (more fine none) hi next =
      let above = next.above in (
        (plain_good x line h k n operands leaves goes jumps_none no_loop no_end (number fine.1) fine.0 has.0 hi next, tt),
        next_of has.0 (omega arith) hi,
      )

  -- a jump past what follows it, or back to a step
  pub jump_good : (to line h r : ℕ) → Shows code r (planned (JumpTo to) line h) → suc r ≤ top → NextIs to h
      → (r < to → slice_get code.instrs (place_of code to) ≡ Some i.Step) → IsGood r
  jump_good to line h r shows hi next back =
      let below = next.below in
      let nothing_left : h ≡ h - 0 + 0 = omega arith in
      record {
        instr = i.Jump (place_of code to);
        height = h;
        stands = shows.op;
        high = shows.at_height;
        sound = record {
          operands = omega arith;
          number = tt;
          heights = (next.high ∙ ap Some nothing_left, tt);
          back = (λ le. back (omega arith), tt);
        };
        stays = ((is_in next, tt), tt);
        begins = λ k b is has. absurd (cc);
        closes = λ is. absurd (cc);
      }

  pub test_good : (b : Bool) (to line h r : ℕ) → Shows code r (planned (JumpIfTo b to) line (suc h)) → suc r ≤ top → to ≤ r → NextIs to h → NextIs r h
      → IsGood r
  test_good b to line h r shows hi forward next on =
      let below = next.below in
      let after = after_is r hi in
      let one_less : h ≡ suc h - 1 + 0 = omega arith in
      record {
        instr = i.JumpIf b (place_of code to);
        height = suc h;
        stands = shows.op;
        high = shows.at_height;
        sound = record {
          operands = omega arith;
          number = tt;
          heights = (next.high ∙ ap Some one_less, (ap (slice_get code.heights) after ∙ on.high ∙ ap Some one_less, tt));
          back = (λ le. absurd (omega arith), tt);
        };
        stays = ((is_in next, (subst (IsIn e) (sym after) (is_in on), tt)), tt);
        begins = λ k b is has. absurd (cc);
        closes = λ is. absurd (cc);
      }

  pub return_good : (line h r : ℕ) → Shows code r (planned (As i.Return) line (suc h)) → IsGood r
  return_good line h r shows = record {
    instr = i.Return;
    height = suc h;
    stands = shows.op;
    high = shows.at_height;
    sound = record { operands = omega arith; number = tt; heights = tt; back = tt };
    stays = (tt, tt);
    begins = λ k b is has. absurd (cc);
    closes = λ is. absurd (cc);
  }

  pub call_good : (f count line h r : ℕ) → Shows code r (planned (CallOf f count) line (h + count)) → suc r ≤ top → NextIs r (suc h) → IsGood r
  call_good f count line h r shows hi next =
      let after = after_is r hi in
      let takes_is : takes code (i.Call f) ≡ count = ap params_of shows.op.has_entry ∙ shows.op.takes in
      let leaves : suc h ≡ h + count - takes code (i.Call f) + 1 = omega arith in
      record {
        instr = i.Call f;
        height = h + count;
        stands = shows.op.instr;
        high = shows.at_height;
        sound = record {
          operands = omega arith;
          number = slice_get_within code.funcs f shows.op.entry shows.op.has_entry;
          heights = (ap (slice_get code.heights) after ∙ next.high ∙ ap Some leaves, tt);
          back = tt;
        };
        stays = ((subst (IsIn e) (sym after) (is_in next), tt), tt);
        begins = λ k b is has. absurd (cc);
        closes = λ is. absurd (cc);
      }

  pub print_good : (format : List Piece) (count line r : ℕ) → Shows code r (planned (PrintOf format count) line count) → suc r ≤ top → NextIs r 0 → IsGood r
  print_good format count line r shows hi next =
      let after = after_is r hi in
      let takes_is : takes code (i.Print shows.op.number) ≡ count = ap holes_of shows.op.has_text ∙ shows.op.takes in
      let leaves : 0 ≡ count - takes code (i.Print shows.op.number) + 0 = omega arith in
      record {
        instr = i.Print shows.op.number;
        height = count;
        stands = shows.op.instr;
        high = shows.at_height;
        sound = record {
          operands = omega arith;
          number = slice_get_within code.texts shows.op.number format shows.op.has_text;
          heights = (ap (slice_get code.heights) after ∙ next.high ∙ ap Some leaves, tt);
          back = tt;
        };
        stays = ((subst (IsIn e) (sym after) (is_in next), tt), tt);
        begins = λ k b is has. absurd (cc);
        closes = λ is. absurd (cc);
      }

  some_is : {A : Type 0} {x y : A} → Some x ≡ Some y → x ≡ y
  some_is e = cc

  same_loop : (j k : ℕ) → i.Loop j ≡ i.Loop k → j ≡ k
  same_loop j k e = cc

  pub loop_good : (k counter : ℕ) (bound : Bound) (after line r : ℕ) → Shows code r (planned (LoopTo k counter bound after) line 1) → suc r ≤ top
      → NextIs r 0 → NextIs after 0 → IsGood r
  loop_good k counter bound after line r shows hi on end =
      let b = shows.op.body in
      let start_is = shows.op.starts in
      let end_is = shows.op.ends in
      let places : body_places (slice_get code.bodies k) ≡ b.start ∷ b.end ∷ [] = ap body_places shows.op.has_body in
      let none_left : 0 ≡ 1 - 1 + 0 = omega arith in
      record {
        instr = i.Loop k;
        height = 1;
        stands = shows.op.instr;
        high = shows.at_height;
        sound = record {
          operands = omega arith;
          number = slice_get_within code.loops k shows.op.info shows.op.has_info;
          heights = subst (AllByRecursion (λ q. slice_get code.heights q ≡ Some (1 - 1 + 0))) (sym places)
              (ap (slice_get code.heights) start_is ∙ on.high ∙ ap Some none_left, (ap (slice_get code.heights) end_is ∙ end.high ∙ ap Some none_left, tt));
          back = tt;
        };
        stays = (
          subst (AllByRecursion (IsIn e)) (sym places) (subst (IsIn e) (sym start_is) (is_in on), (subst (IsIn e) (sym end_is) (is_in end), tt)),
          tt,
        );
        begins = λ j c is has.
            let j_is : j ≡ k = same_loop j k (sym is) in
            let same : b ≡ c = some_is (sym shows.op.has_body ∙ ap (slice_get code.bodies) (sym j_is) ∙ has) in
            ap (λ (b : Body). b.start) (sym same) ∙ start_is ∙ sym (after_is r hi);
        closes = λ is. absurd (cc);
      }

  -- the end of an iteration, whose body begins where the height is 0
  pub end_good : (k line r start : ℕ) (b : Body) → Shows code r (planned (EndOf k) line 0) → suc r ≤ top → slice_get code.bodies k ≡ Some b
      → b.start ≡ place_of code start → b.end ≡ place_of code r → NextIs start 0 → NextIs r 0 → IsGood r
  end_good k line r start b shows hi has start_is end_is first next =
      let after = after_is r hi in
      let only : (P : ℕ → Type 0) → P (place_of code start) → P (place_of code r) → AllByRecursion P (ended_places (suc (at r)) code.bodies) =
      λ P p q. ended_are P (suc (at r)) code.bodies (λ j c at is.
      let same : j ≡ k = apart j k c b at has (is ∙ after ∙ sym end_is) in
      let body : c ≡ b = some_is (sym at ∙ ap (slice_get code.bodies) same ∙ has) in (
        subst P (sym start_is ∙ ap (λ (b : Body). b.start) (sym body)) p,
        subst P (sym end_is ∙ ap (λ (b : Body). b.end) (sym body)) q,
      )) in
      let none_left : 0 ≡ 0 - 0 + 0 = omega arith in
      record {
        instr = i.EndIteration;
        height = 0;
        stands = shows.op;
        high = shows.at_height;
        sound = record {
          operands = omega arith;
          number = tt;
          heights = only (λ q. slice_get code.heights q ≡ Some (0 - 0 + 0)) (first.high ∙ ap Some none_left) (next.high ∙ ap Some none_left);
          back = tt;
        };
        stays = (only (IsIn e) (is_in first) (is_in next), tt);
        begins = λ j c is has. absurd (cc);
        closes = λ is. (k, b, has, end_is ∙ sym after);
      }
