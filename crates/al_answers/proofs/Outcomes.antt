-- What a caller may conclude from the outcome of a call that follows a plan.
use Rattle.std.proofs.Common.{◌≡◌, ◌≢◌, ◌⊎◌, inl, inr, ℕ, List, [], ◌∷◌, length, Option, IfSome, refl, sym, ap, subst, ◌∙◌, arith}
use Rattle.std.proofs.Math.Seq.{take-nil}
use Rattle.std.specs.Io.KnownBytes.{append_known}
use Rattle.al_io.specs.Counts.{DidNotRise, MayHaveRisen, HasRisen, counted_on}
use Rattle.std.specs.Option.{option_map}
use Rattle.al_io.specs.Written.{AppendsPrefix}
use Rattle.al_answers.specs.declared.answers.Answer.{Answer}
use Rattle.al_answers.specs.Lines.{unread_line, absent_line}
use Rattle.al_answers.specs.Plans.{Plan, Reads, Answers, failed, played, reads_on, ReadsInOrder, AllAnswers}
use Rattle.al_answers.specs.Seen.{FilesSeen, SinkSeen, put_counted}
use Rattle.al_answers.specs.Tried.{ReadAtMost, Missed, by_fault, by_absence}
use Rattle.al_answers.specs.Calls.{Call}
use Rattle.al_answers.specs.Outcome.{Came, planned, Delivers, whole, out_failed, err_failed, Outcome, answered, starved}
use Rattle.al_answers.specs.Written.{IsOneOf, Writes, WritesLine, WritesPart, out_in_part, err_in_part, HasOnePutAtMost, Unread, Absent, UnreadInPart, Answered}
use Rattle.al_answers.proofs.Options.{if_any, if_so, no_rise, append_nothing}
use Rattle.al_answers.proofs.Comings.{is_played, played_where_read, answers_so, fault_answer, four_answer, came_reads, starved_reads, came_reads_on, starved_reads_on}

-- a call that came to this
abbrev pub at : FilesSeen → FilesSeen → SinkSeen → SinkSeen → SinkSeen → SinkSeen → ℕ → Call
at f g o p e q s =
    record { files = record { before = f; after = g }; out = record { before = o; after = p }; err = record { before = e; after = q }; status = s }

abbrev Delivered : Answer → SinkSeen → SinkSeen → SinkSeen → SinkSeen → ℕ → Type 0
Delivered a o p e q s = Delivers a (record { before = o; after = p }) (record { before = e; after = q }) s

-- ---- what is written of an answer

delivered_status : (a : Answer) (o p e q : SinkSeen) (s : ℕ) → Delivered a o p e q s → (s ≡ a.status) ⊎ (s ≡ 5)
delivered_status a o p e q _ (whole took also) = inl refl
delivered_status a o p e q _ (out_failed part same) = inr refl
delivered_status a o p e q _ (err_failed took part) = inr refl

-- where the status is not that of a failed put, all is written
delivered : (a : Answer) (f g : FilesSeen) (o p e q : SinkSeen) (s : ℕ) → Delivered a o p e q s → s ≢ 5 → Writes a (at f g o p e q s)
delivered a f g o p e q _ (whole took also) never = record { ends = refl; to_out = took.written; to_err = also.written }
delivered a f g o p e q _ (out_failed part same) never = absurd (never refl)
delivered a f g o p e q _ (err_failed took part) never = absurd (never refl)

writes_line : (n : ℕ) (line : List ℕ) (c : Call) → Writes (failed n line) c → WritesLine line c
writes_line n line c w = record { to_out = w.to_out ∙ append_nothing c.out.before.written; to_err = w.to_err }

one_put : (bytes : List ℕ) (calls new : Option ℕ) → new ≡ put_counted bytes calls → (new ≡ calls) ⊎ (new ≡ option_map (counted_on 1) calls)
one_put [] calls new h = inl h
one_put (b ∷ bs) calls new h = inr h

no_put : (bytes : List ℕ) (calls new : Option ℕ) → new ≡ put_counted bytes calls → bytes ≡ [] → new ≡ calls
no_put bytes calls new h none = h ∙ ap (λ bs. put_counted bs calls) none

not_of : (xs : List ℕ) (m n : ℕ) → (IsOneOf xs m → ⊥) → IsOneOf xs n → n ≡ m → ⊥
not_of xs m n never h is = never (subst (IsOneOf xs) is h)

same_answer : (b : Answer) (f g : FilesSeen) (a : Answer) → Came (Answers b) f g a → a ≡ b
same_answer b _ _ _ (planned a f) = refl

module _ (plan : Plan) (f g : FilesSeen) (o p e q : SinkSeen) where
  abbrev seen : ℕ → Call
  seen s = at f g o p e q s

  pub is_as_played : (s : ℕ) → Outcome plan (seen s) → DidNotRise f.faults g.faults → DidNotRise o.faults p.faults → DidNotRise e.faults q.faults → s ≢ 6
      → IfSome f.contents (λ files. Writes (played files plan) (seen s))
  is_as_played s (answered a came (whole took also)) still still_out still_err not_six =
      if_so f.contents _ _ (λ files is. subst (λ b. Writes b (seen s)) is (record { ends = refl; to_out = took.written; to_err = also.written }))
      (played_where_read plan f g a came still)
  is_as_played s (answered a came (out_failed part same)) still still_out still_err not_six = absurd (no_rise o.faults p.faults still_out part.rose)
  is_as_played s (answered a came (err_failed took part)) still still_out still_err not_six = absurd (no_rise e.faults q.faults still_err part.rose)
  is_as_played s (starved how same also six) still still_out still_err not_six = absurd (not_six six)

  -- any status but those of a fault and of want of memory says that all is as the contents show
  pub is_as_told : (s : ℕ) → Outcome plan (seen s) → s ≢ 4 → s ≢ 5 → s ≢ 6 → IfSome f.contents (λ files. Writes (played files plan) (seen s))
  is_as_told s (answered a came del) not_four not_five not_six =
      let w = delivered a f g o p e q s del not_five in
      if_so f.contents _ _ (λ files is. subst (λ b. Writes b (seen s)) is w) (is_played plan f g a came (λ rose four. not_four (w.ends ∙ four)))
  is_as_told s (starved how same also six) not_four not_five not_six = absurd (not_six six)

  -- then it is an answer of the plan
  pub is_planned : (P : Answer → Type 0) → AllAnswers P plan → (s : ℕ) → Outcome plan (seen s) → s ≢ 4 → s ≢ 5 → s ≢ 6 → Answered P (seen s)
  is_planned P all s (answered a came del) not_four not_five not_six =
      let w = delivered a f g o p e q s del not_five in
      record {
        answer = a;
        holds = answers_so (λ b. b.status ≢ 4 → P b) (λ name h. absurd (h refl)) (λ name h. absurd (h refl)) plan f g a
            (weaker plan all) came (λ four. not_four (w.ends ∙ four));
        writes = w;
      }
    where
      weaker : (p : Plan) → AllAnswers P p → AllAnswers (λ b. b.status ≢ 4 → P b) p
      weaker (Reads name most next) h = λ bytes. weaker (next bytes) (h bytes)
      weaker (Answers a) h = λ never. h
  is_planned P all s (starved how same also six) not_four not_five not_six = absurd (not_six six)

  -- a plan that reads nothing gives its answer
  pub only_answer : (b : Answer) → plan ≡ Answers b → (s : ℕ) → Outcome plan (seen s) → IsOneOf (b.status ∷ 5 ∷ 6 ∷ []) s
  only_answer b is s (answered a came del) = by_status (same_answer b f g a (subst (λ r. Came r f g a) is came)) (delivered_status a o p e q s del)
    where
      by_status : a ≡ b → (s ≡ a.status) ⊎ (s ≡ 5) → IsOneOf (b.status ∷ 5 ∷ 6 ∷ []) s
      by_status same (inl h) = inl (h ∙ ap (λ (x : Answer). x.status) same)
      by_status same (inr h) = inr (inl h)
  only_answer b is s (starved how same also six) = inr (inr (inl six))

  pub fault_gives : (names : List (List ℕ)) → ReadsInOrder names plan → (s : ℕ) → Outcome plan (seen s) → HasRisen f.faults g.faults
      → IsOneOf (4 ∷ 5 ∷ 6 ∷ []) s
  fault_gives names order s (answered a came del) rose = four_or_five (ap (λ (b : Answer). b.status) (fault_answer names plan f g a order came rose).2)
      (delivered_status a o p e q s del)
    where
      four_or_five : a.status ≡ 4 → (s ≡ a.status) ⊎ (s ≡ 5) → IsOneOf (4 ∷ 5 ∷ 6 ∷ []) s
      four_or_five four (inl is) = inl (is ∙ four)
      four_or_five four (inr is) = inr (inl is)
  fault_gives names order s (starved how same also six) rose = inr (inr (inl six))

  pub out_gives : (s : ℕ) → Outcome plan (seen s) → HasRisen o.faults p.faults → s ≡ 5
  out_gives s (answered a came (whole took also)) h = let is = took.faults in absurd (omega arith)
  out_gives s (answered a came (out_failed part same)) h = refl
  out_gives s (answered a came (err_failed took part)) h = refl
  out_gives s (starved how same also six) h = let is : p.faults ≡ o.faults = ap (λ (x : SinkSeen). x.faults) same in absurd (omega arith)

  pub err_gives : (s : ℕ) → Outcome plan (seen s) → HasRisen e.faults q.faults → s ≡ 5
  err_gives s (answered a came (whole took also)) h = let is = also.faults in absurd (omega arith)
  err_gives s (answered a came (out_failed part same)) h = refl
  err_gives s (answered a came (err_failed took part)) h = refl
  err_gives s (starved how same also six) h = let is : q.faults ≡ e.faults = ap (λ (x : SinkSeen). x.faults) also in absurd (omega arith)

  pub unread_writes : (names : List (List ℕ)) → ReadsInOrder names plan → (s : ℕ) → Outcome plan (seen s) → s ≡ 4 → HasRisen f.faults g.faults
      → Unread names (seen s)
  unread_writes names order s (answered a came del) four rose =
      let w = delivered a f g o p e q s del (λ five. omega arith) in
      let why = fault_answer names plan f g a order came rose in
      record { name = why.0; tried = why.1; writes = writes_line 4 (unread_line why.0) (seen s) (subst (λ b. Writes b (seen s)) why.2 w) }
  unread_writes names order s (starved how same also six) four rose = absurd (omega arith)

  -- ---- where the plan's own answers have other statuses

  module _ (own : AllAnswers (λ a. IsOneOf (0 ∷ 1 ∷ 2 ∷ 3 ∷ 7 ∷ []) a.status) plan) where
    answer_status : (a : Answer) → Came plan f g a → IsOneOf (0 ∷ 1 ∷ 2 ∷ 3 ∷ 4 ∷ 7 ∷ []) a.status
    answer_status a came = answers_so (λ b. IsOneOf (0 ∷ 1 ∷ 2 ∷ 3 ∷ 4 ∷ 7 ∷ []) b.status) (λ name. inr (inr (inr (inr (inl refl)))))
        (λ name. inr (inr (inr (inr (inl refl))))) plan f g a (wider plan own) came
      where
        wide : (n : ℕ) → IsOneOf (0 ∷ 1 ∷ 2 ∷ 3 ∷ 7 ∷ []) n → IsOneOf (0 ∷ 1 ∷ 2 ∷ 3 ∷ 4 ∷ 7 ∷ []) n
        wide n (inl h) = inl h
        wide n (inr (inl h)) = inr (inl h)
        wide n (inr (inr (inl h))) = inr (inr (inl h))
        wide n (inr (inr (inr (inl h)))) = inr (inr (inr (inl h)))
        wide n (inr (inr (inr (inr (inl h))))) = inr (inr (inr (inr (inr (inl h)))))
        wide n (inr (inr (inr (inr (inr h))))) = elim h [ ]

        wider : (p : Plan) → AllAnswers (λ a. IsOneOf (0 ∷ 1 ∷ 2 ∷ 3 ∷ 7 ∷ []) a.status) p → AllAnswers (λ a. IsOneOf (0 ∷ 1 ∷ 2 ∷ 3 ∷ 4 ∷ 7 ∷ []) a.status) p
        wider (Reads name most next) h = λ bytes. wider (next bytes) (h bytes)
        wider (Answers a) h = wide a.status h

    not_five : (n : ℕ) → IsOneOf (0 ∷ 1 ∷ 2 ∷ 3 ∷ 4 ∷ 7 ∷ []) n → n ≡ 5 → ⊥
    not_five n (inl h) is = omega arith
    not_five n (inr (inl h)) is = omega arith
    not_five n (inr (inr (inl h))) is = omega arith
    not_five n (inr (inr (inr (inl h)))) is = omega arith
    not_five n (inr (inr (inr (inr (inl h))))) is = omega arith
    not_five n (inr (inr (inr (inr (inr (inl h)))))) is = omega arith
    not_five n (inr (inr (inr (inr (inr (inr h)))))) is = elim h [ ]

    not_six : (n : ℕ) → IsOneOf (0 ∷ 1 ∷ 2 ∷ 3 ∷ 4 ∷ 7 ∷ []) n → n ≡ 6 → ⊥
    not_six n (inl h) is = omega arith
    not_six n (inr (inl h)) is = omega arith
    not_six n (inr (inr (inl h))) is = omega arith
    not_six n (inr (inr (inr (inl h)))) is = omega arith
    not_six n (inr (inr (inr (inr (inl h))))) is = omega arith
    not_six n (inr (inr (inr (inr (inr (inl h)))))) is = omega arith
    not_six n (inr (inr (inr (inr (inr (inr h)))))) is = elim h [ ]

    not_four : (n : ℕ) → IsOneOf (0 ∷ 1 ∷ 2 ∷ 3 ∷ 7 ∷ []) n → n ≡ 4 → ⊥
    not_four n (inl h) is = omega arith
    not_four n (inr (inl h)) is = omega arith
    not_four n (inr (inr (inl h))) is = omega arith
    not_four n (inr (inr (inr (inl h)))) is = omega arith
    not_four n (inr (inr (inr (inr (inl h))))) is = omega arith
    not_four n (inr (inr (inr (inr (inr h))))) is = elim h [ ]

    never_four : (p : Plan) → AllAnswers (λ a. IsOneOf (0 ∷ 1 ∷ 2 ∷ 3 ∷ 7 ∷ []) a.status) p → AllAnswers (λ a. a.status ≡ 4 → ⊥) p
    never_four (Reads name most next) h = λ bytes. never_four (next bytes) (h bytes)
    never_four (Answers a) h = not_four a.status h

    pub has_status : (s : ℕ) → Outcome plan (seen s) → IsOneOf (0 ∷ 1 ∷ 2 ∷ 3 ∷ 4 ∷ 5 ∷ 6 ∷ 7 ∷ []) s
    has_status s (answered a came del) = by_status (answer_status a came) (delivered_status a o p e q s del)
      where
        wide : (n : ℕ) → IsOneOf (0 ∷ 1 ∷ 2 ∷ 3 ∷ 4 ∷ 7 ∷ []) n → IsOneOf (0 ∷ 1 ∷ 2 ∷ 3 ∷ 4 ∷ 5 ∷ 6 ∷ 7 ∷ []) n
        wide n (inl h) = inl h
        wide n (inr (inl h)) = inr (inl h)
        wide n (inr (inr (inl h))) = inr (inr (inl h))
        wide n (inr (inr (inr (inl h)))) = inr (inr (inr (inl h)))
        wide n (inr (inr (inr (inr (inl h))))) = inr (inr (inr (inr (inl h))))
        wide n (inr (inr (inr (inr (inr (inl h)))))) = inr (inr (inr (inr (inr (inr (inr (inl h)))))))
        wide n (inr (inr (inr (inr (inr (inr h)))))) = elim h [ ]

        by_status : IsOneOf (0 ∷ 1 ∷ 2 ∷ 3 ∷ 4 ∷ 7 ∷ []) a.status → (s ≡ a.status) ⊎ (s ≡ 5) → IsOneOf (0 ∷ 1 ∷ 2 ∷ 3 ∷ 4 ∷ 5 ∷ 6 ∷ 7 ∷ []) s
        by_status is (inl h) = subst (IsOneOf (0 ∷ 1 ∷ 2 ∷ 3 ∷ 4 ∷ 5 ∷ 6 ∷ 7 ∷ [])) (sym h) (wide a.status is)
        by_status is (inr h) = inr (inr (inr (inr (inr (inl h)))))
    has_status s (starved how same also six) = inr (inr (inr (inr (inr (inr (inl six))))))

    pub five_is_unwritten : (s : ℕ) → Outcome plan (seen s) → s ≡ 5 → MayHaveRisen o.faults p.faults ⊎ MayHaveRisen e.faults q.faults
    five_is_unwritten s (answered a came (whole took also)) h = absurd (not_five a.status (answer_status a came) h)
    five_is_unwritten s (answered a came (out_failed part same)) h = inl part.rose
    five_is_unwritten s (answered a came (err_failed took part)) h = inr part.rose
    five_is_unwritten s (starved how same also six) h = absurd (omega arith)

    pub four_is_unread : (names : List (List ℕ)) → ReadsInOrder names plan → (s : ℕ) → Outcome plan (seen s) → s ≡ 4
        → MayHaveRisen f.faults g.faults ⊎ Absent names (seen s)
    four_is_unread names order s (answered a came del) four =
        let w = delivered a f g o p e q s del (λ five. omega arith) in
        by_missed w (four_answer names plan f g a order (never_four plan own) came (sym w.ends ∙ four))
      where
        by_missed : Writes a (seen s) → Missed names f g a → MayHaveRisen f.faults g.faults ⊎ Absent names (seen s)
        by_missed w (by_fault name tried rose is) = inl rose
        by_missed w (by_absence name tried same lacks is) = inr
            (record { name = name; tried = tried; lacks = lacks; writes = writes_line 4 (absent_line name) (seen s) (subst (λ b. Writes b (seen s)) is w) })
    four_is_unread names order s (starved how same also six) four = absurd (omega arith)

    pub starved_writes : (s : ℕ) → Outcome plan (seen s) → s ≡ 6 → (p.written ≡ o.written) × (q.written ≡ e.written)
    starved_writes s (answered a came del) h = absurd (never (delivered_status a o p e q s del) (answer_status a came))
      where
        never : (s ≡ a.status) ⊎ (s ≡ 5) → IsOneOf (0 ∷ 1 ∷ 2 ∷ 3 ∷ 4 ∷ 7 ∷ []) a.status → ⊥
        never (inl is) few = not_six a.status few (sym is ∙ h)
        never (inr is) few = omega arith
    starved_writes s (starved how same also six) h = (ap (λ (x : SinkSeen). x.written) same, ap (λ (x : SinkSeen). x.written) also)

    -- after a failed put a prefix of the answer is there
    cut_part : (a : Answer) (s : ℕ) → Came plan f g a → Delivered a o p e q s → s ≡ 5 → WritesPart a (seen s)
    cut_part a _ came (whole took also) h = absurd (not_five a.status (answer_status a came) h)
    cut_part a _ came (out_failed part same) h = out_in_part part.written (ap (λ (x : SinkSeen). x.written) same)
    cut_part a _ came (err_failed took part) h = err_in_part took.written part.written

    pub cut_writes : (s : ℕ) → Outcome plan (seen s) → s ≡ 5 → DidNotRise f.faults g.faults
        → IfSome f.contents (λ files. WritesPart (played files plan) (seen s))
    cut_writes s (answered a came del) h still = if_so f.contents _ _ (λ files is. subst (λ b. WritesPart b (seen s)) is (cut_part a s came del h))
        (played_where_read plan f g a came still)
    cut_writes s (starved how same also six) h still = absurd (omega arith)

    pub cut_unread_writes : (names : List (List ℕ)) → ReadsInOrder names plan → (s : ℕ) → Outcome plan (seen s) → s ≡ 5 → HasRisen f.faults g.faults
        → UnreadInPart names (seen s)
    cut_unread_writes names order s (answered a came del) h rose =
        let why = fault_answer names plan f g a order came rose in
        let part = line_part (unread_line why.0) (subst (λ b. WritesPart b (seen s)) why.2 (cut_part a s came del h)) in
        record { name = why.0; tried = why.1; out = part.0; err = part.1 }
      where
        line_part : (line : List ℕ) → WritesPart (failed 4 line) (seen s) → (p.written ≡ o.written) × AppendsPrefix e.written q.written line
        line_part line (out_in_part h k) = (
          h.1 ∙ ap (append_known o.written) (take-nil h.0)
              ∙ append_nothing o.written,
          (0, k ∙ sym (append_nothing e.written)),
        )
        line_part line (err_in_part h k) = (h ∙ append_nothing o.written, k)
    cut_unread_writes names order s (starved how same also six) h rose = absurd (omega arith)

  -- ---- how many reads, and how many puts

  pub reads_few : (names : List (List ℕ)) → ReadsInOrder names plan → (s : ℕ) → Outcome plan (seen s) → ReadAtMost (length names) f g
  reads_few names order s (answered a came del) = came_reads names plan f g a order came
  reads_few names order s (starved how same also six) = starved_reads names plan f g order how

  pub reads_as_told : (s : ℕ) → Outcome plan (seen s) → IfSome f.contents (λ files. ReadAtMost (reads_on files plan) f g)
  reads_as_told s (answered a came del) = came_reads_on plan f g a came
  reads_as_told s (starved how same also six) = starved_reads_on plan f g how

  pub put_out_once : (s : ℕ) → Outcome plan (seen s) → HasOnePutAtMost (seen s).out
  put_out_once s (answered a came (whole took also)) = one_put a.out o.calls p.calls took.calls
  put_out_once s (answered a came (out_failed part same)) = one_put a.out o.calls p.calls part.calls
  put_out_once s (answered a came (err_failed took part)) = one_put a.out o.calls p.calls took.calls
  put_out_once s (starved how same also six) = inl (ap (λ (x : SinkSeen). x.calls) same)

  pub put_err_once : (s : ℕ) → Outcome plan (seen s) → HasOnePutAtMost (seen s).err
  put_err_once s (answered a came (whole took also)) = one_put a.err e.calls q.calls also.calls
  put_err_once s (answered a came (out_failed part same)) = inl (ap (λ (x : SinkSeen). x.calls) same)
  put_err_once s (answered a came (err_failed took part)) = one_put a.err e.calls q.calls part.calls
  put_err_once s (starved how same also six) = inl (ap (λ (x : SinkSeen). x.calls) also)

  -- no put of no bytes is made
  quiet_out : (a : Answer) (s : ℕ) → Delivered a o p e q s → a.out ≡ [] → p.calls ≡ o.calls
  quiet_out a _ (whole took also) none = no_put a.out o.calls p.calls took.calls none
  quiet_out a _ (out_failed part same) none = no_put a.out o.calls p.calls part.calls none
  quiet_out a _ (err_failed took part) none = no_put a.out o.calls p.calls took.calls none

  quiet_err : (a : Answer) (s : ℕ) → Delivered a o p e q s → a.err ≡ [] → q.calls ≡ e.calls
  quiet_err a _ (whole took also) none = no_put a.err e.calls q.calls also.calls none
  quiet_err a _ (out_failed part same) none = ap (λ (x : SinkSeen). x.calls) same
  quiet_err a _ (err_failed took part) none = no_put a.err e.calls q.calls part.calls none

  pub no_put_out : (s : ℕ) → Outcome plan (seen s) → DidNotRise f.faults g.faults
      → IfSome f.contents (λ files. (played files plan).out ≡ [] → p.calls ≡ o.calls)
  no_put_out s (answered a came del) still = if_so f.contents _ _ (λ files is none. quiet_out a s del (ap (λ (b : Answer). b.out) is ∙ none))
      (played_where_read plan f g a came still)
  no_put_out s (starved how same also six) still = if_any f.contents _ (λ files none. ap (λ (x : SinkSeen). x.calls) same)

  pub no_put_err : (s : ℕ) → Outcome plan (seen s) → DidNotRise f.faults g.faults
      → IfSome f.contents (λ files. (played files plan).err ≡ [] → q.calls ≡ e.calls)
  no_put_err s (answered a came del) still = if_so f.contents _ _ (λ files is none. quiet_err a s del (ap (λ (b : Answer). b.err) is ∙ none))
      (played_where_read plan f g a came still)
  no_put_err s (starved how same also six) still = if_any f.contents _ (λ files none. ap (λ (x : SinkSeen). x.calls) also)

  pub no_put_unread : (names : List (List ℕ)) → ReadsInOrder names plan → (s : ℕ) → Outcome plan (seen s) → HasRisen f.faults g.faults → p.calls ≡ o.calls
  no_put_unread names order s (answered a came del) rose = quiet_out a s del (ap (λ (b : Answer). b.out) (fault_answer names plan f g a order came rose).2)
  no_put_unread names order s (starved how same also six) rose = ap (λ (x : SinkSeen). x.calls) same
