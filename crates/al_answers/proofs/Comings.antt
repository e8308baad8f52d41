-- What an answer says of the plan and of the files that it came from.
use Rattle.std.proofs.Common.{◌≡◌, ℕ, suc, List, [], ◌∷◌, length, None, Some, IfSome, IsSomeAnd, Result, Err, IsErrOf, ◌≢◌, refl, sym, ap, subst, ◌∙◌, arith}
use Rattle.std.specs.Option.{option_map}
use Rattle.al_io.specs.declared.files.ReadFault.{ReadFault}
use Rattle.al_io.specs.declared.files.ReadFault.TheVariants.{Failed, NoSuch}
use Rattle.al_io.specs.Contents.{Contents, contents_of, beginning_of}
use Rattle.al_io.specs.Counts.{counted_on, DidNotRise, MayHaveRisen, HasRisen}
use Rattle.al_answers.specs.declared.answers.Answer.{Answer}
use Rattle.al_answers.specs.Lines.{unread_line}
use Rattle.al_answers.specs.Plans.{Plan, Reads, failed, absent, played, reads_on, ReadsInOrder, AllAnswers}
use Rattle.al_answers.specs.Seen.{FilesSeen, ReadsOnce, TriesOnce, calls_later}
use Rattle.al_answers.specs.Outcome.{Came, planned, read_on, not_there, not_read, Starved, at_once, at_read, later}
use Rattle.al_answers.specs.Tried.{TriedLast, ReadAtMost, Missed, by_fault, by_absence}
use Rattle.al_answers.proofs.Options.{if_any, if_both, if_told, no_rise}

-- ---- what one read comes to

pub comes_unread : (name bytes : List ℕ) (most : ℕ) (f g : FilesSeen) (a : Answer) → bytes ≡ name → TriesOnce f g → MayHaveRisen f.faults g.faults
    → a ≡ failed 4 (unread_line bytes)
    → (next : List ℕ → Plan) → Came (Reads name most next) f g a
comes_unread name bytes most f g a e once rose is next =
    subst (Came (Reads name most next) f g) (sym (subst (λ n. a ≡ failed 4 (unread_line n)) e is)) (not_read name most next f g once rose)

pub comes_absent : (name bytes : List ℕ) (most : ℕ) (f g : FilesSeen) (a : Answer) → bytes ≡ name → ReadsOnce f g
    → IsSomeAnd f.contents (λ contents. contents_of contents name ≡ None) → a ≡ absent bytes
    → (next : List ℕ → Plan) → Came (Reads name most next) f g a
comes_absent name bytes most f g a e once lacks is next =
    subst (Came (Reads name most next) f g) (sym (subst (λ n. a ≡ absent n) e is)) (not_there name most next f g once lacks)

pub is_that_fault : {T : Type 0} (e f : ReadFault) → e ≡ f → IsErrOf {T = T} (Err e) f
is_that_fault {T} e f h = let error : ReadFault → Result T ReadFault = λ x. Err x in ap error h

pub not_failed : {T : Type 0} (e : ReadFault) → e ≡ NoSuch → ◌≢◌ {A = Result T ReadFault} (Err e) (Err Failed)
not_failed e is h = cc

-- ---- what the contents show

on_told : (P : Contents → Type 0) (f m : FilesSeen) → m.contents ≡ f.contents → IfSome m.contents P → IfSome f.contents P
on_told P f m same h = subst (λ r. IfSome r P) same h

no_file : (name : List ℕ) (most : ℕ) (files : Contents) → contents_of files name ≡ None → beginning_of files name most ≡ None
no_file name most files h = rw h refl

-- an answer is the one that the plan gives over the contents, unless it says that a read failed
pub is_played : (p : Plan) (f g : FilesSeen) (a : Answer) → Came p f g a → (MayHaveRisen f.faults g.faults → a.status ≡ 4 → ⊥)
    → IfSome f.contents (λ files. a ≡ played files p)
is_played _ _ _ _ (planned a f) never = if_any f.contents _ (λ files. refl)
is_played _ _ _ _ (read_on name most next f m g bytes a once begins came) never =
    let rest = on_told _ f m once.contents (is_played (next bytes) m g a came (λ rose. never (subst (λ n. MayHaveRisen n g.faults) once.faults rose))) in
    if_both f.contents _ _ _ (λ files is same. rw is same) begins rest
is_played _ _ _ _ (not_there name most next f g once lacks) never = if_told f.contents _ _ (λ files h. rw h refl) lacks
is_played _ _ _ _ (not_read name most next f g once rose) never = absurd (never rose refl)

pub played_where_read : (p : Plan) (f g : FilesSeen) (a : Answer) → Came p f g a → DidNotRise f.faults g.faults
    → IfSome f.contents (λ files. a ≡ played files p)
played_where_read p f g a came still = is_played p f g a came (λ rose _. no_rise f.faults g.faults still rose)

-- ---- every answer is the plan's, or says that a file was not read

pub answers_so : (P : Answer → Type 0) → ((name : List ℕ) → P (absent name)) → ((name : List ℕ) → P (failed 4 (unread_line name)))
    → (p : Plan) (f g : FilesSeen) (a : Answer) → AllAnswers P p → Came p f g a → P a
answers_so P there read _ _ _ _ all (planned a f) = all
answers_so P there read _ _ _ _ all (read_on name most next f m g bytes a once begins came) = answers_so P there read (next bytes) m g a (all bytes) came
answers_so P there read _ _ _ _ all (not_there name most next f g once lacks) = there name
answers_so P there read _ _ _ _ all (not_read name most next f g once rose) = read name

-- ---- the names of what was read

one_later : (names : List (List ℕ)) (n name : List ℕ) (f m g : FilesSeen) → ReadsOnce f m → TriedLast names m g name → TriedLast (n ∷ names) f g name
one_later names n name f m g once t = record { place = suc t.place; named = t.named; calls = t.calls ∙ ap (calls_later (suc t.place)) once.calls }

-- where the files' count rose, the answer names the file
pub fault_answer : (names : List (List ℕ)) (p : Plan) (f g : FilesSeen) (a : Answer) → ReadsInOrder names p → Came p f g a → HasRisen f.faults g.faults
    → (name : List ℕ) × TriedLast names f g name × (a ≡ failed 4 (unread_line name))
fault_answer names _ _ _ _ order (planned a f) rose = absurd (omega arith)
fault_answer [] _ _ _ _ order (read_on name most next f m g bytes a once begins came) rose = elim order [ ]
fault_answer (n ∷ names) _ _ _ _ order (read_on name most next f m g bytes a once begins came) rose =
    let rest = fault_answer names (next bytes) m g a (order.1 bytes) came (subst (λ k. HasRisen k g.faults) (sym once.faults) rose) in
    (rest.0, one_later names n rest.0 f m g once rest.1, rest.2)
fault_answer names _ _ _ _ order (not_there name most next f g once lacks) rose = let e = once.faults in absurd (omega arith)
fault_answer [] _ _ _ _ order (not_read name most next f g once r) rose = elim order [ ]
fault_answer (n ∷ names) _ _ _ _ order (not_read name most next f g once r) rose =
    (name, record { place = 0; named = ap (λ x. Some x) (sym order.0); calls = once.calls }, refl)

one_missed : (names : List (List ℕ)) (n : List ℕ) (f m g : FilesSeen) (a : Answer) → ReadsOnce f m → Missed names m g a → Missed (n ∷ names) f g a
one_missed names n f m g a once (by_fault name t rose is) = by_fault name (one_later names n name f m g once t)
    (subst (λ k. MayHaveRisen k g.faults) once.faults rose) is
one_missed names n f m g a once (by_absence name t same lacks is) = by_absence name (one_later names n name f m g once t) (same ∙ once.faults)
    (subst (λ r. IsSomeAnd r (λ contents. contents_of contents name ≡ None)) once.contents lacks) is

-- an answer with status 4, where the plan itself gives none
pub four_answer : (names : List (List ℕ)) (p : Plan) (f g : FilesSeen) (a : Answer) → ReadsInOrder names p → AllAnswers (λ b. b.status ≡ 4 → ⊥) p
    → Came p f g a → a.status ≡ 4 → Missed names f g a
four_answer names _ _ _ _ order all (planned a f) four = absurd (all four)
four_answer [] _ _ _ _ order all (read_on name most next f m g bytes a once begins came) four = elim order [ ]
four_answer (n ∷ names) _ _ _ _ order all (read_on name most next f m g bytes a once begins came) four =
    one_missed names n f m g a once (four_answer names (next bytes) m g a (order.1 bytes) (all bytes) came four)
four_answer [] _ _ _ _ order all (not_there name most next f g once lacks) four = elim order [ ]
four_answer (n ∷ names) _ _ _ _ order all (not_there name most next f g once lacks) four =
    by_absence name (record { place = 0; named = ap (λ x. Some x) (sym order.0); calls = once.calls }) once.faults lacks refl
four_answer [] _ _ _ _ order all (not_read name most next f g once r) four = elim order [ ]
four_answer (n ∷ names) _ _ _ _ order all (not_read name most next f g once r) four =
    by_fault name (record { place = 0; named = ap (λ x. Some x) (sym order.0); calls = once.calls }) r refl

-- ---- how many reads

one_more : (most : ℕ) (f m g : FilesSeen) → ReadsOnce f m → ReadAtMost most m g → ReadAtMost (suc most) f g
one_more most f m g once r = let h = r.within in record { reads = suc r.reads; within = omega arith; calls = r.calls ∙ ap (calls_later r.reads) once.calls }

no_reads : (most : ℕ) (f : FilesSeen) → ReadAtMost most f f
no_reads most f = record { reads = 0; within = omega arith; calls = refl }

one_read : (most : ℕ) (f g : FilesSeen) → g.calls ≡ option_map (counted_on 1) f.calls → ReadAtMost (suc most) f g
one_read most f g h = record { reads = 1; within = omega arith; calls = h }

pub came_reads : (names : List (List ℕ)) (p : Plan) (f g : FilesSeen) (a : Answer) → ReadsInOrder names p → Came p f g a → ReadAtMost (length names) f g
came_reads names _ _ _ _ order (planned a f) = no_reads (length names) f
came_reads [] _ _ _ _ order (read_on name most next f m g bytes a once begins came) = elim order [ ]
came_reads (n ∷ names) _ _ _ _ order (read_on name most next f m g bytes a once begins came) = one_more (length names) f m g once
    (came_reads names (next bytes) m g a (order.1 bytes) came)
came_reads [] _ _ _ _ order (not_there name most next f g once lacks) = elim order [ ]
came_reads (n ∷ names) _ _ _ _ order (not_there name most next f g once lacks) = one_read (length names) f g once.calls
came_reads [] _ _ _ _ order (not_read name most next f g once r) = elim order [ ]
came_reads (n ∷ names) _ _ _ _ order (not_read name most next f g once r) = one_read (length names) f g once.calls

pub starved_reads : (names : List (List ℕ)) (p : Plan) (f g : FilesSeen) → ReadsInOrder names p → Starved p f g → ReadAtMost (length names) f g
starved_reads names _ _ _ order (at_once p f) = no_reads (length names) f
starved_reads [] _ _ _ order (at_read name most next f g once) = elim order [ ]
starved_reads (n ∷ names) _ _ _ order (at_read name most next f g once) = one_read (length names) f g once.calls
starved_reads [] _ _ _ order (later name most next f m g bytes once begins rest) = elim order [ ]
starved_reads (n ∷ names) _ _ _ order (later name most next f m g bytes once begins rest) = one_more (length names) f m g once
    (starved_reads names (next bytes) m g (order.1 bytes) rest)

-- not more than the plan reads of the contents, where these are told
pub came_reads_on : (p : Plan) (f g : FilesSeen) (a : Answer) → Came p f g a → IfSome f.contents (λ files. ReadAtMost (reads_on files p) f g)
came_reads_on _ _ _ _ (planned a f) = if_any f.contents _ (λ files. no_reads 0 f)
came_reads_on _ _ _ _ (read_on name most next f m g bytes a once begins came) =
    if_both f.contents _ _ _ (λ files is r. rw is (one_more (reads_on files (next bytes)) f m g once r)) begins
    (on_told _ f m once.contents (came_reads_on (next bytes) m g a came))
came_reads_on _ _ _ _ (not_there name most next f g once lacks) = if_any f.contents _ (λ files. one_read _ f g once.calls)
came_reads_on _ _ _ _ (not_read name most next f g once rose) = if_any f.contents _ (λ files. one_read _ f g once.calls)

pub starved_reads_on : (p : Plan) (f g : FilesSeen) → Starved p f g → IfSome f.contents (λ files. ReadAtMost (reads_on files p) f g)
starved_reads_on _ _ _ (at_once p f) = if_any f.contents _ (λ files. no_reads _ f)
starved_reads_on _ _ _ (at_read name most next f g once) = if_any f.contents _ (λ files. one_read _ f g once.calls)
starved_reads_on _ _ _ (later name most next f m g bytes once begins rest) =
    if_both f.contents _ _ _ (λ files is r. rw is (one_more (reads_on files (next bytes)) f m g once r)) begins
    (on_told _ f m once.contents (starved_reads_on (next bytes) m g rest))
