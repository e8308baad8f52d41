-- Worlds outside the iterations of annotated loops, by who answers at those loops.
use Rattle.std.specs.Prelude.{ℕ, List, [], ◌∷◌, ◌++◌, Err, ℤ}
use Rattle.al_core.specs.declared.values.Trap.TheVariants as trap
use Rattle.al_core.specs.declared.values.Val.{Val}
use Rattle.al_core.specs.World.{World}
use Rattle.al_core.specs.Action.{Answer}
use Rattle.al_core.specs.Access.{load, store, make, free, print}
use Rattle.al_core.specs.Run.{Whole, on_content}

-- how an annotated loop is answered, from its number, its start, its bound, the frame's locals and what the code sees
abbrev pub Answerer : Type 0
Answerer = ℕ → ℤ → ℤ → List Val → Whole → Answer (List Val) × Whole

-- the world in which an answerer answers
abbrev pub answered : Answerer → World Whole
answered answer = record {
  load = λ a want. on_content (load a want);
  store = λ a v. on_content (store a v);
  make = λ words. on_content (make words);
  free = λ o at. on_content (free o at);
  print = λ bytes w. record w { content = print bytes w.content };
  visit = answer;
}

-- ---- answers from a list

-- an answer: the locals after the loop, or a trap with its line, and what the code sees from then on
pub record Reply : Type 0 where
  pub answer : Answer (List Val)
  pub whole : Whole

-- a stop: the loop's number, its start, its bound, the frame's locals and what the code saw
pub record LoopStop : Type 0 where
  pub loop : ℕ
  pub lo : ℤ
  pub hi : ℤ
  pub locals : List Val
  pub whole : Whole

-- what the code sees, the answers to come, and the stops so far
pub record Listed : Type 0 where
  pub whole : Whole
  pub replies : List Reply
  pub stops : List LoopStop

abbrev pub on_whole : {A : Type 0} → (Whole → A × Whole) → Listed → A × Listed
on_whole op x = ((op x.whole).0, record x { whole = (op x.whole).1 })

-- The next answer is taken. Where there is none the run ends at this stop, of which there is then one more than there
-- were answers.
abbrev pub take_reply : List LoopStop → List Reply → Whole → Answer (List Val) × Listed
take_reply stops [] w = (Err (trap.Steps, 0), record { whole = w; replies = []; stops = stops })
take_reply stops (r ∷ rs) w = (r.answer, record { whole = r.whole; replies = rs; stops = stops })

abbrev pub listed_visit : ℕ → ℤ → ℤ → List Val → Listed → Answer (List Val) × Listed
listed_visit loop lo hi locals x =
    take_reply
    (x.stops ++ record { loop = loop; lo = lo; hi = hi; locals = locals; whole = x.whole } ∷ [])
    x.replies x.whole

-- the world in which a list of answers answers
abbrev pub listed : World Listed
listed = record {
  load = λ a want. on_whole (on_content (load a want));
  store = λ a v. on_whole (on_content (store a v));
  make = λ words. on_whole (on_content (make words));
  free = λ o at. on_whole (on_content (free o at));
  print = λ bytes x. record x { whole = record x.whole { content = print bytes x.whole.content } };
  visit = listed_visit;
}
