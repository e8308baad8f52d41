-- How an answer of the code meets a definition: it is the defined one, unless memory runs out. No definition knows want
-- of memory, so an error of the code says what it is to the definition, or nothing: that is the first argument of each
-- word here.
use Rattle.std.specs.Prelude.{◌≡◌, ⊤, Option, Some, None, Result, Ok, Err}

-- the defined fault, where the code's error says one
abbrev pub Fails : {A D : Type 0} → Result A D → Option D → Type 0
Fails defined (Some d) = defined ≡ Err d
Fails defined None = ⊤

-- the defined answer
abbrev pub Gives : {A D E : Type 0} → (E → Option D) → Result A D → Result A E → Type 0
Gives says defined (Ok a) = defined ≡ Ok a
Gives says defined (Err e) = Fails defined (says e)

-- the defined answer, and the state that goes with it
abbrev pub Walks : {A S D E : Type 0} → (E → Option D) → Result (A × S) D → Result A E → S → Type 0
Walks says defined (Ok a) new = defined ≡ Ok (a, new)
Walks says defined (Err e) new = Fails defined (says e)

-- an answer whose value is put into a place
abbrev pub Puts : {S D E : Type 0} → (E → Option D) → Result S D → Result (Unit {0}) E → S → Type 0
Puts says defined (Ok done) new = defined ≡ Ok new
Puts says defined (Err e) new = Fails defined (says e)

-- the defined fault, and the state that it leaves
abbrev pub Stops : {A S D : Type 0} → Result A D × S → Option D → S → Type 0
Stops defined (Some d) new = defined ≡ (Err d, new)
Stops defined None new = ⊤

-- the defined answer or fault, and the state that it leaves either way
abbrev pub Does : {A S D E : Type 0} → (E → Option D) → Result A D × S → Result A E → S → Type 0
Does says defined (Ok a) new = defined ≡ (Ok a, new)
Does says defined (Err e) new = Stops defined (says e) new
