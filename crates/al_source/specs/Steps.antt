-- Results one after another, and steps that read a state: an answer and the state after it, or a fault.
use Rattle.std.specs.Prelude.{Result, Ok, Err}

-- what comes next knows the answer, and comes only where there was no fault
abbrev pub and_then : {A B F : Type 0} → Result A F → (A → Result B F) → Result B F
and_then (Ok a) next = next a
and_then (Err fault) next = Err fault

-- the same, where a state goes with the answer
abbrev pub bind : {A B S F : Type 0} → Result (A × S) F → (A → S → Result (B × S) F) → Result (B × S) F
bind (Ok r) next = next r.0 r.1
bind (Err fault) next = Err fault

-- an answer that leaves the state as it is
abbrev pub pure : {A S F : Type 0} → A → S → Result (A × S) F
pure a s = Ok (a, s)
