-- The first input of a run has numbers of 64 bits.
use Rattle.std.proofs.Common.{◌≡◌, ℕ, ◌^◌, ◌<◌, ◌≤◌, List, [], ◌∷◌, length, Ok, arith, w64, FitsSigned}
use Rattle.std.specs.Prelude.{ℤ, pos}
use Rattle.al_source.specs.declared.limits.TheConstants.{INPUT_NUMBERS}
use Rattle.al_io.specs.Contents.{Contents}
use Rattle.al_text.proofs.NumbersFit.{AreNumbers, fit_at, numbers_fit_in}
use Rattle.al_runs_laws.specs.Accepted.{IsInput}
use Rattle.al_cli.specs.Headline.{HaveInputs}
use Rattle.al_cli.specs.Shown.{first_input}

small_fits : (v : ℕ) → v < 2 ^ 63 → FitsSigned w64 (pos v)
small_fits v l = grind arith

few : (ns : List ℤ) → length ns ≤ INPUT_NUMBERS → FitsSigned w64 (pos (length ns))
few ns l = let small : length ns < 2 ^ 63 = omega (arith, l) in small_fits (length ns) small

input_of : (ns : List ℤ) → AreNumbers ns → IsInput ns
input_of ns h = record { numbers = λ i n e. fit_at ns i n h.0 e; count = few ns h.1 }

-- the first input is one
pub first_is_input : (files : Contents) (names : List (List ℕ)) (inputs : List (List ℤ)) → HaveInputs files names inputs → IsInput (first_input inputs)
first_is_input files [] [] h = input_of [] (tt, omega arith)
first_is_input files (name ∷ names) (ns ∷ others) h =
    let text = h.0 in input_of ns (numbers_fit_in text.0 ns text.2)
first_is_input files [] (ns ∷ others) h = absurd h
first_is_input files (name ∷ names) [] h = absurd h
