-- A sink in memory: what it holds, how much it has room for, which puts are cut short, and what a put leaves.
use Rattle.std.specs.Prelude.{ℕ, ◌-◌, ◌++◌, ◌==◌, ◌||◌, Bool, List, map, find, min, length, take, Option, is_some, nat_lt}
use Rattle.std.specs.Option.{option_map_or, option_map}
use Rattle.al_io.specs.declared.mem_sink.Cut.{Cut}
use Rattle.al_io.specs.Counts.{counted_on, counted_if}

-- the number of each put that is cut short
abbrev pub numbers_of : List Cut → List ℕ
numbers_of cuts = map (λ (cut : Cut). cut.call) cuts

-- how many bytes the put of this number may take, where it is cut short
abbrev pub cut_at : List Cut → ℕ → Option ℕ
cut_at cuts call = option_map (λ (cut : Cut). cut.taken) (find (λ (cut : Cut). cut.call == call) cuts)

-- the bytes taken so far, how many there is room for, the puts that are cut short, and how many puts there were and
-- failed
pub record SinkInMemory : Type 0 where
  pub bytes : List ℕ
  pub room : ℕ
  pub cuts : List Cut
  pub calls : ℕ
  pub faults : ℕ

-- how many bytes there is room for still
abbrev pub room_left : SinkInMemory → ℕ
room_left s = s.room - length s.bytes

-- how many bytes the next put may take, where it is cut short
abbrev pub next_cut : SinkInMemory → Option ℕ
next_cut s = cut_at s.cuts s.calls

-- how many of these bytes the next put takes: as many as it may, and no more than fit
abbrev pub taken_of : SinkInMemory → List ℕ → ℕ
taken_of s bytes = min (room_left s) (option_map_or (λ taken. min taken (length bytes)) (next_cut s) (length bytes))

-- whether the next put of these bytes fails: it is cut short, or the bytes do not fit
abbrev pub put_fails : SinkInMemory → List ℕ → Bool
put_fails s bytes = is_some (next_cut s) || nat_lt (room_left s) (length bytes)

-- after a put of these bytes: what it takes is there, it is counted, and so is its fault, if it has failed
abbrev pub after_put : SinkInMemory → List ℕ → SinkInMemory
after_put s bytes = record s {
  bytes = s.bytes ++ take (taken_of s bytes) bytes;
  calls = counted_on 1 s.calls;
  faults = counted_if (put_fails s bytes) s.faults;
}
