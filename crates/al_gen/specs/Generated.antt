-- The generated job: a program, which is always the same, and the numbers that it reads.
use Rattle.std.specs.Prelude.{ℕ, zero, suc, ◌+◌, ◌*◌, ◌/◌, ◌%◌, List, ◌++◌, map, ℤ, pos, codes}
use Rattle.std.specs.List.{range_with_len}
use Rattle.al_gen.specs.declared.Made2.{Made2}

-- ---- the program

abbrev pub line : List ℕ → List ℕ
line text = text ++ codes "\n"

unfoldable pub source : List ℕ
source =
    line (codes "long hist[16];")
    ++ line (codes "int main(void) {")
    ++ line (codes "  long n = inputs();")
    ++ line (codes "  long s = 0;")
    ++ line (codes "#pragma alter RAW OutOfOrder reduce(+: s)")
    ++ line (codes "  for (long i = 0; i < n; i++) {")
    ++ line (codes "    hist[input(i) % 16] += 1;")
    ++ line (codes "    s += input(i);")
    ++ line (codes "  }")
    ++ line (codes "  for (long k = 0; k < 16; k++) printf(\"%ld \", hist[k]);")
    ++ line (codes "  printf(\"%ld\\n\", s);")
    ++ line (codes "  return 0;")
    ++ line (codes "}")

-- ---- the numbers

-- the state after another one
abbrev pub next : ℕ → ℕ
next x = (x * 1103515245 + 12345) % 2147483648

-- the k-th state, from the start on
abbrev pub state : ℕ → ℕ → ℕ
state start zero = start
state start (suc k) = next (state start k)

-- the k-th number, from 0, is of the state after the k-th
abbrev pub number : ℕ → ℕ → ℤ
number start k = pos (state start (k + 1) / 65536)

abbrev pub input : ℕ → ℕ → List ℤ
input start size = map (number start) (range_with_len 0 size)

-- ---- both

abbrev pub made : ℕ → ℕ → Made2
made start size = record { source = source; input = input start size }
