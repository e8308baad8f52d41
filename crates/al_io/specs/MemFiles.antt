-- Files in memory: what they hold, which reads fail, and what a read leaves.
use Rattle.std.specs.Prelude.{ℕ, ◌==◌, Bool, List, map, string_bytes}
use Rattle.std.specs.List.{list_any}
use Rattle.std.specs.Str.{bytes_eq}
use Rattle.al_io.specs.declared.mem_files.MemFile.{MemFile}
use Rattle.al_io.specs.Contents.{Contents}
use Rattle.al_io.specs.Counts.{counted_on, counted_if}

-- the name and the bytes of each file, in order
abbrev pub named : List MemFile → Contents
named files = map (λ (file : MemFile). (string_bytes file.name, file.bytes)) files

-- whether a file has this name
abbrev pub has_name : List ℕ → MemFile → Bool
has_name name file = bytes_eq name (string_bytes file.name)

-- the files, the numbers of the reads that fail, and how many reads there were and failed
pub record FilesInMemory : Type 0 where
  pub files : Contents
  pub fails : List ℕ
  pub calls : ℕ
  pub faults : ℕ

-- whether the next read fails, since its number is one of those that do
abbrev pub next_fails : FilesInMemory → Bool
next_fails m = list_any (λ number. number == m.calls) m.fails

-- after a read: it is counted, and so is its fault, if it has failed
abbrev pub after_read : FilesInMemory → FilesInMemory
after_read m = record m {
  calls = counted_on 1 m.calls;
  faults = counted_if (next_fails m) m.faults;
}
