-- Looking a file up by its name, and finding it.
use Rattle.std.proofs.Common.{◌≡◌, ℕ, List, [], ◌∷◌, refl, true, false, cond, Some}
use Rattle.std.specs.Prelude.{find}
use Rattle.std.specs.Option.{option_map}
use Rattle.al_io.specs.declared.mem_files.MemFile.{MemFile}
use Rattle.al_io.specs.Contents.{contents_of}
use Rattle.al_io.specs.MemFiles.{named, has_name}

-- what a name is looked up to is what the first file of that name holds
pub named_lookup : (files : List MemFile) (name : List ℕ)
    → contents_of (named files) name ≡ option_map (λ (file : MemFile). file.bytes) (find (has_name name) files)
named_lookup [] name = refl
named_lookup (file ∷ files) name =
    elim (has_name name file) as (λ found. cond found (Some file.bytes) (contents_of (named files) name)
    ≡ option_map (λ (file : MemFile). file.bytes) (cond found (Some file) (find (has_name name) files))) [
      | true ↦ refl
      | false ↦ named_lookup files name
    ]
