-- What is seen of files and of sinks, before a call and after it.
use Rattle.std.specs.Prelude.{◌≡◌, ℕ, zero, suc, List, [], ◌∷◌, Option}
use Rattle.std.specs.Option.{option_map}
use Rattle.std.specs.Io.KnownBytes.{append_known}
use Rattle.al_io.specs.Contents.{Contents}
use Rattle.al_io.specs.Counts.{counted_on, MayHaveRisen, GoesOn}
use Rattle.al_io.specs.Written.{AppendsPrefix}

-- the files, as far as they tell
pub record FilesSeen : Type 0 where
  pub contents : Option Contents
  pub calls : Option ℕ
  pub faults : ℕ

-- a sink, as far as it tells
pub record SinkSeen : Type 0 where
  pub written : Option (List ℕ)
  pub calls : Option ℕ
  pub faults : ℕ

abbrev pub files_seen : {F : Type 0} → (F → Option Contents) → (F → Option ℕ) → (F → ℕ) → F → FilesSeen
files_seen contents calls faults files =
    record { contents = contents files; calls = calls files; faults = faults files }

abbrev pub sink_seen : {S : Type 0} → (S → Option (List ℕ)) → (S → Option ℕ) → (S → ℕ) → S → SinkSeen
sink_seen written calls faults sink = record { written = written sink; calls = calls sink; faults = faults sink }

-- ---- the files

-- one read, and no fault
pub record ReadsOnce (old new : FilesSeen) : Type 0 where
  pub contents : new.contents ≡ old.contents
  pub calls : new.calls ≡ option_map (counted_on 1) old.calls
  pub faults : new.faults ≡ old.faults

-- one read, which may have failed
pub record TriesOnce (old new : FilesSeen) : Type 0 where
  pub contents : new.contents ≡ old.contents
  pub calls : new.calls ≡ option_map (counted_on 1) old.calls
  pub faults : GoesOn old.faults new.faults

-- a count of calls, where it is told, after so many more
abbrev pub calls_later : ℕ → Option ℕ → Option ℕ
calls_later zero calls = calls
calls_later (suc k) calls = calls_later k (option_map (counted_on 1) calls)

-- ---- the sinks

-- a put is counted, and no put is made of no bytes
abbrev pub put_counted : List ℕ → Option ℕ → Option ℕ
put_counted [] calls = calls
put_counted (b ∷ bs) calls = option_map (counted_on 1) calls

-- the bytes were appended, by one put, or by none where there are none
pub record Took (bytes : List ℕ) (old new : SinkSeen) : Type 0 where
  pub written : new.written ≡ append_known old.written bytes
  pub calls : new.calls ≡ put_counted bytes old.calls
  pub faults : new.faults ≡ old.faults

-- one put failed, and a prefix of the bytes was appended
pub record TookPart (bytes : List ℕ) (old new : SinkSeen) : Type 0 where
  pub written : AppendsPrefix old.written new.written bytes
  pub calls : new.calls ≡ put_counted bytes old.calls
  pub faults : GoesOn old.faults new.faults
  pub rose : MayHaveRisen old.faults new.faults
