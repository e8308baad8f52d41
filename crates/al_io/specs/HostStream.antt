-- What a sink over a stream shows.
use Rattle.std.specs.Prelude.{ℕ}
use Rattle.al_io.specs.declared.host_streams.HostStream.{HostStream}

-- the stream that it writes to
abbrev pub stream_of : {W : Type 0} → HostStream W → W
stream_of sink = sink.to

-- how many puts have failed
abbrev pub faults_of : {W : Type 0} → HostStream W → ℕ
faults_of sink = sink.faults
