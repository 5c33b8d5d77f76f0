-- A sink over a std writer.
use Rattle.std.specs.Prelude.{ℕ}
use Rattle.pac_io.specs.declared.std_sink.StdSink.{StdSink}

-- the writer
abbrev pub writer_of : {W : Type 0} → StdSink W → W
writer_of sink = sink.writer

-- how many writes failed
abbrev pub count_of : {W : Type 0} → StdSink W → ℕ
count_of sink = sink.faults
