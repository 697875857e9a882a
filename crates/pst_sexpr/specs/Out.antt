-- What a contract reads of an `Out`.
use Rattle.std.specs.Prelude.{Bool}
use Rattle.pst_sexpr.specs.declared.sink.Out.{Out}

-- the writer that it gives its bytes to
abbrev pub writer_of : {W : Type 0} → Out W → W
writer_of out = out.writer

-- whether it has failed
abbrev pub is_broken : {W : Type 0} → Out W → Bool
is_broken out = out.failed
