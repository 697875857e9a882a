use Rattle.std.proofs.Common.{◌≡◌, ◌-◌, ◌≤◌, ◌++◌, List, ℕ, length, Ok, take, drop, sym, ap, ◌∙◌, arith, length-drop}
use Rattle.std.proofs.lemmas.List.{take-append-drop, take_all}
use Rattle.pst_sexpr.specs.Writing.{Writes}
use Rattle.pst_sexpr.proofs.Sequence.{then_all}
use Rattle.pst_sexpr.proofs.sink.put_all.Goals as goal

-- the bytes behind the first so many
rest_is : (bytes : List ℕ) (count : ℕ) → bytes ≡ take count bytes ++ take (length bytes - count) (drop count bytes)
rest_is bytes count =
    let within : length (drop count bytes) ≤ length bytes - count = omega (arith, length-drop count bytes) in
    sym (take-append-drop count bytes) ∙ ap (λ l. take count bytes ++ l) (sym (take_all (length bytes - count) (drop count bytes) within))

pub loop-bytes-preserved : goal.loop-bytes-preserved
loop-bytes-preserved g c =
    let bytes = c.loop-bytes.bytes.now in
    let count = c.in-Ok.count in
    let put : Writes (g.W.Sink.taken c.loop-bytes.sink) (g.W.Sink.taken c.put.new.self) (g.W.Sink.broken c.put.new.self) (Ok tt) (take count bytes) =
    record { outcome = record { appended = c.in-Ok.ensures.taken; stands = c.in-Ok.ensures.stands } } in
    then_all _ c.loop-bytes.invariant put (rest_is bytes count)
