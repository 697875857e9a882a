use Rattle.std.proofs.Common.{◌++◌, [], ℕ, List, subst}
use Rattle.pst_cli.specs.Head.{line_end}
use Rattle.pst_cli.specs.Sending.{Sends}
use Rattle.pst_cli.specs.declared.answer.Status.TheVariants.{Refused}
use Rattle.pst_cli.proofs.absent.refuse_text.Goals as goal

pub returns-in-NoSystem : goal.returns-in-NoSystem
returns-in-NoSystem g c =
    let Sent : List ℕ → Type 0 = λ text. Sends (g.W.Sink.taken c.args.sink.now) (g.W.Sink.taken c.write_refusal_parts.new.sink) (g.W.Sink.broken c.write_refusal_parts.new.sink) c.write_refusal_parts.result text Refused in
    let OfEnd : List ℕ → Type 0 = λ end. Sent (c.as_slice.result.now ++ (c.as_bytes.result.now ++ (end ++ []))) in
    let OfName : List ℕ → Type 0 = λ name. Sent (c.as_slice.result.now ++ (name ++ line_end)) in
    let OfWord : List ℕ → Type 0 = λ word. Sent (word ++ (c.in-NoSystem.name.now ++ line_end)) in
    rw c.in-NoSystem.is (subst OfWord c.as_slice.ensures (subst OfName c.as_bytes.ensures.value (subst OfEnd c.as_slice-in-NoSystem.ensures c.write_refusal_parts.ensures)))

pub returns-in-NoMemory : goal.returns-in-NoMemory
returns-in-NoMemory g c = rw c.in-NoMemory.is c.send_text-in-NoMemory.ensures
