use Rattle.std.proofs.Common.{arith, ⊎_elim}
use Rattle.pst_sexpr.proofs.One.{no_fault_of_file}
use Rattle.pst_sexpr.proofs.laws.bytes_with_trees_have_no_fault.Goals as goal

pub returns : goal.returns
returns c bytes trees fault n spelled h =
    ⊎_elim (λ x. omega (arith, x.0, n)) (λ x. no_fault_of_file bytes trees fault.kind fault.place spelled x.1) h
