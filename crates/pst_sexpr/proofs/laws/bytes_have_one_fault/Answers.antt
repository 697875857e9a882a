use Rattle.std.proofs.Common.{◌≡◌, ℕ, sym, ◌∙◌, ap, ⊎_elim, arith}
use Rattle.pst_sexpr.specs.declared.reader.SexprFault.{SexprFault}
use Rattle.pst_sexpr.specs.declared.reader.FaultKind.{FaultKind}
use Rattle.pst_sexpr.proofs.One.{one_fault_within}
use Rattle.pst_sexpr.proofs.laws.bytes_have_one_fault.Goals as goal

same_fault : (f g : SexprFault) → f.kind ≡ g.kind → f.place ≡ g.place → f ≡ g
same_fault f g k p =
    let of : FaultKind → ℕ → SexprFault = λ a b. record { kind = a; place = b } in
    ap (λ a. of a f.place) k ∙ ap (λ b. of g.kind b) p

pub returns : goal.returns
returns c bytes f g a b =
    ⊎_elim (λ x. ⊎_elim (λ y. x.1 ∙ sym y.1) (λ y. absurd (omega (arith, x.0, y.0))) b)
    (λ x. ⊎_elim (λ y. absurd (omega (arith, x.0, y.0))) (λ y. let e = one_fault_within bytes f.kind g.kind f.place g.place x.1 y.1 in same_fault f g e.0 e.1) b) a
