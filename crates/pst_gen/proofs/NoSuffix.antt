-- A suffix without commands.
use Rattle.std.proofs.Common.{◌≡◌, ℕ, ◌-◌, List, [], length, take, drop, refl, ap, ◌∙◌, arith}
use Rattle.std.proofs.Math.Seq.{take-length, drop-length}
use Rattle.pst_case.specs.declared.case.Command.{Command}
use Rattle.pst_gen.specs.Laws.{EmptySuffix}
use Rattle.pst_gen.specs.Split.{split_case}

empty : (branches word : ℕ) (before : List Command) (parallel : ℕ) → (split_case branches word before [] parallel).suffix ≡ []
unfolding split_case
empty branches word before parallel = refl

pub no-suffix : EmptySuffix
no-suffix script =
    let z : length script - 0 ≡ length script = omega arith in
    (ap (λ n. take n script) z ∙ take-length script, ap (λ n. drop n script) z ∙ drop-length script, λ branches word parallel. empty branches word script parallel)
