use Rattle.std.proofs.Common.{◌≡◌, ◌-◌, List, [], ◌∷◌, ◌++◌, length, take, drop, refl, ap, ◌∙◌, subst, Ok}
use Rattle.pst_case.specs.declared.case.Command.{Command}
use Rattle.pst_gen.proofs.Stepping.{draws_on}
use Rattle.pst_gen.specs.Generated.{IsSplit}
use Rattle.pst_gen.specs.Script.{IsScript}
use Rattle.pst_gen.specs.Split.{before_suffix_of, suffix_of}
use Rattle.pst_model.specs.declared.model.Source.{Source}
use Rattle.pst_gen.proofs.generating.generate.Goals as goal

pub returns-clause-generated : goal.returns-clause-generated
returns-clause-generated g c =
    let h = rw c.in-Ok.is at c.in_ok-script.ensures.script in
    let script = c.in-Ok.script in
    let suffix = c.args.suffix in
    let word = c.next_u64-word.result in
    let draws = draws_on h.0 (g.R.Rng.stream c.args.rng.now) (g.R.Rng.stream c.script.new.rng) (g.R.Rng.stream c.next_u64-word.new.self) word h.1 c.next_u64-word.ensures in
    let scripted : IsScript c.args.typed.now c.args.commands h.0 (Ok script) = subst (λ (m : Source). IsScript m c.args.commands h.0 (Ok script)) c.requires.model h.2 in
    let same : c.as_slice-script.result.now ≡ script = c.as_slice-script.ensures in
    let at : c.saturating_sub.result ≡ length script - suffix = c.saturating_sub.ensures ∙ ap (λ cs. length cs - suffix) same in
    let front : c.split_at.result.0.now ≡ before_suffix_of suffix script = c.split_at.ensures.front ∙ ap (take c.saturating_sub.result) same ∙ ap (λ n. take n script) at in
    let back : c.split_at.result.1.now ≡ suffix_of suffix script = c.split_at.ensures.back ∙ ap (drop c.saturating_sub.result) same ∙ ap (λ n. drop n script) at in
    let P : List Command → List Command → Type 0 = λ before behind. IsSplit c.args.typed.now c.args.branches word before behind c.in_ok-valid.valid.case in
    let split : P (before_suffix_of suffix script) (suffix_of suffix script) =
    subst (λ (before : List Command). P before (suffix_of suffix script)) front (subst (λ (behind : List Command). P c.split_at.result.0.now behind) back c.in_ok-valid.ensures.split) in (
      h.0 ++ word ∷ [],
      draws,
      record {
        script = script;
        chosen_by = h.0;
        split_by = word;
        words-are = refl;
        scripted = scripted;
        split = split;
      },
    )
