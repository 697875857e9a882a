use Rattle.std.proofs.Common.{◌≡◌, Some, subst}
use Rattle.pst_sources.specs.Paths.{tree_at}
use Rattle.pst_sources.proofs.Found.{all_trees, leads_of}
use Rattle.pst_sources.proofs.scan.span_at_path_or_whole_input.Goals as goal

pub returns-in-Some-span_of_tree_numbered-clause-found : goal.returns-in-Some-span_of_tree_numbered-clause-found
returns-in-Some-span_of_tree_numbered-clause-found c trees tree h e =
    let split = c.in-Some.ensures.cases.0 in
    let l = leads_of c.in-Some.rest.now c.in-Some.first.now trees tree
    (subst (λ p. tree_at p trees ≡ Some tree) split e) in
    let first = c.in-Some-span_of_tree_numbered.ensures.found trees l.tree (all_trees c.args.input.now trees h)
    l.is in
    c.deepest_span_on_path_in_tree.ensures.found l.tree tree first l.leads
