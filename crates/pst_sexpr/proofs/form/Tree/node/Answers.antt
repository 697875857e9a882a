use Rattle.std.proofs.Common.{rules, ◌≡◌, ◌++◌, ◌∷◌, [], ◌<◌, List, map, refl, sym, ap, ◌∙◌, subst}
use Rattle.pst_sexpr.specs.declared.form.Form.{Form}
use Rattle.pst_sexpr.specs.Lawful.{AreTrees, greatest, levels}
use Rattle.pst_sexpr.specs.Reading.{max_levels}
use Rattle.std.proofs.lemmas.Iterator.Adapters.{YieldsList-from_vec}
use Rattle.std.proofs.lemmas.Iterator.Consumers.{YieldsList-end}
use Rattle.pst_sexpr.proofs.Trees.{trees_push}
use Rattle.pst_sexpr.proofs.Made.{node_is_tree}
use Rattle.pst_sexpr.proofs.form.Tree.node.Goals as goal

pub loop-tree-preserved : goal.loop-tree-preserved
loop-tree-preserved c =
    let forms = c.loop-tree.forms in
    let pushed = c.in_ok-push.ensures.ok ∙ ap (λ x. forms ++ x ∷ []) c.into_form.ensures.same in (
      pushed ∙ ap (λ l. l ++ c.in-Some.tree ∷ []) c.loop-tree.invariant.0,
      subst AreTrees (sym pushed) (trees_push forms c.in-Some.tree c.loop-tree.invariant.1 c.into_form.ensures.lawful),
    )

map-id : (l : List Form) → map (λ y. y) l ≡ l
map-id [] = refl
map-id (x ∷ l) = ap (λ k. x ∷ k) (map-id l)

pub invariant_of-result : goal.invariant_of-result
invariant_of-result c =
    let forms = c.loop-tree.forms in
    let gives = c.into_iter-tree-iterator.ensures.into_iter_gives in
    let t = YieldsList-end (YieldsList-from_vec c.args.trees.items (search (rules, gives)) (search (rules, gives))) c.loop-tree.yielded c.loop-tree.tree-iterator c.loop-tree.yielded_by c.next.result c.next.new.self c.in-None.is c.next.ensures.steps in
    let all : c.loop-tree.yielded ≡ c.args.trees.items = sym (map-id c.loop-tree.yielded) ∙ t.0 in
    let bound : greatest (map levels forms) < max_levels = subst (λ l. greatest (map levels l) < max_levels) (sym (c.loop-tree.invariant.0 ∙ all)) c.requires in
    node_is_tree forms c.loop-tree.invariant.1 bound
