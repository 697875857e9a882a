-- `==` of nodes holds of equal ones alone.
use Rattle.std.proofs.Common.{◌≡◌, Bool, true, false, ◌&&◌, List, [], ◌∷◌, refl, sym, ap, ◌∙◌}
use Rattle.std.specs.List.{AllByRecursion}
use Rattle.std.specs.Prelude.{nat_eq}
use Rattle.std.specs.Cmp.Lexicographic.{pointwise, bytes_decides}
use Rattle.std.proofs.lemmas.Bool.Decides.{Decides-eqb}
use Rattle.pst_value.proofs.ItemsExact.{IsExactAt, IsExactChoice, by_exact, both_first, both_second, lists_exact}
use Rattle.pst_typing.specs.declared.kinds.nodes.Node.{Node}
use Rattle.pst_typing.specs.declared.kinds.nodes.Node.TheVariants as node
use Rattle.pst_typing.specs.contracts.kinds.nodes.Node as enum
use Rattle.pst_typing.specs.contracts.kinds.nodes.NodePartialEq.TheImpl as impl
use Rattle.pst_typing.specs.contracts.kinds.nodes.NodeEq.TheImpl.Laws as laws
use Rattle.pst_value.proofs.ExactKeys.{same_kind-Decides}
use Rattle.pst_value.specs.Equality.{same_kind}
use denote.Enum.Compared.{Each, by}

-- whether two nodes are equal
abbrev pub same_node : Node → Node → Bool
same_node = impl.ghosts.eq

pub same_node_refl : (a : Node) → same_node a a ≡ true
same_node_refl a = laws.laws-law.refl a

abbrev each : Each Bool enum.the_parts
each = (λ a b. true, (λ a b. true, (λ a b. true, (λ a b. pointwise nat_eq a.0 b.0, (λ a b. nat_eq a.0 b.0, (λ a b. same_kind a.0 b.0 && nat_eq a.1.0 b.1.0, (λ a b. nat_eq a.0 b.0, (λ a b. true, tt))))))))

fields : (a : Node) → IsExactChoice enum.the_parts each (enum.as_values a)
fields node.Int = λ y e. refl
fields node.Bool = λ y e. refl
fields node.Text = λ y e. refl
fields (node.Tuple parts) = λ y e. let p : parts ≡ y.0 = (bytes_decides parts y.0).0 e in ap (λ z. (z, tt)) p
fields (node.List part) = λ y e. let p : part ≡ y.0 = (Decides-eqb part y.0).0 e in ap (λ z. (z, tt)) p
fields (node.Map k part) = λ y e.
    let p : k ≡ y.0 = (same_kind-Decides k y.0).0 (both_first (same_kind k y.0) _ e) in
    let q : part ≡ y.1.0 = (Decides-eqb part y.1.0).0 (both_second (same_kind k y.0) _ e) in
    λ i. (p i, (q i, tt))
fields (node.Ref part) = λ y e. let p : part ≡ y.0 = (Decides-eqb part y.0).0 e in ap (λ z. (z, tt)) p
fields node.Call = λ y e. refl

-- `==` compares the fields of one form
compared : (a b : Node) → same_node a b ≡ by false false enum.the_parts each (enum.as_values a) (enum.as_values b)
compared a b = refl

pub node_exact : (a b : Node) → same_node a b ≡ true → a ≡ b
node_exact a b e =
    sym (enum.the_eta a) ∙ ap enum.the_make (by_exact enum.the_parts each (enum.as_values a) (enum.as_values b) (fields a) (sym (compared a b) ∙ e)) ∙ enum.the_eta b

nodes_exact : (xs : List Node) → AllByRecursion (IsExactAt same_node) xs
nodes_exact [] = tt
nodes_exact (x ∷ xs) = (node_exact x, nodes_exact xs)

pub same_nodes : (xs ys : List Node) → pointwise same_node xs ys ≡ true → xs ≡ ys
same_nodes xs = lists_exact same_node xs (nodes_exact xs)
