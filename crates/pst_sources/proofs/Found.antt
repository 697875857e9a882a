-- The spans of trees, and of the parts of nodes.
use Rattle.std.proofs.Common.{◌≡◌, ◌∙◌, ◌<◌, ◌≤◌, ◌+◌, ◌-◌, ℕ, zero, suc, true, List, [], ◌∷◌, ◌++◌, length}
use Rattle.std.proofs.Common.{take, drop, get_or, slice_get, refl, sym, ap, subst, arith, append_assoc}
use Rattle.std.proofs.Common.{Some, None, Option}
use Rattle.std.proofs.lemmas.Bool.{false≢true}
use Rattle.std.proofs.lemmas.List.{drop-drop, drop_at, take_at, take-append-drop, drop_more, drop_all}
use Rattle.std.proofs.lemmas.List.{get_or_read}
use Rattle.std.proofs.lemmas.Option.{none-some, same_Some}
use Rattle.pst_sexpr.specs.declared.form.Form.{Form}
use Rattle.pst_sexpr.specs.Bytes.{is_word_byte}
use Rattle.pst_sexpr.specs.Grammar.{Begins}
use Rattle.pst_sexpr.specs.Parts.{node_of, and_then, tree_in}
use Rattle.pst_sexpr.specs.Reading.{max_levels, Spells}
use Rattle.pst_sources.specs.declared.scan.State.TheVariants.{Between}
use Rattle.pst_sources.specs.declared.scan.Span.{Span}
use Rattle.pst_sources.specs.Paths.{begins_tree, BeginsTree, bytes_of, IsWithin, HasTree, tree_at}
use Rattle.pst_sources.specs.Scanning.{blanks, tree_bytes, HasTreesFrom}
use Rattle.pst_sources.proofs.First.{first, first_node, before_close}

-- what a search for the first tree from a place on gives
pub record IsTreeAt (input : List ℕ) (from : ℕ) (span : Span) : Type 0 where
  pub within : IsWithin input span
  pub start : from ≤ length input → span.start ≡ from + blanks Between (drop from input)
  pub end : span.end ≡ span.start + tree_bytes (drop span.start input)

-- the span of the first tree, and the trees behind it
pub record IsFound (input : List ℕ) (span : Span) (tree : Form) (trees : List Form) : Type 0 where
  pub here : HasTree input span tree
  pub more : HasTreesFrom input span.end trees

pub found_here : (input : List ℕ) (from : ℕ) (span : Span) (tree : Form) (trees : List Form)
    → HasTreesFrom input from (tree ∷ trees) → IsTreeAt input from span → IsFound input span tree trees
found_here input from span tree trees h s =
    let f = first h.begins h.ends in
    let start : span.start ≡ from + length f.before = s.start h.within ∙ ap (λ n. from + n) f.starts in
    let here : drop span.start input ≡ f.part ++ f.later =
    ap (λ n. drop n input) start ∙ sym (drop-drop (length f.before) from input)
    ∙ ap (drop (length f.before)) f.whole ∙ drop_at f.before (f.part ++ f.later) (length f.before) refl in
    let end : span.end ≡ span.start + length f.part = s.end
    ∙ ap (λ n. span.start + n) (ap tree_bytes here ∙ f.ends) in
    let size : span.end - span.start ≡ length f.part = omega (arith, end) in
    let bytes : bytes_of input span ≡ f.part =
    ap (λ l. take (span.end - span.start) l) here
    ∙ take_at f.part f.later (span.end - span.start) (sym size) in
    let later : drop span.end input ≡ f.later =
    ap (λ n. drop n input) end ∙ sym (drop-drop (length f.part) span.start input)
    ∙ ap (drop (length f.part)) here ∙ drop_at f.part f.later (length f.part) refl in
    record {
      here = record {
        within = s.within;
        spells = subst (λ l. Spells l (tree ∷ [])) (sym bytes) f.spells;
        begins = subst BeginsTree (sym bytes) f.begins;
      };
      more = record {
        within = s.within.in_input;
        depth = h.depth;
        left = h.left;
        begins = subst (λ l. Begins max_levels h.depth l trees h.left) (sym later) f.more;
        ends = h.ends;
      };
    }

-- the tree is the one of a number among those from a place on
pub record IsAhead (input : List ℕ) (at number : ℕ) (tree : Form) : Type 0 where
  pub trees : List Form
  pub from : HasTreesFrom input at trees
  pub is : slice_get trees number ≡ Some tree

-- the first tree is the one
found_first : (input : List ℕ) (at : ℕ) (span : Span) (trees : List Form) (tree : Form)
    → HasTreesFrom input at trees → slice_get trees 0 ≡ Some tree → IsTreeAt input at span
    → HasTree input span tree
found_first input at span [] tree h e s = absurd (none-some tree e)
found_first input at span (one ∷ trees) tree h e s =
    subst (HasTree input span) (same_Some one tree e) (found_here input at span one trees h s).here

pub ahead_found : (input : List ℕ) (at number : ℕ) (span : Span) (tree : Form)
    → IsAhead input at number tree → number ≡ 0 → IsTreeAt input at span → HasTree input span tree
ahead_found input at number span tree a none s =
    found_first input at span a.trees tree a.from (subst (λ n. slice_get a.trees n ≡ Some tree) none a.is) s

-- the first tree is not the one
found_later : (input : List ℕ) (at number : ℕ) (span : Span) (trees : List Form) (tree : Form)
    → HasTreesFrom input at trees → slice_get trees (suc number) ≡ Some tree → IsTreeAt input at span
    → IsAhead input span.end number tree
found_later input at number span [] tree h e s = absurd (none-some tree e)
found_later input at number span (one ∷ trees) tree h e s =
    record { trees = trees; from = (found_here input at span one trees h s).more; is = e }

pub ahead_more : (input : List ℕ) (at number less : ℕ) (span : Span) (tree : Form)
    → IsAhead input at number tree → number ≡ suc less → IsTreeAt input at span
    → IsAhead input span.end less tree
ahead_more input at number less span tree a more s =
    found_later input at less span a.trees tree a.from
    (subst (λ n. slice_get a.trees n ≡ Some tree) more a.is) s

-- a byte of a tree
pub record IsByte (input : List ℕ) (at : ℕ) (byte : ℕ) : Type 0 where
  pub within : at < length input
  pub is : get_or input at 0 ≡ byte

nil_is_no_byte : (byte : ℕ) (bytes : List ℕ) → [] ≡ byte ∷ bytes → ⊥
nil_is_no_byte byte bytes e = cc

byte_at : (input bytes : List ℕ) (at byte : ℕ) → drop at input ≡ byte ∷ bytes → IsByte input at byte
byte_at [] bytes zero byte e = absurd (nil_is_no_byte byte bytes e)
byte_at [] bytes (suc at) byte e = absurd (nil_is_no_byte byte bytes e)
byte_at (b ∷ input) bytes zero byte e = record { within = omega arith; is = cc }
byte_at (b ∷ input) bytes (suc at) byte e =
    let r = byte_at input bytes at byte e in
    let h = r.within in
    record { within = omega (arith, h); is = r.is }

-- the bytes from a span on
from_span : (input : List ℕ) (span : Span) → drop span.start input
    ≡ bytes_of input span ++ drop (span.end - span.start) (drop span.start input)
from_span input span = sym (take-append-drop (span.end - span.start) (drop span.start input))

no_close : begins_tree 41 ≡ true → ⊥
unfolding begins_tree is_word_byte
no_close h = false≢true h

first_byte : (bytes : List ℕ) → BeginsTree bytes → (byte : ℕ) × (rest : List ℕ) × (bytes ≡ byte ∷ rest) ×
    (begins_tree byte ≡ true)
first_byte [] h = absurd h
first_byte (byte ∷ bytes) h = (byte, bytes, refl, h)

-- a byte stands where a tree begins, and it is no `)`
pub tree_is_there : (input : List ℕ) (span : Span) (tree : Form) → HasTree input span tree
    → (span.start < length input) × (get_or input span.start 0 ≡ 41 → ⊥)
tree_is_there input span tree h =
    let f = first_byte (bytes_of input span) h.begins in
    let e = from_span input span
    ∙ ap (λ l. l ++ drop (span.end - span.start) (drop span.start input)) f.2 in
    let b = byte_at input (f.1 ++ drop (span.end - span.start) (drop span.start input)) span.start f.0 e in
    (b.within, λ k. no_close (subst (λ x. begins_tree x ≡ true) (sym b.is ∙ k) f.3))

-- a node: its bracket, and its parts behind it
pub record IsNodeAt (input : List ℕ) (span : Span) (parts : List Form) : Type 0 where
  pub bracket : IsByte input span.start 40
  pub parts_from : HasTreesFrom input (span.start + 1) parts

pub node_is_there : (input : List ℕ) (span : Span) (tree : Form) (parts : List Form)
    → HasTree input span tree
    → node_of tree ≡ Some parts → IsNodeAt input span parts
node_is_there input span tree parts h e =
    let n = first_node h.spells h.begins parts e in
    let left = drop (span.end - span.start) (drop span.start input) in
    let here : drop span.start input ≡ 40 ∷ (n.inside ++ left) = from_span input span
    ∙ ap (λ l. l ++ left) n.whole in
    let b = byte_at input (n.inside ++ left) span.start 40 here in
    let behind : drop (span.start + 1) input ≡ n.inside ++ left =
    sym (drop-drop 1 span.start input) ∙ ap (drop 1) here ∙ drop_at (40 ∷ []) (n.inside ++ left) 1 refl in
    let c = before_close n.within n.rest refl in
    let same : n.inside ++ left ≡ c.front ++ 41 ∷ (n.rest ++ left) =
    ap (λ l. l ++ left) c.whole ∙ append_assoc c.front (41 ∷ n.rest) left in
    let within = b.within in
    record {
      bracket = b;
      parts_from = record {
        within = omega (arith, within);
        depth = n.depth;
        left = 41 ∷ (n.rest ++ left);
        begins = subst (λ l. Begins max_levels n.depth l parts (41 ∷ (n.rest ++ left)))
            (sym (behind ∙ same)) (c.begins (n.rest ++ left));
        ends = refl;
      };
    }

-- a span of a tree from which the rest of a path leads to the last one
pub record IsOnWay (input : List ℕ) (span : Span) (path : List ℕ) (last : Form) : Type 0 where
  pub tree : Form
  pub here : HasTree input span tree
  pub leads : tree_in path tree ≡ Some last

-- a step of a path
pub record IsStep (path : List ℕ) (number : ℕ) (tree last : Form) : Type 0 where
  pub parts : List Form
  pub part : Form
  pub node : node_of tree ≡ Some parts
  pub is : slice_get parts number ≡ Some part
  pub leads : tree_in path part ≡ Some last

and_then_some : {A B : Type 0} (o : Option A) (f : A → Option B) (b : B) → and_then o f ≡ Some b
    → (a : A) × (o ≡ Some a) × (f a ≡ Some b)
and_then_some None f b e = absurd (none-some b e)
and_then_some (Some a) f b e = (a, refl, e)

pub step_of : (path : List ℕ) (number : ℕ) (tree last : Form) → tree_in (number ∷ path) tree ≡ Some last
    → IsStep path number tree last
step_of path number tree last e =
    let n = and_then_some (node_of tree) (λ parts. and_then (slice_get parts number) (tree_in path)) last e
    in
    let p = and_then_some (slice_get n.0 number) (tree_in path) last n.2 in
    record { parts = n.0; part = p.0; node = n.1; is = p.1; leads = p.2 }

-- all bytes begin with the trees that they spell
pub all_trees : (input : List ℕ) (trees : List Form) → Spells input trees → HasTreesFrom input 0 trees
all_trees input trees h = record { within = omega arith; depth = 0; left = []; begins = h; ends = tt }

-- the first step of a path
pub record Leads (path : List ℕ) (number : ℕ) (trees : List Form) (last : Form) : Type 0 where
  pub tree : Form
  pub is : slice_get trees number ≡ Some tree
  pub leads : tree_in path tree ≡ Some last

pub leads_of : (path : List ℕ) (number : ℕ) (trees : List Form) (last : Form)
    → tree_at (number ∷ path) trees ≡ Some last → Leads path number trees last
leads_of path number trees last e =
    let p = and_then_some (slice_get trees number) (tree_in path) last e in
    record { tree = p.0; is = p.1; leads = p.2 }

-- the byte that is read at a place
pub byte_read : (input : List ℕ) (at byte : ℕ) → at < length input → byte ≡ get_or input at byte
    → get_or input at 0 ≡ byte
byte_read input at byte within is = sym (get_or_read input at byte within is 0)

-- the next step of a path
pub record IsOnStep (input : List ℕ) (span : Span) (path : List ℕ) (number : ℕ) (last : Form) : Type 0 where
  pub tree : Form
  pub here : HasTree input span tree
  pub step : IsStep path number tree last

pub next_step : (input : List ℕ) (span : Span) (path : List ℕ) (at : ℕ) (last : Form) → at < length path
    → IsOnWay input span (drop at path) last
    → IsOnStep input span (drop (at + 1) path) (get_or path at 0) last
next_step input span path at last within way =
    let e = subst (λ l. tree_in l way.tree ≡ Some last) (drop_more path at 0 within) way.leads in
    record {
      tree = way.tree;
      here = way.here;
      step = step_of (drop (at + 1) path) (get_or path at 0) way.tree last e;
    }

-- the end of a path
pub last_step : (input : List ℕ) (span : Span) (path : List ℕ) (at : ℕ) (last : Form) → length path ≤ at
    → IsOnWay input span (drop at path) last → HasTree input span last
last_step input span path at last past way =
    let e = subst (λ l. tree_in l way.tree ≡ Some last) (drop_all at path past) way.leads in
    subst (HasTree input span) (same_Some way.tree last e) way.here
