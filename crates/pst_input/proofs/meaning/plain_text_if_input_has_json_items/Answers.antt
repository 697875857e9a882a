use Rattle.std.proofs.Common.{◌≡◌, false, Some, refl, take}
use Rattle.pst_input.specs.Lines.{has_first_tree, json_start}
use Rattle.pst_input.specs.Meaning.{begun, large}
use Rattle.pst_input.proofs.meaning.plain_text_if_input_has_json_items.Goals as goal

pub returns-then-input-gt-MAX_BYTES : goal.returns-then-input-gt-MAX_BYTES
returns-then-input-gt-MAX_BYTES c =
    let e : json_start c.args.input.now ≡ Some c.in-Some.place = cc in
    large c.in-Some.place e c.if-input-gt-MAX_BYTES.true refl

pub returns-then-not-has_first_tree : goal.returns-then-not-has_first_tree
returns-then-not-has_first_tree c =
    let e : json_start c.args.input.now ≡ Some c.in-Some.place = cc in
    let none : has_first_tree (take c.in-Some.place c.args.input.now) ≡ false = cc in
    begun c.in-Some.place e none refl
