use Rattle.std.proofs.Common.{◌≡◌, ◌<◌, inl, inr, [], ◌∷◌, ◌++◌, map, refl, sym, ap, ◌∙◌, subst, arith}
use Rattle.pst_sexpr.specs.Bytes.{is_word_byte, is_text_byte, is_escaped_byte}
use Rattle.pst_sexpr.specs.Grammar.{IsWordBytes}
use Rattle.pst_sexpr.specs.Lawful.{IsTextBytes, greatest, levels}
use Rattle.pst_sexpr.specs.Reading.{max_levels}
use Rattle.pst_sexpr.proofs.Made.{levels_word, levels_text}
use Rattle.pst_tests.proofs.written.node_of_word_and_text.Goals as goal

pub word-requires-clause-each : goal.word-requires-clause-each
unfolding is_word_byte
word-requires-clause-each g =
    let e : g.from_string.result ≡ 97 ∷ 98 ∷ [] = cc (g.in_ok-from_str.ensures.ok, g.from_string.ensures) in
    subst IsWordBytes (sym e) (refl, (refl, tt))

pub text-requires : goal.text-requires
unfolding is_text_byte is_escaped_byte
text-requires g =
    let e : g.from_string-2.result ≡ 32 ∷ 34 ∷ [] = cc (g.in_ok-from_str-2.ensures.ok, g.from_string-2.ensures) in
    subst IsTextBytes (sym e) (inl refl, (inr refl, tt))

pub node-requires : goal.node-requires
node-requires g =
    let word = g.word.result in
    let text = g.text.result in
    let first = g.in_ok-push.ensures.items ∙ ap (λ l. l ++ word ∷ []) g.new-trees.ensures.items in
    let e : g.push-2.new.self.items ≡ word ∷ text ∷ [] = g.in_ok-push-2.ensures.items ∙ ap (λ l. l ++ text ∷ []) first in
    let no_word : levels word ≡ 0 = ap levels g.word.ensures ∙ levels_word g.from_string.result in
    let no_text : levels text ≡ 0 = ap levels g.text.ensures ∙ levels_text g.from_string-2.result in
    let low : greatest (levels word ∷ levels text ∷ []) < max_levels = rw (no_word, no_text) (omega arith) in
    subst (λ l. greatest (map levels l) < max_levels) (sym e) low
