-- What has a spelling, level by level.
use Rattle.std.proofs.Common.{◌≡◌, ◌≢◌, ℕ, zero, suc, ◌-◌, List, false, refl, ap, ◌∙◌, arith}
use Rattle.std.specs.List.{list_all}
use Rattle.pst_json_runs.specs.Spelled.{is_word, leaf_at, spelled_at, spelled_in}
use Rattle.pst_sexpr.specs.declared.form.Form.{Form}
use Rattle.pst_sexpr.specs.declared.form.Form.TheVariants.{Word, Text, Node, outs-Word, outs-Text, outs-Node}
use Rattle.pst_value.specs.Text.{is_printable}

pub spelled-word : (room : ℕ) (bytes : List ℕ) → spelled_in room (Word bytes) ≡ is_word bytes
unfolding spelled_in
spelled-word zero bytes = ap leaf_at (outs-Word bytes)
spelled-word (suc room) bytes = ap (spelled_at (spelled_in room)) (outs-Word bytes)

pub spelled-text : (room : ℕ) (bytes : List ℕ) → spelled_in room (Text bytes) ≡ list_all is_printable bytes
unfolding spelled_in
spelled-text zero bytes = ap leaf_at (outs-Text bytes)
spelled-text (suc room) bytes = ap (spelled_at (spelled_in room)) (outs-Text bytes)

pub spelled-none : (room : ℕ) (parts : List Form) → room ≡ 0 → spelled_in room (Node parts) ≡ false
unfolding spelled_in
spelled-none zero parts e = ap leaf_at (outs-Node parts)
spelled-none (suc room) parts e = absurd (omega arith)

pub spelled-some : (room : ℕ) (parts : List Form) → spelled_in (suc room) (Node parts) ≡ list_all (spelled_in room) parts
unfolding spelled_in
spelled-some room parts = ap (spelled_at (spelled_in room)) (outs-Node parts)

pub spelled-node : (room : ℕ) (parts : List Form) → room ≢ 0 → spelled_in room (Node parts) ≡ list_all (spelled_in (room - 1)) parts
spelled-node zero parts h = absurd (h refl)
spelled-node (suc room) parts h = spelled-some room parts ∙ ap (λ n. list_all (spelled_in n) parts) (omega arith)

pub ruleset levels = (spelled-word, spelled-text, spelled-none, spelled-node)
