-- The lines of rows, one behind the other, are the lines of all items.
use Rattle.std.proofs.Common.{◌≡◌, ◌≤◌, ◌∙◌, ℕ, zero, suc, ◌+◌, ◌*◌, List, [], ◌∷◌, ◌++◌, String, Global, length, sym, ap, string_bytes, append-nil, append_assoc, arith}
use Rattle.std.proofs.Math.Seq.{drop-length}
use Rattle.std.specs.List.{AllZip, flat_map, range_with_len}
use Rattle.pst_cli.specs.Output.{item_lines}
use Rattle.pst_cli.specs.Rows.{first_of, lines_behind, lines_from, IsRow}
use Rattle.pst_judge.specs.declared.judgement.Judged.{Judged}

module _ (all : List Judged) where
  -- the lines of rows that follow one another, and behind them the lines from the next row on
  rows_joined : (row n : ℕ) (texts : List (String Global)) → AllZip (IsRow all) (range_with_len row n) texts
      → lines_from all row ≡ flat_map string_bytes texts ++ lines_from all (row + n)
  rows_joined row zero [] h = let same : row ≡ row + 0 = omega arith in ap (lines_from all) same
  rows_joined row zero (text ∷ texts) h = absurd h
  rows_joined row (suc n) [] h = absurd h
  rows_joined row (suc n) (text ∷ texts) h =
      let same : row + 1 + n ≡ row + suc n = omega arith in
      let rest = rows_joined (row + 1) n texts h.1 ∙ ap (λ last. flat_map string_bytes texts ++ lines_from all last) same in
      h.0 ∙ ap (λ lines. string_bytes text ++ lines) rest ∙ sym (append_assoc (string_bytes text) (flat_map string_bytes texts) (lines_from all (row + suc n)))

  -- the lines of all rows, where these are enough for all items
  pub all_lines : (rows : ℕ) (texts : List (String Global)) → length all ≤ rows * 512 → AllZip (IsRow all) (range_with_len 0 rows) texts
      → flat_map string_bytes texts ≡ item_lines 1 all
  all_lines rows texts enough h =
      let first : first_of 0 (length all) ≡ 0 = omega arith in
      let last : first_of (0 + rows) (length all) ≡ length all = omega arith in
      let none : lines_from all (0 + rows) ≡ [] = ap (lines_behind all) last ∙ ap (item_lines (length all + 1)) (drop-length all) in
      let whole = sym (ap (lines_behind all) first) ∙ rows_joined 0 rows texts h ∙ ap (λ lines. flat_map string_bytes texts ++ lines) none in
      sym (whole ∙ append-nil (flat_map string_bytes texts))
