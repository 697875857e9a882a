use Rattle.pst_json.specs.Page.{IsPageText}
use Rattle.pst_json.proofs.writing.page_safe_ascii_json.Given as goal

abbrev pub invariant-loop-character : goal.invariant-loop-character
invariant-loop-character l = IsPageText l.out.items
