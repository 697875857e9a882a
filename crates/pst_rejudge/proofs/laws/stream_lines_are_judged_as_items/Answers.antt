use Rattle.pst_rejudge.proofs.Answering.{all_items}
use Rattle.pst_rejudge.proofs.laws.stream_lines_are_judged_as_items.Goals as goal

pub returns : goal.returns
returns c = λ order m lines forms answers. all_items order m c.bytes_have_one_reading.ensures lines forms answers
