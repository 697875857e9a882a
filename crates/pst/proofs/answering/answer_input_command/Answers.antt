use Rattle.pst.proofs.answering.answer_input_command.Goals as goal

pub returns-in-ListCode : goal.returns-in-ListCode
returns-in-ListCode g c = rw c.in-ListCode.is c.list_model.ensures.prints

pub returns-in-Convert : goal.returns-in-Convert
returns-in-Convert g c = rw c.in-Convert.is c.convert_items.ensures.prints

pub returns-in-Generate : goal.returns-in-Generate
returns-in-Generate g c = rw c.in-Generate.is c.generate_cases.ensures.prints
