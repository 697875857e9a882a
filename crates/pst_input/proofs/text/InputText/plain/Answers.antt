use Rattle.pst_input.proofs.Meanings.{no_plain, some_plain}
use Rattle.pst_input.proofs.text.InputText.plain.Goals as goal

pub returns-in-Some : goal.returns-in-Some
returns-in-Some c =
    some_plain c.self.inside.bytes.items c.args.self.now c.as_slice.result.now c.self.inside.plain c.self.invariant.means c.self.view_is
    c.in-Some.plain c.in-Some.is c.as_slice.ensures.value

pub returns-in-None : goal.returns-in-None
returns-in-None c =
    no_plain c.self.inside.bytes.items c.args.self.now c.as_slice-in-None.result.now c.self.inside.plain c.self.invariant.means c.self.view_is
    c.in-None.is c.as_slice-in-None.ensures.value
