use Rattle.pst_sources.proofs.Found.{next_step, last_step}
use Rattle.pst_sources.proofs.scan.deepest_span_on_path_in_tree.Goals as goal

pub returns-in_default-clause-found : goal.returns-in_default-clause-found
returns-in_default-clause-found c whole part h e =
    let way = c.loop-number.invariant.leads whole part h e in
    let s = next_step c.args.input.now c.loop-number.found c.args.path.now c.loop-number.number-index part
    c.loop-number-test.true way in
    absurd (c.in_default.ensures.found s.tree s.step.parts s.step.part s.here s.step.node s.step.is)

pub loop-number-preserved : goal.loop-number-preserved
loop-number-preserved c = record {
  within = λ h. c.in-Some.ensures.within;
  leads = λ whole last h e.
      let way = c.loop-number.invariant.leads whole last h e in
      let s = next_step c.args.input.now c.loop-number.found c.args.path.now c.loop-number.number-index
      last c.loop-number-test.true way in
      record {
        tree = s.step.part;
        here = c.in-Some.ensures.found s.tree s.step.parts s.step.part s.here s.step.node s.step.is;
        leads = s.step.leads;
      };
}

pub returns-clause-found : goal.returns-clause-found
returns-clause-found c whole part h e =
    last_step c.args.input.now c.loop-number.found c.args.path.now c.loop-number.number-index part
    c.loop-number-test.false
    (c.loop-number.invariant.leads whole part h e)
