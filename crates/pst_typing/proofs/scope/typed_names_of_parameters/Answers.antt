use Rattle.std.proofs.Common.{◌∙◌}
use Rattle.pst_typing.proofs.Seeing.{seen_more}
use Rattle.pst_typing.proofs.scope.typed_names_of_parameters.Goals as goal

pub loop-param-preserved : goal.loop-param-preserved
loop-param-preserved c =
    seen_more c.loop-param.seen c.push.new.self _ c.args.params.now c.loop-param.param-index c.param-item.result c.loop-param-test.true c.param-item.is c.loop-param.invariant c.in_ok-push.ensures.ok
    (c.in_ok-name.ensures ∙ c.as_bytes.ensures) c.in_ok-kind.ensures
