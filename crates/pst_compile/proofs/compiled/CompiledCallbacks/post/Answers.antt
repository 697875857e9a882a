use Rattle.std.proofs.Common.{◌≡◌, ◌+◌, ◌*◌, ◌∷◌, arith}
use Rattle.pst_eval.proofs.Calls.{post_gives}
use Rattle.pst_eval.specs.Callbacks.{post_of}
use Rattle.pst_compile.specs.Compiled.{DoesOnly}
use Rattle.pst_compile.proofs.Answering.{says_of, well_of, compiled_of, post_only}
use Rattle.pst_compile.proofs.compiled.CompiledCallbacks.post.Goals as goal

pub run_callback_with_max_turns-requires : goal.run_callback_with_max_turns-requires
run_callback_with_max_turns-requires c =
    let m = c.args.self.now in
    let t = c.self.inside.typed in
    let code = c.self.inside.code in
    let base = c.self.inside.base in
    let place = c.in_ok-place.place in
    let view = c.self.view_is in
    let same = c.source-model.ensures.same in
    let e : t ≡ m = cc in
    let well = well_of m t c.source-model.result.now same e c.source-model.ensures.well in
    let compiled = compiled_of m t code base e c.self.invariant in
    let here : place ≡ base + 3 * c.args.op + 4 = omega (arith, c.in_ok-place.ensures) in
    let o = post_of m c.args.op c.args.state.now c.args.arguments.now c.args.r.now in
    let d : DoesOnly code place (c.args.state.now ∷ c.args.r.now ∷ c.args.arguments.now) o = post_only m code base place c.args.op c.args.state.now c.args.arguments.now c.args.r.now well compiled c.requires here in
    (o, d)

pub returns-clause-says : goal.returns-clause-says
returns-clause-says c =
    let m = c.args.self.now in
    let t = c.self.inside.typed in
    let code = c.self.inside.code in
    let base = c.self.inside.base in
    let place = c.in_ok-place.place in
    let view = c.self.view_is in
    let same = c.source-model.ensures.same in
    let e : t ≡ m = cc in
    let well = well_of m t c.source-model.result.now same e c.source-model.ensures.well in
    let compiled = compiled_of m t code base e c.self.invariant in
    let here : place ≡ base + 3 * c.args.op + 4 = omega (arith, c.in_ok-place.ensures) in
    let o = post_of m c.args.op c.args.state.now c.args.arguments.now c.args.r.now in
    let d : DoesOnly code place (c.args.state.now ∷ c.args.r.now ∷ c.args.arguments.now) o = post_only m code base place c.args.op c.args.state.now c.args.arguments.now c.args.r.now well compiled c.requires here in
    says_of code place (c.args.state.now ∷ c.args.r.now ∷ c.args.arguments.now) o c.run_callback_with_max_turns.result d c.run_callback_with_max_turns.ensures

pub returns-clause-fits : goal.returns-clause-fits
returns-clause-fits c =
    let m = c.args.self.now in
    let t = c.self.inside.typed in
    let code = c.self.inside.code in
    let base = c.self.inside.base in
    let place = c.in_ok-place.place in
    let view = c.self.view_is in
    let same = c.source-model.ensures.same in
    let e : t ≡ m = cc in
    let well = well_of m t c.source-model.result.now same e c.source-model.ensures.well in
    let compiled = compiled_of m t code base e c.self.invariant in
    let here : place ≡ base + 3 * c.args.op + 4 = omega (arith, c.in_ok-place.ensures) in
    let o = post_of m c.args.op c.args.state.now c.args.arguments.now c.args.r.now in
    let d : DoesOnly code place (c.args.state.now ∷ c.args.r.now ∷ c.args.arguments.now) o = post_only m code base place c.args.op c.args.state.now c.args.arguments.now c.args.r.now well compiled c.requires here in
    let says = says_of code place (c.args.state.now ∷ c.args.r.now ∷ c.args.arguments.now) o c.run_callback_with_max_turns.result d c.run_callback_with_max_turns.ensures in
    post_gives m c.args.op c.args.state.now c.args.arguments.now c.args.r.now c.run_callback_with_max_turns.result well c.requires says
