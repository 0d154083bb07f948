use Rattle.std.proofs.Common.{◌≡◌, ◌<◌, ◌≤◌, List, [], ℕ, length, take, sym, ap, ◌∙◌, arith}
use Rattle.std.specs.Prelude.{min, slice_index_or}
use Rattle.c_values.specs.Variables.{Variables}
use Rattle.goto_prog.specs.Meaning.{with_blocks, arguments_of, filled}
use Rattle.goto_prog.specs.Frames.{Working}
use Rattle.goto_prog.specs.Structured.{with_arguments}
use Rattle.goto_prog.proofs.Entering.{none_given, argument_more, arguments_done, few_arguments}
use Rattle.goto_prog.proofs.frame.Frame.take_arguments.Goals as goal

pub loop-k-init : goal.loop-k-init
loop-k-init c =
    let s = c.args.self.now in
    let zero : s.memory.blocks ≡ with_arguments s.sizes [] = c.requires.zero ∙ sym (none_given s.sizes) in
    ap (λ (bs : Variables). record s { memory = with_blocks s.memory bs }) zero

pub loop-k-preserved : goal.loop-k-preserved
loop-k-preserved c =
    let s = c.args.self.now in
    let given = arguments_of c.args.from.now.memory.blocks c.args.first c.args.count in
    let k = c.loop-k.k in
    let there : k < length s.sizes = omega (arith, c.loop-k-test.true, c.min-k-end.ensures, ap (λ (t : Working). length t.sizes) c.self.view_is) in
    c.fill.ensures
    ∙ ap (λ (t : Working). record t { memory = with_blocks t.memory (filled t.memory.blocks k c.argument.result.now) }) c.loop-k.invariant
    ∙ ap (λ (x : List ℕ). record s { memory = with_blocks s.memory (filled (with_arguments s.sizes (take k given)) k x) }) c.argument.ensures.is
    ∙ ap (λ (bs : Variables). record s { memory = with_blocks s.memory bs }) (argument_more s.sizes given k there c.argument.ensures.given)

pub returns : goal.returns
returns c =
    let s = c.args.self.now in
    let given = arguments_of c.args.from.now.memory.blocks c.args.first c.args.count in
    let k = c.loop-k.k in
    let past : min (length s.sizes) (length given) ≤ k =
    omega (arith, c.loop-k-test.false, c.min-k-end.ensures, ap (λ (t : Working). length t.sizes) c.self.view_is, few_arguments c.args.from.now.memory.blocks c.args.first c.args.count) in
    c.loop-k.invariant ∙ ap (λ (bs : Variables). record s { memory = with_blocks s.memory bs }) (arguments_done s.sizes given k past)
