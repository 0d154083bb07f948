use Rattle.std.proofs.Common.{◌≡◌, ◌<◌, ◌∙◌, ◌*◌, length, map, get_or, sym, arith}
use Rattle.std.proofs.lemmas.List.{length-map, get_or-map}
use Rattle.words.specs.Operators.{low_bits}
use Rattle.c_values.specs.Variables.{word_count}
use Rattle.word_dag.specs.Meaning.{value, valuation_of}
use Rattle.trace_build.proofs.Walks.{cutting_more, cutting_done}
use Rattle.trace_build.proofs.values.Values.drawn.Goals as goal

pub loop-i-preserved : goal.loop-i-preserved
loop-i-preserved c =
    let g = value (valuation_of c.args.self.valuation.now) c.args.self.dag.now in
    let ids = c.args.ids.now in
    let size = c.args.size in
    let i = c.loop-i.i in
    let count = c.word_count.ensures in
    let least = c.min-count.ensures in
    let lt = c.loop-i-test.true in
    let first : i < word_count size = omega (arith, lt, least, count) in
    let there : i < length ids = omega (arith, lt, least) in
    let long : length (map g ids) ≡ length ids = length-map ids g in
    let node : c.bits.result ≡ get_or (map g ids) i 0 = c.bits.ensures ∙ sym (get_or-map g ids i _ 0 there) in
    cutting_more (word_count size) size i c.lowest.result (map g ids) c.loop-i.words.items c.push.new.self.items first (omega (arith, there, long)) (c.lowest.ensures ∙ (λ j. low_bits (8 * c.drawn_count-bits.ensures.is j) (node j))) c.in_ok-push.ensures.items c.loop-i.invariant

pub returns : goal.returns
returns c =
    let g = value (valuation_of c.args.self.valuation.now) c.args.self.dag.now in
    let ids = c.args.ids.now in
    let size = c.args.size in
    let count = c.word_count.ensures in
    let least = c.min-count.ensures in
    let over = c.loop-i-test.false in
    let long : length (map g ids) ≡ length ids = length-map ids g in
    cutting_done (word_count size) size c.loop-i.i (map g ids) c.loop-i.words.items (omega (arith, over, least, count, long)) c.loop-i.invariant
