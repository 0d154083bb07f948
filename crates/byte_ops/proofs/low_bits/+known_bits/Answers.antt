use Rattle.std.proofs.Common.{arith}
use Rattle.word_dag.specs.declared.nodes.Node.TheVariants.{Binary, Choice, ZeroExtend, Cut, Join}
use Rattle.byte_ops.proofs.Lows.{fitting, constant_known, cut_known, join_known, extend_known, choice_known, binary_known}
use Rattle.byte_ops.proofs.low_bits.+known_bits.Goals as goal

pub known_bits-known-requires : goal.known_bits-known-requires
known_bits-known-requires t c = let fits = fitting c.args.dag.now c.args.id c.node.result c.nodes.ensures.ordered c.requires c.node.ensures (Cut c.in-Cut.a c.in-Cut.low c.in-Cut.width) c.in-Cut.is in (omega (arith, c.decreases, c.if-levels-eq0.false), fits.0)

pub known_bits-requires : goal.known_bits-requires
known_bits-requires t c = let fits = fitting c.args.dag.now c.args.id c.node.result c.nodes.ensures.ordered c.requires c.node.ensures (Join c.in-Join.field-0 c.in-Join.low) c.in-Join.is in (omega (arith, c.decreases, c.if-levels-eq0.false), fits.1)

pub known_bits-requires-in-ZeroExtend : goal.known_bits-requires-in-ZeroExtend
known_bits-requires-in-ZeroExtend t c = let fits = fitting c.args.dag.now c.args.id c.node.result c.nodes.ensures.ordered c.requires c.node.ensures (ZeroExtend c.in-ZeroExtend.a c.in-ZeroExtend.field-1) c.in-ZeroExtend.is in (omega (arith, c.decreases, c.if-levels-eq0.false), fits.0)

pub known_bits-first-requires : goal.known_bits-first-requires
known_bits-first-requires t c = let fits = fitting c.args.dag.now c.args.id c.node.result c.nodes.ensures.ordered c.requires c.node.ensures (Choice c.in-Choice.field-0 c.in-Choice.a c.in-Choice.b) c.in-Choice.is in (omega (arith, c.decreases, c.if-levels-eq0.false), fits.2)

pub known_bits-second-requires : goal.known_bits-second-requires
known_bits-second-requires t c = let fits = fitting c.args.dag.now c.args.id c.node.result c.nodes.ensures.ordered c.requires c.node.ensures (Choice c.in-Choice.field-0 c.in-Choice.a c.in-Choice.b) c.in-Choice.is in (omega (arith, c.decreases, c.if-levels-eq0.false), fits.3)

pub known_bits-first-requires-in-Binary : goal.known_bits-first-requires-in-Binary
known_bits-first-requires-in-Binary t c = let fits = fitting c.args.dag.now c.args.id c.node.result c.nodes.ensures.ordered c.requires c.node.ensures (Binary c.in-Binary.operator c.in-Binary.a c.in-Binary.b) c.in-Binary.is in (omega (arith, c.decreases, c.if-levels-eq0.false), fits.0)

pub known_bits-second-requires-in-Binary : goal.known_bits-second-requires-in-Binary
known_bits-second-requires-in-Binary t c = let fits = fitting c.args.dag.now c.args.id c.node.result c.nodes.ensures.ordered c.requires c.node.ensures (Binary c.in-Binary.operator c.in-Binary.a c.in-Binary.b) c.in-Binary.is in (omega (arith, c.decreases, c.if-levels-eq0.false), fits.1)

pub returns-in-Constant : goal.returns-in-Constant
returns-in-Constant t c = constant_known c.args.dag.now c.args.id c.node.result c.nodes.ensures.ordered c.requires c.node.ensures c.in-Constant.bits c.in-Constant.width c.lowest.result c.in-Constant.is c.lowest.ensures.within c.lowest.ensures.few c.lowest.ensures.low

pub returns-else-low-gt0 : goal.returns-else-low-gt0
returns-else-low-gt0 t c =
    cut_known c.args.dag.now c.args.id c.node.result c.nodes.ensures.ordered c.requires c.node.ensures c.in-Cut.a c.in-Cut.low c.in-Cut.width c.known_bits-known.result c.shortened.result c.in-Cut.is (omega (arith, c.if-low-gt0.false)) c.known_bits-known.ensures (omega (arith, c.shortened.ensures.count, c.min.ensures)) (omega (arith, c.shortened.ensures.count, c.min.ensures))
    c.shortened.ensures.low

pub returns-in-Join : goal.returns-in-Join
returns-in-Join t c = join_known c.args.dag.now c.args.id c.node.result c.nodes.ensures.ordered c.requires c.node.ensures c.in-Join.field-0 c.in-Join.low c.known_bits.result c.in-Join.is c.known_bits.ensures

pub returns-in-ZeroExtend : goal.returns-in-ZeroExtend
returns-in-ZeroExtend t c = extend_known c.args.dag.now c.args.id c.node.result c.nodes.ensures.ordered c.requires c.node.ensures c.in-ZeroExtend.a c.in-ZeroExtend.field-1 c.known_bits-in-ZeroExtend.result c.in-ZeroExtend.is c.known_bits-in-ZeroExtend.ensures

pub returns-in-Choice : goal.returns-in-Choice
returns-in-Choice t c =
    choice_known c.args.dag.now c.args.id c.node.result c.nodes.ensures.ordered c.requires c.node.ensures c.in-Choice.field-0 c.in-Choice.a c.in-Choice.b c.known_bits-first.result c.known_bits-second.result c.agreed.result c.in-Choice.is c.known_bits-first.ensures c.known_bits-second.ensures c.agreed.ensures.fewer c.agreed.ensures.low
    c.agreed.ensures.low_second

pub returns-in-Binary : goal.returns-in-Binary
returns-in-Binary t c =
    binary_known c.args.dag.now c.args.id c.node.result c.nodes.ensures.ordered c.requires c.node.ensures c.in-Binary.operator c.in-Binary.a c.in-Binary.b c.known_bits-first-in-Binary.result c.known_bits-second-in-Binary.result c.combined.result c.in-Binary.is c.known_bits-first-in-Binary.ensures c.known_bits-second-in-Binary.ensures c.combined.ensures.few
    c.combined.ensures.within c.combined.ensures.low
