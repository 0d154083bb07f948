use Rattle.byte_ops.proofs.Lows.{agreeing_none}
use Rattle.byte_ops.proofs.low_bits.agreed.Goals as goal

pub longer-init : goal.longer-init
longer-init c = agreeing_none c.args.a c.args.b c.shortened-found.result c.shortened-found.ensures.count c.shortened-found.ensures.bits c.shortened-found.ensures.low
