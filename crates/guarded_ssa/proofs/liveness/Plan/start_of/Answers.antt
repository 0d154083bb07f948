use Rattle.std.proofs.Common.{◌∙◌, arith, length}
use Rattle.guarded_ssa.proofs.Blocks.{place_is, starts_there}
use Rattle.guarded_ssa.proofs.liveness.Plan.start_of.Goals as goal

pub index-requires : goal.index-requires
index-requires c =
    let h = starts_there c.args.self.now.starts.items c.args.self.now.code.now.blocks (length c.args.self.now.code.now.registers) c.args.b c.requires.plan.starts c.requires.there in omega (arith, h, c.args.self.now.starts.ok)

pub returns : goal.returns
returns c = c.index.ensures ∙ place_is c.args.self.now.starts.items c.args.self.now.code.now.blocks (length c.args.self.now.code.now.registers) c.args.b _ c.requires.plan.starts c.requires.there
