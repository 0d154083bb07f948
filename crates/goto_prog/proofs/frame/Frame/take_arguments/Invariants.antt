use Rattle.std.proofs.Common.{◌≡◌, take}
use Rattle.goto_prog.specs.Meaning.{with_blocks, arguments_of}
use Rattle.goto_prog.specs.Structured.{with_arguments}
use Rattle.goto_prog.proofs.frame.Frame.take_arguments.Given as goal

abbrev pub invariant-loop-k : goal.invariant-loop-k
invariant-loop-k l =
    l.self ≡ record l.fn.self { memory = with_blocks l.fn.self.memory (with_arguments l.fn.self.sizes (take l.k (arguments_of l.from.memory.blocks l.first l.count))) }
