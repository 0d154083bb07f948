use Rattle.std.proofs.Common.{◌≡◌, rules}
use Rattle.interleave.specs.declared.turn.Turn.{Turn}
use Rattle.interleave.specs.declared.turn.Turn.TheVariants as turned
use Rattle.interleave.specs.View.{world_of}
use Rattle.interleave.specs.Turn.{turn}
use Rattle.c_interp.specs.View.{thread_of}
use Rattle.c_interp.proofs.SourceRuns.{has_numbers, next_goes_on}
use Rattle.c_interp.proofs.replay.take_turn.Goals as goal

pub turn-requires : goal.turn-requires
turn-requires c = has_numbers (world_of thread_of c.args.system.now) c.args.t c.requires.alone c.requires.few

pub returns-in-Moved-clause-alone : goal.returns-in-Moved-clause-alone
returns-in-Moved-clause-alone c =
    let w = world_of thread_of c.args.system.now in
    let next = world_of thread_of c.turn.new.self in
    let r : Turn = turned.Moved in
    let e : (r, next) ≡ turn w c.args.t c.args.inputs.now = search rules in
    (next_goes_on w next c.args.t c.args.inputs.now r c.requires.alone e).0

pub returns-in-Moved-clause-made : goal.returns-in-Moved-clause-made
returns-in-Moved-clause-made c =
    let w = world_of thread_of c.args.system.now in
    let next = world_of thread_of c.turn.new.self in
    let r : Turn = turned.Moved in
    let e : (r, next) ≡ turn w c.args.t c.args.inputs.now = search rules in
    (next_goes_on w next c.args.t c.args.inputs.now r c.requires.alone e).1

pub returns-in-Broken-clause-alone : goal.returns-in-Broken-clause-alone
returns-in-Broken-clause-alone c =
    let w = world_of thread_of c.args.system.now in
    let next = world_of thread_of c.turn.new.self in
    let r : Turn = turned.Broken c.in-Broken.check in
    let e : (r, next) ≡ turn w c.args.t c.args.inputs.now = search rules in
    (next_goes_on w next c.args.t c.args.inputs.now r c.requires.alone e).0

pub returns-in-Broken-clause-made : goal.returns-in-Broken-clause-made
returns-in-Broken-clause-made c =
    let w = world_of thread_of c.args.system.now in
    let next = world_of thread_of c.turn.new.self in
    let r : Turn = turned.Broken c.in-Broken.check in
    let e : (r, next) ≡ turn w c.args.t c.args.inputs.now = search rules in
    (next_goes_on w next c.args.t c.args.inputs.now r c.requires.alone e).1

pub returns-in-Nothing-clause-alone : goal.returns-in-Nothing-clause-alone
returns-in-Nothing-clause-alone c =
    let w = world_of thread_of c.args.system.now in
    let next = world_of thread_of c.turn.new.self in
    let r : Turn = turned.Nothing in
    let e : (r, next) ≡ turn w c.args.t c.args.inputs.now = search rules in
    (next_goes_on w next c.args.t c.args.inputs.now r c.requires.alone e).0

pub returns-in-Nothing-clause-made : goal.returns-in-Nothing-clause-made
returns-in-Nothing-clause-made c =
    let w = world_of thread_of c.args.system.now in
    let next = world_of thread_of c.turn.new.self in
    let r : Turn = turned.Nothing in
    let e : (r, next) ≡ turn w c.args.t c.args.inputs.now = search rules in
    (next_goes_on w next c.args.t c.args.inputs.now r c.requires.alone e).1
