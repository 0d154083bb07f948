use Rattle.std.proofs.Common.{refl}
use Rattle.object_memory.proofs.Broken.{first_same, first_pushed, failings_push}
use Rattle.object_memory.proofs.breaking.note.Goals as goal

pub returns-then-is_never-clause-first : goal.returns-then-is_never-clause-first
returns-then-is_never-clause-first c = λ v. first_same v c.args.dag.now c.args.breaks.now.items c.args.breaks.now.items c.args.test c.args.class refl (c.if-is_never.ensures refl v)

pub returns-clause-within : goal.returns-clause-within
returns-clause-within c = failings_push c.args.dag.now c.args.breaks.now.items c.push.new.self.items c.args.test c.args.class c.requires.breaks c.requires.test c.in_ok-push.ensures.items

pub returns-clause-first : goal.returns-clause-first
returns-clause-first c = λ v. first_pushed v c.args.dag.now c.args.breaks.now.items c.push.new.self.items c.args.test c.args.class c.in_ok-push.ensures.items
