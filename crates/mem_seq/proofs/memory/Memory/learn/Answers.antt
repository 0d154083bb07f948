use Rattle.std.proofs.Common.{ap, sym, ◌∙◌}
use Rattle.word_dag.specs.Meaning.{holds}
use Rattle.actions.specs.Objects.{bytes_at}
use Rattle.rewritten_nodes.proofs.Standing.{agrees_stays}
use Rattle.mem_seq.proofs.Learning.{read_words, read_learned}
use Rattle.mem_seq.proofs.memory.Memory.learn.Goals as goal

pub learn_words-requires-clause-words : goal.learn_words-requires-clause-words
learn_words-requires-clause-words c =
    read_words c.args.dag.now c.found.new.dag c.args.event.now.kind c.in-Read.pointer c.in-Read.count c.in-Read.answer c.as_slice.result.now c.in_ok-held-in-Read.held.items c.deref.result.now c.found.ensures.extends c.requires.event.kind c.in-Read.is c.as_slice.ensures c.deref.ensures.value
    (c.in_ok-held-in-Read.ensures.size ∙ c.count_of-size.ensures.same)

pub returns-in_ok-learn_words-in-Read-clause-agrees : goal.returns-in_ok-learn_words-in-Read-clause-agrees
returns-in_ok-learn_words-in-Read-clause-agrees c = λ v objects stands told agrees.
    c.in_ok-learn_words-in-Read.ensures.agrees v
    (λ guard_is. read_learned v c.args.dag.now c.found.new.dag c.args.event.now c.in-Read.pointer c.in-Read.count c.fixed-p.result c.in-Read.answer c.as_slice.result.now c.in_ok-held-in-Read.held.items c.deref.result.now objects c.found.ensures.extends c.requires.event c.in-Read.is
    (c.fixed-p.ensures v) c.as_slice.ensures c.deref.ensures.value (c.in_ok-held-in-Read.ensures.size ∙ c.count_of-size.ensures.same) (c.in_ok-held-in-Read.ensures.values v objects stands (ap (λ n. holds n) (sym (c.found.ensures.extends.value_stays v c.args.event.now.guard c.requires.event.guard.there)) ∙ guard_is) ∙ ap (bytes_at objects c.fixed-p.result) c.count_of-size.ensures.same) told guard_is)
    (agrees_stays v c.args.dag.now c.found.new.dag c.args.known.now c.found.ensures.extends c.requires.known agrees)
