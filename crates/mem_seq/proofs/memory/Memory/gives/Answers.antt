use Rattle.std.proofs.Common.{ap, length, ◌∙◌}
use Rattle.actions.specs.Objects.{bytes_at}
use Rattle.mem_seq.proofs.Held.{words_in_stay, given_made}
use Rattle.mem_seq.proofs.memory.Memory.gives.Goals as goal

pub are_words_of-requires-clause-words : goal.are_words_of-requires-clause-words
are_words_of-requires-clause-words c =
    words_in_stay c.args.dag.now c.found.new.dag c.args.count _ c.args.words.now c.found.ensures.extends c.requires.words (ap length c.deref.ensures.value ∙ c.in_ok-held.ensures.size ∙ c.count_of-size.ensures.same)

pub returns-clause-given : goal.returns-clause-given
returns-clause-given c = λ v objects stands guard_is.
    given_made v c.args.dag.now c.found.new.dag c.are_words_of.new.dag c.args.count c.args.words.now c.in_ok-held.held.items c.deref.result.now c.in_ok-same.same (bytes_at objects c.args.p c.args.count) c.found.ensures.extends c.requires.words c.deref.ensures.value
    (c.in_ok-held.ensures.size ∙ c.count_of-size.ensures.same) (c.in_ok-held.ensures.values v objects stands guard_is ∙ ap (bytes_at objects c.args.p) c.count_of-size.ensures.same) c.in_ok-same.ensures.made
