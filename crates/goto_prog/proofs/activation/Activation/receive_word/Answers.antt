use Rattle.std.proofs.Common.{◌≡◌, ◌+◌, ◌*◌, sym, ap, subst, ◌∙◌}
use Rattle.c_values.specs.Variables.{low_bytes, put_bytes, drawn_count}
use Rattle.actions.specs.Behaviour.{Behaviour, after}
use Rattle.goto_prog.specs.Meaning.{Given, with_blocks, first_count}
use Rattle.goto_prog.specs.Threads.{Calls}
use Rattle.goto_prog.specs.ProgramViews.{bounded_by}
use Rattle.goto_prog.specs.Walking.{Activation, does_on}
use Rattle.goto_prog.proofs.Exchanges.{word_taken}
use Rattle.goto_prog.proofs.WalkAnswers.{takes_word}
use Rattle.goto_prog.proofs.activation.Activation.receive_word.Goals as goal

pub returns : goal.returns
returns c =
    let b = bounded_by c.args.program.now in
    let a = c.args.self.now in
    let m = a.working.memory in
    let k = c.args.into.0 in
    let q = c.args.into.1 in
    let size = first_count m k q in
    let new : c.fill_word.new.self ≡ record a { working = record a.working { memory = word_taken m k size c.args.words c.args.answer.now } } =
    c.fill_word.ensures.is
    ∙ ap (λ bits. record a { working = record a.working { memory = with_blocks m (put_bytes m.blocks k (8 * c.args.words) (low_bytes (drawn_count size (8 * c.args.words)) bits)) } }) c.word_of.ensures in
    let same = sym (ap (λ (x : Activation). first_count x.working.memory k q) new) ∙ c.fill_word.ensures.same in
    subst (λ (x : Activation). (calls : Calls) → (hands : Given → Behaviour) → does_on b calls hands (c.args.words + 1) x ≡ after (does_on b calls hands c.args.words a) c.args.answer.now) (sym new)
    (takes_word b a c.args.i c.requires.found c.args.answer.now c.args.words c.requires.allowed k q c.requires.is c.requires.more same)
