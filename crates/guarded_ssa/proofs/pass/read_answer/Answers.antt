use Rattle.std.proofs.Common.{sym, ap, subst, map, ◌∙◌}
use Rattle.word_dag.specs.Meaning.{value}
use Rattle.word_dag.proofs.Grown.{map_stays}
use Rattle.event_forms.specs.Forms.{AreWords}
use Rattle.event_forms.proofs.Stays.{words_stay}
use Rattle.guarded_ssa.proofs.pass.read_answer.Goals as goal

pub returns-clause-words : goal.returns-clause-words
returns-clause-words c = subst (AreWords c.bytes_of_words.new.dag c.args.count) (sym c.new.ensures) (words_stay _ _ c.bytes_of_words.ensures.extends c.args.count _ c.in_ok-answer.ensures.words)

pub returns-clause-values : goal.returns-clause-values
returns-clause-values c = λ v. ap (map (value v c.bytes_of_words.new.dag)) c.new.ensures ∙ map_stays v _ _ _ c.bytes_of_words.ensures.extends c.in_ok-answer.ensures.words.there ∙ c.in_ok-answer.ensures.values v
