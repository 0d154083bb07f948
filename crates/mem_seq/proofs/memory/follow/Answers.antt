use Rattle.std.proofs.Common.{List, ap, subst, sym, ◌∙◌}
use Rattle.word_dag.proofs.Grown.{extends_more}
use Rattle.rewritten_nodes.proofs.Standing.{agrees_stays}
use Rattle.event_forms.specs.Arrivals.{Seen}
use Rattle.event_forms.specs.Accesses.{behind}
use Rattle.mem_seq.specs.Goals.{gives}
use Rattle.mem_seq.specs.Memories.{StandsFor, written_in}
use Rattle.mem_seq.proofs.Written.{stands_stay}
use Rattle.event_forms.proofs.Stays.{event_stays}
use Rattle.mem_seq.proofs.Building.{event_in_stays, static_kind_stays}
use Rattle.mem_seq.proofs.memory.follow.Goals as goal

pub note-requires-clause-event : goal.note-requires-clause-event
note-requires-clause-event c = event_in_stays c.replaced.new.dag c.learn.new.dag c.in_ok-other.other c.learn.ensures.extends c.in_ok-other.ensures.event

pub note-requires-clause-plain : goal.note-requires-clause-plain
note-requires-clause-plain c = static_kind_stays c.replaced.new.dag c.learn.new.dag c.in_ok-other.other.kind c.learn.ensures.extends c.in_ok-other.ensures.plain

pub returns-clause-plain : goal.returns-clause-plain
returns-clause-plain c = static_kind_stays c.replaced.new.dag c.note.new.dag c.in_ok-other.other.kind (extends_more c.replaced.new.dag c.learn.new.dag c.note.new.dag c.learn.ensures.extends c.note.ensures.extends) c.in_ok-other.ensures.plain

pub returns-clause-event : goal.returns-clause-event
returns-clause-event c = event_in_stays c.replaced.new.dag c.note.new.dag c.in_ok-other.other (extends_more c.replaced.new.dag c.learn.new.dag c.note.new.dag c.learn.ensures.extends c.note.ensures.extends) c.in_ok-other.ensures.event

pub returns-clause-note : goal.returns-clause-note
returns-clause-note c = λ stores stands.
    c.in_ok-note.ensures.note stores
    (λ v. stands_stay v c.args.dag.now c.learn.new.dag (written_in c.args.memory.now) c.args.memory.now.store.now (stores v) (extends_more c.args.dag.now c.replaced.new.dag c.learn.new.dag c.replaced.ensures.extends c.learn.ensures.extends) c.requires.memory (stands v))

pub returns-clause-behind : goal.returns-clause-behind
returns-clause-behind c = λ v objects stands.
    subst (λ (told : List Seen). StandsFor v c.note.new.dag c.note.new.self (behind objects told))
    (sym (event_stays c.learn.new.dag c.note.new.dag c.note.ensures.extends v c.in_ok-other.other (event_in_stays c.replaced.new.dag c.learn.new.dag c.in_ok-other.other c.learn.ensures.extends c.in_ok-other.ensures.event)))
    (c.in_ok-note.ensures.behind v objects
    (stands_stay v c.args.dag.now c.learn.new.dag (written_in c.args.memory.now) c.args.memory.now.store.now objects (extends_more c.args.dag.now c.replaced.new.dag c.learn.new.dag c.replaced.ensures.extends c.learn.ensures.extends) c.requires.memory stands))

pub returns-clause-same : goal.returns-clause-same
returns-clause-same c = λ v agrees.
    event_stays c.replaced.new.dag c.note.new.dag (extends_more c.replaced.new.dag c.learn.new.dag c.note.new.dag c.learn.ensures.extends c.note.ensures.extends) v c.in_ok-other.other c.in_ok-other.ensures.event ∙ c.in_ok-other.ensures.same v agrees

pub returns-clause-agrees : goal.returns-clause-agrees
returns-clause-agrees c = λ v objects stands told agrees.
    agrees_stays v c.learn.new.dag c.note.new.dag c.learn.new.known c.note.ensures.extends c.in_ok-learn.ensures.known
    (c.in_ok-learn.ensures.agrees v objects (stands_stay v c.args.dag.now c.replaced.new.dag (written_in c.args.memory.now) c.args.memory.now.store.now objects c.replaced.ensures.extends c.requires.memory stands) (ap (gives objects) (c.in_ok-other.ensures.same v agrees) ∙ told)
    (c.in_ok-other.ensures.agrees v agrees))
