use Rattle.std.proofs.Common.{◌≡◌, true, false, sym, List, [], ◌∷◌, ◌++◌, ◌∙◌, ap, subst}
use Rattle.goto_prog.specs.Meaning.{does}
use Rattle.goto_prog.specs.Threads.{behaving}
use Rattle.goto_prog.specs.CodeThread.{Listing, first_memory}
use Rattle.goto_prog.specs.Static.{is_static_code}
use Rattle.goto_prog.proofs.Blocks.{first_sizes}
use Rattle.event_forms.specs.Forms.{Form, AreForms}
use Rattle.guarded_ssa.proofs.Visiting.{one_form, one_static}
use Rattle.guarded_ssa.proofs.forming.threads.Goals as goal

pub returns-clause-forms : goal.returns-clause-forms
returns-clause-forms c =
    let same = c.in_ok-push.ensures.items ∙ ap (λ (forms : List Form). forms ++ c.new.result ∷ []) c.new-forms.ensures.items ∙ ap (λ (f : Form). f ∷ []) (c.new.ensures ∙ (λ i. record { events = c.in_ok-events.events.items; store = (c.in_ok-clone.ensures.cases ∙ c.store.ensures) i })) in
    subst (λ (k : Listing). AreForms (does behaving false 0 k.instructions (first_memory k)) c.args.unrolled.now.store c.events_of.new.dag c.push.new.self.items) c.main-code.ensures
    (one_form _ _ _ _ c.main-code.result.now (first_memory c.main-code.result.now) c.instructions.ensures.fits (first_sizes c.main-code.result.now.blocks) same c.in_ok-events.ensures.within c.in_ok-events.ensures.told)

pub returns-clause-plain : goal.returns-clause-plain
returns-clause-plain c = λ static.
    let same = c.in_ok-push.ensures.items ∙ ap (λ (forms : List Form). forms ++ c.new.result ∷ []) c.new-forms.ensures.items ∙ ap (λ (f : Form). f ∷ []) (c.new.ensures ∙ (λ i. record { events = c.in_ok-events.events.items; store = (c.in_ok-clone.ensures.cases ∙ c.store.ensures) i })) in
    one_static _ _ _ _ same (c.in_ok-events.ensures.plain (subst (λ (k : Listing). is_static_code k.instructions ≡ true) (sym c.main-code.ensures) static))
