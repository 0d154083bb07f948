use Rattle.std.proofs.Common.{◌≡◌, ◌<◌, ◌≤◌, List, [], ◌∷◌, ◌++◌, length, refl, sym, ap, ◌∙◌, subst, arith}
use Rattle.sat_form.specs.Satisfaction.{Literal}
use Rattle.sat_form.specs.declared.logs.Entry.{Entry}
use Rattle.sat_form.specs.declared.logs.Entry.TheVariants.{Added}
use Rattle.sat_form.specs.Budget.{IsSpent}
use Rattle.sat_form.specs.Databases.{deleted_numbers, AreEntriesWithin}
use Rattle.sat_form.specs.Refutation.{IsRefutation}
use Rattle.std.proofs.lemmas.List.{length-append}
use Rattle.sat_form.specs.Propagation.{Follows}
use Rattle.cdcl_core.specs.declared.analysis.Lesson.TheVariants.{Learned, Refuted}
use Rattle.cdcl_core.specs.Learning.{IsLesson}
use Rattle.cdcl_core.specs.Answers.{unit_count, EndsAllowed}
use Rattle.cdcl_core.proofs.Starting.{undecided}
use Rattle.cdcl_core.proofs.Logging.{deleted_numbers-added, IsSpent-from, IsRefutation-from}
use Rattle.cdcl_core.proofs.Settling.{AreSettled-quiet}
use Rattle.cdcl_core.proofs.search.Search.resolve.Goals as goal

pub returns-then-is_spent : goal.returns-then-is_spent
returns-then-is_spent g c = λ form ready. (
  subst (λ (x : List Entry). IsSpent form.clauses x c.args.budget × AreEntriesWithin form.variables x) (sym c.replace.ensures.value)
      (IsSpent-from form c.args.budget c.args.self.now.clauses c.args.self.now.log ready.logged (c.if-is_spent.ensures.spent refl).1 c.requires.budget
      (undecided c.args.self.now.clauses c.args.self.now.trail c.args.self.now.decisions.items c.args.self.now c.requires.kept.held c.requires.kept.places (c.if-is_spent.ensures.spent refl).0)),
  subst (λ (x : List Entry). deleted_numbers x ≡ []) (sym c.replace.ensures.value) ready.logged.live,
)

pub lesson-requires-clause-settled : goal.lesson-requires-clause-settled
lesson-requires-clause-settled g c =
    AreSettled-quiet c.args.self.now.clauses c.args.self.now.watches.pairs.items c.args.self.now.trail.steps c.requires.kept.held.listed.count c.requires.kept.held.quiet

pub returns-in_ok-add-in-Refuted : goal.returns-in_ok-add-in-Refuted
returns-in_ok-add-in-Refuted g c = λ form ready.
    let refuted : IsLesson c.args.self.now.trail.variables c.args.self.now.clauses c.args.self.now.trail.steps (Refuted c.in-Refuted.hints) =
    subst (IsLesson c.args.self.now.trail.variables c.args.self.now.clauses c.args.self.now.trail.steps) c.in-Refuted.is c.in_ok-lesson.ensures.lesson in
    let follows : Follows c.args.self.now.clauses [] = refuted.1 in
    let log : c.replace-in-Refuted.result ≡ c.args.self.now.log ++ Added [] c.in-Refuted.hints ∷ [] =
    c.replace-in-Refuted.ensures.value ∙ c.in_ok-add-in-Refuted.ensures.ok ∙ ap (λ (x : List Literal). c.args.self.now.log ++ Added x c.in-Refuted.hints ∷ []) c.new-in-Refuted.ensures in (
      subst (λ (x : List Entry). IsRefutation form.clauses x × (unit_count x ≤ c.args.budget) × AreEntriesWithin form.variables x × EndsAllowed form.clauses x) (sym log)
          (IsRefutation-from form c.args.budget c.args.self.now.clauses c.args.self.now.log c.in-Refuted.hints ready.logged follows),
      subst (λ (x : List Entry). deleted_numbers x ≡ []) (sym log) (deleted_numbers-added c.args.self.now.log [] c.in-Refuted.hints ∙ ready.logged.live),
    )

pub returns-in_ok-learn-in-Learned : goal.returns-in_ok-learn-in-Learned
returns-in_ok-learn-in-Learned g c = λ form ready.
    let learned : IsLesson c.args.self.now.trail.variables c.args.self.now.clauses c.args.self.now.trail.steps (Learned c.in-Learned.clause c.in-Learned.literal c.in-Learned.hints) =
    subst (IsLesson c.args.self.now.trail.variables c.args.self.now.clauses c.args.self.now.trail.steps) c.in-Learned.is c.in_ok-lesson.ensures.lesson in
    let some : 0 < length c.args.self.now.decisions.items =
    omega (arith, ap length (c.requires.kept.places ∙ learned.last.1), length-append learned.last.0 (learned.newest ∷ [])) in (
      c.in_ok-learn-in-Learned.ensures.ready form c.args.budget (c.if-is_spent.ensures.room refl some)
          (record {
            kept = record { held = ready.kept.held; clear = c.in_ok-lesson.ensures.clear; places = ready.kept.places };
            variables = ready.variables;
            logged = ready.logged;
          }),
      c.in_ok-learn-in-Learned.ensures.watching,
      c.in_ok-learn-in-Learned.ensures.falls c.args.budget (c.if-is_spent.ensures.room refl some),
    )
